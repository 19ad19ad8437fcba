-- Laws of the reader's strings, and of members that are left. Assumes nothing.
use mathlib.Core.Path.{◌≡◌, refl, sym, ap, ◌∙◌}
use mathlib.Core.Bool.{Bool, true, false, cond, ◌&&◌, and_assoc}
use mathlib.Core.List.{List, [], ◌∷◌, ◌++◌}
use Prim.Native.Nat.{ℕ, zero, suc, ◌+◌, ◌-◌, ◌*◌, ◌/◌, ◌≤◌, ◌<◌}
use native.Mathlib.Omega.{arith}
use lib.ListN.{length, get_or, take, drop, length-append, length-drop}
use lib.Dec.{leb}
use borrow.Author.Tests.{le-leb, lt-leb, leb-true, leb-false}
use lib.Seq.{take_all, drop-drop}
use Rattle.std.proofs.Math.Bool.{and-true, and-false}
use Rattle.std.specs.Prelude.{Result, Ok, Err}
use Rattle.text.specs.Text.{part_ok, part_clean}
use Rattle.words.proofs.Bools.{by}
use Rattle.refusal.specs.declared.Refusal.{Refusal}
use Rattle.refusal.specs.declared.Refusal.TheVariants.{Record}
use Rattle.linking.specs.Compiler.{New}
use Rattle.linking.specs.Set.{new_text}
use Rattle.class_form.specs.Parts.{member_at}
use Rattle.class_form.specs.Form.{u2}
use Rattle.class_members.proofs.SheetForm.{length_at}
use Rattle.class_members.specs.Members.{places_from, member_places, new_of, members_at, string_ok, every}
use Rattle.class_file.specs.declared.Tally.{Tally}
use Rattle.class_file.specs.Walk.{row_four, row_five, tally}

-- ---- strings

-- what follows the first 3 of the bytes from p on
pub after_three : (bs : List ℕ) (p n : ℕ) → take n (drop 3 (take (length bs) (drop p bs))) ≡ take n (drop (p + 3) bs)
after_three bs p n = rw (take_all (length bs) (drop p bs) (rw length-drop (omega arith)), drop-drop 3 p bs)

pub string_long : (s : List ℕ) → 255 < length s → string_ok s ≡ false
unfolding string_ok part_ok part_clean
string_long s h = simp (lt-leb (length s) 255 h, and-false)

-- ---- members that are left, i of n taken

module _ (bs ls : List ℕ) (n i p : ℕ) where
  unfoldable pub left : List New
  left = members_at bs ls i (places_from bs (n - i) p)

  pub left_end : n ≤ i → left ≡ []
  unfolding left members_at places_from
  left_end h = let e : n - i ≡ 0 = omega arith in rw e

pub left_turn : (bs ls : List ℕ) (n i p : ℕ) → i < n
    → left bs ls n i p ≡ new_of bs (member_at bs p) (get_or ls i 0) ∷ left bs ls n (i + 1) (member_at bs p).next
unfolding left members_at places_from
left_turn bs ls n i p h = let e : n - i ≡ suc (n - (i + 1)) = omega arith in rw e

pub left_all : (bs ls : List ℕ) (n p : ℕ) → members_at bs ls 0 (places_from bs n p) ≡ left bs ls n 0 p
unfolding left
left_all bs ls n p = let e : n - 0 ≡ n = omega arith in rw e

-- ---- the rows along a list: what the tally of n members is where so much was seen before these

unfoldable pub tally_from : Bool → ℕ → Bool → ℕ → List New → Result Tally Refusal
tally_from method n typed text xs =
    cond (every (row_four method) xs)
    (Ok (record { members = n; typed = typed && every (row_five method) xs; text = text + length (new_text xs) }))
    (Err Record)

module _ (method : Bool) (n : ℕ) (typed : Bool) (text : ℕ) where
  pub tally_turn : (x : New) (xs : List New) → tally_from method n typed text (x ∷ xs)
      ≡ cond (row_four method x) (tally_from method n (typed && row_five method x) (text + (length x.name + length x.descriptor)) xs) (Err Record)
  unfolding tally_from every new_text
  tally_turn x xs =
      let e : text + length (x.name ++ (x.descriptor ++ new_text xs)) ≡ text + (length x.name + length x.descriptor) + length (new_text xs) =
      simp length-append (omega arith) in
      by (row_four method x) (λ t. rw (t, e, ← (and_assoc typed (row_five method x) (every (row_five method) xs)))) (λ t. rw t)

  pub tally_end : tally_from method n typed text [] ≡ Ok (record { members = n; typed = typed; text = text })
  unfolding tally_from every new_text
  tally_end = let e : text + 0 ≡ text = omega arith in rw (e, and-true typed)

length_places : (bs : List ℕ) (n p : ℕ) → length (places_from bs n p) ≡ n
unfolding places_from
length_places bs zero p = refl
length_places bs (suc n) p = ap suc (length_places bs n _)

pub length_members : (bs ls : List ℕ) (p : ℕ) → length (members_at bs ls 0 (member_places bs p)) ≡ u2 bs p
length_members bs ls p = length_at bs ls 0 (member_places bs p) ∙ length_places bs (u2 bs p) (p + 2)

pub tally_all : (method : Bool) (bs : List ℕ) (p : ℕ)
    → tally method (members_at bs [] 0 (member_places bs p)) ≡ tally_from method (u2 bs p) true 0 (left bs [] (u2 bs p) 0 (p + 2))
unfolding tally tally_from
tally_all method bs p =
    let e : (xs : List New) → 0 + length (new_text xs) ≡ length (new_text xs) = λ xs. omega arith in
    rw (length_members bs [] p, e, ← (left_all bs [] (u2 bs p) (p + 2)))

-- ---- row 14 by the lists: so many words hold so many bytes

pub words_hold : (bytes room : ℕ) → leb ((bytes + 3) / 4) room ≡ leb bytes (4 * room)
words_hold bytes room =
    by (leb bytes (4 * room))
    (λ t. let h : bytes ≤ 4 * room = leb-true _ _ t in le-leb ((bytes + 3) / 4) room (omega arith) ∙ sym t)
    (λ t. let h : 4 * room < bytes = leb-false _ _ t in lt-leb ((bytes + 3) / 4) room (omega arith) ∙ sym t)

pub ruleset tally_steps = (tally_all, left_turn, left_end, tally_turn, tally_end)
