-- Members laid one after the other: each record tells where its name and descriptor stand in the text, and the text's parts there are they.
-- By induction along the members, with what stands before and after them. Assumes nothing.
use mathlib.Core.Path.{◌≡◌, refl, sym, ◌∙◌}
use mathlib.Core.Bool.{Bool, true}
use mathlib.Core.List.{List, [], ◌∷◌, ◌++◌, append_assoc}
use Prim.Native.Nat.{ℕ, zero, suc, ◌+◌, ◌≤◌, ◌<◌}
use native.Mathlib.Omega.{arith}
use lib.ListN.{length, get_or, length-append}
use lib.Seq.{take_all}
use lib.Dec.{leb}
use borrow.Author.Tests.{leb-true, le-leb}
use Rattle.words.proofs.Bools.{and_both, and_4}
use Rattle.words.proofs.Bytes.{all-bytes, append-bytes}
use Rattle.words.specs.Words.{AreBytes}
use Rattle.text.specs.Text.{name_at, printable, part_ok}
use Rattle.text.proofs.Laws.{printable-each}
use Rattle.linking.specs.Compiler.{New, no_new}
use Rattle.linking.specs.Set.{new_text}
use Rattle.linking.specs.Grown.{member_row, new_members}
use Rattle.linking.proofs.Appended.{name-here}
use Rattle.class_members.specs.Members.{string_ok, every}

-- ---- a part between others

-- the record of a member tells where it stands
pub record Stands (text row : List ℕ) (x : New) : Type 0 where
  pub start : ℕ
  pub row_is : row ≡ member_row start x
  pub name_is : name_at text start (length x.name) ≡ x.name
  pub descriptor_is : name_at text (start + length x.name) (length x.descriptor) ≡ x.descriptor
  pub within : start + length x.name + length x.descriptor ≤ length text

-- the text of a member and of those after it
cons-text : (pre : List ℕ) (x : New) (xs : List New) (post : List ℕ)
    → pre ++ (new_text (x ∷ xs) ++ post) ≡ pre ++ (x.name ++ (x.descriptor ++ (new_text xs ++ post)))
unfolding new_text
cons-text pre x xs post = simp append_assoc

-- the first one
first-stands : (pre : List ℕ) (x : New) (rest : List ℕ) {at : ℕ} → length pre ≡ at
    → Stands (pre ++ (x.name ++ (x.descriptor ++ rest))) (member_row at x) x
first-stands pre x rest {at} e =
    let l : length (pre ++ x.name) ≡ at + length x.name = length-append pre x.name ∙ omega arith in
    let a : pre ++ (x.name ++ (x.descriptor ++ rest)) ≡ (pre ++ x.name) ++ (x.descriptor ++ rest) =
    sym (append_assoc pre x.name (x.descriptor ++ rest)) in
    record {
      start = at;
      row_is = refl;
      name_is = name-here pre x.name (x.descriptor ++ rest) at (length x.name) e refl;
      descriptor_is = rw a (name-here (pre ++ x.name) x.descriptor rest (at + length x.name) (length x.descriptor) l refl);
      within = simp length-append (omega arith);
    }

pub stands : (xs : List New) (pre post : List ℕ) {at : ℕ} → length pre ≡ at → (m : ℕ) → m < length xs
    → Stands (pre ++ (new_text xs ++ post)) (get_or (new_members at xs) m []) (get_or xs m no_new)
unfolding new_members
stands [] pre post e m h = absurd (omega arith)
stands (x ∷ xs) pre post e zero h = rw (cons-text pre x xs post) (first-stands pre x (new_text xs ++ post) e)
stands (x ∷ xs) pre post {at} e (suc m) h =
    let l : length (pre ++ (x.name ++ x.descriptor)) ≡ at + length x.name + length x.descriptor = simp length-append (omega arith) in
    let a : pre ++ (x.name ++ (x.descriptor ++ (new_text xs ++ post))) ≡ (pre ++ (x.name ++ x.descriptor)) ++ (new_text xs ++ post) =
    simp append_assoc in
    rw (cons-text pre x xs post, a) (stands xs (pre ++ (x.name ++ x.descriptor)) post l m (omega arith))

-- ---- strings in order

whole : (s : List ℕ) → name_at s 0 (length s) ≡ s
unfolding name_at
whole s = take_all (length s) s (omega arith)

-- a string in order is a part in order wherever it stands
pub part-ok : (text : List ℕ) (start : ℕ) {len : ℕ} (s : List ℕ) → len ≡ length s → name_at text start len ≡ s → start + len ≤ length text
    → string_ok s ≡ true → part_ok text start len ≡ true
unfolding string_ok part_ok
part-ok text start {len} s e p h t =
    let q = and_4 (leb 1 (length s)) (leb (length s) 255) (leb (0 + length s) (length s)) (printable (name_at s 0 (length s))) t in
    let w : name_at s 0 (length s) ≡ s = whole s in
    let l = leb-true 1 (length s) q.0 in
    let m = leb-true (length s) 255 q.1 in
    simp (le-leb 1 len (omega arith), le-leb len 255 (omega arith), le-leb (start + len) (length text) h, p, rw w at q.3)

-- each of its bytes is below 256
pub ok-bytes : (s : List ℕ) → string_ok s ≡ true → AreBytes s
unfolding string_ok part_ok
ok-bytes s t =
    all-bytes s (λ i h.
    let q = and_4 (leb 1 (length s)) (leb (length s) 255) (leb (0 + length s) (length s)) (printable (name_at s 0 (length s))) t in
    let r = printable-each s 0 (length s) (omega arith) q.3 i h in
    let e : 0 + i ≡ i = omega arith in
    let b : get_or s i 0 ≤ 126 = rw e at r.1 in
    omega arith)

-- ---- a test that every member passes

pub every-at : (p : New → Bool) (xs : List New) → every p xs ≡ true → (m : ℕ) → m < length xs → p (get_or xs m no_new) ≡ true
unfolding every
every-at p [] t m h = absurd (omega arith)
every-at p (x ∷ xs) t zero h = (and_both (p x) (every p xs) t).0
every-at p (x ∷ xs) t (suc m) h = every-at p xs (and_both (p x) (every p xs) t).1 m (omega arith)

-- ---- bytes

pub members-bytes : (xs : List New)
    → ((m : ℕ) → m < length xs → (string_ok (get_or xs m no_new).name ≡ true) × (string_ok (get_or xs m no_new).descriptor ≡ true))
    → AreBytes (new_text xs)
unfolding new_text
members-bytes [] h = λ i. omega arith
members-bytes (x ∷ xs) h =
    let p = h 0 (omega arith) in
    append-bytes x.name (x.descriptor ++ new_text xs) (ok-bytes x.name p.0)
    (append-bytes x.descriptor (new_text xs) (ok-bytes x.descriptor p.1) (members-bytes xs (λ m l. h (suc m) (omega arith))))
