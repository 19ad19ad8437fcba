-- Laws of the lines of a class file's members: a parent's words, targets, and the lines that are left to put. Assumes nothing.
use Rattle.std.proofs.Common.{◌≡◌, ℕ, ◌+◌, ◌*◌, ◌%◌, ◌^◌, ◌<◌, ◌≤◌, true, false, eqb, ltb, List, [], ◌∷◌, ◌++◌, length, get_or, sym, refl, ◌∙◌, mul-zero, mul-suc, add-one, arith, ltb-false, ltb-true}
use lib.ListN.{get_or-eq_default}
use borrow.Author.Tests.{eqb-true, eqb-false}
use Rattle.words.proofs.Bools.{by}
use Rattle.words.proofs.FoldLaws.{length-table, get_d_table}
use Rattle.descriptor.specs.Bytes.{text}
use Rattle.class_form.specs.Form.{u2}
use Rattle.class_form.specs.Parts.{member_at}
use Rattle.class_members.specs.Members.{utf8_bytes, members_at, member_places, file_fields, file_methods}
use Rattle.class_form.specs.declared.Places.{Places}
use Rattle.class_file.specs.Walk.{Parted}
use Rattle.class_file.proofs.Laws.{left, left_turn, left_end, left_all}
use Rattle.class_file.proofs.JudgeLaws.{fields_are, methods_are, methods_counted}
use Rattle.member_text.specs.MemberText.{extends, member_text, member_texts, target_of, targets}

-- ---- a parent

pub extends_none : (parent : List ℕ) → eqb (length parent) 0 ≡ true → extends parent ≡ []
extends_none [] h = refl
extends_none (b ∷ bs) h = let e = eqb-true (length (b ∷ bs)) 0 h in absurd (omega arith)

pub extends_some : (parent : List ℕ) → eqb (length parent) 0 ≡ false → extends parent ≡ text " extends " ++ parent
extends_some [] h = absurd (eqb-false 0 0 h refl)
extends_some (b ∷ bs) h = refl

-- ---- targets

-- the next one
pub target_next : (first step i last : ℕ) {last' : ℕ} → last ≡ target_of first step i → last' ≡ (last + step) % 2 ^ 32 → last' ≡ target_of first step (i + 1)
unfolding target_of
target_next first step i last e f =
    let m : step * (i + 1) ≡ step + step * i = rw add-one (omega (arith, mul-suc step i)) in
    f ∙ rw (e, m) (omega arith)

-- the first one
pub target_first : (first step : ℕ) → first < 2 ^ 32 → first ≡ target_of first step 0
unfolding target_of
target_first first step h = let m : step * 0 ≡ 0 = mul-zero step in rw m (omega arith)

-- each of a list
target_at_lem : (first step n i : ℕ) → i < n → get_or (targets first step n) i 0 ≡ target_of first step i
unfolding targets
target_at_lem first step n i h = get_d_table n (target_of first step) i h

-- and each is below 2^32, as is what stands past the list's end
pub target_small : (first step n i : ℕ) → get_or (targets first step n) i 0 < 4294967296
unfolding targets target_of
target_small first step n i =
    by (ltb i n) (λ t. rw (get_d_table n (target_of first step) i (ltb-true i n t)) (omega arith))
    (λ t.
    let l = ltb-false i n t in
    rw (get_or-eq_default (targets first step n) 0 {n = i} (omega (arith, length-table n (target_of first step)))) (omega arith))

-- those from 0 on in steps of 0 are all 0, as are those of no list
zero-target : (i : ℕ) → target_of 0 0 i ≡ 0
unfolding target_of
zero-target i = omega arith

no_target : (n i : ℕ) → get_or (targets 0 0 n) i 0 ≡ 0
unfolding targets
no_target n i =
    by (ltb i n) (λ t. target_at_lem 0 0 n i (ltb-true i n t) ∙ zero-target i)
    (λ t. let l = ltb-false i n t in get_or-eq_default (targets 0 0 n) 0 {n = i} (omega (arith, length-table n (target_of 0 0))))

no_targets : (bs : List ℕ) (n k : ℕ) (ps : List ℕ) → members_at bs (targets 0 0 n) k ps ≡ members_at bs [] k ps
unfolding members_at
no_targets bs n k [] = refl
no_targets bs n k (p ∷ ps) = rw (no_target n k, no_targets bs n (k + 1) ps)

-- ---- the lines of the members that are left, i of n put

module _ (bs kind : List ℕ) (first step n : ℕ) where
  unfoldable pub lines_left : ℕ → ℕ → List ℕ
  lines_left i p = member_texts kind (left bs (targets first step n) n i p)

  pub lines_turn : (i p : ℕ) → i < n → lines_left i p
      ≡ member_text kind (utf8_bytes bs (member_at bs p).name) (utf8_bytes bs (member_at bs p).descriptor) (target_of first step i) (member_at bs p).flags
      ++ lines_left (i + 1) (member_at bs p).next
  unfolding lines_left member_texts
  lines_turn i p h = rw (left_turn bs (targets first step n) n i p h, target_at_lem first step n i h)

  pub lines_end : (i p : ℕ) → n ≤ i → lines_left i p ≡ []
  unfolding lines_left member_texts
  lines_end i p h = rw (left_end bs (targets first step n) n i p h)

pub lines_all : (bs kind : List ℕ) (first step p : ℕ)
    → member_texts kind (members_at bs (targets first step (u2 bs p)) 0 (member_places bs p)) ≡ lines_left bs kind first step (u2 bs p) 0 (p + 2)
unfolding lines_left
lines_all bs kind first step p = rw (left_all bs (targets first step (u2 bs p)) (u2 bs p) (p + 2))

-- ---- the file: what is read at the places of its parts

module _ (bs : List ℕ) (at : Places) (parted : Parted bs at) where
  -- the methods with their targets
  pub methods_here : (first step : ℕ) → members_at bs (targets first step (u2 bs at.methods)) 0 (member_places bs at.methods)
      ≡ file_methods bs (targets first step (length (file_methods bs [])))
  methods_here first step = rw (methods_counted bs at parted [], methods_are bs at parted (targets first step (u2 bs at.methods)))

  -- the fields with word index 0
  pub fields_here : members_at bs (targets 0 0 (u2 bs at.fields)) 0 (member_places bs at.fields) ≡ file_fields bs
  fields_here = no_targets bs (u2 bs at.fields) 0 (member_places bs at.fields) ∙ sym (fields_are bs at parted)
