-- What the judgement of a form says: its row is that of `form_refusal`, and where it is accepted the parts stand at the places. Assumes nothing.
use mathlib.Core.Path.{◌≡◌, refl, sym, ap, ◌∙◌, subst}
use mathlib.Core.Bool.{Bool, true, false, cond}
use mathlib.Core.List.{List}
use Prim.Native.Nat.{ℕ, ◌+◌, ◌≤◌, ◌<◌}
use native.Mathlib.Omega.{arith}
use lib.ListN.{length, get_or}
use lib.Dec.{eqb, leb}
use borrow.Author.Tests.{eqb-true}
use Rattle.std.specs.Prelude.{Result, Ok, Err}
use Rattle.words.proofs.Bools.{by}
use Rattle.refusal.specs.declared.Refusal.{Refusal}
use Rattle.refusal.specs.declared.Refusal.TheVariants.{WrongEnd}
use Rattle.refusal.specs.Rows.{row_of}
use Rattle.class_form.specs.declared.Places.{Places}
use Rattle.class_form.specs.Form.{Step, ◌>>=◌, u2, taken, utf8_at, after_name, after_pool, after_counted, after_attributes, after_member, after_members, after_head, after_body, after_file, version_ok, end_refusal, form_refusal}
use Rattle.class_form.specs.Parts.{Judged, class_of, file_of, form_of, member_at}
use Rattle.class_form.specs.Marks.{pool_marks, Near}
use Rattle.class_form.proofs.MarkLaws.{pool_near, count_small}
use Rattle.class_form.proofs.Laws.{ok_same, not_ok, step_to, taken_to}

-- ---- a form's refusal is the row that `form_refusal` gives

module _ (bs : List ℕ) where
  then_row : (s : Step) (f : ℕ → Judged) (g : ℕ → Step) → ((q : ℕ) → row_of (f q) ≡ end_refusal bs (g q)) → row_of (s >>= f) ≡ end_refusal bs (s >>= g)
  then_row (Ok q) f g h = h q
  then_row (Err r) f g h = refl

  end_row : (s : Step) (p : Places) → row_of {A = Places} (s >>= (λ end. cond (eqb end (length bs)) (Ok p) (Err WrongEnd))) ≡ end_refusal bs s
  end_row (Ok q) p = by (eqb q (length bs)) (λ t. rw t) (λ t. rw t)
  end_row (Err r) p = refl

  file_row : row_of (file_of bs) ≡ end_refusal bs (after_file bs)
  unfolding file_of class_of after_file after_body
  file_row =
      then_row (after_pool bs) _ _
      (λ h. then_row (after_head bs h) _ _
      (λ f. then_row (after_members bs f) _ _ (λ m. then_row (after_members bs m) _ _ (λ a. end_row (after_attributes bs a) _))))

  pub form_row : row_of (form_of bs) ≡ form_refusal bs
  unfolding form_of form_refusal
  form_row =
      by (leb 8 (length bs)) (λ t. by (version_ok bs) (λ v. rw (t, v) file_row) (λ v. rw (t, v))) (λ t. rw t)

-- ---- an accepted form's places

pub record Placed (bs : List ℕ) (p : Places) : Type 0 where
  pub pool : after_pool bs ≡ Ok p.head
  pub classes : after_head bs p.head ≡ Ok p.fields
  pub first : after_members bs p.fields ≡ Ok p.methods
  pub attributes : ℕ
  pub second : after_members bs p.methods ≡ Ok attributes
  pub last : after_attributes bs attributes ≡ Ok (length bs)

test_to : {A : Type 0} (b : Bool) (s : Result A Refusal) (r : Refusal) {x : A} → cond b s (Err r) ≡ Ok x → (b ≡ true) × (s ≡ Ok x)
test_to true s r e = (refl, e)
test_to false s r e = not_ok e

pub form_parts : (bs : List ℕ) {p : Places} → form_of bs ≡ Ok p → Placed bs p
unfolding form_of file_of class_of
form_parts bs e =
    let b = test_to (version_ok bs) _ _ (test_to (leb 8 (length bs)) _ _ e).1 in
    let p = step_to (after_pool bs) _ b.1 in
    let c = step_to (after_head bs p.0) _ p.2 in
    let x = step_to (after_members bs c.0) _ c.2 in
    let a = step_to (after_members bs x.0) _ x.2 in
    let z = step_to (after_attributes bs a.0) _ a.2 in
    let t = test_to (eqb z.0 (length bs)) _ _ z.2 in
    subst (Placed bs) (ok_same t.1)
    (record { pool = p.1; classes = c.1; first = x.1; attributes = a.0; second = a.1; last = z.1 ∙ ap Ok (eqb-true z.0 (length bs) t.0) })

-- and the marks of its pool are near
pub form_near : (bs : List ℕ) {p : Places} → ((j : ℕ) → get_or bs j 0 < 256) → form_of bs ≡ Ok p → Near bs (pool_marks bs)
form_near bs small e = pool_near bs (count_small bs small) (form_parts bs e).pool

-- ---- a member of an accepted form: its name and its descriptor are found, and the walk over members goes on where it ends

pub record Found (bs : List ℕ) (p q : ℕ) : Type 0 where
  pub name : ℕ
  pub name_is : utf8_at bs (u2 bs (p + 2)) ≡ Ok name
  pub descriptor : ℕ
  pub descriptor_is : utf8_at bs (u2 bs (p + 4)) ≡ Ok descriptor
  pub attributes_are : after_attributes bs (p + 6) ≡ Ok q

name_found : (bs : List ℕ) (p : ℕ) {r : ℕ} → after_name bs p ≡ Ok r → (n : ℕ) × (utf8_at bs (u2 bs p) ≡ Ok n) × (r ≡ p + 2)
unfolding after_name
name_found bs p {r} e =
    let a = step_to (taken bs p 2) _ e in
    let b = step_to (utf8_at bs (u2 bs p)) _ a.2 in
    (b.0, b.1, sym (ok_same b.2) ∙ (taken_to bs p 2 a.1).0)

pub member_found : (bs : List ℕ) (p q : ℕ) → after_member bs p ≡ Ok q → Found bs p q
unfolding after_member
member_found bs p q e =
    let flags = step_to (taken bs p 2) _ e in
    let name = step_to (after_name bs flags.0) _ flags.2 in
    let descriptor = step_to (after_name bs name.0) _ name.2 in
    let x = taken_to bs p 2 flags.1 in
    let n = name_found bs flags.0 name.1 in
    let d = name_found bs name.0 descriptor.1 in
    let u : name.0 ≡ p + 4 = omega (arith, x.0, n.2) in
    let v : descriptor.0 ≡ p + 6 = omega (arith, d.2) in
    record {
      name = n.0;
      name_is = rw (← x.0) n.1;
      descriptor = d.0;
      descriptor_is = rw (← u) d.1;
      attributes_are = rw (← v) descriptor.2;
    }

pub member_next : (bs : List ℕ) (p q : ℕ) → after_member bs p ≡ Ok q → (member_at bs p).next ≡ q
unfolding member_at
member_next bs p q e = let f = member_found bs p q e in rw f.attributes_are

-- ---- a member list has its count

pub members_there : (bs : List ℕ) (p q : ℕ) → after_members bs p ≡ Ok q → p + 2 ≤ length bs
unfolding after_members after_counted
members_there bs p q e = let a = step_to (taken bs p 2) _ e in (taken_to bs p 2 a.1).1
