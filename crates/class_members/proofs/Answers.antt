-- An accepted and a refused reading of a class file never have one outcome, so the contracts determine what a reading answers: a class that is
-- accepted has a name, and a refusal has a number. Assumes nothing.
use mathlib.Core.Path.{◌≡◌, sym, ap, ◌∙◌}
use mathlib.Core.Logic.{◌≢◌}
use mathlib.Core.Bool.{◌||◌}
use mathlib.Core.List.{List, []}
use Prim.Native.Nat.{ℕ, ◌+◌, ◌≤◌}
use native.Mathlib.Omega.{arith}
use lib.ListN.{length}
use lib.Dec.{eqb, leb}
use borrow.Author.Tests.{leb-true, eqb-true, eqb-false}
use Rattle.std.specs.Prelude.{Result, Ok, Err}
use Rattle.refusal.specs.declared.Refusal.{Refusal}
use Rattle.words.proofs.Bools.{by, and_4}
use Rattle.text.specs.Text.{name_at, printable, part_ok}
use Rattle.refusal.proofs.Rows.{row_unique}
use Rattle.class_members.specs.Members.{FileOutcome, file_name, parent_index, file_parent, file_fields, file_methods, string_ok, field_ok, method_ok, every, names_ok, file_refusal, file_outcome, read_class_file, class_file_head}
use Rattle.class_members.specs.declared.FileHead.{FileHead}
use Rattle.class_members.proofs.SheetForm.{file-passed, read-passed}

-- an outcome that tells its answer
abbrev pub Tells : FileOutcome → Type 0
Tells o = o.refusal ≡ 0 → o.name ≢ 0

pub answer_unique : (a b : Result FileHead Refusal) (fs ms ts fs' ms' ts' : List ℕ) {o : FileOutcome} → Tells o → file_outcome a fs ms ts ≡ o
    → file_outcome b fs' ms' ts' ≡ o → a ≡ b
answer_unique (Ok h) (Ok k) fs ms ts fs' ms' ts' t e f =
    ap
    (λ (o : FileOutcome).
    Ok (record {
      name = o.name;
      parent = o.parent;
      flags = o.flags;
      fields = o.field_count;
      methods = o.method_count;
      text = o.text_length;
    }))
    (e ∙ sym f)
answer_unique (Ok h) (Err k) fs ms ts fs' ms' ts' t e f =
    absurd (t (sym (ap (λ (o : FileOutcome). o.refusal) e)) (sym (ap (λ (o : FileOutcome). o.name) f)))
answer_unique (Err j) (Ok k) fs ms ts fs' ms' ts' t e f =
    absurd (t (sym (ap (λ (o : FileOutcome). o.refusal) f)) (sym (ap (λ (o : FileOutcome). o.name) e)))
answer_unique (Err j) (Err k) fs ms ts fs' ms' ts' t e f = ap Err (row_unique j k (ap (λ (o : FileOutcome). o.refusal) (e ∙ sym f)))

-- ---- an accepted class has a name

named : (bs targets : List ℕ) → file_refusal bs targets ≡ 0 → 1 ≤ length (file_name bs)
unfolding names_ok string_ok part_ok
named bs targets e =
    let n =
    and_4 (string_ok (file_name bs)) (eqb (parent_index bs) 0 || string_ok (file_parent bs)) (every field_ok (file_fields bs))
    (every method_ok (file_methods bs targets)) (file-passed bs targets e).names in
    let p =
    and_4 (leb 1 (length (file_name bs))) (leb (length (file_name bs)) 255) (leb (0 + length (file_name bs)) (length (file_name bs)))
    (printable (name_at (file_name bs) 0 (length (file_name bs)))) n.0 in
    leb-true 1 (length (file_name bs)) p.0

pub read_tells : (bs targets fields methods text : List ℕ) → Tells (read_class_file bs targets fields methods text)
read_tells bs targets fields methods text e z =
    let p = read-passed bs targets fields methods text e in
    let s : length (file_name bs) ≡ 0 = sym (ap (λ (o : FileOutcome). o.name) p.1) ∙ z in
    omega (arith, named bs targets p.0, s)

pub head_tells : (bs : List ℕ) → Tells (class_file_head bs)
unfolding class_file_head
head_tells bs =
    by (eqb (file_refusal bs []) 0)
    (λ t. rw t (λ e z. omega (arith, named bs [] (eqb-true _ 0 t), z)))
    (λ t. rw t (λ e z. eqb-false _ 0 t e))
