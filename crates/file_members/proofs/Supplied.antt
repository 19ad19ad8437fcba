-- The set's members are those that the file yields, one by one, and these are the class file's own. Assumes nothing.
use mathlib.Core.Path.{◌≡◌, sym, ap, ◌∙◌}
use mathlib.Core.Logic.{◌≢◌}
use mathlib.Core.Bool.{true, ◌||◌}
use mathlib.Core.List.{List, []}
use Prim.Native.Nat.{ℕ, ◌+◌, ◌≤◌, ◌<◌}
use native.Mathlib.Omega.{arith}
use lib.ListN.{length, get_or}
use lib.Seq.{ext_get_or}
use lib.Dec.{eqb, leb}
use borrow.Author.Tests.{eqb-true, eqb-false, ne_eqb, leb-true}
use Rattle.words.specs.Lists.{list_from}
use Rattle.words.proofs.Bools.{by, and_4}
use Rattle.words.proofs.ListLaws.{length-list-from, get_d_list_from}
use Rattle.text.specs.Text.{name_at, printable, part_ok}
use Rattle.linking.specs.Compiler.{New, no_new}
use Rattle.class_form.specs.Parts.{member_at}
use Rattle.class_sheet.specs.ClassSheet.{method_count, field_count}
use Rattle.class_members.specs.Members.{FileOutcome, field_places, method_places, file_name, parent_index, file_parent, new_of, members_at, file_fields, file_methods, string_ok, field_ok, method_ok, every, names_ok, read_class_file}
use Rattle.class_members.specs.SheetForm.{Yields}
use Rattle.class_members.proofs.SheetForm.{file-passed, read-passed, length_at, member-at, sheet-form}
use Rattle.file_form.proofs.Derived.{derived}
use Rattle.file_members.specs.Supplied.{method_at, field_at, methods_of, fields_of, Supplied}
use Rattle.file_members.proofs.Own.{own, parent-index}

-- members told one by one are those at their places
same-members : (bs lasts ps : List ℕ) (n : ℕ) (g : ℕ → New) → n ≡ length ps
    → ((m : ℕ) → m < n → g m ≡ new_of bs (member_at bs (get_or ps m 0)) (get_or lasts m 0)) → list_from g 0 n ≡ members_at bs lasts 0 ps
same-members bs lasts ps n g e h =
    let size = length-list-from g 0 n in
    ext_get_or no_new (list_from g 0 n) (members_at bs lasts 0 ps) (size ∙ e ∙ sym (length_at bs lasts 0 ps))
    (λ i l.
    let z : 0 + i ≡ i = omega arith in
    let inside : i < n = omega arith in
    get_d_list_from g 0 n i no_new inside ∙ ap g z ∙ h i inside
    ∙ sym (ap (λ (k : ℕ). new_of bs (member_at bs (get_or ps i 0)) (get_or lasts k 0)) z)
    ∙ sym (member-at bs lasts 0 ps i (omega arith)))

-- a parent that is there has a name
parent-named : (bs targets : List ℕ) → names_ok bs targets ≡ true → parent_index bs ≢ 0 → 1 ≤ length (file_parent bs)
unfolding names_ok string_ok part_ok
parent-named bs targets e n =
    let s =
    and_4 (string_ok (file_name bs)) (eqb (parent_index bs) 0 || string_ok (file_parent bs)) (every field_ok (file_fields bs))
    (every method_ok (file_methods bs targets)) e in
    let p =
    and_4 (leb 1 (length (file_parent bs))) (leb (length (file_parent bs)) 255) (leb (0 + length (file_parent bs)) (length (file_parent bs)))
    (printable (name_at (file_parent bs) 0 (length (file_parent bs)))) (rw (ne_eqb (parent_index bs) 0 n) at s.1) in
    leb-true 1 (length (file_parent bs)) p.0

-- the set's members are the file's
module _ (bs targets ws : List ℕ) {o : FileOutcome} (y : Yields bs targets o ws) where
  fields_are : fields_of ws ≡ file_fields bs
  unfolding file_fields
  fields_are =
      same-members bs [] (field_places bs) (field_count ws) (field_at ws) y.fields
      (λ f h. let i = y.field f h in rw (i.name_is, i.descriptor_is, i.flags_is, y.index f h))

  methods_are : methods_of ws ≡ file_methods bs targets
  unfolding file_methods
  methods_are =
      same-members bs targets (method_places bs) (method_count ws) (method_at ws) y.methods
      (λ m h. let i = y.method m h in rw (i.name_is, i.descriptor_is, i.flags_is, y.target m h))

pub supplied : Supplied
supplied bs targets fields methods text rest bytes e =
    let r = read-passed bs targets fields methods text e in
    let passed = file-passed bs targets r.0 in
    let y = sheet-form bs targets fields methods text rest bytes e in
    let d = derived.sound bs bytes passed.form in
    let w = own bs targets d in
    let size : (read_class_file bs targets fields methods text).parent ≡ length (file_parent bs) = ap (λ (o : FileOutcome). o.parent) r.1 in
    record {
      derivation = d;
      only = λ g s. derived.unique g d.file (s ∙ sym d.spells);
      says =
          record {
            accepted = y.accepted;
            name = rw y.name w.name;
            parent = λ n. rw y.parent (w.parent n);
            no_parent = (
              λ z.
                  by (eqb (parent_index bs) 0)
                  (λ t. sym (parent-index bs d) ∙ eqb-true (parent_index bs) 0 t)
                  (λ t. absurd (omega (arith, size, z, parent-named bs targets passed.names (eqb-false (parent_index bs) 0 t)))),
              λ z. size ∙ ap length (w.no_parent z),
            );
            flags = y.flags ∙ w.flags;
            fields = rw (fields_are bs targets _ y) w.fields;
            methods = rw (methods_are bs targets _ y) w.methods;
            indices = y.index;
            targets_are = y.target;
          };
    }
