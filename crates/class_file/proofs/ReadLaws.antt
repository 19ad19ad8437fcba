-- Laws of the entries: the parts of a file in form, the lists as they are written, and what a reading leaves. Assumes nothing.
use mathlib.Core.Path.{◌≡◌, refl, sym, ap, ◌∙◌, subst}
use mathlib.Core.Bool.{Bool, true, false}
use mathlib.Core.List.{List, [], ◌++◌, append_assoc}
use Prim.Native.Nat.{ℕ, ◌+◌, ◌*◌}
use native.Mathlib.Omega.{arith}
use lib.ListN.{length, take, length-append}
use lib.Dec.{eqb, leb}
use borrow.Author.Tests.{leb-true, ne_eqb}
use Rattle.std.specs.Prelude.{Ok, Err}
use Rattle.words.proofs.Bools.{and_3, and_4}
use Rattle.refusal.specs.declared.Refusal.{Refusal}
use Rattle.refusal.specs.Rows.{row}
use Rattle.class_sheet.specs.ClassSheet.{member_width, field_limit, method_limit, text_limit}
use Rattle.linking.specs.Set.{write_at, new_records, new_text, packed, overlaid}
use Rattle.linking.proofs.Writes.{write-more, write-part, write-overlaid}
use Rattle.class_form.specs.declared.Places.{Places}
use Rattle.class_form.specs.Form.{form_refusal}
use Rattle.class_form.specs.Parts.{form_of}
use Rattle.refusal.proofs.Rows.{row_above}
use Rattle.class_form.proofs.PartLaws.{form_row, form_parts, form_near, members_there}
use Rattle.class_members.specs.declared.FileHead.{FileHead}
use Rattle.class_members.specs.Members.{head_place, fields_place, methods_place, file_name, file_parent, file_fields, file_methods, file_text, sheet_holds, lists_hold, file_refusal, read_refusal, refused_by, file_outcome, fields_start, methods_start, read_class_file, class_file_head}
use Rattle.class_members.proofs.Targets.{refusal-same, methods-length, text_same}
use Rattle.class_members.proofs.SheetForm.{file-passed}
use Rattle.class_file.specs.Walk.{holds, head_walked, Parted, Fits}
use Rattle.class_file.proofs.JudgeLaws.{fields_are, methods_are, fields_counted, methods_counted, words_of, Judges, head_is, judged_outcome}

-- ---- the lists

-- what is written at the front lies over what was there
pub write_front : (l xs : List ℕ) → write_at l 0 xs ≡ overlaid xs l
write_front l xs = write-overlaid l 0 xs (omega arith)

module _ (bs : List ℕ) where
  pub fields_start_is : fields_start bs ≡ length (file_name bs) + length (file_parent bs)
  unfolding fields_start
  fields_start_is = refl

  pub methods_start_is : methods_start bs ≡ fields_start bs + length (new_text (file_fields bs))
  unfolding methods_start
  methods_start_is = refl

  pub text_ends : (targets : List ℕ) → length (file_text bs targets) ≡ methods_start bs + length (new_text (file_methods bs targets))
  unfolding file_text methods_start fields_start
  text_ends targets = simp length-append (omega arith)

  -- the text, written in three parts
  pub text_read : (targets l : List ℕ)
      → take (length (file_text bs targets))
      (write_at (write_at (write_at l 0 (file_name bs ++ file_parent bs)) (fields_start bs) (new_text (file_fields bs))) (methods_start bs)
      (new_text (file_methods bs targets))) ≡ file_text bs targets
  unfolding file_text fields_start methods_start
  text_read targets l =
      let a : List ℕ = file_name bs ++ file_parent bs in
      let b : List ℕ = new_text (file_fields bs) in
      let c : List ℕ = new_text (file_methods bs targets) in
      rw (
        write-more l 0 a b (fields_start bs) (omega arith) (rw length-append (omega arith)),
        write-more l 0 (a ++ b) c (methods_start bs) (omega arith) (simp length-append (omega arith)),
      )
      (ap (λ (x : List ℕ). take (length (file_text bs targets)) (write_at l 0 x)) (simp append_assoc)
      ∙ write-part l (file_text bs targets) (length (file_text bs targets)) refl)

-- ---- a file in form, and one that is not

module _ (bs : List ℕ) where
  pub form_parted : {p : Places} → form_of bs ≡ Ok p → Parted bs p
  unfolding head_place fields_place methods_place
  form_parted {p} e =
      let at = form_parts bs e in
      record {
        form = sym (form_row bs) ∙ rw e;
        head_is = rw at.pool;
        fields_is = rw (at.pool, at.classes);
        methods_is = rw (at.pool, at.classes, at.first);
        fields_count = members_there bs p.fields p.methods at.first;
        methods_count = members_there bs p.methods at.attributes at.second;
      }

  pub form_told : {r : Refusal} → form_of bs ≡ Err r → file_refusal bs [] ≡ row r
  unfolding file_refusal
  form_told {r} e =
      let f : form_refusal bs ≡ row r = sym (form_row bs) ∙ rw e in rw (f, ne_eqb (row r) 0 (λ z. omega (arith, row_above r)))

  pub head_by_form : {r : Refusal} → form_of bs ≡ Err r → refused_by (row r) [] [] [] ≡ class_file_head bs
  head_by_form {r} e = judged_outcome bs (Err r) (form_told e)

  -- ---- the answers of a reading

  module _ (targets fields methods text : List ℕ) where
    by_row : (r : Refusal) → file_refusal bs [] ≡ row r → refused_by (row r) fields methods text ≡ read_class_file bs targets fields methods text
    unfolding read_class_file read_refusal
    by_row r e = let n = ne_eqb (row r) 0 (λ z. omega (arith, row_above r)) in rw (refusal-same bs targets, e, n, n)

    pub read_by_form : {r : Refusal} → form_of bs ≡ Err r → refused_by (row r) fields methods text ≡ read_class_file bs targets fields methods text
    read_by_form {r} e = by_row r (form_told e)

    module _ (at : Places) (parted : Parted bs at) where
      pub read_refused : {r : Refusal} → head_walked bs at ≡ Err r → refused_by (row r) fields methods text ≡ read_class_file bs targets fields methods text
      read_refused {r} e = by_row r (subst (Judges bs) e (head_is bs at parted))

      module _ {h : FileHead} (e : head_walked bs at ≡ Ok h) where
        told : Judges bs (Ok h)
        told = subst (Judges bs) e (head_is bs at parted)

        accepted : file_refusal bs targets ≡ 0
        accepted = refusal-same bs targets ∙ told.0

        abbrev held : Bool
        held = holds h.fields h.methods h.text (length targets) (length fields) (length methods) (length text)

        held_is : lists_hold bs targets fields methods text ≡ held
        unfolding holds lists_hold words_of
        held_is = rw (told.1, methods-length bs targets, text_same bs targets)

        pub read_short : held ≡ false → refused_by 14 fields methods text ≡ read_class_file bs targets fields methods text
        unfolding read_class_file read_refusal
        read_short n = rw (accepted, held_is, n)

        pub read_fits : held ≡ true → Fits bs targets fields methods text
        unfolding lists_hold sheet_holds
        read_fits n =
            let r = and_4 (leb (member_width * length (file_fields bs)) (length fields))
            (leb (member_width * length (file_methods bs targets)) (length methods))
            (leb (length (file_text bs targets)) (4 * length text)) (eqb (length targets) (length (file_methods bs targets))) (held_is ∙ n) in
            let s = and_3 (leb (length (file_fields bs)) field_limit) (leb (length (file_methods bs targets)) method_limit)
            (leb (length (file_text bs targets)) text_limit) (file-passed bs targets accepted).sheet in
            record {
              fields_fit = leb-true _ _ r.0;
              methods_fit = leb-true _ _ r.1;
              text_fits = leb-true _ _ r.2;
              limit = leb-true _ _ s.2;
            }

        pub read_done : held ≡ true → file_outcome (Ok h) (overlaid (new_records (fields_start bs) (file_fields bs)) fields)
            (overlaid (new_records (methods_start bs) (file_methods bs targets)) methods) (overlaid (packed (file_text bs targets)) text)
            ≡ read_class_file bs targets fields methods text
        unfolding read_class_file read_refusal words_of
        read_done n = rw (accepted, held_is, n, told.1, methods-length bs targets, text_same bs targets)

pub ruleset list_steps = (fields_are, methods_are, fields_counted, methods_counted, write_front, methods_start_is, text_ends, text_read)

pub ruleset read_steps = (form_near, form_parted, read_by_form, read_refused, read_short, read_done)
