-- The text of any bytes, and how long it can be. A file that no row refuses has at most 512 methods, 512 fields and 8,192 bytes of names and
-- descriptors; beside these a member's line has 34 bytes at most, the class's 16 and its flags' 14. Assumes nothing.
use Rattle.std.proofs.Common.{◌≡◌, ℕ, ◌+◌, ◌*◌, ◌^◌, ◌<◌, ◌≤◌, leb, List, [], ◌∷◌, length, get_or, refl, ap, arith, length-append, ne_eqb, leb-true}
use Rattle.words.proofs.Bools.{and_3}
use Rattle.descriptor.specs.Bytes.{text}
use Rattle.class_sheet.specs.ClassSheet.{field_limit, method_limit, text_limit}
use Rattle.linking.specs.Compiler.{New}
use Rattle.linking.specs.Set.{new_text}
use Rattle.lines.specs.Lines.{numbered}
use Rattle.lines.proofs.Lengths.{decimal-few}
use Rattle.refusal.specs.declared.Refusal.{Refusal}
use Rattle.refusal.specs.Rows.{row}
use Rattle.class_form.specs.Form.{u2}
use Rattle.std.specs.Prelude.{Result, Ok, Err}
use Rattle.class_form.specs.Parts.{Judged, member_at, form_of}
use Rattle.class_members.specs.declared.FileHead.{FileHead}
use Rattle.class_file.specs.Walk.{head_walked}
use Rattle.class_file.proofs.JudgeLaws.{Judges, head_is}
use Rattle.refusal.proofs.Rows.{row_above}
use Rattle.class_members.specs.Members.{new_of, members_at, field_places, method_places, file_name, file_parent, file_flags, file_fields, file_methods, file_text, sheet_holds, file_refusal}
use Rattle.class_members.proofs.SheetForm.{file-passed, length_at}
use Rattle.class_members.proofs.Targets.{methods-text}
use Rattle.class_file.proofs.ReadLaws.{form_parted, form_told, fields_start_is, methods_start_is, text_ends}
use Rattle.member_text.proofs.TextLaws.{target_small}
use Rattle.member_text.specs.MemberText.{extends, class_text, flags_text, member_text, member_texts, refused_text, targets, class_lines, members_text}

-- ---- lines

-- two bytes are below 65,536
u2-small : (bs : List ℕ) → ((j : ℕ) → get_or bs j 0 < 256) → (p : ℕ) → u2 bs p < 65536
unfolding u2
u2-small bs h p = omega (arith, h p, h (p + 1))

extends-few : (parent : List ℕ) → length (extends parent) ≤ 9 + length parent
extends-few [] = omega arith
extends-few (b ∷ bs) = rw length-append (omega arith)

class-few : (name parent : List ℕ) → length (class_text name parent) ≤ 16 + (length name + length parent)
unfolding class_text
class-few name parent = let e = extends-few parent in simp length-append (omega arith)

flags-few : (flags : ℕ) → flags < 65536 → length (flags_text flags) ≤ 14
unfolding flags_text numbered
flags-few flags h = let d = decimal-few 4 flags (omega arith) in simp length-append (omega arith)

refused-few : (row : ℕ) → row < 2 ^ 32 → length (refused_text row) ≤ 19
unfolding refused_text numbered
refused-few row h = let d = decimal-few 9 row (omega arith) in simp length-append (omega arith)

member-few : (kind name descriptor : List ℕ) (last flags : ℕ) → length kind ≤ 9 → last < 4294967296 → flags < 65536
    → length (member_text kind name descriptor last flags) ≤ 34 + (length name + length descriptor)
unfolding member_text numbered
member-few kind name descriptor last flags k l f =
    let d = decimal-few 9 last (omega arith) in
    let e = decimal-few 4 flags (omega arith) in
    simp length-append (omega arith)

-- ---- a file that no row refuses

module _ (bs : List ℕ) (bytes : (j : ℕ) → get_or bs j 0 < 256) where
  member-flags : (p : ℕ) → (member_at bs p).flags < 65536
  unfolding member_at
  member-flags p = u2-small bs bytes p

  members-few : (kind ls : List ℕ) (k : ℕ) (ps : List ℕ) → length kind ≤ 9 → ((j : ℕ) → get_or ls j 0 < 4294967296)
      → length (member_texts kind (members_at bs ls k ps)) ≤ 34 * length ps + length (new_text (members_at bs ls k ps))
  unfolding member_texts members_at new_text
  members-few kind ls k [] h l = omega arith
  members-few kind ls k (p ∷ ps) h l =
      let x : New = new_of bs (member_at bs p) (get_or ls k 0) in
      let m = member-few kind x.name x.descriptor x.last x.flags h (l k) (member-flags p) in
      let g = members-few kind ls (k + 1) ps h l in
      simp length-append (omega arith)

  module _ (first step : ℕ) (accepted : file_refusal bs [] ≡ 0) where
    abbrev methods : List New
    methods = file_methods bs (targets first step (length (file_methods bs [])))

    methods-few : length (member_texts (text "  method ") methods) ≤ 34 * length (file_methods bs []) + length (new_text (file_methods bs []))
    unfolding file_methods
    methods-few =
        let ls : List ℕ = targets first step (length (file_methods bs [])) in
        let m = members-few (text "  method ") ls 0 (method_places bs) (omega arith) (target_small first step _) in
        omega (arith, m, length_at bs [] 0 (method_places bs), ap length (methods-text bs ls))

    fields-few : length (member_texts (text "  field ") (file_fields bs)) ≤ 34 * length (file_fields bs) + length (new_text (file_fields bs))
    unfolding file_fields
    fields-few =
        let m = members-few (text "  field ") [] 0 (field_places bs) (omega arith) (λ j. omega arith) in
        omega (arith, m, length_at bs [] 0 (field_places bs))

    -- what row 14 has shown
    within : (length (file_fields bs) ≤ field_limit) × (length (file_methods bs []) ≤ method_limit) × (length (file_text bs []) ≤ text_limit)
    unfolding sheet_holds
    within =
        let s = and_3 (leb (length (file_fields bs)) field_limit) (leb (length (file_methods bs [])) method_limit) (leb (length (file_text bs [])) text_limit)
        (file-passed bs [] accepted).sheet in
        (leb-true _ _ s.0, leb-true _ _ s.1, leb-true _ _ s.2)

    lines_few : length (class_lines bs first step) ≤ 43038
    unfolding class_lines file_flags
    lines_few =
        let c = class-few (file_name bs) (file_parent bs) in
        let f = flags-few (file_flags bs) (u2-small bs bytes _) in
        let w = within in
        simp length-append (omega (arith, methods-few, fields-few, text_ends bs [], methods_start_is bs, fields_start_is bs))

-- ---- the text of any bytes

row_below : (r : Refusal) → row r < 2 ^ 32
row_below r = grind arith

by_rows : {X : Type 0} (bs : List ℕ) → (file_refusal bs [] ≡ 0 → X) → ((r : Refusal) → file_refusal bs [] ≡ row r → X) → X
by_rows bs f g =
    by_form bs f g (form_of bs) refl
  where
    by_head : {X : Type 0} (bs : List ℕ) → (file_refusal bs [] ≡ 0 → X) → ((r : Refusal) → file_refusal bs [] ≡ row r → X) → (h : Result FileHead Refusal)
        → Judges bs h → X
    by_head bs f g (Ok h) e = f e.0
    by_head bs f g (Err r) e = g r e

    by_form : {X : Type 0} (bs : List ℕ) → (file_refusal bs [] ≡ 0 → X) → ((r : Refusal) → file_refusal bs [] ≡ row r → X) → (j : Judged) → form_of bs ≡ j → X
    by_form bs f g (Ok p) e = by_head bs f g (head_walked bs p) (head_is bs p (form_parted bs e))
    by_form bs f g (Err r) e = g r (form_told bs e)

module _ (bs : List ℕ) (first step : ℕ) where
  pub text_refused : (r : Refusal) → file_refusal bs [] ≡ row r → members_text bs first step ≡ refused_text (row r)
  unfolding members_text
  text_refused r e = let n = row_above r in rw (e, ne_eqb (row r) 0 (λ z. omega arith))

  pub text_accepted : file_refusal bs [] ≡ 0 → members_text bs first step ≡ class_lines bs first step
  unfolding members_text
  text_accepted e = rw e

  pub text_few : ((j : ℕ) → get_or bs j 0 < 256) → length (members_text bs first step) < 65536
  text_few bytes =
      by_rows bs (λ e. rw (text_accepted e) (omega (arith, lines_few bs bytes first step e)))
      (λ r e. rw (text_refused r e) (omega (arith, refused-few (row r) (row_below r))))
