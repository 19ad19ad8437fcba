-- What the reader accepts is a class sheet's content: its rows tell what `OneClass` asks for, the records and the text that it leaves in the
-- lists are cut off again, and the members are the file's by their places. Assumes nothing.
use mathlib.Core.Path.{◌≡◌, refl, ap, ◌∙◌}
use mathlib.Core.Bool.{true, cond, not, ◌||◌}
use mathlib.Core.List.{List, [], ◌∷◌, ◌++◌}
use Prim.Native.Nat.{ℕ, zero, suc, ◌+◌, ◌≤◌, ◌<◌}
use native.Mathlib.Omega.{arith}
use lib.ListN.{length, get_or, take, drop}
use lib.Seq.{take_at}
use lib.Dec.{eqb, leb}
use borrow.Author.Tests.{leb-true, eqb-true, eqb-false, not-false}
use Rattle.words.specs.Words.{words_for, AreBytes}
use Rattle.words.specs.Rows.{cut}
use Rattle.words.proofs.Bools.{by, and_both, and_3, and_4, passed}
use Rattle.words.proofs.Rows.{cut-joined}
use Rattle.class_sheet.specs.ClassSheet.{member_width, field_limit, method_limit, text_limit, text_of, flags_word, method_count_word, field_count_word, method_name, method_descriptor, method_flags, field_name, field_descriptor, field_flags}
use Rattle.linking.specs.Compiler.{New, no_new}
use Rattle.linking.specs.Set.{new_records, new_text, packed, overlaid}
use Rattle.linking.specs.Grown.{new_members}
use Rattle.linking.proofs.Grown.{joined-members, rows-members, length-members}
use Rattle.linking.proofs.Packed.{length-packed}
use Rattle.class_form.specs.Form.{u2, form_refusal}
use Rattle.class_form.specs.Parts.{member_at}
use Rattle.class_members.specs.Members.{FileOutcome, field_places, method_places, file_flags, file_name, parent_index, file_parent, new_of, members_at, file_fields, file_methods, file_text, string_ok, field_ok, method_ok, field_typed, method_typed, every, names_ok, descriptors_ok, sheet_holds, file_refusal, read_refusal, members_by, fields_start, methods_start, read_class_file}
use Rattle.class_members.specs.SheetForm.{one_class, SheetForm, MemberIs, Yields}
use Rattle.class_members.proofs.Placed.{ok-bytes}
use Rattle.class_members.proofs.OneClass as one

-- ---- the rows that an accepted reading has passed

-- of "row x, and after it row y" neither refuses
pub neither : (x y : ℕ) → cond (eqb x 0) y x ≡ 0 → (x ≡ 0) × (y ≡ 0)
neither x y e =
    by (eqb x 0)
    (λ t. (eqb-true x 0 t, rw t at e))
    (λ t. let z : x ≡ 0 = rw t at e in absurd (eqb-false x 0 t z))

module _ (bs targets : List ℕ) where
  pub record Passed : Type 0 where
    pub form : form_refusal bs ≡ 0
    pub names : names_ok bs targets ≡ true
    pub descriptors : descriptors_ok bs targets ≡ true
    pub sheet : sheet_holds bs targets ≡ true

  pub file-passed : file_refusal bs targets ≡ 0 → Passed
  unfolding file_refusal
  file-passed e =
      let p = neither (form_refusal bs) _ e in
      let q = passed (not (names_ok bs targets)) 4 _ (omega arith) p.1 in
      let r = passed (not (descriptors_ok bs targets)) 5 _ (omega arith) q.1 in
      let s = passed (not (sheet_holds bs targets)) 14 _ (omega arith) r.1 in
      record { form = p.0; names = not-false _ q.0; descriptors = not-false _ r.0; sheet = not-false _ s.0 }

  module _ (fields methods text : List ℕ) where
    -- the lists hold what is written
    abbrev given : FileOutcome
    given =
        members_by bs targets
        (overlaid (new_records (fields_start bs) (file_fields bs)) fields)
        (overlaid (new_records (methods_start bs) (file_methods bs targets)) methods)
        (overlaid (packed (file_text bs targets)) text)

    pub read-passed : (read_class_file bs targets fields methods text).refusal ≡ 0
        → (file_refusal bs targets ≡ 0) × (read_class_file bs targets fields methods text ≡ given)
    unfolding read_class_file read_refusal
    read-passed e =
        by (eqb (read_refusal bs targets fields methods text) 0)
        (λ t. ((neither (file_refusal bs targets) _ (eqb-true _ 0 t)).0, rw t))
        (λ t. let z : read_refusal bs targets fields methods text ≡ 0 = rw t at e in absurd (eqb-false _ 0 t z))

-- ---- members by their places

pub length_at : (bs lasts : List ℕ) (k : ℕ) (ps : List ℕ) → length (members_at bs lasts k ps) ≡ length ps
unfolding members_at
length_at bs lasts k [] = refl
length_at bs lasts k (p ∷ ps) = ap suc (length_at bs lasts (k + 1) ps)

pub member-at : (bs lasts : List ℕ) (k : ℕ) (ps : List ℕ) (m : ℕ) → m < length ps
    → get_or (members_at bs lasts k ps) m no_new ≡ new_of bs (member_at bs (get_or ps m 0)) (get_or lasts (k + m) 0)
unfolding members_at
member-at bs lasts k [] m h = absurd (omega arith)
member-at bs lasts k (p ∷ ps) zero h = let e : k + 0 ≡ k = omega arith in rw e
member-at bs lasts k (p ∷ ps) (suc m) h =
    let e : k + 1 + m ≡ k + suc m = omega arith in
    rw (← e) (member-at bs lasts (k + 1) ps m (omega arith))

-- flags have 16 bits
flags-small : (bs : List ℕ) → AreBytes bs → (p : ℕ) → u2 bs p ≤ 65535
unfolding u2
flags-small bs b p = omega (arith, b p, b (p + 1))

-- ---- what is written is cut off again

cut-back : (at : ℕ) (xs : List New) (l : List ℕ) → cut member_width (length xs) (overlaid (new_records at xs) l) ≡ new_members at xs
unfolding overlaid
cut-back at xs l =
    rw (← joined-members at xs, ← length-members at xs) (cut-joined (rows-members at xs) _)

text-back : (t l : List ℕ) → take (words_for (length t)) (overlaid (packed t) l) ≡ packed t
unfolding overlaid
text-back t l = take_at (packed t) (drop (length (packed t)) l) (words_for (length t)) (length-packed t)

-- ---- the theorem

module _ (bs targets : List ℕ) (bytes : AreBytes bs) (p : Passed bs targets) where
  abbrev fs : List New
  fs = file_fields bs

  abbrev ms : List New
  ms = file_methods bs targets

  length_fields : length fs ≡ length (field_places bs)
  unfolding file_fields
  length_fields = length_at bs [] 0 (field_places bs)

  length-methods : length ms ≡ length (method_places bs)
  unfolding file_methods
  length-methods = length_at bs targets 0 (method_places bs)

  field_is_lem : (f : ℕ) → f < length fs → get_or fs f no_new ≡ new_of bs (member_at bs (get_or (field_places bs) f 0)) 0
  unfolding file_fields
  field_is_lem f h = member-at bs [] 0 (field_places bs) f (omega (arith, length_fields))

  method-is : (m : ℕ) → m < length ms → get_or ms m no_new ≡ new_of bs (member_at bs (get_or (method_places bs) m 0)) (get_or targets m 0)
  unfolding file_methods
  method-is m h =
      let e : 0 + m ≡ m = omega arith in
      rw e at (member-at bs targets 0 (method_places bs) m (omega (arith, length-methods)))

  -- a field's flags are two bytes of the file
  field-flags : (f : ℕ) → f < length fs → (get_or fs f no_new).flags ≤ 65535
  unfolding member_at
  field-flags f h = rw (field_is_lem f h) (flags-small bs bytes (get_or (field_places bs) f 0))

  no_parent : eqb (parent_index bs) 0 ≡ true → file_parent bs ≡ []
  unfolding file_parent
  no_parent e = rw e

  parent-bytes : (eqb (parent_index bs) 0 || string_ok (file_parent bs)) ≡ true → AreBytes (file_parent bs)
  parent-bytes t =
      by (eqb (parent_index bs) 0)
      (λ e. rw (no_parent e) (λ i. omega arith))
      (λ e. ok-bytes (file_parent bs) (rw e at t))

  good : one.Good (file_name bs) (file_parent bs) (file_flags bs) fs ms
  unfolding names_ok descriptors_ok sheet_holds file_text file_flags
  good =
      let n = and_4 (string_ok (file_name bs)) (eqb (parent_index bs) 0 || string_ok (file_parent bs)) (every field_ok fs) (every method_ok ms) p.names in
      let d = and_both (every field_typed fs) (every method_typed ms) p.descriptors in
      let s = and_3 (leb (length fs) field_limit) (leb (length ms) method_limit) (leb (length (file_text bs targets)) text_limit) p.sheet in
      record {
        name-ok = n.0;
        parent-bytes = parent-bytes n.1;
        flags-small = flags-small bs bytes _;
        fields-ok = n.2;
        methods-ok = n.3;
        fields_typed = d.0;
        methods_typed = d.1;
        field-flags = field-flags;
        few-fields = leb-true _ _ s.0;
        few-methods = leb-true _ _ s.1;
        few_bytes = leb-true _ _ s.2;
      }

  module _ (fields methods text rest : List ℕ) where
    -- the set that is laid out from the lists is that of the file's members
    set_is : one_class (given bs targets fields methods text) rest ≡ one.sections (file_name bs) (file_parent bs) (file_flags bs) fs ms rest
    unfolding fields_start methods_start file_text
    set_is =
        rw (
          cut-back (fields_start bs) fs fields,
          cut-back (methods_start bs) ms methods,
          text-back (file_text bs targets) text,
        )

    abbrev laid : List ℕ
    laid = one.ws (file_name bs) (file_parent bs) (file_flags bs) fs ms rest

    text_is : text_of laid ≡ file_name bs ++ (file_parent bs ++ (new_text fs ++ new_text ms))
    text_is = one.text_is (file_name bs) (file_parent bs) (file_flags bs) fs ms rest good

    field_yielded : (f : ℕ) → f < length fs
        → MemberIs bs (get_or (field_places bs) f 0) (field_name laid (text_of laid) f) (field_descriptor laid (text_of laid) f) (field_flags laid f)
    field_yielded f h = record {
      name_is = rw text_is (one.field-name (file_name bs) (file_parent bs) (file_flags bs) fs ms rest f h) ∙ ap (λ (x : New). x.name) (field_is_lem f h);
      descriptor_is =
          rw text_is (one.field-descriptor (file_name bs) (file_parent bs) (file_flags bs) fs ms rest f h)
          ∙ ap (λ (x : New). x.descriptor) (field_is_lem f h);
      flags_is = one.field-flags (file_name bs) (file_parent bs) (file_flags bs) fs ms rest f h ∙ ap (λ (x : New). x.flags) (field_is_lem f h);
    }

    method_yielded : (m : ℕ) → m < length ms
        → MemberIs bs (get_or (method_places bs) m 0) (method_name laid (text_of laid) m) (method_descriptor laid (text_of laid) m) (method_flags laid m)
    method_yielded m h = record {
      name_is = rw text_is (one.method-name (file_name bs) (file_parent bs) (file_flags bs) fs ms rest m h) ∙ ap (λ (x : New). x.name) (method-is m h);
      descriptor_is =
          rw text_is (one.method-descriptor (file_name bs) (file_parent bs) (file_flags bs) fs ms rest m h)
          ∙ ap (λ (x : New). x.descriptor) (method-is m h);
      flags_is = one.method-flags (file_name bs) (file_parent bs) (file_flags bs) fs ms rest m h ∙ ap (λ (x : New). x.flags) (method-is m h);
    }

    yields : Yields bs targets (given bs targets fields methods text) laid
    yields =
        let n = one.methods (file_name bs) (file_parent bs) (file_flags bs) fs ms rest in
        let k = one.fields (file_name bs) (file_parent bs) (file_flags bs) fs ms rest in
        record {
          accepted = one.accepted (file_name bs) (file_parent bs) (file_flags bs) fs ms rest good;
          name = rw text_is (one.name_is (file_name bs) (file_parent bs) (file_flags bs) fs ms rest);
          flags = one.class-is (file_name bs) (file_parent bs) (file_flags bs) fs ms rest flags_word (omega arith);
          parent = rw text_is (one.parent_is (file_name bs) (file_parent bs) (file_flags bs) fs ms rest);
          methods = n ∙ length-methods;
          methods_own = one.class-is (file_name bs) (file_parent bs) (file_flags bs) fs ms rest method_count_word (omega arith) ∙ length-methods;
          fields = k ∙ length_fields;
          fields_own = one.class-is (file_name bs) (file_parent bs) (file_flags bs) fs ms rest field_count_word (omega arith) ∙ length_fields;
          method = λ m h. method_yielded m (omega arith);
          target = λ m h.
              let l : m < length ms = omega arith in
              one.method-target (file_name bs) (file_parent bs) (file_flags bs) fs ms rest m l ∙ ap (λ (x : New). x.last) (method-is m l);
          field = λ f h. field_yielded f (omega arith);
          index = λ f h.
              let l : f < length fs = omega arith in
              one.field-index (file_name bs) (file_parent bs) (file_flags bs) fs ms rest f l ∙ ap (λ (x : New). x.last) (field_is_lem f l);
        }

pub sheet-form : SheetForm
sheet-form bs targets fields methods text rest bytes e =
    let r = read-passed bs targets fields methods text e in
    let p = file-passed bs targets r.0 in
    rw (r.1, set_is bs targets bytes p fields methods text rest) (yields bs targets bytes p fields methods text rest)
