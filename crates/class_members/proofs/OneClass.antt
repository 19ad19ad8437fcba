-- The set of one class with members laid one after the other is accepted, and its members are those: every word that rows 3 to 5 ask for is a
-- word of the class's record, of a member's record, or a count. Assumes nothing.
use mathlib.Core.Path.{◌≡◌, refl, sym, ap, ◌∙◌}
use mathlib.Core.Bool.{true}
use mathlib.Core.List.{List, [], ◌∷◌, ◌++◌, append_assoc, append-nil}
use Prim.Native.Nat.{ℕ, ◌+◌, ◌-◌, ◌≤◌, ◌<◌}
use native.Mathlib.Omega.{arith}
use lib.ListN.{length, get_or, set, replicate, length-append}
use borrow.Author.Tests.{le-leb}
use Rattle.words.specs.Folds.{all_of}
use Rattle.words.specs.Words.{inside, AreBytes}
use Rattle.words.specs.Rows.{no_rows, a_row}
use Rattle.words.proofs.Bools.{and_both, and_3}
use Rattle.words.proofs.Bytes.{append-bytes}
use Rattle.words.proofs.FoldLaws.{all-if}
use Rattle.text.specs.Text.{name_at, part_ok, name_start_word, name_length_word, descriptor_start_word, descriptor_length_word}
use Rattle.class_sheet.specs.ClassSheet.{class_width, member_width, class_limit, method_limit, field_limit, interface_limit, compiler_limit, text_limit, parent_word, flags_word, kind_word, first_method_word, method_count_word, first_field_word, field_count_word, first_interface_word, interface_count_word, link_state_word, instance_words_word, compiler_table_word, compiler_slots_word, table_place_word, class_count, method_count, field_count, interface_count, compiler_count, text_length, content_end, text_of, class_word, method_flags, method_target, field_flags, field_index, target_word, index_word, method_word, field_word, class_name, method_name, method_descriptor, field_name, field_descriptor}
use Rattle.class_sheet.specs.Sections.{Sections, Formed, laid_out}
use Rattle.class_sheet.proofs.Sections.{number_of_classes, number_of_methods, number_of_fields, number_of_interfaces, number_of_compilers, length_of_text, class-word, method-word, field-word, text-of, length-laid}
use Rattle.abi_sheet.specs.AbiSheet.{abi_count_at, abi_slots_at, abi_fields_at, abi_text_at, abi_content_end, abi_text_of}
use Rattle.class_rules.specs.ClassRules.{class_limits, class_fits, compiler_ok, own_numbers, class_numbers, class_lists, class_record, method_flags_ok, method_record, field_record, interface_names, class_records}
use Rattle.apart.specs.Apart.{apart_before, classes_apart}
use Rattle.abi_rules.specs.AbiRules.{abi_limits, abi_fits, abi_records}
use Rattle.set_rules.specs.SetRules.{method_typed, field_typed, class_descriptors, abi_descriptors, set_fits, records_refusal, set_refusal}
use Rattle.linking.specs.Compiler.{New, no_new}
use Rattle.linking.specs.Set.{new_text, packed}
use Rattle.linking.specs.Grown.{member_row, new_members}
use Rattle.linking.proofs.Grown.{rows-members, length-members}
use Rattle.linking.proofs.Packed.{length-packed, text-packed}
use Rattle.linking.proofs.Appended.{name-here}
use Rattle.class_members.specs.Members.{string_ok, field_ok, method_ok, every}
use Rattle.class_members.specs.Members as file
use Rattle.class_members.specs.SheetForm.{no_abi}
use Rattle.class_members.proofs.Placed.{Stands, stands, part-ok, ok-bytes, every-at, members-bytes}

-- what rows 4, 5 and 14 tell of a class and its members
pub record Good (name parent : List ℕ) (flags : ℕ) (fs ms : List New) : Type 0 where
  pub name-ok : string_ok name ≡ true
  pub parent-bytes : AreBytes parent
  pub flags-small : flags ≤ 65535
  pub fields-ok : every field_ok fs ≡ true
  pub methods-ok : every method_ok ms ≡ true
  pub fields_typed : every file.field_typed fs ≡ true
  pub methods_typed : every file.method_typed ms ≡ true
  pub field-flags : (f : ℕ) → f < length fs → (get_or fs f no_new).flags ≤ 65535
  pub few-fields : length fs ≤ field_limit
  pub few-methods : length ms ≤ method_limit
  pub few_bytes : length (name ++ (parent ++ (new_text fs ++ new_text ms))) ≤ text_limit

module _ (name parent : List ℕ) (flags : ℕ) (fs ms : List New) (rest : List ℕ) where
  abbrev pub text : List ℕ
  text = name ++ (parent ++ (new_text fs ++ new_text ms))

  abbrev pub fields_from : ℕ
  fields_from = length name + length parent

  abbrev pub methods_from : ℕ
  methods_from = fields_from + length (new_text fs)

  abbrev pub row : List ℕ
  row =
      set (set (set (set (replicate class_width 0) name_length_word (length name)) flags_word flags) method_count_word (length ms)) field_count_word
      (length fs)

  abbrev pub sections : Sections
  sections =
      record {
        classes = row ∷ [];
        methods = new_members methods_from ms;
        fields = new_members fields_from fs;
        interfaces = [];
        compilers = [];
        bytes = length text;
        text = packed text;
        rest = rest;
      }

  abbrev pub ws : List ℕ
  ws = laid_out sections

  pub formed : Formed class_width sections
  formed = record {
    classes = a_row refl no_rows;
    methods = rows-members methods_from ms;
    fields = rows-members fields_from fs;
    text = length-packed text;
  }

  -- ---- the counts

  one : class_count ws ≡ 1
  one = number_of_classes sections

  pub methods : method_count ws ≡ length ms
  methods = number_of_methods sections ∙ length-members methods_from ms

  pub fields : field_count ws ≡ length fs
  fields = number_of_fields sections ∙ length-members fields_from fs

  -- ---- words of records

  pub class-is : (k : ℕ) → k < class_width → class_word ws 1 k ≡ get_or row k 0
  class-is k h = class-word sections formed 1 k (omega arith) (omega arith) h

  -- what stands before and after the fields, and the methods
  fields-text : text ≡ (name ++ parent) ++ (new_text fs ++ new_text ms)
  fields-text = sym (append_assoc name parent (new_text fs ++ new_text ms))

  methods-text : text ≡ (name ++ (parent ++ new_text fs)) ++ (new_text ms ++ [])
  methods-text = simp (append_assoc, append-nil)

  method-stands : (m : ℕ) → m < length ms → Stands text (get_or (new_members methods_from ms) m []) (get_or ms m no_new)
  method-stands m h =
      rw methods-text (stands ms (name ++ (parent ++ new_text fs)) [] (simp length-append (omega arith)) m h)

  field-stands : (f : ℕ) → f < length fs → Stands text (get_or (new_members fields_from fs) f []) (get_or fs f no_new)
  field-stands f h = rw fields-text (stands fs (name ++ parent) (new_text ms) (length-append name parent) f h)

  method-at : (m : ℕ) (h : m < length ms) (k : ℕ) → k < member_width
      → method_word ws m k ≡ get_or (member_row (method-stands m h).start (get_or ms m no_new)) k 0
  method-at m h k l =
      method-word sections formed m k (omega (arith, length-members methods_from ms)) l
      ∙ ap (λ (r : List ℕ). get_or r k 0) (method-stands m h).row_is

  field_at : (f : ℕ) (h : f < length fs) (k : ℕ) → k < member_width
      → field_word ws f k ≡ get_or (member_row (field-stands f h).start (get_or fs f no_new)) k 0
  field_at f h k l =
      field-word sections formed f k (omega (arith, length-members fields_from fs)) l
      ∙ ap (λ (r : List ℕ). get_or r k 0) (field-stands f h).row_is

  pub method-flags : (m : ℕ) → m < length ms → method_flags ws m ≡ (get_or ms m no_new).flags
  method-flags m h = method-at m h 4 (omega arith)

  pub method-target : (m : ℕ) → m < length ms → method_target ws m ≡ (get_or ms m no_new).last
  method-target m h = method-at m h target_word (omega arith)

  pub field-flags : (f : ℕ) → f < length fs → field_flags ws f ≡ (get_or fs f no_new).flags
  field-flags f h = field_at f h 4 (omega arith)

  pub field-index : (f : ℕ) → f < length fs → field_index ws f ≡ (get_or fs f no_new).last
  field-index f h = field_at f h index_word (omega arith)

  -- ---- the members are those

  pub name_is : class_name ws text 1 ≡ name
  name_is = rw (class-is name_start_word (omega arith), class-is name_length_word (omega arith))
      (name-here [] name (parent ++ (new_text fs ++ new_text ms)) 0 (length name) refl refl)

  pub parent_is : name_at text (length name) (length parent) ≡ parent
  parent_is = name-here name parent (new_text fs ++ new_text ms) (length name) (length parent) refl refl

  pub method-name : (m : ℕ) → m < length ms → method_name ws text m ≡ (get_or ms m no_new).name
  method-name m h = rw (method-at m h name_start_word (omega arith), method-at m h name_length_word (omega arith)) (method-stands m h).name_is

  pub method-descriptor : (m : ℕ) → m < length ms → method_descriptor ws text m ≡ (get_or ms m no_new).descriptor
  method-descriptor m h =
      rw (method-at m h descriptor_start_word (omega arith), method-at m h descriptor_length_word (omega arith)) (method-stands m h).descriptor_is

  pub field-name : (f : ℕ) → f < length fs → field_name ws text f ≡ (get_or fs f no_new).name
  field-name f h = rw (field_at f h name_start_word (omega arith), field_at f h name_length_word (omega arith)) (field-stands f h).name_is

  pub field-descriptor : (f : ℕ) → f < length fs → field_descriptor ws text f ≡ (get_or fs f no_new).descriptor
  field-descriptor f h =
      rw (field_at f h descriptor_start_word (omega arith), field_at f h descriptor_length_word (omega arith)) (field-stands f h).descriptor_is

  -- ---- rows 3 to 5

  module _ (good : Good name parent flags fs ms) where
    field_strings : (f : ℕ) → f < length fs → (string_ok (get_or fs f no_new).name ≡ true) × (string_ok (get_or fs f no_new).descriptor ≡ true)
    unfolding field_ok
    field_strings f h =
        and_both (string_ok (get_or fs f no_new).name) (string_ok (get_or fs f no_new).descriptor) (every-at field_ok fs good.fields-ok f h)

    method_strings : (m : ℕ) → m < length ms
        → (string_ok (get_or ms m no_new).name ≡ true)
        × (string_ok (get_or ms m no_new).descriptor ≡ true) × (method_flags_ok (get_or ms m no_new).flags ≡ true)
    unfolding method_ok
    method_strings m h =
        and_3 (string_ok (get_or ms m no_new).name) (string_ok (get_or ms m no_new).descriptor) (method_flags_ok (get_or ms m no_new).flags)
        (every-at method_ok ms good.methods-ok m h)

    pub bytes : AreBytes text
    bytes =
        append-bytes name (parent ++ (new_text fs ++ new_text ms)) (ok-bytes name good.name-ok)
        (append-bytes parent (new_text fs ++ new_text ms) good.parent-bytes
        (append-bytes (new_text fs) (new_text ms) (members-bytes fs field_strings)
        (members-bytes ms (λ m h. ((method_strings m h).0, (method_strings m h).1)))))

    pub text_is : text_of ws ≡ text
    text_is = text-of sections formed ∙ text-packed text bytes (length text) refl

    fits : class_fits ws ≡ true
    unfolding class_fits class_limits
    fits =
        simp (
          le-leb (class_count ws) class_limit (omega (arith, one)),
          le-leb (method_count ws) method_limit (omega (arith, methods, good.few-methods)),
          le-leb (field_count ws) field_limit (omega (arith, fields, good.few-fields)),
          le-leb (interface_count ws) interface_limit (omega (arith, number_of_interfaces sections)),
          le-leb (compiler_count ws) compiler_limit (omega (arith, number_of_compilers sections)),
          le-leb (text_length ws) text_limit (omega (arith, length_of_text sections, good.few_bytes)),
          le-leb (content_end ws) (length ws) (omega (arith, length-laid sections formed)),
        )

    class-ok : class_record ws text 1 ≡ true
    unfolding class_record own_numbers class_numbers class_lists compiler_ok inside
    class-ok =
        let n : part_ok text 0 (length name) ≡ true =
        part-ok text 0 name refl (name-here [] name (parent ++ (new_text fs ++ new_text ms)) 0 (length name) refl refl)
        (rw length-append (omega arith)) good.name-ok in
        simp (
          class-is name_start_word (omega arith),
          class-is name_length_word (omega arith),
          class-is parent_word (omega arith),
          class-is flags_word (omega arith),
          class-is kind_word (omega arith),
          class-is link_state_word (omega arith),
          class-is instance_words_word (omega arith),
          class-is compiler_slots_word (omega arith),
          class-is table_place_word (omega arith),
          class-is first_method_word (omega arith),
          class-is method_count_word (omega arith),
          class-is first_field_word (omega arith),
          class-is field_count_word (omega arith),
          class-is first_interface_word (omega arith),
          class-is interface_count_word (omega arith),
          class-is compiler_table_word (omega arith),
          n,
          le-leb flags 65535 good.flags-small,
          le-leb (get_or row first_method_word 0 + get_or row method_count_word 0) (method_count ws) (omega (arith, methods)),
          le-leb (get_or row first_field_word 0 + get_or row field_count_word 0) (field_count ws) (omega (arith, fields)),
          number_of_interfaces sections,
        )

    method-ok : (m : ℕ) → m < length ms → method_record ws text m ≡ true
    unfolding method_record
    method-ok m h =
        let s = method-stands m h in
        let x : New = get_or ms m no_new in
        let p = method_strings m h in
        rw (
          method-at m h name_start_word (omega arith),
          method-at m h name_length_word (omega arith),
          method-at m h descriptor_start_word (omega arith),
          method-at m h descriptor_length_word (omega arith),
          method-at m h 4 (omega arith),
        )
        (simp (
          part-ok text s.start x.name refl s.name_is (omega (arith, s.within)) p.0,
          part-ok text (s.start + length x.name) x.descriptor refl s.descriptor_is (omega (arith, s.within)) p.1,
          p.2,
        ))

    field-ok : (f : ℕ) → f < length fs → field_record ws text f ≡ true
    unfolding field_record
    field-ok f h =
        let s = field-stands f h in
        let x : New = get_or fs f no_new in
        let p = field_strings f h in
        rw (
          field_at f h name_start_word (omega arith),
          field_at f h name_length_word (omega arith),
          field_at f h descriptor_start_word (omega arith),
          field_at f h descriptor_length_word (omega arith),
          field_at f h 4 (omega arith),
        )
        (simp (
          part-ok text s.start x.name refl s.name_is (omega (arith, s.within)) p.0,
          part-ok text (s.start + length x.name) x.descriptor refl s.descriptor_is (omega (arith, s.within)) p.1,
          le-leb x.flags 65535 (good.field-flags f h),
        ))

    method_typed_lem : (m : ℕ) → m < length ms → method_typed ws text m ≡ true
    unfolding method_typed file.method_typed
    method_typed_lem m h = rw (method-flags m h, method-descriptor m h) (every-at file.method_typed ms good.methods_typed m h)

    field_typed_lem : (f : ℕ) → f < length fs → field_typed ws text f ≡ true
    unfolding field_typed file.field_typed
    field_typed_lem f h = rw (field-descriptor f h) (every-at file.field_typed fs good.fields_typed f h)

    records : class_records ws text ≡ true
    unfolding class_records apart_before
    records =
        simp (
          all-if (class_count ws) (λ i. class_record ws text (i + 1)) (λ i l. let e : i ≡ 0 = omega (arith, one) in rw e class-ok),
          all-if (method_count ws) (method_record ws text) (λ m l. method-ok m (omega (arith, methods))),
          all-if (field_count ws) (field_record ws text) (λ f l. field-ok f (omega (arith, fields))),
          all-if (interface_count ws) (interface_names ws) (λ i l. absurd (omega (arith, number_of_interfaces sections))),
          all-if (class_count ws) (λ i. apart_before ws text (i + 1))
              (λ i l. all-if (i + 1 - 1) (λ j. classes_apart ws text (j + 1) (i + 1)) (λ j k. absurd (omega (arith, one)))),
        )

    descriptors : class_descriptors ws text ≡ true
    unfolding class_descriptors
    descriptors =
        simp (
          all-if (method_count ws) (method_typed ws text) (λ m l. method_typed_lem m (omega (arith, methods))),
          all-if (field_count ws) (field_typed ws text) (λ f l. field_typed_lem f (omega (arith, fields))),
        )

    -- an ABI sheet of nothing
    no_abi_lem : (abi_fits no_abi ≡ true) × (abi_records no_abi (abi_text_of no_abi) ≡ true) × (abi_descriptors no_abi (abi_text_of no_abi) ≡ true)
    unfolding abi_fits abi_limits abi_records abi_descriptors abi_count_at abi_slots_at abi_fields_at abi_text_at abi_content_end all_of
    no_abi_lem = (refl, refl, refl)

    pub accepted : set_refusal ws no_abi ≡ 0
    unfolding set_refusal set_fits records_refusal
    accepted =
        simp (text_is, fits, records, descriptors, no_abi_lem.0, no_abi_lem.1, no_abi_lem.2)
