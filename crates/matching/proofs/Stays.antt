-- An accepted link leaves a set that rows 3 to 5 accept: what it adds is fine, and it writes into the class's record what rows
-- 10 and 13 bound. Assumes nothing.
use Rattle.std.proofs.Common.{◌≡◌, refl, sym, ap, ◌∙◌, ◌≢◌, ◌⊎◌, inl, inr, ⊎_elim, false, not, ◌&&◌, List, ◌++◌, ℕ, ◌+◌, ◌-◌, ◌≤◌, ◌<◌, arith, length, get_or, take, drop, eqb, ltb, eqb-true, ltb-false}
use borrow.Author.Tests.{eqb-false}
use Rattle.words.proofs.Bools.{by, or-neither}
use Rattle.words.proofs.Lists.{length_part}
use Rattle.words.specs.Rows.{Rows, row_word}
use Rattle.words.specs.Words.{AreBytes}
use Rattle.text.specs.Text.{name_start_word, name_length_word}
use Rattle.descriptor.specs.Grammar.{FieldDerivation}
use Rattle.descriptor.specs.Words.{ValidDescriptor}
use Rattle.class_sheet.specs.ClassSheet.{class_width, parent_word, flags_word, kind_word, first_method_word, method_count_word, first_field_word, field_count_word, first_interface_word, interface_count_word, link_state_word, instance_words_word, compiler_table_word, compiler_slots_word, table_place_word, slot_count_word, class_count, method_count, field_count, interface_count, compiler_count, text_length, text_words, text_of, content_end, class_word, method_word, field_word, interface_word, class_first_method, class_method_count, class_first_field, class_field_count, class_slot_count, class_table_place, class_name, method_limit, field_limit, member_limit, text_limit}
use Rattle.class_sheet.specs.Sections.{Sections, laid_out, sections_of}
use Rattle.class_sheet.proofs.Sections.{number_of_classes, number_of_methods, number_of_fields, number_of_interfaces, number_of_compilers, length_of_text, length-laid, class-word, method-word, field-word, interface-word, text-of, formed-of, class_of, method-of, field_of, interface-of, text-of-words}
use Rattle.abi_sheet.specs.AbiSheet.{abi_text_length, abi_text_words, abi_text_of}
use Rattle.set_rules.specs.SetRules.{set_refusal}
use Rattle.set_rules.specs.Valid.{IsClass, ValidClass, MethodFlags, Valid, ValidAbi}
use Rattle.set_rules.proofs.Valid.{valid, accepted}
use Rattle.linking.specs.Signature.{Same}
use Rattle.linking.specs.Compiler.{New, no_new, members}
use Rattle.linking.specs.Set.{new_text, section_full}
use Rattle.linking.specs.Vtable.{build_methods}
use Rattle.linking.specs.Link.{next_free, Plan, is_none, built_table, plan_built, generated_table, plan_generated, plan, plan_with, lists_full, new_words, new_statics, linked_words, LinkOutcome, link_by}
use Rattle.linking.specs.Grown.{bytes_of, linked_sections, methods_growing, fields_growing, new_members, row_indices}
use Rattle.linking.proofs.Grown.{length-bytes, length-row-indices}
use Rattle.linking.proofs.Appended.{text-back, word_kept, first-is, count_is, length-all, name-front}
use Rattle.linking.proofs.Taken.{no_members}
use Rattle.linking.proofs.Added.{none-new}
use Rattle.linking.proofs.Packed.{text-bytes}
use Rattle.linking.proofs.PlansWith.{PlansWith, plans_with}
use Rattle.linking.proofs.LinkedSections.{lies-of, record_instance, length_record, linked-laid}
use Rattle.linking.proofs.LinkedBack as back
use Rattle.linking.proofs.LinkedBack.{Untouched, Left, num, num-formed, linked-left, still-num, still-fields}
use Rattle.matching.proofs.Rows.{ClassOk, Accepted, link-cases}
use Rattle.matching.proofs.Members.{AllRows, Row, row_same, rows_more, rows_append, rows-part, rows_indexed, rows_new, part-more}
use Rattle.matching.proofs.Fine.{FineMethod, FineField, fine_methods, fine_added}

abbrev MethodRow : List ℕ → (ℕ → ℕ) → Type 0
MethodRow = Row ValidDescriptor MethodFlags

abbrev FieldRow : List ℕ → (ℕ → ℕ) → Type 0
FieldRow = Row (λ flags s. FieldDerivation s) (λ n. n ≤ 65535)

record Counts (s g : Sections) : Type 0 where
  pub methods : length g.methods ≤ method_limit
  pub fields : length g.fields ≤ field_limit
  pub more-fields : length s.fields ≤ length g.fields
  pub bytes : g.bytes ≤ text_limit

-- a plan, whatever table `build_methods` made for it
module _ (same : Same) (ws abi : List ℕ) (c : ℕ) (area : List ℕ) (accepts : set_refusal ws abi ≡ 0) (class : ClassOk ws c) (p : Plan)
    (plan : PlansWith same ws (text_of ws) abi (abi_text_of abi) area c p) (lists : lists_full ws c p ≡ false) where
  abbrev s : Sections
  s = sections_of ws

  abbrev place : ℕ
  place = next_free area

  abbrev words_new : ℕ
  words_new = new_words ws (text_of ws) abi (abi_text_of abi) c

  abbrev statics_new : ℕ
  statics_new = new_statics ws (text_of ws) c

  abbrev g : Sections
  g = linked_sections s c place words_new statics_new p

  v : Valid ws
  v = (valid ws abi (accepts)).0

  w : ValidAbi abi
  w = (valid ws abi (accepts)).1

  fit : content_end ws ≤ length ws
  fit = v.fits

  one : 1 ≤ c
  one = class.some

  in_set : c ≤ class_count ws
  in_set = class.among

  in_rows : c ≤ length s.classes
  in_rows = omega (arith, in_set, (lies-of ws fit).classes)

  vc : ValidClass ws c
  vc = v.class c (one, in_set)

  own-word : (k : ℕ) → k < class_width → row_word s.classes (c - 1) k ≡ class_word ws c k
  own-word k h = sym (class_of ws fit c k one in_set h)

  list-methods : row_word s.classes (c - 1) first_method_word + row_word s.classes (c - 1) method_count_word ≤ length s.methods
  list-methods = omega (arith, vc.methods, own-word first_method_word (omega arith), own-word method_count_word (omega arith), (lies-of ws fit).methods)

  list-fields : row_word s.classes (c - 1) first_field_word + row_word s.classes (c - 1) field_count_word ≤ length s.fields
  list-fields = omega (arith, vc.fields, own-word first_field_word (omega arith), own-word field_count_word (omega arith), (lies-of ws fit).fields)

  method-bytes : AreBytes (new_text (members p.added))
  method-bytes = plan.method-bytes (text-bytes (text_words ws) (text_length ws)) (text-bytes (abi_text_words abi) (abi_text_length abi))

  field-bytes : AreBytes (new_text p.new_fields)
  field-bytes = plan.field-bytes (text-bytes (text_words ws) (text_length ws)) (text-bytes (abi_text_words abi) (abi_text_length abi))

  left-all : (more : List ℕ) × Left s g c place (length p.table) more
  left-all =
      linked-left s (formed-of ws fit) c place words_new statics_new p one in_rows list-methods list-fields method-bytes field-bytes

  abbrev left : Left s g c place (length p.table) left-all.0
  left = left-all.1

  -- ---- what is added is fine

  methods_added : (j : ℕ) → j < length (members p.added) → FineMethod ws abi v w (get_or (members p.added) j no_new)
  methods_added =
      elim plan.methods [
        | inl e ↦ rw (e, no_members) (none-new (FineMethod ws abi v w))
        | inr e ↦ rw e (fine_methods ws abi v w same area c in_set)
      ]

  new-fields : (j : ℕ) → j < length p.new_fields → FineField ws abi v w (get_or p.new_fields j no_new)
  new-fields = elim plan.fields [ inl e ↦ rw e (none-new (FineField ws abi v w)) | inr e ↦ rw e (fine_added ws abi v w c) ]

  -- ---- rows of methods and fields

  old-methods : AllRows (MethodRow (bytes_of s)) s.methods
  old-methods i h =
      let b : i < method_count ws = omega (arith, (lies-of ws fit).methods) in
      rw (← text-of-words ws fit)
      (row_same ValidDescriptor MethodFlags (text_of ws) (row_word s.methods i) (method_word ws i) (λ k g. sym (method-of ws fit i k b (omega arith)))
      (v.method i b))

  old-fields : AllRows (FieldRow (bytes_of s)) s.fields
  old-fields i h =
      let b : i < field_count ws = omega (arith, (lies-of ws fit).fields) in
      rw (← text-of-words ws fit)
      (row_same (λ flags z. FieldDerivation z) (λ n. n ≤ 65535) (text_of ws) (row_word s.fields i) (field_word ws i)
      (λ k g. sym (field_of ws fit i k b (omega arith))) (v.field i b))

  -- the sections with the class's new record and indices, before a list grows
  abbrev n : Sections
  n = num s (formed-of ws fit) c place (length p.table) words_new statics_new p.indices one in_rows

  same-num : (k : ℕ) → k ≢ instance_words_word → k < table_place_word → row_word n.classes (c - 1) k ≡ row_word s.classes (c - 1) k
  same-num k ne h =
      still-num s (formed-of ws fit) c place (length p.table) words_new statics_new p.indices one in_rows k ne (omega arith) (omega arith) (omega arith)

  first-method : row_word n.classes (c - 1) first_method_word ≡ row_word s.classes (c - 1) first_method_word
  first-method = same-num first_method_word (omega arith) (omega arith)

  own-methods : row_word n.classes (c - 1) method_count_word ≡ row_word s.classes (c - 1) method_count_word
  own-methods = same-num method_count_word (omega arith) (omega arith)

  first_field : row_word n.classes (c - 1) first_field_word ≡ row_word s.classes (c - 1) first_field_word
  first_field = same-num first_field_word (omega arith) (omega arith)

  own-fields : row_word n.classes (c - 1) field_count_word ≡ row_word s.classes (c - 1) field_count_word
  own-fields = same-num field_count_word (omega arith) (omega arith)

  rows-methods : AllRows (MethodRow (bytes_of g)) g.methods
  unfolding linked_sections methods_growing fields_growing
  rows-methods =
      by (is_none p.new_fields)
      (λ t.
      by (is_none (members p.added)) (λ u. rw (t, u) old-methods)
      (λ u.
      let M : List New = members p.added in
      let copy : List (List ℕ) = take (row_word s.classes (c - 1) method_count_word) (drop (row_word s.classes (c - 1) first_method_word) s.methods) in
      rw (t, u, text-back s M method-bytes, first-method, own-methods)
      (rows_append ValidDescriptor MethodFlags (bytes_of s ++ new_text M) s.methods (copy ++ new_members s.bytes M)
      (rows_more ValidDescriptor MethodFlags (bytes_of s) (new_text M) s.methods old-methods)
      (rows_append ValidDescriptor MethodFlags (bytes_of s ++ new_text M) copy (new_members s.bytes M)
      (rows_more ValidDescriptor MethodFlags (bytes_of s) (new_text M) copy
      (rows-part ValidDescriptor MethodFlags (bytes_of s) s.methods
      (row_word s.classes (c - 1) first_method_word) (row_word s.classes (c - 1) method_count_word)
      list-methods old-methods))
      (rows_new ValidDescriptor MethodFlags (bytes_of s) s.bytes (length-bytes s) M methods_added)))))
      (λ t.
      rw (t, text-back s p.new_fields field-bytes)
      (rows_more ValidDescriptor MethodFlags (bytes_of s) (new_text p.new_fields) s.methods old-methods))

  rows-fields : AllRows (FieldRow (bytes_of g)) g.fields
  unfolding linked_sections methods_growing fields_growing
  rows-fields =
      let D : ℕ → List ℕ → Type 0 = λ flags z. FieldDerivation z in
      let W : ℕ → Type 0 = λ n. n ≤ 65535 in
      let numbered : AllRows (FieldRow (bytes_of s)) (row_indices (row_word s.classes (c - 1) first_field_word) p.indices s.fields) =
      rows_indexed D W (bytes_of s) s.fields (row_word s.classes (c - 1) first_field_word) p.indices old-fields in
      by (is_none p.new_fields)
      (λ t.
      by (is_none (members p.added)) (λ u. rw (t, u) numbered)
      (λ u.
      rw (t, u, text-back s (members p.added) method-bytes)
      (rows_more D W (bytes_of s) (new_text (members p.added)) (row_indices (row_word s.classes (c - 1) first_field_word) p.indices s.fields) numbered)))
      (λ t.
      let F : List New = p.new_fields in
      let part : List (List ℕ) = take (row_word s.classes (c - 1) field_count_word) (drop (row_word s.classes (c - 1) first_field_word) s.fields) in
      let copy : List (List ℕ) = row_indices 0 p.indices part in
      rw (t, text-back s F field-bytes, first_field, own-fields)
      (rows_append D W (bytes_of s ++ new_text F) s.fields (copy ++ new_members s.bytes F)
      (rows_more D W (bytes_of s) (new_text F) s.fields old-fields)
      (rows_append D W (bytes_of s ++ new_text F) copy (new_members s.bytes F)
      (rows_more D W (bytes_of s) (new_text F) copy
      (rows_indexed D W (bytes_of s) part 0 p.indices
      (rows-part D W (bytes_of s) s.fields (row_word s.classes (c - 1) first_field_word) (row_word s.classes (c - 1) field_count_word) list-fields old-fields)))
      (rows_new D W (bytes_of s) s.bytes (length-bytes s) F new-fields))))

  -- ---- class c's record

  -- a word between its lists and its table's place is left
  still : (k : ℕ) → first_interface_word ≤ k → k < table_place_word → k ≢ instance_words_word → Untouched k
  still k low high ne = record {
    first-method = omega arith;
    number_of_methods = omega arith;
    first_field = omega arith;
    number_of_fields = omega arith;
    words = ne;
    place = omega arith;
    slots = omega arith;
    statics = omega arith;
  }

  instance : row_word g.classes (c - 1) instance_words_word ≤ 65535
  unfolding linked_sections methods_growing fields_growing
  instance =
      let h =
      record_instance s.classes c place (length p.table) words_new statics_new (formed-of ws fit).classes (omega (arith, in_rows, one)) (omega arith)
      (omega arith) 65535 (omega arith) plan.words
      (omega (arith, vc.words_of_instance, own-word instance_words_word (omega arith))) in
      by (is_none p.new_fields)
      (λ t.
      by (is_none (members p.added)) (λ u. rw (t, u) h)
      (λ u.
      rw (t, u)
      (omega (
        arith,
        h,
        word_kept n.classes c first_method_word method_count_word (length s.methods) (row_word n.classes (c - 1) method_count_word + length (members p.added))
            instance_words_word (omega arith) (omega arith),
      ))))
      (λ t.
      rw t
      (omega (
        arith,
        h,
        word_kept n.classes c first_field_word field_count_word (length s.fields) (row_word n.classes (c - 1) field_count_word + length p.new_fields)
            instance_words_word (omega arith) (omega arith),
      )))

  -- ---- its lists: where they were, or at the end of their section

  abbrev Lists : ℕ → ℕ → ℕ → ℕ → Type 0
  Lists first count old new =
      ((row_word g.classes (c - 1) first ≡ row_word s.classes (c - 1) first) × (row_word g.classes (c - 1) count ≡ row_word s.classes (c - 1) count))
      ⊎ ((row_word g.classes (c - 1) first ≡ old) × (row_word g.classes (c - 1) first + row_word g.classes (c - 1) count ≡ new))

  rows-n : Rows class_width n.classes
  rows-n = (num-formed s (formed-of ws fit) c place (length p.table) words_new statics_new p.indices one in_rows).classes

  among-n : c - 1 < length n.classes
  among-n = omega (arith, one, in_rows, length_record s.classes c place (length p.table) words_new statics_new)

  method-list : Lists first_method_word method_count_word (length s.methods) (length g.methods)
  unfolding linked_sections methods_growing fields_growing
  method-list =
      let e₅ = first-method in
      let e₆ = own-methods in
      by (is_none p.new_fields)
      (λ t.
      by (is_none (members p.added)) (λ u. rw (t, u) (inl (e₅, e₆)))
      (λ u.
      let own : ℕ = row_word n.classes (c - 1) method_count_word in
      let first : ℕ = row_word n.classes (c - 1) first_method_word in
      let count : ℕ = own + length (members p.added) in
      let f = first-is n.classes c first_method_word method_count_word (length s.methods) count class_width rows-n among-n (omega arith) (omega arith) in
      let k = count_is n.classes c first_method_word method_count_word (length s.methods) count class_width rows-n among-n (omega arith) in
      let l = length-all s.methods (take own (drop first s.methods)) s.bytes (members p.added) own
      (length_part s.methods first own (omega (arith, list-methods))) in
      rw (t, u) (inr (f, omega arith))))
      (λ t.
      rw t
      (inl (
        still-fields s (formed-of ws fit) c place (length p.table) words_new statics_new p.indices one in_rows p.new_fields first_method_word (omega arith)
            (omega arith) (omega arith) (omega arith) (omega arith) (omega arith),
        still-fields s (formed-of ws fit) c place (length p.table) words_new statics_new p.indices one in_rows p.new_fields method_count_word (omega arith)
            (omega arith) (omega arith) (omega arith) (omega arith) (omega arith),
      )))

  field-list : Lists first_field_word field_count_word (length s.fields) (length g.fields)
  unfolding linked_sections methods_growing fields_growing
  field-list =
      let e₇ = first_field in
      let e₈ = own-fields in
      by (is_none p.new_fields)
      (λ t.
      by (is_none (members p.added)) (λ u. rw (t, u) (inl (e₇, e₈)))
      (λ u.
      let count : ℕ = row_word n.classes (c - 1) method_count_word + length (members p.added) in
      rw (t, u)
      (inl (
        word_kept n.classes c first_method_word method_count_word (length s.methods) count first_field_word (omega arith) (omega arith) ∙ e₇,
        word_kept n.classes c first_method_word method_count_word (length s.methods) count field_count_word (omega arith) (omega arith) ∙ e₈,
      ))))
      (λ t.
      let own : ℕ = row_word n.classes (c - 1) field_count_word in
      let first : ℕ = row_word n.classes (c - 1) first_field_word in
      let count : ℕ = own + length p.new_fields in
      let f = first-is n.classes c first_field_word field_count_word (length s.fields) count class_width rows-n among-n (omega arith) (omega arith) in
      let k = count_is n.classes c first_field_word field_count_word (length s.fields) count class_width rows-n among-n (omega arith) in
      let l = length-all s.fields (row_indices 0 p.indices (take own (drop first s.fields))) s.bytes p.new_fields own
      (length-row-indices 0 p.indices (take own (drop first s.fields)) ∙ length_part s.fields first own (omega (arith, list-fields))) in
      rw t (inr (f, omega arith)))

  -- ---- how much there is: row 14

  full : (not (is_none (members p.added)) && section_full ws (method_count ws) (class_method_count ws c) (members p.added) ≡ false)
      × (not (is_none p.new_fields) && section_full ws (field_count ws) (class_field_count ws c) p.new_fields ≡ false)
  unfolding lists_full
  full =
      or-neither (not (is_none (members p.added)) && section_full ws (method_count ws) (class_method_count ws c) (members p.added))
      (not (is_none p.new_fields) && section_full ws (field_count ws) (class_field_count ws c) p.new_fields) lists

  room : (count own : ℕ) (new : List New) → section_full ws count own new ≡ false
      → (count + (own + length new) ≤ member_limit) × (text_length ws + length (new_text new) ≤ text_limit)
  unfolding section_full
  room count own new e =
      let r = or-neither (ltb member_limit (count + (own + length new))) (ltb text_limit (text_length ws + length (new_text new))) e in
      (ltb-false member_limit (count + (own + length new)) r.0, ltb-false text_limit (text_length ws + length (new_text new)) r.1)

  counts : Counts s g
  unfolding linked_sections methods_growing fields_growing
  counts =
      let z = lies-of ws fit in
      let m = v.number_of_methods in
      let f = v.number_of_fields in
      let b = v.length_of_text in
      let e₅ = first-method in
      let e₆ = own-methods in
      let e₇ = first_field in
      let e₈ = own-fields in
      let o₆ = own-word method_count_word (omega arith) in
      let o₈ = own-word field_count_word (omega arith) in
      let i = length-row-indices (row_word s.classes (c - 1) first_field_word) p.indices s.fields in
      by (is_none p.new_fields)
      (λ t.
      by (is_none (members p.added))
      (λ u. rw (t, u) (record { methods = omega arith; fields = omega arith; more-fields = omega arith; bytes = omega arith }))
      (λ u.
      let own : ℕ = row_word n.classes (c - 1) method_count_word in
      let first : ℕ = row_word n.classes (c - 1) first_method_word in
      let l = length-all s.methods (take own (drop first s.methods)) s.bytes (members p.added) own
      (length_part s.methods first own (omega (arith, list-methods))) in
      let r = room (method_count ws) (class_method_count ws c) (members p.added) (rw u at full.0) in
      rw (t, u) (record { methods = omega arith; fields = omega arith; more-fields = omega arith; bytes = omega arith })))
      (λ t.
      let own : ℕ = row_word n.classes (c - 1) field_count_word in
      let first : ℕ = row_word n.classes (c - 1) first_field_word in
      let l = length-all s.fields (row_indices 0 p.indices (take own (drop first s.fields))) s.bytes p.new_fields own
      (length-row-indices 0 p.indices (take own (drop first s.fields)) ∙ length_part s.fields first own (omega (arith, list-fields))) in
      let r = room (field_count ws) (class_field_count ws c) p.new_fields (rw t at full.1) in
      rw t (record { methods = omega arith; fields = omega arith; more-fields = omega arith; bytes = omega arith }))

  -- ---- the words

  abbrev N : List ℕ
  N = laid_out g

  class-at : (d k : ℕ) → IsClass ws d → k < class_width → class_word N d k ≡ row_word g.classes (d - 1) k
  class-at d k h b = class-word g left.formed d k h.0 (omega (arith, left.classes, (lies-of ws fit).classes, h.1)) b

  other : (d k : ℕ) → IsClass ws d → k < class_width → d ≢ c → class_word N d k ≡ class_word ws d k
  other d k h b ne =
      let a = h.0 in
      class-at d k h b ∙ left.others (d - 1) k (λ e. ne (omega (arith, one))) ∙ sym (class_of ws fit d k h.0 h.1 b)

  own : (k : ℕ) → k < class_width → row_word g.classes (c - 1) k ≡ row_word s.classes (c - 1) k → class_word N c k ≡ class_word ws c k
  own k b e = class-at c k (one, in_set) b ∙ e ∙ own-word k b

  early : (d k : ℕ) → IsClass ws d → k < first_method_word → class_word N d k ≡ class_word ws d k
  early d k h b =
      by (eqb d c) (λ t. let e : d ≡ c = eqb-true d c t in rw e (own k (omega arith) (left.kept k (back.early k b))))
      (λ t. other d k h (omega arith) (eqb-false d c t))

  quiet : (d k : ℕ) → IsClass ws d → first_interface_word ≤ k → k < table_place_word → k ≢ instance_words_word → class_word N d k ≡ class_word ws d k
  quiet d k h low high ne =
      by (eqb d c) (λ t. let e : d ≡ c = eqb-true d c t in rw e (own k (omega arith) (left.kept k (still k low high ne))))
      (λ t. other d k h (omega arith) (eqb-false d c t))

  text_is : text_of N ≡ text_of ws ++ left-all.0
  text_is = text-of g left.formed ∙ left.text ∙ ap (λ (x : List ℕ). x ++ left-all.0) (sym (text-of-words ws fit))

  count-classes : class_count N ≡ class_count ws
  count-classes = number_of_classes g ∙ left.classes ∙ sym (lies-of ws fit).classes

  same_class : (d : ℕ) → IsClass N d → IsClass ws d
  same_class d h = let e = count-classes in let a = h.0 in let b = h.1 in (omega arith, omega arith)

  -- where a class's list lies: where it did, or after all that there was
  abbrev Lies : ℕ → ℕ → ℕ → ℕ → ℕ → Type 0
  Lies d first count old new =
      ((class_word N d first ≡ class_word ws d first) × (class_word N d count ≡ class_word ws d count))
      ⊎ ((d ≡ c) × (class_word N d first ≡ old) × (class_word N d first + class_word N d count ≡ new))

  lie : (first count old new : ℕ) → first < class_width → count < class_width → Lists first count old new → (d : ℕ) → IsClass ws d
      → Lies d first count old new
  lie first count old new a b l d h =
      by (eqb d c)
      (λ t.
      let e : d ≡ c = eqb-true d c t in
      ⊎_elim (λ q. inl (rw e (own first a q.0, own count b q.1)))
      (λ q.
      let x = class-at c first (one, in_set) a in
      let y = class-at c count (one, in_set) b in
      inr (e, rw e (x ∙ q.0), rw e (omega (arith, q.1))))
      l)
      (λ t. inl (other d first h a (eqb-false d c t), other d count h b (eqb-false d c t)))

  methods-lie : (d : ℕ) → IsClass ws d → Lies d first_method_word method_count_word (method_count ws) (method_count N)
  methods-lie d h =
      rw ((lies-of ws fit).methods, number_of_methods g)
      (lie first_method_word method_count_word (length s.methods) (length g.methods) (omega arith) (omega arith) method-list d h)

  fields_lie : (d : ℕ) → IsClass ws d → Lies d first_field_word field_count_word (field_count ws) (field_count N)
  fields_lie d h =
      rw ((lies-of ws fit).fields, number_of_fields g)
      (lie first_field_word field_count_word (length s.fields) (length g.fields) (omega arith) (omega arith) field-list d h)

  more-methods : method_count ws ≤ method_count N
  more-methods = omega (arith, number_of_methods g, left.more-methods, (lies-of ws fit).methods)

  more-fields : field_count ws ≤ field_count N
  more-fields = omega (arith, number_of_fields g, counts.more-fields, (lies-of ws fit).fields)

  count-interfaces : interface_count N ≡ interface_count ws
  count-interfaces = number_of_interfaces g ∙ ap length left.interfaces ∙ sym (lies-of ws fit).interfaces

  count-compilers : compiler_count N ≡ compiler_count ws
  count-compilers = number_of_compilers g ∙ ap length left.compilers ∙ sym (lies-of ws fit).compilers

  -- ---- rows 3 to 5

  module _ (d : ℕ) (h : IsClass ws d) where
    vd : ValidClass ws d
    vd = v.class d h

    words_of_instance : class_word N d instance_words_word ≤ 65535
    words_of_instance =
        by (eqb d c)
        (λ t. let e : d ≡ c = eqb-true d c t in rw e (omega (arith, class-at c instance_words_word (one, in_set) (omega arith), instance)))
        (λ t. omega (arith, other d instance_words_word h (omega arith) (eqb-false d c t), vd.words_of_instance))

    slots : (class_table_place N d ≡ 0 → ⊥) → class_slot_count N d ≤ 1024
    slots z =
        by (eqb d c)
        (λ t.
        let e : d ≡ c = eqb-true d c t in
        rw e (omega (arith, class-at c slot_count_word (one, in_set) (omega arith), left.slots, plan.slots)))
        (λ t.
        let a = other d table_place_word h (omega arith) (eqb-false d c t) in
        let b = other d slot_count_word h (omega arith) (eqb-false d c t) in
        rw b (vd.slots (λ q. z (a ∙ q))))

    methods-fit : class_first_method N d + class_method_count N d ≤ method_count N
    methods-fit =
        ⊎_elim (λ q. omega (arith, q.0, q.1, vd.methods, more-methods)) (λ q. omega (arith, q.2)) (methods-lie d h)

    fields_fit : class_first_field N d + class_field_count N d ≤ field_count N
    fields_fit = ⊎_elim (λ q. omega (arith, q.0, q.1, vd.fields, more-fields)) (λ q. omega (arith, q.2)) (fields_lie d h)

    class-valid : ValidClass N d
    class-valid = record {
      name = rw (early d name_start_word h (omega arith), early d name_length_word h (omega arith), text_is)
          (part-more (text_of ws) left-all.0 (class_word ws d name_start_word) (class_word ws d name_length_word) vd.name);
      parent_below = rw (early d parent_word h (omega arith)) vd.parent_below;
      flags = rw (early d flags_word h (omega arith)) vd.flags;
      kind = rw (early d kind_word h (omega arith)) vd.kind;
      link_state = rw (quiet d link_state_word h (omega arith) (omega arith) (omega arith)) vd.link_state;
      words_of_instance = words_of_instance;
      compiler_slots = rw (quiet d compiler_slots_word h (omega arith) (omega arith) (omega arith)) vd.compiler_slots;
      slots = slots;
      methods = methods-fit;
      fields = fields_fit;
      interfaces = rw (
        quiet d first_interface_word h (omega arith) (omega arith) (omega arith),
        quiet d interface_count_word h (omega arith) (omega arith) (omega arith),
        count-interfaces,
      ) vd.interfaces;
      no_compiler = rw (
        quiet d compiler_table_word h (omega arith) (omega arith) (omega arith),
        quiet d compiler_slots_word h (omega arith) (omega arith) (omega arith),
      ) vd.no_compiler;
      compiler = rw (
        quiet d compiler_table_word h (omega arith) (omega arith) (omega arith),
        quiet d compiler_slots_word h (omega arith) (omega arith) (omega arith),
        count-compilers,
      ) vd.compiler;
    }

    same_name : class_name N (text_of N) d ≡ class_name ws (text_of ws) d
    same_name =
        rw (early d name_start_word h (omega arith), early d name_length_word h (omega arith), text_is)
        (name-front (text_of ws) left-all.0 (class_word ws d name_start_word) (class_word ws d name_length_word) vd.name.inside)

  -- two classes share no member: a list that was moved lies after all that there was
  apart : (first count old new : ℕ) → ((d : ℕ) → IsClass ws d → Lies d first count old new)
      → ((d : ℕ) → IsClass ws d → class_word ws d first + class_word ws d count ≤ old)
      → ((a b m : ℕ) → IsClass ws a → IsClass ws b → class_word ws a first ≤ m → m < class_word ws a first + class_word ws a count
      → class_word ws b first ≤ m → m < class_word ws b first + class_word ws b count → a ≡ b)
      → (a b m : ℕ) → IsClass ws a → IsClass ws b → class_word N a first ≤ m → m < class_word N a first + class_word N a count
      → class_word N b first ≤ m → m < class_word N b first + class_word N b count → a ≡ b
  apart first count old new lies within was a b m ha hb l₁ h₁ l₂ h₂ =
      ⊎_elim
      (λ p.
      ⊎_elim
      (λ q.
      let p₀ = p.0 in
      let p₁ = p.1 in
      let q₀ = q.0 in
      let q₁ = q.1 in
      was a b m ha hb (omega arith) (omega arith) (omega arith) (omega arith))
      (λ q.
      let p₀ = p.0 in
      let p₁ = p.1 in
      let q₁ = q.1 in
      absurd (omega (arith, within a ha)))
      (lies b hb))
      (λ p.
      ⊎_elim
      (λ q.
      let q₀ = q.0 in
      let q₁ = q.1 in
      let p₁ = p.1 in
      absurd (omega (arith, within b hb)))
      (λ q. p.0 ∙ sym q.0)
      (lies b hb))
      (lies a ha)

  stands : Valid N
  stands = record {
    number_of_classes = omega (arith, count-classes, v.number_of_classes);
    number_of_methods = omega (arith, number_of_methods g, counts.methods);
    number_of_fields = omega (arith, number_of_fields g, counts.fields);
    number_of_interfaces = omega (arith, count-interfaces, v.number_of_interfaces);
    number_of_compilers = omega (arith, count-compilers, v.number_of_compilers);
    length_of_text = omega (arith, length_of_text g, counts.bytes);
    fits = omega (arith, length-laid g left.formed);
    class = λ d k. class-valid d (same_class d k);
    method = λ m h.
        let b : m < length g.methods = omega (arith, number_of_methods g) in
        rw (text-of g left.formed)
        (row_same ValidDescriptor MethodFlags (bytes_of g) (method_word N m) (row_word g.methods m)
        (λ k l. method-word g left.formed m k b (omega arith)) (rows-methods m b));
    field = λ f h.
        let b : f < length g.fields = omega (arith, number_of_fields g) in
        rw (text-of g left.formed)
        (row_same (λ flags z. FieldDerivation z) (λ x. x ≤ 65535) (bytes_of g) (field_word N f) (row_word g.fields f)
        (λ k l. field-word g left.formed f k b (omega arith)) (rows-fields f b));
    interface = λ i h.
        let b : i < interface_count ws = omega (arith, count-interfaces) in
        let e : interface_word N i ≡ interface_word ws i =
        interface-word g left.formed i (omega (arith, number_of_interfaces g)) ∙ ap (λ (l : List ℕ). get_or l i 0) left.interfaces
        ∙ sym (interface-of ws fit i b) in
        rw (e, count-classes) (v.interface i b);
    names = λ a b ka kb e.
        let ha = same_class a ka in
        let hb = same_class b kb in
        v.names a b ha hb (sym (same_name a ha) ∙ e ∙ same_name b hb);
    methods = λ a b m ka kb.
        apart first_method_word method_count_word (method_count ws) (method_count N) methods-lie (λ d h. (v.class d h).methods) v.methods a b m
        (same_class a ka) (same_class b kb);
    fields = λ a b m ka kb.
        apart first_field_word field_count_word (field_count ws) (field_count N) fields_lie (λ d h. (v.class d h).fields) v.fields a b m
        (same_class a ka) (same_class b kb);
  }

  pub plan-stands : set_refusal (linked_words ws c place words_new statics_new p) abi ≡ 0
  plan-stands =
      rw (linked-laid ws fit c place words_new statics_new p one in_set (omega (arith, plan.indices, vc.fields)) vc.methods vc.fields)
      (accepted N abi stands w)

-- the linker's is one
pub plan-is : (same : Same) (ws text abi labels area : List ℕ) (c : ℕ)
    → plan same ws text abi labels area c ≡ plan_with same ws text abi labels area (build_methods same ws text abi labels area c) c
unfolding plan plan_with plan_built built_table plan_generated generated_table
plan-is same ws text abi labels area c = refl

pub link-stands : (same : Same) (ws abi : List ℕ) (c : ℕ) (area stubs missing : List ℕ) (o : LinkOutcome) → Accepted same ws abi c area stubs missing o
    → set_refusal o.outcome.set abi ≡ 0
link-stands same ws abi c area stubs missing o a =
    rw a.new-set
    (plan-stands same ws abi c area a.valid a.class a.coming
    (plans_with same ws (text_of ws) abi (abi_text_of abi) area c (build_methods same ws (text_of ws) abi (abi_text_of abi) area c) a.coming
    (sym (plan-is same ws (text_of ws) abi (abi_text_of abi) area c) ∙ a.comes)) a.lists)

pub link_stays : (same : Same) (ws abi : List ℕ) (c : ℕ) (area stubs missing : List ℕ) → (link_by same ws abi c area stubs missing).outcome.refusal ≡ 0
    → set_refusal (link_by same ws abi c area stubs missing).outcome.set abi ≡ 0
link_stays same ws abi c area stubs missing e =
    elim (link-cases same ws abi c area stubs missing) [
      | inl r ↦ absurd (r.number e)
      | inr a ↦ link-stands same ws abi c area stubs missing (link_by same ws abi c area stubs missing) a
    ]
