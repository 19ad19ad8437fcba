-- Theorem 1, and what a link leaves of the field records that were there: flags and descriptors. By the sections that a link lays out. Assumes nothing.
use Rattle.std.proofs.Common.{◌≡◌, sym, ap, ◌∙◌, subst, ◌≢◌, inl, inr, List, [], ◌++◌, ℕ, ◌+◌, ◌-◌, ◌≤◌, ◌<◌, arith, length, get_or, length-append}
use mathlib.Core.Bool.{false≢true}
use lib.ListN.{get_or-append}
use Rattle.words.specs.Rows.{row_word}
use Rattle.words.proofs.Bools.{by}
use Rattle.words.specs.Words.{AreBytes}
use Rattle.class_sheet.specs.ClassSheet.{class_width, kind_word, first_method_word, method_count_word, first_field_word, field_count_word, static_words_word, index_word, class_count, method_count, field_count, text_length, text_words, text_of, class_word, class_kind, is_built_kind, class_first_method, class_method_count, class_first_field, class_field_count, class_static_words, field_word}
use Rattle.class_sheet.specs.Sections.{Sections, Formed, laid_out, sections_of}
use Rattle.class_sheet.proofs.Sections.{number_of_fields, class-word, field-word, formed-of, class_of, field_of}
use Rattle.abi_sheet.specs.AbiSheet.{abi_text_length, abi_text_words, abi_text_of}
use Rattle.set_rules.specs.Valid.{Valid}
use Rattle.set_rules.proofs.Valid.{valid}
use Rattle.linking.specs.Signature.{Same, by_numbers}
use Rattle.linking.specs.Compiler.{members}
use Rattle.linking.specs.Fields.{static_words}
use Rattle.linking.specs.Set.{new_text}
use Rattle.linking.specs.Link.{Plan, is_none, next_free, new_words, new_statics, LinkOutcome}
use Rattle.linking.specs.Numbered.{NumberedOutcome, link_numbered}
use Rattle.linking.specs.Grown.{methods_growing, fields_growing, record_rows, linked_sections}
use Rattle.linking.proofs.Grown.{length-row-indices, index-other}
use Rattle.linking.proofs.Appended.{word_kept}
use Rattle.linking.proofs.Plans.{Plans, plans}
use Rattle.linking.proofs.LinkedSections.{record_brought, record_statics, lies-of, linked-laid}
use Rattle.linking.proofs.LinkedBack.{linked-left}
use Rattle.linking.proofs.Packed.{text-bytes}
use Rattle.linking.proofs.LinkedBack as back
use Rattle.calls.proofs.Linked.{Leaves, link_leaves}
use Rattle.matching.proofs.Rows.{Accepted}
use Rattle.linking.specs.Numbered.{but_numbers}
use Rattle.matching.proofs.Numbered as by_number
use Rattle.statics.specs.Statics.{IsBuilt, Left}

more_rows : (a b : List (List ℕ)) → length a ≤ length (a ++ b)
more_rows a b = omega (arith, length-append a b)

-- ---- on the sections

module _ (s : Sections) (f : Formed class_width s) (c place words statics : ℕ) (p : Plan) (some : 1 ≤ c) (among : c ≤ length s.classes) where
  abbrev g : Sections
  g = linked_sections s c place words statics p

  abbrev rows : List (List ℕ)
  rows = record_rows s.classes c place (length p.table) words statics

  -- a list that grows is not said by the static words
  record_left : row_word g.classes (c - 1) static_words_word ≡ row_word rows (c - 1) static_words_word
  unfolding linked_sections methods_growing fields_growing
  record_left =
      by (is_none p.new_fields)
      (λ t.
      by (is_none (members p.added)) (λ u. rw (t, u))
      (λ u. rw (t, u) (word_kept rows c first_method_word method_count_word _ _ static_words_word (omega arith) (omega arith))))
      (λ t. rw t (word_kept rows c first_field_word field_count_word _ _ static_words_word (omega arith) (omega arith)))

  own-statics : row_word s.classes (c - 1) kind_word ≢ 1 → row_word g.classes (c - 1) static_words_word ≡ statics
  own-statics n =
      record_left
      ∙ record_statics s.classes c place (length p.table) words statics f.classes (omega arith) (omega arith) (omega arith) (omega arith) n

  own_brought : row_word s.classes (c - 1) kind_word ≡ 1 → row_word g.classes (c - 1) static_words_word ≡ row_word s.classes (c - 1) static_words_word
  own_brought e = record_left ∙ record_brought s.classes c place (length p.table) words statics e

  fields-more : length s.fields ≤ length g.fields
  unfolding linked_sections methods_growing fields_growing
  fields-more =
      let first : ℕ = row_word s.classes (c - 1) first_field_word in
      let e = length-row-indices first p.indices s.fields in
      by (is_none p.new_fields)
      (λ t. by (is_none (members p.added)) (λ u. rw (t, u) (omega arith)) (λ u. rw (t, u) (omega arith)))
      (λ t. rw t (more_rows s.fields _))

  -- the records that were there, but for their indices
  field-left : (i k : ℕ) → i < length s.fields → k ≢ index_word → row_word g.fields i k ≡ row_word s.fields i k
  unfolding linked_sections methods_growing fields_growing
  field-left i k h n =
      let first : ℕ = row_word s.classes (c - 1) first_field_word in
      let e = index-other first p.indices s.fields i k n in
      by (is_none p.new_fields)
      (λ t. by (is_none (members p.added)) (λ u. rw (t, u) e) (λ u. rw (t, u) e))
      (λ t. rw t (ap (λ (r : List ℕ). get_or r k 0) (get_or-append s.fields _ [] i h)))

-- ---- on the words of an accepted link

module _ (same : Same) (ws abi : List ℕ) (c : ℕ) (area stubs missing : List ℕ) (o : LinkOutcome) (acc : Accepted same ws abi c area stubs missing o) where
  abbrev p : Plan
  p = acc.coming

  abbrev pub words : ℕ
  words = new_words ws (text_of ws) abi (abi_text_of abi) c

  abbrev pub statics : ℕ
  statics = new_statics ws (text_of ws) c

  abbrev s : Sections
  s = sections_of ws

  abbrev left-sections : Sections
  left-sections = linked_sections s c (next_free area) words statics p

  some : 1 ≤ c
  some = acc.class.some

  among : c ≤ class_count ws
  among = acc.class.among

  pub ok : Valid ws
  ok = (valid ws abi acc.valid).0

  planning : Plans same ws (text_of ws) abi (abi_text_of abi) area c p
  planning = plans same ws (text_of ws) abi (abi_text_of abi) area c p acc.comes

  method-bytes : AreBytes (new_text (members p.added))
  method-bytes = planning.method-bytes (text-bytes (text_words ws) (text_length ws)) (text-bytes (abi_text_words abi) (abi_text_length abi))

  field-bytes : AreBytes (new_text p.new_fields)
  field-bytes = planning.field-bytes (text-bytes (text_words ws) (text_length ws)) (text-bytes (abi_text_words abi) (abi_text_length abi))

  methods_in_lem : class_first_method ws c + class_method_count ws c ≤ method_count ws
  methods_in_lem = (ok.class c (some, among)).methods

  fields_in : class_first_field ws c + class_field_count ws c ≤ field_count ws
  fields_in = (ok.class c (some, among)).fields

  indices_in : class_first_field ws c + length p.indices ≤ field_count ws
  indices_in = omega (arith, planning.indices, fields_in)

  pub leaves : Leaves ws o.outcome.set c (next_free area) (length p.table)
  leaves =
      subst (λ (x : List ℕ). Leaves ws x c (next_free area) (length p.table)) (sym acc.new-set)
      (link_leaves ws c (next_free area) words statics p some among ok.fits methods_in_lem fields_in indices_in planning.generated method-bytes field-bytes)

  pub new-set : o.outcome.set ≡ laid_out left-sections
  new-set = acc.new-set ∙ linked-laid ws ok.fits c (next_free area) words statics p some among indices_in methods_in_lem fields_in

  pub own : (k : ℕ) → k < class_width → class_word ws c k ≡ row_word s.classes (c - 1) k
  own k h = class_of ws ok.fits c k some among h

  pub within : c ≤ length s.classes
  within = omega (arith, among, (lies-of ws ok.fits).classes)

  pub formed : Formed class_width s
  formed = formed-of ws ok.fits

  laid : (more : List ℕ) × back.Left s left-sections c (next_free area) (length p.table) more
  laid =
      linked-left s formed c (next_free area) words statics p some within
      (omega (arith, methods_in_lem, own first_method_word (omega arith), own method_count_word (omega arith), (lies-of ws ok.fits).methods))
      (omega (arith, fields_in, own first_field_word (omega arith), own field_count_word (omega arith), (lies-of ws ok.fits).fields)) method-bytes field-bytes

  statics-word : class_static_words o.outcome.set c ≡ row_word left-sections.classes (c - 1) static_words_word
  statics-word =
      ap (λ (x : List ℕ). class_static_words x c) new-set
      ∙ class-word left-sections laid.1.formed c static_words_word some (omega (arith, within, laid.1.classes)) (omega arith)

  kind_row : class_kind ws c ≡ row_word s.classes (c - 1) kind_word
  kind_row = own kind_word (omega arith)

  new-statics : class_kind ws c ≢ 1 → class_static_words o.outcome.set c ≡ new_statics ws (text_of ws) c
  new-statics n = statics-word ∙ own-statics s formed c (next_free area) words statics p some within (λ e. n (kind_row ∙ e))

  not-one : IsBuilt ws c → class_kind ws c ≢ 1
  unfolding is_built_kind
  not-one e f = false≢true (rw f at e)

  built-sum : IsBuilt ws c → new_statics ws (text_of ws) c ≡ static_words ws (text_of ws) c
  unfolding new_statics
  built-sum e = rw e

  pub left : Left ws o.outcome.set c
  unfolding new_statics is_built_kind
  left = record {
    built = λ e. new-statics (not-one e) ∙ built-sum e;
    array = λ e. new-statics (λ f. omega arith) ∙ rw e;
    generated = λ e.
        statics-word ∙ own_brought s formed c (next_free area) words statics p some within (sym kind_row ∙ e) ∙ sym (own static_words_word (omega arith));
    others = λ d k n. leaves.others d static_words_word k.0 k.1 (omega arith) n;
  }

  pub more-fields : field_count ws ≤ field_count o.outcome.set
  more-fields =
      omega (
        arith,
        ap field_count new-set,
        number_of_fields left-sections,
        fields-more s formed c (next_free area) words statics p some within,
        (lies-of ws ok.fits).fields,
      )

  pub field-kept : (i k : ℕ) → i < field_count ws → k < index_word → field_word o.outcome.set i k ≡ field_word ws i k
  field-kept i k h l =
      let m : i < length s.fields = omega (arith, (lies-of ws ok.fits).fields) in
      ap (λ (x : List ℕ). field_word x i k) new-set
      ∙ field-word left-sections laid.1.formed i k (omega (arith, fields-more s formed c (next_free area) words statics p some within)) (omega arith)
      ∙ field-left s formed c (next_free area) words statics p some within i k m (omega arith)
      ∙ sym (field_of ws ok.fits i k h (omega arith))

-- ---- a link, by its answer

module _ (ws abi numbers : List ℕ) (c : ℕ) (area stubs missing : List ℕ) where
  abbrev done : NumberedOutcome
  done = link_numbered ws abi numbers c area stubs missing

  pub linked : done.outcome.refusal ≡ 0 → Left ws done.outcome.set c
  linked e =
      elim (by_number.ends ws abi numbers c area stubs missing) [
        | inl r ↦ absurd (r.number e)
        | inr a ↦ left (by_numbers numbers) ws abi c area stubs missing (but_numbers done) a.accepted
      ]

  pub refused : done.outcome.refusal ≢ 0 → done.outcome.set ≡ ws
  refused n = elim (by_number.ends ws abi numbers c area stubs missing) [ inl r ↦ r.same_set | inr a ↦ absurd (n a.accepted.number) ]
