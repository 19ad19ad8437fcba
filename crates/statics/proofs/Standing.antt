-- Theorem 3 in the words that a link leaves: a built class's own fields stand in its list, each with the index that the numbering gave it, and fields that
-- the ABI adds, flags 0x0002, are not static. Assumes nothing.
use Rattle.std.proofs.Common.{◌≡◌, refl, sym, ap, ◌∙◌, subst, inl, inr, true, false, true≢false, List, [], ◌∷◌, ℕ, zero, suc, ◌+◌, ◌-◌, ◌≤◌, ◌<◌, arith, length, get_or, ltb, ltb-true, ltb-false, Option}
use Rattle.words.specs.Rows.{row_word}
use Rattle.words.proofs.Bools.{by}
use Rattle.text.specs.Text.{descriptor_start_word, descriptor_length_word}
use Rattle.class_sheet.specs.ClassSheet.{class_width, first_field_word, field_count_word, index_word, field_count, text_of, class_first_field, class_field_count, class_static_words, field_word, field_flags, field_index}
use Rattle.class_sheet.specs.Sections.{Sections, Formed, laid_out, sections_of, with_classes, with_fields}
use Rattle.class_sheet.proofs.Sections.{class-word, field-word, field_of}
use Rattle.descriptor.specs.Words.{width}
use Rattle.abi_sheet.specs.AbiSheet.{abi_text_of}
use Rattle.set_rules.specs.Valid.{Valid}
use Rattle.linking.specs.Signature.{Same, by_numbers}
use Rattle.linking.specs.Chain.{is_static, own_fields}
use Rattle.linking.specs.Abi.{class_abi}
use Rattle.linking.specs.Vtable.{Entry, Built, built, refused}
use Rattle.linking.specs.Fields.{field_width, number_fields, added_fields, too_many_words}
use Rattle.linking.specs.Compiler.{no_new, members}
use Rattle.linking.specs.Link.{Plan, planned, is_none, on_table, within_slots, new_fields_of, built_table, plan_built, plan, next_free, LinkOutcome}
use Rattle.linking.specs.Numbered.{NumberedOutcome, link_numbered}
use Rattle.linking.specs.Grown.{row_indices, fields_growing, record_rows, linked_sections}
use Rattle.linking.proofs.ChainLaws.{own-fields-length, own-field-at}
use Rattle.linking.proofs.Grown.{rows-indices, length-row-indices, index-other, index_at}
use Rattle.linking.proofs.FieldsBack.{copied-field, copied-index, new-field, own_first, own-count}
use Rattle.linking.proofs.LinkedSections.{lies-of, length_record, record_word_lem, formed-recorded}
use Rattle.linking.proofs.Plans.{planned-same, not-planned}
use Rattle.calls.proofs.Like.{alike}
use Rattle.calls.proofs.View.{name-same}
use Rattle.matching.proofs.Rows.{Accepted}
use Rattle.linking.specs.Numbered.{but_numbers}
use Rattle.matching.proofs.Numbered as by_number
use Rattle.statics.specs.Statics.{IsBuilt, Standing}
use Rattle.statics.proofs.Numbering.{ends, indices-length}
use Rattle.statics.proofs.Linked as one

-- ---- the plan of a built class

module _ (ws text abi labels area : List ℕ) (c : ℕ) (p : Plan) where
  abbrev own : Option ℕ
  own = class_abi ws text abi labels c

  -- what it gives and adds
  pub record BuiltPlan : Type 0 where
    pub indices : p.indices ≡ (number_fields ws text abi labels own c).indices
    pub no_methods : is_none (members p.added) ≡ true
    pub new-fields : p.new_fields ≡ new_fields_of abi labels (added_fields ws text abi labels own c)

  abbrev plan_of : List Entry → Plan
  plan_of T = record {
    table = T;
    indices = (number_fields ws text abi labels own c).indices;
    added = [];
    new_fields = new_fields_of abi labels (added_fields ws text abi labels own c);
  }

  within : (T : List Entry) → within_slots (plan_of T) ≡ planned p → BuiltPlan
  unfolding within_slots members
  within T e =
      by (ltb 1024 (length T)) (λ t. not-planned (rw t at e))
      (λ t.
      let q : plan_of T ≡ p = planned-same (rw t at e) in
      rw (← q) (record { indices = refl; no_methods = refl; new-fields = refl }))

  by-table : (b : Built) → on_table b (λ T. within_slots (plan_of T)) ≡ planned p → BuiltPlan
  by-table (built T) e = within T e
  by-table (refused n) e = not-planned e

  pub built-plan : (same : Same) → IsBuilt ws c → plan same ws text abi labels area c ≡ planned p → BuiltPlan
  unfolding plan plan_built
  built-plan same k e =
      let f : plan_built same ws text abi labels area c ≡ planned p = rw k at e in
      by (too_many_words ws text abi labels own c) (λ t. not-planned (rw t at f)) (λ t. by-table (built_table same ws text abi labels area c) (rw t at f))

-- ABI fields have flags 0x0002
new-flags : (abi labels gs : List ℕ) (j : ℕ) → j < length (new_fields_of abi labels gs) → (get_or (new_fields_of abi labels gs) j no_new).flags ≡ 2
unfolding new_fields_of
new-flags abi labels [] j h = absurd (omega arith)
new-flags abi labels (g ∷ gs) zero h = refl
new-flags abi labels (g ∷ gs) (suc j) h = new-flags abi labels gs j (omega arith)

-- ---- where the class's fields stand, in words laid out from what a link leaves

module _ (s : Sections) (f : Formed class_width s) (c place words statics : ℕ) (p : Plan) (some : 1 ≤ c) (among : c ≤ length s.classes)
    (inside : row_word s.classes (c - 1) first_field_word + row_word s.classes (c - 1) field_count_word ≤ length s.fields)
    (numbered : length p.indices ≡ row_word s.classes (c - 1) field_count_word) where
  abbrev first : ℕ
  first = row_word s.classes (c - 1) first_field_word

  abbrev count : ℕ
  count = row_word s.classes (c - 1) field_count_word

  abbrev rows : List (List ℕ)
  rows = record_rows s.classes c place (length p.table) words statics

  abbrev rec : Sections
  rec = with_classes s rows

  abbrev num : Sections
  num = with_fields rec (row_indices first p.indices s.fields)

  rec-formed : Formed class_width rec
  rec-formed = formed-recorded s f c place (length p.table) words statics some among

  num-formed : Formed class_width num
  num-formed = record {
    classes = rec-formed.classes;
    methods = f.methods;
    fields = rows-indices first p.indices f.fields;
    text = f.text;
  }

  among-rec : c ≤ length rows
  among-rec = omega (arith, among, length_record s.classes c place (length p.table) words statics)

  first-row : row_word rows (c - 1) first_field_word ≡ first
  first-row =
      record_word_lem s.classes c place (length p.table) words statics first_field_word (omega arith) (omega arith) (omega arith) (omega arith)

  count-row : row_word rows (c - 1) field_count_word ≡ count
  count-row =
      record_word_lem s.classes c place (length p.table) words statics field_count_word (omega arith) (omega arith) (omega arith) (omega arith)

  -- own fields keep their words but for the index, which is the plan's; others are the plan's new ones
  pub record Stand (new : List ℕ) : Type 0 where
    pub kept : (i k : ℕ) → i < count → k < index_word → field_word new (class_first_field new c + i) k ≡ row_word s.fields (first + i) k
    pub index : (i : ℕ) → i < count → field_index new (class_first_field new c + i) ≡ get_or p.indices i 0
    pub added : (j : ℕ) → count + j < class_field_count new c
        → (j < length p.new_fields) × (field_flags new (class_first_field new c + (count + j)) ≡ (get_or p.new_fields j no_new).flags)

  stand-num : is_none p.new_fields ≡ true → Stand (laid_out num)
  stand-num t =
      let e : class_first_field (laid_out num) c ≡ first = class-word num num-formed c first_field_word some among-rec (omega arith) ∙ first-row in
      let n : class_field_count (laid_out num) c ≡ count = class-word num num-formed c field_count_word some among-rec (omega arith) ∙ count-row in
      let l = length-row-indices first p.indices s.fields in
      record {
        kept = λ i k h g.
            rw e
            (field-word num num-formed (first + i) k (omega arith) (omega arith)
            ∙ index-other first p.indices s.fields (first + i) k (omega arith));
        index = λ i h.
            rw e
            (field-word num num-formed (first + i) index_word (omega arith) (omega arith)
            ∙ index_at first p.indices (first + i) i f.fields refl (omega arith) (omega arith));
        added = λ j h. absurd (omega arith);
      }

  inside-rec : row_word rec.classes (c - 1) first_field_word + row_word rec.classes (c - 1) field_count_word ≤ length rec.fields
  inside-rec = omega (arith, inside, first-row, count-row)

  abbrev grown : List ℕ
  grown = laid_out (fields_growing rec c p.indices p.new_fields)

  stand-grown : Stand grown
  stand-grown =
      let e : class_first_field grown c ≡ length s.fields = own_first rec rec-formed c p.indices p.new_fields inside-rec some among-rec in
      let n : class_field_count grown c ≡ row_word rows (c - 1) field_count_word + length p.new_fields =
      own-count rec rec-formed c p.indices p.new_fields inside-rec some among-rec in
      record {
        kept = λ i k h g.
            rw e
            (copied-field rec rec-formed c p.indices p.new_fields inside-rec k (omega arith) i (omega (arith, h, count-row)) (omega arith)
            ∙ rw first-row);
        index = λ i h.
            rw e
            (copied-index rec rec-formed c p.indices p.new_fields inside-rec i (omega (arith, h, count-row)) (omega (arith, h, numbered)));
        added = λ j h. (
          omega (arith, h, n, count-row),
          rw (e, ← count-row)
              (new-field rec rec-formed c p.indices p.new_fields inside-rec 4 (omega arith) j (omega (arith, h, n, count-row))),
        );
      }

  pub stand : is_none (members p.added) ≡ true → Stand (laid_out (linked_sections s c place words statics p))
  unfolding linked_sections
  stand m = by (is_none p.new_fields) (λ t. rw (t, m) (stand-num t)) (λ t. rw t stand-grown)

-- ---- an accepted link of a built class

module _ (same : Same) (ws abi : List ℕ) (c : ℕ) (area stubs missing : List ℕ) (o : LinkOutcome) (acc : Accepted same ws abi c area stubs missing o)
    (kind : IsBuilt ws c) where
  abbrev text : List ℕ
  text = text_of ws

  abbrev labels : List ℕ
  labels = abi_text_of abi

  ok : Valid ws
  ok = one.ok same ws abi c area stubs missing o acc

  comes : BuiltPlan ws text abi labels area c acc.coming
  comes = built-plan ws text abi labels area c acc.coming same kind acc.comes

  fields_in : class_first_field ws c + class_field_count ws c ≤ field_count ws
  fields_in = (ok.class c (acc.class.some, acc.class.among)).fields

  many : length (own_fields ws c) ≡ class_field_count ws c
  many = omega (arith, own-fields-length ws c, fields_in, ok.number_of_fields)

  first-is : class_first_field ws c ≡ row_word (sections_of ws).classes (c - 1) first_field_word
  first-is = one.own same ws abi c area stubs missing o acc first_field_word (omega arith)

  count_is : class_field_count ws c ≡ row_word (sections_of ws).classes (c - 1) field_count_word
  count_is = one.own same ws abi c area stubs missing o acc field_count_word (omega arith)

  inside : row_word (sections_of ws).classes (c - 1) first_field_word + row_word (sections_of ws).classes (c - 1) field_count_word
      ≤ length (sections_of ws).fields
  inside = omega (arith, fields_in, first-is, count_is, (lies-of ws ok.fits).fields)

  numbered : length acc.coming.indices ≡ row_word (sections_of ws).classes (c - 1) field_count_word
  numbered = ap length comes.indices ∙ indices-length ws text abi labels (class_abi ws text abi labels c) c ∙ many ∙ count_is

  abbrev Stands : List ℕ → Type 0
  Stands x =
      Stand (sections_of ws) (one.formed same ws abi c area stubs missing o acc) c (next_free area) (one.words same ws abi c area stubs missing o acc)
      (one.statics same ws abi c area stubs missing o acc) acc.coming acc.class.some (one.within same ws abi c area stubs missing o acc) inside numbered x

  stands : Stands o.outcome.set
  stands =
      subst Stands (sym (one.new-set same ws abi c area stubs missing o acc))
      (stand (sections_of ws) (one.formed same ws abi c area stubs missing o acc) c (next_free area) (one.words same ws abi c area stubs missing o acc)
      (one.statics same ws abi c area stubs missing o acc) acc.coming acc.class.some (one.within same ws abi c area stubs missing o acc) inside numbered comes.no_methods)

  -- where field i of the class's list now is, and where it was
  abbrev now : ℕ → ℕ
  now i = class_first_field o.outcome.set c + i

  abbrev was : ℕ → ℕ
  was i = class_first_field ws c + i

  word_same : (i k : ℕ) → i < class_field_count ws c → k < index_word → field_word o.outcome.set (now i) k ≡ field_word ws (was i) k
  word_same i k h g =
      stands.kept i k (omega (arith, h, count_is)) g
      ∙ ap (λ (n : ℕ). row_word (sections_of ws).fields (n + i) k) (sym first-is)
      ∙ sym (field_of ws ok.fits (was i) k (omega (arith, h, fields_in)) (omega arith))

  width_same : (i : ℕ) → i < class_field_count ws c → field_width o.outcome.set (text_of o.outcome.set) (now i) ≡ field_width ws text (was i)
  width_same i h =
      let q = (ok.field (was i) (omega (arith, h, fields_in))).descriptor.inside in
      rw (word_same i descriptor_start_word h (omega arith), word_same i descriptor_length_word h (omega arith))
      (ap width (name-same ws o.outcome.set ok (alike (one.leaves same ws abi c area stubs missing o acc).like) _ _ q))

  own-stands : (i : ℕ) → i < class_field_count ws c → is_static (field_flags o.outcome.set (now i)) ≡ true
      → field_index o.outcome.set (now i) + field_width o.outcome.set (text_of o.outcome.set) (now i) ≤ class_static_words o.outcome.set c
  own-stands i h s =
      let at : get_or (own_fields ws c) i 0 ≡ was i = own-field-at ws c i (omega (arith, h, many)) in
      let static : is_static (field_flags ws (get_or (own_fields ws c) i 0)) ≡ true = rw (at, ← word_same i 4 h (omega arith)) s in
      let e = rw at at (ends ws text abi labels (class_abi ws text abi labels c) c i (omega (arith, h, many)) static) in
      omega (
        arith,
        e,
        width_same i h,
        stands.index i (omega (arith, h, count_is)) ∙ ap (λ (l : List ℕ). get_or l i 0) comes.indices,
        (one.left same ws abi c area stubs missing o acc).built kind,
      )

  -- flags 0x0002
  added-not : (i : ℕ) → class_field_count ws c ≤ i → i < class_field_count o.outcome.set c → is_static (field_flags o.outcome.set (now i)) ≡ false
  added-not i l h =
      let j : ℕ = i - class_field_count ws c in
      let n : row_word (sections_of ws).classes (c - 1) field_count_word + j ≡ i = omega (arith, l, count_is) in
      let a = stands.added j (rw n h) in
      let m : j < length (new_fields_of abi labels (added_fields ws text abi labels (class_abi ws text abi labels c) c)) =
      rw (← comes.new-fields) a.0 in
      rw (rw n at a.1, comes.new-fields, new-flags abi labels _ j m)

  pub standing : Standing o.outcome.set c
  standing i h s =
      by (ltb i (class_field_count ws c)) (λ t. own-stands i (ltb-true i (class_field_count ws c) t) s)
      (λ q. absurd (true≢false (sym s ∙ added-not i (ltb-false i (class_field_count ws c) q) h)))

module _ (ws abi numbers : List ℕ) (c : ℕ) (area stubs missing : List ℕ) where
  abbrev done : NumberedOutcome
  done = link_numbered ws abi numbers c area stubs missing

  pub link-stand : done.outcome.refusal ≡ 0 → IsBuilt ws c → Standing done.outcome.set c
  link-stand e k =
      elim (by_number.ends ws abi numbers c area stubs missing) [
        | inl r ↦ absurd (r.number e)
        | inr a ↦ standing (by_numbers numbers) ws abi c area stubs missing (but_numbers done) a.accepted k
      ]
