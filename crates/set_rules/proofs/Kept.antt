-- Rows 3 to 5 of a link do not look at what follows the content: a set in a longer slice is judged as the set alone. Assumes nothing.
use mathlib.Core.Path.{◌≡◌, refl, ap}
use mathlib.Core.Bool.{Bool, true, ◌&&◌}
use mathlib.Core.List.{List, ◌++◌}
use Prim.Native.Nat.{ℕ, ◌≤◌, ◌<◌}
use native.Mathlib.Omega.{arith}
use lib.ListN.{length, length-append}
use lib.Dec.{leb, ltb}
use borrow.Author.Tests.{le-leb, ltb-true}
use Rattle.words.proofs.FoldLaws.{all-ext}
use Rattle.words.proofs.Bools.{and_both}
use Rattle.class_sheet.specs.ClassSheet.{counts_width, static_words_word, member_width, content_end, text_of}
use Rattle.abi_sheet.specs.AbiSheet.{abi_counts_width, abi_class_width, abi_member_width, abi_class_count_number, abi_slot_count_number, abi_field_count_number, abi_count_at, abi_class_word, abi_slot_word, abi_field_word, abi_class_count, abi_slot_count, abi_field_count, abi_content_end, abi_text_of}
use Rattle.class_sheet.proofs.Sections as C
use Rattle.abi_sheet.proofs.Sections as A
use Rattle.class_rules.specs.ClassRules.{class_limits, class_fits, class_records}
use Rattle.abi_rules.specs.AbiRules.{abi_limits, abi_fits, abi_class_record, abi_slot_record, abi_field_record, abi_records}
use Rattle.class_rules.proofs.Laws as class
use Rattle.abi_rules.proofs.Laws as abiLaws
use Rattle.set_rules.specs.SetRules.{class_descriptors, abi_slot_typed, abi_field_typed, abi_descriptors, set_fits, records_refusal, set_refusal}
use Rattle.set_rules.proofs.Alike.{Alike, limits-alike, records-alike, descriptors-alike}

module _ (ws rest : List ℕ) (fits : class_fits ws ≡ true) where
  end : content_end ws ≤ length ws
  end = (class.fits ws fits).1

  kept-alike : Alike (ws ++ rest) ws
  kept-alike = record {
    counts = λ k h. C.count_kept ws rest end k (ltb-true k counts_width h);
    classes = λ c l h k i. let n = ltb-true k static_words_word i in C.class-kept ws rest end c k l h (omega arith);
    methods = λ m h k i. C.method-kept ws rest end m k h (ltb-true k member_width i);
    fields = λ f h k i. C.field-kept ws rest end f k h (ltb-true k member_width i);
    interfaces = C.interface-kept ws rest end;
  }

  pub class-fits-kept : class_fits (ws ++ rest) ≡ true
  unfolding class_fits
  class-fits-kept =
      let n : content_end ws ≤ length (ws ++ rest) = omega (arith, length-append ws rest, end) in
      rw (limits-alike (ws ++ rest) ws kept-alike, C.end_kept ws rest end, le-leb (content_end ws) (length (ws ++ rest)) n)
      (ap (λ (b : Bool). b && true) (and_both (class_limits ws) (leb (content_end ws) (length ws)) fits).0)

  pub class-records-kept : (text : List ℕ) → class_records (ws ++ rest) text ≡ class_records ws text
  class-records-kept = records-alike (ws ++ rest) ws kept-alike

  pub class-descriptors-kept : (text : List ℕ) → class_descriptors (ws ++ rest) text ≡ class_descriptors ws text
  class-descriptors-kept = descriptors-alike (ws ++ rest) ws kept-alike

module _ (abi rest : List ℕ) (fits : abi_fits abi ≡ true) where
  end-abi : abi_content_end abi ≤ length abi
  end-abi = (abiLaws.fits abi fits).1

  abi-counts : (k : ℕ) → ltb k abi_counts_width ≡ true → abi_count_at (abi ++ rest) k ≡ abi_count_at abi k
  abi-counts k h = A.count_kept abi rest end-abi k (ltb-true k abi_counts_width h)

  abi-class-words : (a : ℕ) → a < abi_class_count abi → (k : ℕ) → ltb k abi_class_width ≡ true → abi_class_word (abi ++ rest) a k ≡ abi_class_word abi a k
  abi-class-words a h k i = A.class-kept abi rest end-abi a k h (ltb-true k abi_class_width i)

  slot-words : (s : ℕ) → s < abi_slot_count abi → (k : ℕ) → ltb k abi_member_width ≡ true → abi_slot_word (abi ++ rest) s k ≡ abi_slot_word abi s k
  slot-words s h k i = A.slot_kept abi rest end-abi s k h (ltb-true k abi_member_width i)

  abi-field-words : (f : ℕ) → f < abi_field_count abi → (k : ℕ) → ltb k abi_member_width ≡ true → abi_field_word (abi ++ rest) f k ≡ abi_field_word abi f k
  abi-field-words f h k i = A.field-kept abi rest end-abi f k h (ltb-true k abi_member_width i)

  pub abi-fits-kept : abi_fits (abi ++ rest) ≡ true
  unfolding abi_fits abi_limits
  abi-fits-kept =
      let n : abi_content_end abi ≤ length (abi ++ rest) = omega (arith, length-append abi rest, end-abi) in
      let same : abi_limits (abi ++ rest) ≡ abi_limits abi = search abi-counts in
      rw (same, A.end_kept abi rest end-abi, le-leb (abi_content_end abi) (length (abi ++ rest)) n)
      (ap (λ (b : Bool). b && true) (and_both (abi_limits abi) (leb (abi_content_end abi) (length abi)) fits).0)

  module _ (text : List ℕ) where
    abi-class-kept : (a : ℕ) → a < abi_class_count abi → abi_class_record (abi ++ rest) text a ≡ abi_class_record abi text a
    unfolding abi_class_record
    abi-class-kept a h = search (abi-class-words a h, abi-counts)

    abi-slot-kept : (s : ℕ) → s < abi_slot_count abi → abi_slot_record (abi ++ rest) text s ≡ abi_slot_record abi text s
    unfolding abi_slot_record
    abi-slot-kept s h = search (slot-words s h)

    abi-field-kept : (f : ℕ) → f < abi_field_count abi → abi_field_record (abi ++ rest) text f ≡ abi_field_record abi text f
    unfolding abi_field_record
    abi-field-kept f h = search (abi-field-words f h)

    pub abi-records-kept : abi_records (abi ++ rest) text ≡ abi_records abi text
    unfolding abi_records
    abi-records-kept =
        rw (
          abi-counts abi_class_count_number refl,
          abi-counts abi_slot_count_number refl,
          abi-counts abi_field_count_number refl,
          all-ext (abi_class_count abi) (abi_class_record (abi ++ rest) text) (abi_class_record abi text) abi-class-kept,
          all-ext (abi_slot_count abi) (abi_slot_record (abi ++ rest) text) (abi_slot_record abi text) abi-slot-kept,
          all-ext (abi_field_count abi) (abi_field_record (abi ++ rest) text) (abi_field_record abi text) abi-field-kept,
        )

    abi_slot_typed_kept : (s : ℕ) → s < abi_slot_count abi → abi_slot_typed (abi ++ rest) text s ≡ abi_slot_typed abi text s
    unfolding abi_slot_typed
    abi_slot_typed_kept s h = search (slot-words s h)

    abi_field_typed_kept : (f : ℕ) → f < abi_field_count abi → abi_field_typed (abi ++ rest) text f ≡ abi_field_typed abi text f
    unfolding abi_field_typed
    abi_field_typed_kept f h = search (abi-field-words f h)

    pub abi-descriptors-kept : abi_descriptors (abi ++ rest) text ≡ abi_descriptors abi text
    unfolding abi_descriptors
    abi-descriptors-kept =
        rw (
          abi-counts abi_slot_count_number refl,
          abi-counts abi_field_count_number refl,
          all-ext (abi_slot_count abi) (abi_slot_typed (abi ++ rest) text) (abi_slot_typed abi text) abi_slot_typed_kept,
          all-ext (abi_field_count abi) (abi_field_typed (abi ++ rest) text) (abi_field_typed abi text) abi_field_typed_kept,
        )

-- a set and an ABI sheet that rows 3 to 5 accept are accepted in longer slices too
pub accepted-longer : (ws abi rest rest' : List ℕ) → class_fits ws ≡ true → abi_fits abi ≡ true → class_records ws (text_of ws) ≡ true
    → abi_records abi (abi_text_of abi) ≡ true → class_descriptors ws (text_of ws) ≡ true → abi_descriptors abi (abi_text_of abi) ≡ true
    → set_refusal (ws ++ rest) (abi ++ rest') ≡ 0
unfolding set_refusal set_fits records_refusal
accepted-longer ws abi rest rest' f g r s d e =
    rw (
      C.text-kept ws rest (end ws rest f),
      A.text-kept abi rest' (end-abi abi rest' g),
      class-fits-kept ws rest f,
      abi-fits-kept abi rest' g,
      class-records-kept ws rest f (text_of ws),
      abi-records-kept abi rest' g (abi_text_of abi),
      class-descriptors-kept ws rest f (text_of ws),
      abi-descriptors-kept abi rest' g (abi_text_of abi),
      r,
      s,
      d,
      e,
    )
