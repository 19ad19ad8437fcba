-- Rows 4 and 5 of two lists of class words that say the same: the same counts, class records, members and interface words. Assumes nothing.
use mathlib.Core.Path.{◌≡◌, refl}
use mathlib.Core.Bool.{true}
use mathlib.Core.List.{List}
use Prim.Native.Nat.{ℕ, ◌+◌, ◌-◌, ◌≤◌, ◌<◌}
use native.Mathlib.Omega.{arith}
use lib.Dec.{ltb}
use Rattle.words.proofs.FoldLaws.{all-ext}
use Rattle.class_sheet.specs.ClassSheet.{counts_width, static_words_word, member_width, class_count_number, method_count_number, field_count_number, interface_count_number, count_at, class_word, method_word, field_word, interface_word, class_count, method_count, field_count, interface_count}
use Rattle.class_rules.specs.ClassRules.{class_limits, own_numbers, class_numbers, class_lists, class_record, method_record, field_record, interface_names, class_records}
use Rattle.apart.specs.Apart.{methods_apart, fields_apart, classes_apart, apart_before}
use Rattle.set_rules.specs.SetRules.{method_typed, field_typed, class_descriptors, class_refusal}

-- of a class record the words before the static words: no row looks at those
pub record Alike (vs ws : List ℕ) : Type 0 where
  pub counts : (k : ℕ) → ltb k counts_width ≡ true → count_at vs k ≡ count_at ws k
  pub classes : (c : ℕ) → 1 ≤ c → c ≤ class_count ws → (k : ℕ) → ltb k static_words_word ≡ true → class_word vs c k ≡ class_word ws c k
  pub methods : (m : ℕ) → m < method_count ws → (k : ℕ) → ltb k member_width ≡ true → method_word vs m k ≡ method_word ws m k
  pub fields : (f : ℕ) → f < field_count ws → (k : ℕ) → ltb k member_width ≡ true → field_word vs f k ≡ field_word ws f k
  pub interfaces : (i : ℕ) → i < interface_count ws → interface_word vs i ≡ interface_word ws i

module _ (vs ws : List ℕ) (a : Alike vs ws) where
  pub limits-alike : class_limits vs ≡ class_limits ws
  unfolding class_limits
  limits-alike = search a.counts

  module _ (text : List ℕ) where
    class-alike : (c : ℕ) → 1 ≤ c → c ≤ class_count ws → class_record vs text c ≡ class_record ws text c
    unfolding class_record own_numbers class_numbers class_lists
    class-alike c l h = search (a.classes c l h, a.counts)

    method-alike : (m : ℕ) → m < method_count ws → method_record vs text m ≡ method_record ws text m
    unfolding method_record
    method-alike m h = search (a.methods m h)

    field_alike : (f : ℕ) → f < field_count ws → field_record vs text f ≡ field_record ws text f
    unfolding field_record
    field_alike f h = search (a.fields f h)

    interface-alike : (i : ℕ) → i < interface_count ws → interface_names vs i ≡ interface_names ws i
    unfolding interface_names
    interface-alike i h = search (a.interfaces i h, a.counts)

    pair-alike : (c d : ℕ) → 1 ≤ c → c ≤ class_count ws → 1 ≤ d → d ≤ class_count ws → classes_apart vs text c d ≡ classes_apart ws text c d
    unfolding classes_apart methods_apart fields_apart
    pair-alike c d l h l' h' = search (a.classes c l h, a.classes d l' h')

    before-alike : (d : ℕ) → 1 ≤ d → d ≤ class_count ws → apart_before vs text d ≡ apart_before ws text d
    unfolding apart_before
    before-alike d l h = all-ext (d - 1) _ _ (λ i k. pair-alike (i + 1) d (omega arith) (omega arith) l h)

    pub records-alike : class_records vs text ≡ class_records ws text
    unfolding class_records
    records-alike =
        rw (
          a.counts class_count_number refl,
          a.counts method_count_number refl,
          a.counts field_count_number refl,
          a.counts interface_count_number refl,
          all-ext (class_count ws) (λ i. class_record vs text (i + 1)) (λ i. class_record ws text (i + 1))
              (λ i k. class-alike (i + 1) (omega arith) (omega arith)),
          all-ext (method_count ws) (method_record vs text) (method_record ws text) method-alike,
          all-ext (field_count ws) (field_record vs text) (field_record ws text) field_alike,
          all-ext (interface_count ws) (interface_names vs) (interface_names ws) interface-alike,
          all-ext (class_count ws) (λ i. apart_before vs text (i + 1)) (λ i. apart_before ws text (i + 1))
              (λ i k. before-alike (i + 1) (omega arith) (omega arith)),
        )

    method_typed_alike : (m : ℕ) → m < method_count ws → method_typed vs text m ≡ method_typed ws text m
    unfolding method_typed
    method_typed_alike m h = search (a.methods m h)

    field_typed_alike : (f : ℕ) → f < field_count ws → field_typed vs text f ≡ field_typed ws text f
    unfolding field_typed
    field_typed_alike f h = search (a.fields f h)

    pub descriptors-alike : class_descriptors vs text ≡ class_descriptors ws text
    unfolding class_descriptors
    descriptors-alike =
        rw (
          a.counts method_count_number refl,
          a.counts field_count_number refl,
          all-ext (method_count ws) (method_typed vs text) (method_typed ws text) method_typed_alike,
          all-ext (field_count ws) (field_typed vs text) (field_typed ws text) field_typed_alike,
        )

    pub refusal-alike : class_refusal vs text ≡ class_refusal ws text
    unfolding class_refusal
    refusal-alike = rw (records-alike, descriptors-alike)
