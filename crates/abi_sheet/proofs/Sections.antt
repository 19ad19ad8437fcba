-- Laws of an ABI sheet's sections as data: words are what their sections lay out, sections are those of what they lay out, and every named
-- word is a word of a section's list. Assumes nothing.
use mathlib.Core.Path.{◌≡◌, refl, sym, ap, ◌∙◌}
use mathlib.Core.List.{List, [], ◌∷◌, ◌++◌, append_assoc}
use Prim.Native.Nat.{ℕ, ◌+◌, ◌*◌, ◌/◌, ◌%◌, ◌≤◌, ◌<◌}
use native.Mathlib.Omega.{arith}
use lib.ListN.{length, get_or, take, drop, length-append, length-drop, take-append-drop, get_or-append}
use lib.Seq.{take_at, drop_at, length-take-le}
use Rattle.words.specs.Words.{byte_of, words_for}
use Rattle.words.specs.Rows.{joined, row_word}
use Rattle.words.proofs.FoldLaws.{table-ext}
use Rattle.words.proofs.Lists.{skip}
use Rattle.words.proofs.Rows.{length-joined, joined_word, length_cut, rows_cut, joined-cut, cut-joined}
use Rattle.text.specs.Text.{text_byte, text_of_words}
use Rattle.abi_sheet.specs.AbiSheet.{abi_counts_width, abi_class_width, abi_member_width, abi_count_at, abi_class_count, abi_slot_count, abi_field_count, abi_text_length, abi_slots_at, abi_fields_at, abi_text_at, abi_content_end, abi_class_word, abi_slot_word, abi_field_word, abi_text_words, abi_text_of}
use Rattle.abi_sheet.specs.Sections.{AbiSections, AbiFormed, abi_laid_out, abi_sections_of, abi_with_rest}

-- ---- sections of what they lay out

pub sections-laid : (s : AbiSections) → AbiFormed s → abi_sections_of (abi_laid_out s) ≡ s
unfolding abi_sections_of abi_laid_out abi_count_at
sections-laid s f =
    let l₃ : List ℕ = s.text ++ s.rest in
    let l₂ : List ℕ = joined s.fields ++ l₃ in
    let l₁ : List ℕ = joined s.slots ++ l₂ in
    rw (
      cut-joined f.classes l₁,
      drop_at (joined s.classes) l₁ (abi_class_width * length s.classes) (length-joined f.classes),
      cut-joined f.slots l₂,
      drop_at (joined s.slots) l₂ (abi_member_width * length s.slots) (length-joined f.slots),
      cut-joined f.fields l₃,
      drop_at (joined s.fields) l₃ (abi_member_width * length s.fields) (length-joined f.fields),
      take_at s.text s.rest (words_for s.bytes) f.text,
      drop_at s.text s.rest (words_for s.bytes) f.text,
    )

-- ---- words laid out from their sections

-- four words and what follows them
four : (abi : List ℕ) → abi_counts_width ≤ length abi
    → get_or abi 0 0 ∷ get_or abi 1 0 ∷ get_or abi 2 0 ∷ get_or abi 3 0 ∷ drop abi_counts_width abi ≡ abi
four [] h = absurd (omega arith)
four (a ∷ []) h = absurd (omega arith)
four (a ∷ b ∷ []) h = absurd (omega arith)
four (a ∷ b ∷ c ∷ []) h = absurd (omega arith)
four (a ∷ b ∷ c ∷ d ∷ abi) h = refl

module _ (abi : List ℕ) (fits : abi_content_end abi ≤ length abi) where
  abbrev d₀ : List ℕ
  d₀ = drop abi_counts_width abi

  abbrev d₁ : List ℕ
  d₁ = drop (abi_class_width * abi_class_count abi) d₀

  abbrev d₂ : List ℕ
  d₂ = drop (abi_member_width * abi_slot_count abi) d₁

  abbrev d₃ : List ℕ
  d₃ = drop (abi_member_width * abi_field_count abi) d₂

  -- what is left holds what is still to be cut
  record Holds : Type 0 where
    pub counts : abi_counts_width ≤ length abi
    pub classes : abi_class_width * abi_class_count abi ≤ length d₀
    pub slots : abi_member_width * abi_slot_count abi ≤ length d₁
    pub fields : abi_member_width * abi_field_count abi ≤ length d₂
    pub text : words_for (abi_text_length abi) ≤ length d₃

  left : Holds
  unfolding abi_content_end abi_text_at abi_fields_at abi_slots_at
  left =
      let e₀ = length-drop abi_counts_width abi in
      let e₁ = length-drop (abi_class_width * abi_class_count abi) d₀ in
      let e₂ = length-drop (abi_member_width * abi_slot_count abi) d₁ in
      let e₃ = length-drop (abi_member_width * abi_field_count abi) d₂ in
      record { counts = omega arith; classes = omega arith; slots = omega arith; fields = omega arith; text = omega arith }

  pub formed : AbiFormed (abi_sections_of abi)
  unfolding abi_sections_of
  formed = record {
    classes = rows_cut abi_class_width (abi_class_count abi) d₀ left.classes;
    slots = rows_cut abi_member_width (abi_slot_count abi) d₁ left.slots;
    fields = rows_cut abi_member_width (abi_field_count abi) d₂ left.fields;
    text = length-take-le (words_for (abi_text_length abi)) d₃ left.text;
  }

  pub laid-sections : abi_laid_out (abi_sections_of abi) ≡ abi
  unfolding abi_sections_of abi_laid_out abi_count_at
  laid-sections =
      rw (
        length_cut abi_class_width (abi_class_count abi) d₀,
        length_cut abi_member_width (abi_slot_count abi) d₁,
        length_cut abi_member_width (abi_field_count abi) d₂,
        joined-cut abi_class_width (abi_class_count abi) d₀,
        joined-cut abi_member_width (abi_slot_count abi) d₁,
        joined-cut abi_member_width (abi_field_count abi) d₂,
        take-append-drop (words_for (abi_text_length abi)) d₃,
        take-append-drop (abi_member_width * abi_field_count abi) d₂,
        take-append-drop (abi_member_width * abi_slot_count abi) d₁,
        take-append-drop (abi_class_width * abi_class_count abi) d₀,
      )
      (four abi left.counts)

-- ---- what stands before each section, and from it on

abbrev pub counts_of : AbiSections → List ℕ
counts_of s = length s.classes ∷ length s.slots ∷ length s.fields ∷ s.bytes ∷ []

abbrev pub to_slots : AbiSections → List ℕ
to_slots s = counts_of s ++ joined s.classes

abbrev pub to_fields : AbiSections → List ℕ
to_fields s = to_slots s ++ joined s.slots

abbrev pub to_text : AbiSections → List ℕ
to_text s = to_fields s ++ joined s.fields

abbrev pub to_rest : AbiSections → List ℕ
to_rest s = to_text s ++ s.text

abbrev pub from_text : AbiSections → List ℕ
from_text s = s.text ++ s.rest

abbrev pub from_fields : AbiSections → List ℕ
from_fields s = joined s.fields ++ from_text s

abbrev pub from_slots : AbiSections → List ℕ
from_slots s = joined s.slots ++ from_fields s

abbrev pub from_classes : AbiSections → List ℕ
from_classes s = joined s.classes ++ from_slots s

module _ (s : AbiSections) where
  pub at-classes : abi_laid_out s ≡ counts_of s ++ from_classes s
  unfolding abi_laid_out
  at-classes = refl

  pub at_slots : abi_laid_out s ≡ to_slots s ++ from_slots s
  at_slots = at-classes ∙ sym (append_assoc (counts_of s) (joined s.classes) (from_slots s))

  pub at_fields : abi_laid_out s ≡ to_fields s ++ from_fields s
  at_fields = at_slots ∙ sym (append_assoc (to_slots s) (joined s.slots) (from_fields s))

  pub at-text : abi_laid_out s ≡ to_text s ++ from_text s
  at-text = at_fields ∙ sym (append_assoc (to_fields s) (joined s.fields) (from_text s))

  pub at_rest : abi_laid_out s ≡ to_rest s ++ s.rest
  at_rest = at-text ∙ sym (append_assoc (to_text s) s.text s.rest)

  -- ---- the counts

  pub number_of_classes : abi_class_count (abi_laid_out s) ≡ length s.classes
  unfolding abi_laid_out abi_count_at
  number_of_classes = refl

  pub slot_count : abi_slot_count (abi_laid_out s) ≡ length s.slots
  unfolding abi_laid_out abi_count_at
  slot_count = refl

  pub number_of_fields : abi_field_count (abi_laid_out s) ≡ length s.fields
  unfolding abi_laid_out abi_count_at
  number_of_fields = refl

  pub length_of_text : abi_text_length (abi_laid_out s) ≡ s.bytes
  unfolding abi_laid_out abi_count_at
  length_of_text = refl

  pub end-at : abi_content_end (abi_laid_out s)
      ≡ abi_counts_width + abi_class_width * length s.classes + abi_member_width * length s.slots + abi_member_width * length s.fields
      + words_for s.bytes
  unfolding abi_content_end abi_text_at abi_fields_at abi_slots_at
  end-at = rw (number_of_classes, slot_count, number_of_fields, length_of_text)

  -- ---- where the sections begin, and what they hold

  module _ (f : AbiFormed s) where
    pub slots-start : length (to_slots s) ≡ abi_slots_at (abi_laid_out s)
    unfolding abi_slots_at
    slots-start = omega (arith, length-append (counts_of s) (joined s.classes), length-joined f.classes, number_of_classes)

    pub fields-start : length (to_fields s) ≡ abi_fields_at (abi_laid_out s)
    unfolding abi_fields_at
    fields-start = omega (arith, length-append (to_slots s) (joined s.slots), length-joined f.slots, slot_count, slots-start)

    pub text-start : length (to_text s) ≡ abi_text_at (abi_laid_out s)
    unfolding abi_text_at
    text-start = omega (arith, length-append (to_fields s) (joined s.fields), length-joined f.fields, number_of_fields, fields-start)

    pub rest-start : length (to_rest s) ≡ abi_content_end (abi_laid_out s)
    unfolding abi_content_end
    rest-start = omega (arith, length-append (to_text s) s.text, f.text, length_of_text, text-start)

    pub class-word : (a k : ℕ) → a < length s.classes → k < abi_class_width → abi_class_word (abi_laid_out s) a k ≡ row_word s.classes a k
    unfolding abi_class_word
    class-word a k h g =
        rw at-classes
        (skip (counts_of s) (from_classes s) (abi_counts_width + abi_class_width * a + k) (abi_class_width * a + k) 0 (omega arith)
        ∙ joined_word a k f.classes (from_slots s) h g)

    pub slot-word : (m k : ℕ) → m < length s.slots → k < abi_member_width → abi_slot_word (abi_laid_out s) m k ≡ row_word s.slots m k
    unfolding abi_slot_word
    slot-word m k h g =
        ap (λ (l : List ℕ). get_or l (abi_slots_at (abi_laid_out s) + abi_member_width * m + k) 0) at_slots
        ∙ skip (to_slots s) (from_slots s) (abi_slots_at (abi_laid_out s) + abi_member_width * m + k) (abi_member_width * m + k) 0
        (omega (arith, slots-start))
        ∙ joined_word m k f.slots (from_fields s) h g

    pub field-word : (i k : ℕ) → i < length s.fields → k < abi_member_width → abi_field_word (abi_laid_out s) i k ≡ row_word s.fields i k
    unfolding abi_field_word
    field-word i k h g =
        ap (λ (l : List ℕ). get_or l (abi_fields_at (abi_laid_out s) + abi_member_width * i + k) 0) at_fields
        ∙ skip (to_fields s) (from_fields s) (abi_fields_at (abi_laid_out s) + abi_member_width * i + k) (abi_member_width * i + k) 0
        (omega (arith, fields-start))
        ∙ joined_word i k f.fields (from_text s) h g

    pub text-words : abi_text_words (abi_laid_out s) ≡ from_text s
    text-words =
        ap (λ (l : List ℕ). drop (abi_text_at (abi_laid_out s)) l) at-text
        ∙ drop_at (to_text s) (from_text s) (abi_text_at (abi_laid_out s)) text-start

    byte-here : (k : ℕ) → k < s.bytes → text_byte (from_text s) k ≡ text_byte s.text k
    unfolding text_byte
    byte-here k h = ap (λ (x : ℕ). byte_of x (k % 4)) (get_or-append s.text s.rest 0 (k / 4) (omega (arith, f.text)))

    pub text-of : abi_text_of (abi_laid_out s) ≡ text_of_words s.text s.bytes
    unfolding text_of_words
    text-of = rw (text-words, length_of_text) (table-ext s.bytes _ _ byte-here)

    -- ---- the content, and what follows it

    pub content-is : take (abi_content_end (abi_laid_out s)) (abi_laid_out s) ≡ to_rest s
    content-is =
        ap (λ (l : List ℕ). take (abi_content_end (abi_laid_out s)) l) at_rest
        ∙ take_at (to_rest s) s.rest (abi_content_end (abi_laid_out s)) rest-start

    pub rest-is : drop (abi_content_end (abi_laid_out s)) (abi_laid_out s) ≡ s.rest
    rest-is =
        ap (λ (l : List ℕ). drop (abi_content_end (abi_laid_out s)) l) at_rest
        ∙ drop_at (to_rest s) s.rest (abi_content_end (abi_laid_out s)) rest-start

    pub length-laid : length (abi_laid_out s) ≡ abi_content_end (abi_laid_out s) + length s.rest
    length-laid = ap length at_rest ∙ omega (arith, rest-start, length-append (to_rest s) s.rest)

pub laid_more : (s : AbiSections) (more : List ℕ) → abi_laid_out s ++ more ≡ abi_laid_out (abi_with_rest s (s.rest ++ more))
laid_more s more = rw (at_rest s) (append_assoc (to_rest s) s.rest more ∙ sym (at_rest (abi_with_rest s (s.rest ++ more))))

-- ---- the named words of words that hold their content, by their sections

module _ (abi : List ℕ) (fits : abi_content_end abi ≤ length abi) where
  abbrev s : AbiSections
  s = abi_sections_of abi

  f : AbiFormed s
  f = formed abi fits

  laid : abi_laid_out s ≡ abi
  laid = laid-sections abi fits

  pub class_of : (a k : ℕ) → a < abi_class_count abi → k < abi_class_width → abi_class_word abi a k ≡ row_word s.classes a k
  class_of a k h g =
      ap (λ (x : List ℕ). abi_class_word x a k) (sym laid) ∙ class-word s f a k (omega (arith, number_of_classes s, ap abi_class_count laid)) g

  pub slot_of : (m k : ℕ) → m < abi_slot_count abi → k < abi_member_width → abi_slot_word abi m k ≡ row_word s.slots m k
  slot_of m k h g =
      ap (λ (x : List ℕ). abi_slot_word x m k) (sym laid) ∙ slot-word s f m k (omega (arith, slot_count s, ap abi_slot_count laid)) g

  pub field_of : (i k : ℕ) → i < abi_field_count abi → k < abi_member_width → abi_field_word abi i k ≡ row_word s.fields i k
  field_of i k h g =
      ap (λ (x : List ℕ). abi_field_word x i k) (sym laid) ∙ field-word s f i k (omega (arith, number_of_fields s, ap abi_field_count laid)) g

  pub text-of-words : abi_text_of abi ≡ text_of_words s.text s.bytes
  text-of-words = ap abi_text_of (sym laid) ∙ text-of s f

  -- what follows the content is all that more words change
  pub sections-more : (more : List ℕ) → abi_sections_of (abi ++ more) ≡ abi_with_rest s (s.rest ++ more)
  sections-more more =
      ap (λ (x : List ℕ). abi_sections_of (x ++ more)) (sym laid)
      ∙ ap abi_sections_of (laid_more s more)
      ∙ sections-laid (abi_with_rest s (s.rest ++ more))
      (record { classes = f.classes; slots = f.slots; fields = f.fields; text = f.text })

-- ---- what follows the content does not matter: words and longer words are laid out from sections that differ in their rest alone, and no named
-- word is in the rest

module _ (abi more : List ℕ) (fits : abi_content_end abi ≤ length abi) where
  abbrev here : AbiSections
  here = abi_sections_of abi

  abbrev longer : AbiSections
  longer = abi_with_rest here (here.rest ++ more)

  e : AbiFormed here
  e = formed abi fits

  g : AbiFormed longer
  g = record { classes = e.classes; slots = e.slots; fields = e.fields; text = e.text }

  -- what is read alike from both is read alike from words and longer words
  kept {ℓ} : {A : Type ℓ} (read : List ℕ → A) → read (abi_laid_out longer) ≡ read (abi_laid_out here) → read (abi ++ more) ≡ read abi
  kept read p =
      ap (λ (x : List ℕ). read (x ++ more)) (sym (laid-sections abi fits))
      ∙ ap read (laid_more here more)
      ∙ p
      ∙ ap read (laid-sections abi fits)

  -- as many as the words say
  as_many : (read : List ℕ → ℕ) {n i : ℕ} → read (abi_laid_out here) ≡ n → i ≤ read abi → i ≤ n
  as_many read p h = omega (arith, ap read (laid-sections abi fits))

  pub count_kept : (k : ℕ) → k < abi_counts_width → abi_count_at (abi ++ more) k ≡ abi_count_at abi k
  unfolding abi_count_at
  count_kept k h =
      kept (λ (x : List ℕ). abi_count_at x k)
      (rw (at-classes longer, at-classes here)
      (get_or-append (counts_of here) (from_classes longer) 0 k h ∙ sym (get_or-append (counts_of here) (from_classes here) 0 k h)))

  pub end_kept : abi_content_end (abi ++ more) ≡ abi_content_end abi
  end_kept = kept abi_content_end (end-at longer ∙ sym (end-at here))

  pub class-kept : (a k : ℕ) → a < abi_class_count abi → k < abi_class_width → abi_class_word (abi ++ more) a k ≡ abi_class_word abi a k
  class-kept a k h i =
      let n = as_many abi_class_count (number_of_classes here) h in
      kept (λ (x : List ℕ). abi_class_word x a k) (class-word longer g a k n i ∙ sym (class-word here e a k n i))

  pub slot_kept : (m k : ℕ) → m < abi_slot_count abi → k < abi_member_width → abi_slot_word (abi ++ more) m k ≡ abi_slot_word abi m k
  slot_kept m k h i =
      let n = as_many abi_slot_count (slot_count here) h in
      kept (λ (x : List ℕ). abi_slot_word x m k) (slot-word longer g m k n i ∙ sym (slot-word here e m k n i))

  pub field-kept : (m k : ℕ) → m < abi_field_count abi → k < abi_member_width → abi_field_word (abi ++ more) m k ≡ abi_field_word abi m k
  field-kept m k h i =
      let n = as_many abi_field_count (number_of_fields here) h in
      kept (λ (x : List ℕ). abi_field_word x m k) (field-word longer g m k n i ∙ sym (field-word here e m k n i))

  pub text-kept : abi_text_of (abi ++ more) ≡ abi_text_of abi
  text-kept = kept abi_text_of (text-of longer g ∙ sym (text-of here e))
