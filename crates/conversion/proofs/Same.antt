-- Words laid out from sections that differ in static words alone, and in what follows the content: rows 4 and 5 judge them alike, their texts are the
-- same, and so are the sums of a
-- class's static field widths. Assumes nothing.
use Rattle.std.proofs.Common.{◌≡◌, refl, sym, ap, ◌∙◌, List, [], ◌∷◌, ℕ, ◌≤◌, ◌<◌, arith, length, get_or, ltb-true}
use Rattle.words.specs.Rows.{Rows, row_word}
use Rattle.text.specs.Text.{descriptor_start_word, descriptor_length_word}
use Rattle.class_sheet.specs.ClassSheet.{counts_width, class_width, member_width, static_words_word, first_field_word, field_count_word, count_at, field_count, text_of}
use Rattle.class_sheet.specs.Sections.{Sections, Formed, laid_out, with_classes, with_rest}
use Rattle.class_sheet.proofs.Sections as S
use Rattle.set_rules.specs.Valid.{IsClass, Valid}
use Rattle.set_rules.proofs.Alike.{Alike}
use Rattle.linking.specs.Chain.{own_fields}
use Rattle.linking.specs.Fields.{add_static, static_words}
use Rattle.statics.proofs.Calls.{fold-ext, own_below}
use Rattle.convert.proofs.Forms.{laid-front}

module _ (t : Sections) (x : List (List ℕ)) (y : List ℕ) (f : Formed class_width t) (r : Rows class_width x) (number : length x ≡ length t.classes)
    (words : (i k : ℕ) → i < length t.classes → k < static_words_word → row_word x i k ≡ row_word t.classes i k) where
  abbrev s : Sections
  s = with_rest (with_classes t x) y

  g : Formed class_width s
  g = record { classes = r; methods = f.methods; fields = f.fields; text = f.text }

  same-counts : S.counts_of s ≡ S.counts_of t
  same-counts =
      ap (λ (n : ℕ). n ∷ length t.methods ∷ length t.fields ∷ length t.interfaces ∷ length t.compilers ∷ t.bytes ∷ []) number

  pub sections-alike : Alike (laid_out s) (laid_out t)
  unfolding count_at
  sections-alike = record {
    counts = λ k h.
        let l = ltb-true k counts_width h in
        laid-front class_width s g k l ∙ ap (λ (y : List ℕ). get_or y k 0) same-counts ∙ sym (laid-front class_width t f k l);
    classes = λ c l h k i.
        let b = ltb-true k static_words_word i in
        let n : c ≤ length t.classes = omega (arith, S.number_of_classes t) in
        S.class-word s g c k l (omega (arith, number)) (omega arith) ∙ words _ k (omega arith) b ∙ sym (S.class-word t f c k l n (omega arith));
    methods = λ m h k i.
        let b = ltb-true k member_width i in
        let n : m < length t.methods = omega (arith, S.number_of_methods t) in S.method-word s g m k n b ∙ sym (S.method-word t f m k n b);
    fields = λ m h k i.
        let b = ltb-true k member_width i in
        let n : m < length t.fields = omega (arith, S.number_of_fields t) in S.field-word s g m k n b ∙ sym (S.field-word t f m k n b);
    interfaces = λ i h.
        let n : i < length t.interfaces = omega (arith, S.number_of_interfaces t) in S.interface-word s g i n ∙ sym (S.interface-word t f i n);
  }

  pub text_same : text_of (laid_out s) ≡ text_of (laid_out t)
  text_same = S.text-of s g ∙ sym (S.text-of t f)

-- ---- the sums

module _ (vs ws : List ℕ) (a : Alike vs ws) (valid : Valid ws) where
  own_same : (c : ℕ) → IsClass ws c → own_fields vs c ≡ own_fields ws c
  unfolding own_fields
  own_same c k = rw (a.classes c k.0 k.1 first_field_word refl, a.classes c k.0 k.1 field_count_word refl)

  add_same : (text : List ℕ) (n f : ℕ) → f < field_count ws → add_static vs text n f ≡ add_static ws text n f
  unfolding add_static
  add_same text n f h =
      rw (a.fields f h 4 refl, a.fields f h descriptor_start_word refl, a.fields f h descriptor_length_word refl)

  pub sum_same : (text : List ℕ) (c : ℕ) → IsClass ws c → static_words vs text c ≡ static_words ws text c
  unfolding static_words
  sum_same text c k =
      rw (own_same c k) (fold-ext (add_static vs text) (add_static ws text) (own_fields ws c) 0 (λ n f i. add_same text n f (own_below ws valid c f k i)))
