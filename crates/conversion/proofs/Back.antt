-- Back, then forward: the blocks of the old content are read as that content and zeros; the sums are the static words that 23 and row 3 let pass, so
-- that the new content is the one that was narrowed. Assumes nothing.
use Rattle.std.proofs.Common.{◌≡◌, refl, sym, ap, ◌∙◌, true, false, not, List, [], ◌∷◌, ◌++◌, ℕ, suc, ◌+◌, ◌*◌, ◌-◌, ◌/◌, ◌%◌, ◌^◌, ◌≤◌, ◌<◌, arith, length, get_or, take, drop, replicate, take_at, take-suc, take_all, eqb, ltb, eqb-true, le-leb, le-ltb, ltb-true, ltb-false}
use lib.ListN.{get_or-eq_default}
use borrow.Author.Tests.{eqb-false, not-false}
use Rattle.words.specs.Rows.{Rows, no_rows, a_row, row_word}
use Rattle.words.proofs.Bools.{by, and_both, and_4, passed}
use Rattle.words.proofs.FoldLaws.{all-each, all-if}
use Rattle.words.specs.Words.{AreWords, AreBytes}
use Rattle.block.specs.Block.{block_count, sheet_words, least_fit, blocks_for, sheet_bytes}
use Rattle.block.proofs.Laws.{blocks-least}
use Rattle.text.specs.Text.{text_byte, zero_rest}
use Rattle.class_sheet.specs.ClassSheet as layout
use Rattle.class_sheet.specs.ClassSheet.{counts_width, class_width, static_words_word, kind_word, table_place_word, slot_count_word, class_count_number, method_count_number, field_count_number, interface_count_number, compiler_count_number, text_length_number, block_limit, count_at, class_count, text_length, text_at, content_end, class_kind, class_static_words, text_of}
use Rattle.class_sheet.specs.Sections.{Sections, Formed, laid_out, sections_by, sections_of, end_by, with_classes, with_rest}
use Rattle.class_sheet.proofs.Sections as S
use Rattle.class_sheet.proofs.Laws.{content-within}
use Rattle.class_rules.specs.ClassRules.{class_limits, class_fits, unlinked, statics_clean, fresh, all_fresh, class_form, class_records}
use Rattle.class_rules.proofs.CountLaws.{limits_same, end_same}
use Rattle.class_rules.proofs.Laws as class
use Rattle.set_rules.specs.SetRules.{class_refusal, class_descriptors}
use Rattle.set_rules.specs.Valid.{IsClass, Valid}
use Rattle.set_rules.proofs.Valid.{valid-class}
use Rattle.set_rules.proofs.Alike.{Alike, limits-alike, refusal-alike}
use Rattle.sheet.specs.Sheet.{block_refusal, class_rows, class_sheet_refusal}
use Rattle.linking.specs.Fields.{static_words}
use Rattle.writer.proofs.RoundTrip.{text-inside}
use Rattle.writer.proofs.Blocks.{sheet-passed, padded, length-padded, blocks-words, blocks-rows, words_small, whole, again-blocks, again}
use Rattle.writer.proofs.Zeros.{past-byte, zero-each, zero-all, padded-at}
use Rattle.convert.specs.Convert.{old_width, old_end, old_text_at, widen, narrow, widened, judged, old_fits, old_form, old_rows, old_sheet_refusal, forward_statics, keeps_statics, drops_statics, blocks_or_row, room_refusal, forward, widen_refusal, widen_sheet, narrowed_sections, narrowed, new_sheet_refusal}
use Rattle.convert.specs.Steps.{narrowed_word}
use Rattle.convert.proofs.Judging.{old-end, old-text}
use Rattle.convert.proofs.Forms.{rows-widen, length-widen, widen-word, rows-narrow, length-narrow, narrow-word, new_sections, content-formed, content-words, content-classes, content-length, narrowed-formed, narrowed-length, narrowed-front, narrowed-after, narrowed_at}
use Rattle.convert.proofs.Calls.{form-end}
use Rattle.conversion.proofs.Same.{sections-alike, text_same, sum_same}

last_word : (r : List ℕ) → length r ≡ class_width → take old_width r ++ (get_or r old_width 0 ∷ []) ≡ r
last_word r e = sym (take-suc r old_width 0 (omega arith)) ∙ take_all (suc old_width) r (omega arith)

-- records without their last word, with that word again
widen-narrow : (f : ℕ → ℕ) (c : ℕ) {rs : List (List ℕ)} → Rows class_width rs → ((i : ℕ) → i < length rs → f (c + i) ≡ row_word rs i old_width)
    → widen f c (narrow rs) ≡ rs
unfolding widen narrow
widen-narrow f c no_rows h = refl
widen-narrow f c (a_row {r = r} {rs = rs} e p) h =
    let z : c + 0 ≡ c = omega arith in
    let last : f c ≡ get_or r old_width 0 = rw z at (h 0 (omega arith)) in
    let one : take old_width r ++ (f c ∷ []) ≡ r = rw last (last_word r e) in
    rw (one, widen-narrow f (c + 1) p (λ i l. let y : c + suc i ≡ c + 1 + i = omega arith in rw y at (h (suc i) (omega arith))))

-- ---- a set's content, whatever follows it

module _ (ws : List ℕ) (fits : content_end ws ≤ length ws) where
  abbrev pub C : List ℕ
  C = laid_out (new_sections ws fits)

  pub whole-alike : Alike ws C
  whole-alike =
      rw (content-words ws fits) at
      (rw (sym (S.laid_more (new_sections ws fits) (sections_of ws).rest)) at
      (sections-alike (new_sections ws fits) (sections_of ws).classes (sections_of ws).rest (content-formed ws fits) (content-formed ws fits).classes refl
      (λ i k h g. refl)))

  pub whole-text : text_of ws ≡ text_of C
  whole-text =
      rw (content-words ws fits) at
      (rw (sym (S.laid_more (new_sections ws fits) (sections_of ws).rest)) at
      (text_same (new_sections ws fits) (sections_of ws).classes (sections_of ws).rest (content-formed ws fits) (content-formed ws fits).classes refl
      (λ i k h g. refl)))

  pub content-taken : take (content_end ws) ws ≡ C
  content-taken =
      ap (λ (x : List ℕ). take (content_end ws) x) (sym (content-words ws fits))
      ∙ take_at C (sections_of ws).rest (content_end ws) (content-length ws fits)

pub old-some : (ws : List ℕ) → 6 ≤ old_end ws
unfolding end_by
old-some ws = omega arith

-- ---- words that a reading accepts, and the old form of their content with zeros after it

module _ (ws : List ℕ) (accepted : class_rows ws ≡ 0) where
  split : (class_form ws ≡ true) × (class_refusal ws (text_of ws) ≡ 0)
  unfolding class_rows
  split = let p = passed (not (class_form ws)) 3 _ (omega arith) accepted in (not-false _ p.0, p.1)

  pub four : (class_limits ws ≡ true) × (least_fit (content_end ws) (length ws) ≡ true) × (zero_rest ws (4 * text_at ws + text_length ws) ≡ true)
      × (all_fresh ws ≡ true)
  unfolding class_form
  four = and_4 (class_limits ws) (least_fit (content_end ws) (length ws)) (zero_rest ws (4 * text_at ws + text_length ws)) (all_fresh ws) split.0

  pub fits : content_end ws ≤ length ws
  fits = form-end ws split.0

  abbrev K : List ℕ
  K = C ws fits

  K-count : class_count K ≡ class_count ws
  K-count = sym ((whole-alike ws fits).counts class_count_number refl)

  pub K-rows : class_refusal K (text_of K) ≡ 0
  K-rows = sym (refusal-alike ws K (whole-alike ws fits) (text_of K)) ∙ rw (whole-text ws fits) at split.1

  K-fits : class_fits K ≡ true
  unfolding class_fits
  K-fits =
      let e : content_end K ≤ length K =
      omega (arith, S.length-laid (new_sections ws fits) (content-formed ws fits)) in
      rw (sym (limits-alike ws K (whole-alike ws fits)) ∙ four.0, le-leb (content_end K) (length K) e)

  pub K-valid : Valid K
  unfolding class_refusal
  K-valid =
      let p = passed (not (class_records K (text_of K))) 4 _ (omega arith) K-rows in
      let q = passed (not (class_descriptors K (text_of K))) 5 0 (omega arith) p.1 in
      valid-class K K-fits (not-false _ p.0) (not-false _ q.0)

  abbrev N : List ℕ
  N = narrowed ws

  -- the old content with any words after it
  module _ (y : List ℕ) where
    abbrev Q : List ℕ
    Q = N ++ y

    abbrev Qs : Sections
    Qs = with_rest (narrowed_sections ws) y

    Q-formed : Formed old_width Qs
    Q-formed = record {
      classes = (narrowed-formed ws fits).classes;
      methods = (narrowed-formed ws fits).methods;
      fields = (narrowed-formed ws fits).fields;
      text = (narrowed-formed ws fits).text;
    }

    Q-laid : Q ≡ laid_out Qs
    unfolding narrowed
    Q-laid = S.laid_more (narrowed_sections ws) y

    Q-sections : sections_by old_width Q ≡ Qs
    Q-sections = ap (λ (x : List ℕ). sections_by old_width x) Q-laid ∙ S.sections-laid old_width Qs Q-formed

    -- made wider with f's words
    abbrev rows : (ℕ → ℕ) → List (List ℕ)
    rows f = widen f 1 (narrow (sections_of ws).classes)

    wider : (f : ℕ → ℕ) → widened Q f ≡ laid_out (with_classes (new_sections ws fits) (rows f))
    unfolding widened
    wider f = rw Q-sections

    rows-number : (f : ℕ → ℕ) → length (rows f) ≡ length (sections_of ws).classes
    rows-number f = length-widen f 1 (narrow (sections_of ws).classes) ∙ length-narrow (sections_of ws).classes

    rows-formed : (f : ℕ → ℕ) → Rows class_width (rows f)
    rows-formed f = rows-widen f 1 (rows-narrow (content-formed ws fits).classes)

    rows_words : (f : ℕ → ℕ) (i k : ℕ) → i < length (sections_of ws).classes → k < static_words_word
        → row_word (rows f) i k ≡ row_word (sections_of ws).classes i k
    rows_words f i k h g = widen-word f 1 (rows-narrow (content-formed ws fits).classes) i k g ∙ narrow-word (sections_of ws).classes i k g

    pub judged-alike : Alike (judged Q) K
    judged-alike =
        rw (wider (λ c. 0))
        (sections-alike (new_sections ws fits) (rows (λ c. 0)) [] (content-formed ws fits) (rows-formed (λ c. 0)) (rows-number (λ c. 0)) (rows_words (λ c. 0)))

    pub judged-text : text_of (judged Q) ≡ text_of K
    judged-text =
        rw (wider (λ c. 0))
        (text_same (new_sections ws fits) (rows (λ c. 0)) [] (content-formed ws fits) (rows-formed (λ c. 0)) (rows-number (λ c. 0)) (rows_words (λ c. 0)))

    -- ---- the sums are the words that were there

    module _ (keeps : drops_statics ws ≡ false) where
      abbrev F : ℕ → ℕ
      F = forward_statics (judged Q) (text_of (judged Q))

      kept-statics : (c : ℕ) → 1 ≤ c → c ≤ class_count ws → F c ≡ class_static_words ws c
      unfolding forward_statics drops_statics keeps_statics
      kept-statics c l h =
          let k : IsClass K c = (l, omega (arith, K-count)) in
          let now : class_kind (judged Q) c ≡ class_kind K c = judged-alike.classes c k.0 k.1 kind_word refl in
          let then : class_kind ws c ≡ class_kind K c = (whole-alike ws fits).classes c k.0 k.1 kind_word refl in
          let z : c - 1 + 1 ≡ c = omega arith in
          by (eqb (class_kind K c) 1)
          (λ t.
          let sum : static_words (judged Q) (text_of (judged Q)) c ≡ static_words ws (text_of ws) c =
          rw (judged-text, whole-text ws fits)
          (sum_same (judged Q) K judged-alike K-valid (text_of K) c k ∙ sym (sum_same ws K (whole-alike ws fits) K-valid (text_of K) c k)) in
          let each = rw z at (all-each (class_count ws) (λ i. keeps_statics ws (text_of ws) (i + 1)) (not-false _ keeps) (c - 1) (omega arith)) in
          let same : eqb (class_static_words ws c) (static_words ws (text_of ws) c) ≡ true = rw (then, t) at each in
          rw (now, t) (sum ∙ sym (eqb-true _ _ same)))
          (λ t.
          let each = rw z at (all-each (class_count ws) (λ i. fresh ws (i + 1)) four.3 (c - 1) (omega arith)) in
          let kind = (K-valid.class c k).kind in
          let n = eqb-false (class_kind K c) 1 t in
          rw (now, t) (sym ((class.fresh-says ws c each).2 (omega (arith, then)) (omega (arith, then)))))

      pub forward-content : forward Q ≡ K
      unfolding forward
      forward-content =
          wider F
          ∙ ap (λ (x : List (List ℕ)). laid_out (with_classes (new_sections ws fits) x))
          (widen-narrow F 1 (content-formed ws fits).classes
          (λ i h.
          let n = content-classes ws fits in
          let z : 1 + i - 1 ≡ i = omega arith in
          kept-statics (1 + i) (omega arith) (omega arith)
          ∙ rw z at (S.class_of ws fits (1 + i) static_words_word (omega arith) (omega arith) (omega arith))))

  -- ---- with zeros after it: the words of its blocks

  abbrev zeros : List ℕ
  zeros = replicate (127 * blocks_for (length N) - length N) 0

  abbrev O : List ℕ
  O = padded N

  O-at : (i : ℕ) → get_or O i 0 ≡ get_or N i 0
  O-at i = padded-at N (127 * blocks_for (length N) - length N) i

  O-count : (k : ℕ) → k < counts_width → count_at O k ≡ count_at ws k
  unfolding count_at
  O-count k h = O-at k ∙ narrowed-front ws fits k h

  O-end : old_end O ≡ old_end ws
  O-end = end_same O ws O-count old_width

  O-limits : class_limits O ≡ true
  O-limits = limits_same O ws O-count ∙ four.0

  pub narrowed-small : AreWords ws → AreWords N
  unfolding narrowed_word
  narrowed-small small j =
      by (ltb j (old_end ws))
      (λ t. rw (narrowed_at ws fits j (ltb-true _ _ t)) (word_small j))
      (λ t.
      let past : length N ≤ j = omega (arith, narrowed-length ws fits, ltb-false j (old_end ws) t) in
      rw (get_or-eq_default N 0 past) (omega arith))
    where
      word_small : (j : ℕ) → narrowed_word ws j < 2 ^ 32
      word_small j =
          by (ltb j counts_width)
          (λ p. rw p (small j))
          (λ p.
          by (ltb j (counts_width + old_width * class_count ws))
          (λ q. rw (p, q) (small (counts_width + class_width * ((j - counts_width) / old_width) + (j - counts_width) % old_width)))
          (λ q. rw (p, q) (small (j + class_count ws))))

  O-least : AreWords ws → least_fit (old_end O) (length O) ≡ true
  O-least small =
      rw (O-end, length-padded N (narrowed-small small), narrowed-length ws fits) (blocks-least (old_end ws))

  -- a byte after the text stands four a class before that of the new words
  old-before : counts_width + old_width * class_count ws ≤ old_text_at ws
  unfolding end_by
  old-before = omega arith

  byte-before : (b : ℕ) → 4 * old_text_at ws ≤ b → b / 4 < old_end ws → text_byte O b ≡ text_byte ws (b + 4 * class_count ws)
  unfolding text_byte
  byte-before b h inside =
      let n : ℕ = class_count ws in
      let at : ℕ = counts_width + old_width * n in
      let here : at ≤ b / 4 = omega (arith, old-before) in
      let z : at + (b / 4 - at) ≡ b / 4 = omega arith in
      let y : counts_width + class_width * n + (b / 4 - at) ≡ (b + 4 * n) / 4 = omega arith in
      let m : b % 4 ≡ (b + 4 * n) % 4 = omega arith in
      let w : get_or O (b / 4) 0 ≡ get_or ws ((b + 4 * n) / 4) 0 = O-at (b / 4) ∙ rw (z, y) at (narrowed-after ws fits (b / 4 - at) (omega arith)) in
      rw (w, m)

  past-before : (b : ℕ) → old_end ws ≤ b / 4 → text_byte O b ≡ 0
  unfolding text_byte
  past-before b out =
      rw (O-at (b / 4)) (past-byte N b (omega (arith, narrowed-length ws fits)))

  zero-before : (b : ℕ) → 4 * old_text_at O + text_length O ≤ b → text_byte O b ≡ 0
  zero-before b h =
      let t : old_text_at O ≡ old_text_at ws = rw (O-end, O-count text_length_number (omega arith)) in
      let l : 4 * old_text_at ws + text_length ws ≤ b = omega (arith, t, O-count text_length_number (omega arith)) in
      by (ltb (b / 4) (old_end ws))
      (λ q.
      byte-before b (omega arith) (ltb-true _ _ q)
      ∙ zero-each ws (4 * text_at ws + text_length ws) four.2 (b + 4 * class_count ws) (omega (arith, old-text ws)))
      (λ q. let out = ltb-false (b / 4) (old_end ws) q in past-before b out)

  O-zeros : zero_rest O (4 * old_text_at O + text_length O) ≡ true
  O-zeros = zero-all O (4 * old_text_at O + text_length O) zero-before

  O-fits : AreWords ws → old_fits O ≡ true
  unfolding old_fits
  O-fits small = rw (O-limits, O-least small, O-zeros)

  -- no row refuses them
  O-unlinked : (i : ℕ) → i < class_count ws → unlinked (judged O) (i + 1) ≡ true
  unfolding unlinked fresh
  O-unlinked i h =
      let k : IsClass K (i + 1) = (omega arith, omega (arith, K-count)) in
      let now = judged-alike zeros in
      let each = all-each (class_count ws) (λ i. fresh ws (i + 1)) four.3 i h in
      rw (
        now.classes (i + 1) k.0 k.1 table_place_word refl,
        now.classes (i + 1) k.0 k.1 slot_count_word refl,
        ← ((whole-alike ws fits).classes (i + 1) k.0 k.1 table_place_word refl),
        ← ((whole-alike ws fits).classes (i + 1) k.0 k.1 slot_count_word refl),
      )
      (and_both (unlinked ws (i + 1)) (statics_clean ws (i + 1)) each).0

  pub old-rows : AreWords ws → old_rows O ≡ 0
  unfolding old_rows old_form
  old-rows small =
      rw (
        O-fits small,
        O-count class_count_number (omega arith),
        all-if (class_count ws) (λ i. unlinked (judged O) (i + 1)) O-unlinked,
        judged-text zeros,
        refusal-alike (judged O) K (judged-alike zeros) (text_of K),
      )
      K-rows

-- ---- a sheet that back accepts

module _ (bs : List ℕ) (small : AreBytes bs) (accepted : new_sheet_refusal bs ≡ 0) (keeps : drops_statics (sheet_words bs) ≡ false) where
  abbrev vs : List ℕ
  vs = sheet_words bs

  passed-rows : (block_refusal bs layout.sheet_words block_limit ≡ 0) × (class_rows vs ≡ 0)
  unfolding class_sheet_refusal
  passed-rows = sheet-passed class_rows bs layout.sheet_words accepted

  vs-small : AreWords vs
  vs-small = words_small bs layout.sheet_words small passed-rows.0

  vs-fits : content_end vs ≤ length vs
  vs-fits = fits vs passed-rows.1

  few : (1 ≤ blocks_for (length (narrowed vs))) × (blocks_for (length (narrowed vs)) ≤ block_limit)
  unfolding blocks_for
  few =
      let l = content-within vs (class.limits vs (four vs passed-rows.1).0) in
      (omega (arith, narrowed-length vs vs-fits, old-some vs), omega (arith, narrowed-length vs vs-fits, old-end vs))

  abbrev B : List ℕ
  B = sheet_bytes (narrowed vs) (blocks_for (length (narrowed vs)))

  B-words : sheet_words B ≡ padded (narrowed vs)
  B-words = blocks-words (narrowed vs) (narrowed-small vs passed-rows.1 vs-small)

  old-sheet : old_sheet_refusal B ≡ 0
  unfolding old_sheet_refusal
  old-sheet =
      blocks-rows (narrowed vs) (narrowed-small vs passed-rows.1 vs-small) old_rows layout.sheet_words few.0 few.1 (omega (arith, few.1))
      ∙ old-rows vs passed-rows.1 vs-small

  made_again : (sheet_bytes (C vs vs-fits) (block_count bs) ≡ bs) × (blocks_for (content_end vs) ≡ block_count bs)
  made_again =
      let f = four vs passed-rows.1 in
      let n = (again-blocks bs layout.sheet_words small passed-rows.0 (content_end vs) (4 * text_at vs + text_length vs) f.1 (text-inside vs) f.2).1 in (
        rw (n, content-taken vs vs-fits) at
            (again bs layout.sheet_words small passed-rows.0 (content_end vs) (4 * text_at vs + text_length vs) f.1 (text-inside vs) f.2),
        n,
      )

  pub forward-again : (lent : List ℕ) → length bs ≤ length lent
      → widen_sheet B lent ≡ record { refusal = 0; blocks = block_count bs; memory = bs ++ drop (length bs) lent }
  unfolding widen_sheet widen_refusal room_refusal blocks_or_row
  forward-again lent l =
      let w : length bs ≡ 512 * block_count bs = whole bs layout.sheet_words small passed-rows.0 in
      let c = forward-content vs passed-rows.1 (zeros vs passed-rows.1) keeps in
      rw (
        old-sheet,
        B-words,
        c,
        content-length vs vs-fits,
        made_again.1,
        le-ltb (length lent) (512 * block_count bs) (omega arith),
        made_again.0,
        w,
      )
