-- The two forms of a set's words: both are laid out from the same sections but for a word of each class record, so that either is known from the
-- other word by word, and back from forward is the content that one came from. Assumes nothing.
use mathlib.Core.Path.{◌≡◌, refl, sym, ap, ◌∙◌}
use mathlib.Core.List.{List, [], ◌∷◌, ◌++◌}
use Prim.Native.Nat.{ℕ, zero, suc, ◌+◌, ◌*◌, ◌-◌, ◌/◌, ◌%◌, ◌≤◌, ◌<◌}
use native.Mathlib.Omega.{arith}
use lib.ListN.{length, get_or, length-append, get_or-append}
use lib.Seq.{ext_get_or, take_at, get_or_at, get_or-take, length-take-le}
use lib.Dec.{eqb, ltb}
use borrow.Author.Tests.{eqb-true, eqb-false, ltb-true, ltb-false}
use Rattle.words.specs.Words.{words_for}
use Rattle.words.specs.Rows.{Rows, no_rows, a_row, joined, row_word}
use Rattle.words.specs.Folds.{table}
use Rattle.words.proofs.Bools.{by}
use Rattle.words.proofs.FoldLaws.{length-table, get_d_table}
use Rattle.words.proofs.Lists.{skip}
use Rattle.words.proofs.Rows.{length-joined, joined_word}
use Rattle.class_sheet.specs.ClassSheet.{counts_width, class_width, member_width, count_at, class_count, method_count, field_count, interface_count, compiler_count, text_length, content_end, class_word, class_static_words}
use Rattle.class_sheet.specs.Sections.{Sections, Formed, laid_out, sections_by, sections_of, end_by, with_rest}
use Rattle.class_sheet.proofs.Sections as sections
use Rattle.class_sheet.proofs.Sections.{counts_of, to_methods, from_methods, from_classes, at-classes, at-methods, laid_more, laid-sections}
use Rattle.convert.specs.Convert.{old_width, old_end, widen, narrow, widened_sections, widened, narrowed_sections, narrowed}
use Rattle.convert.specs.Steps.{widened_word, narrowed_word}
use Rattle.convert.proofs.Judging.{old-end}

-- ---- records made wider, and narrower again

pub rows-widen : {w : ℕ} (f : ℕ → ℕ) (c : ℕ) {rs : List (List ℕ)} → Rows w rs → Rows (w + 1) (widen f c rs)
unfolding widen
rows-widen f c no_rows = no_rows
rows-widen f c (a_row {r = r} e p) = a_row (length-append r (f c ∷ []) ∙ omega arith) (rows-widen f (c + 1) p)

pub length-widen : (f : ℕ → ℕ) (c : ℕ) (rs : List (List ℕ)) → length (widen f c rs) ≡ length rs
unfolding widen
length-widen f c [] = refl
length-widen f c (r ∷ rs) = ap suc (length-widen f (c + 1) rs)

pub narrow-widen : (f : ℕ → ℕ) (c : ℕ) {rs : List (List ℕ)} → Rows old_width rs → narrow (widen f c rs) ≡ rs
unfolding widen narrow
narrow-widen f c no_rows = refl
narrow-widen f c (a_row {r = r} {rs = rs} e p) =
    rw (take_at r (f c ∷ []) old_width e) (ap (λ (x : List (List ℕ)). r ∷ x) (narrow-widen f (c + 1) p))

pub widen-word : {w : ℕ} (f : ℕ → ℕ) (c : ℕ) {rs : List (List ℕ)} → Rows w rs → (i k : ℕ) → k < w
    → row_word (widen f c rs) i k ≡ row_word rs i k
unfolding widen
widen-word f c no_rows i k h = refl
widen-word f c (a_row {r = r} e p) zero k h = get_or-append r (f c ∷ []) 0 k (omega arith)
widen-word f c (a_row e p) (suc i) k h = widen-word f (c + 1) p i k h

pub widen-last : {w : ℕ} (f : ℕ → ℕ) (c : ℕ) {rs : List (List ℕ)} → Rows w rs → (i : ℕ) → i < length rs → row_word (widen f c rs) i w ≡ f (c + i)
unfolding widen
widen-last f c no_rows i h = absurd (omega arith)
widen-last {w} f c (a_row {r = r} e p) zero h = let z : c + 0 ≡ c = omega arith in rw z (get_or_at r (f c) [] 0 w e)
widen-last f c (a_row e p) (suc i) h = let z : c + suc i ≡ c + 1 + i = omega arith in rw z (widen-last f (c + 1) p i (omega arith))

pub rows-narrow : {rs : List (List ℕ)} → Rows class_width rs → Rows old_width (narrow rs)
unfolding narrow
rows-narrow no_rows = no_rows
rows-narrow (a_row {r = r} e p) = a_row (length-take-le old_width r (omega arith)) (rows-narrow p)

pub length-narrow : (rs : List (List ℕ)) → length (narrow rs) ≡ length rs
unfolding narrow
length-narrow [] = refl
length-narrow (r ∷ rs) = ap suc (length-narrow rs)

pub narrow-word : (rs : List (List ℕ)) (i k : ℕ) → k < old_width → row_word (narrow rs) i k ≡ row_word rs i k
unfolding narrow
narrow-word [] i k h = refl
narrow-word (r ∷ rs) zero k h = get_or-take old_width r k 0 h
narrow-word (r ∷ rs) (suc i) k h = narrow-word rs i k h

-- words for the classes' numbers are all that counts of f
pub widen-ext : (f g : ℕ → ℕ) (c : ℕ) (rs : List (List ℕ)) → ((i : ℕ) → i < length rs → f (c + i) ≡ g (c + i)) → widen f c rs ≡ widen g c rs
unfolding widen
widen-ext f g c [] h = refl
widen-ext f g c (r ∷ rs) h =
    let z : c + 0 ≡ c = omega arith in
    let e : f c ≡ g c = rw z at (h 0 (omega arith)) in
    rw (e, widen-ext f g (c + 1) rs (λ i l. let y : c + suc i ≡ c + 1 + i = omega arith in rw y at (h (suc i) (omega arith))))

-- ---- the words of sections whose class records have w words

module _ (w : ℕ) (s : Sections) (f : Formed w s) where
  pub length-laid : length (laid_out s)
      ≡ counts_width
      + (w * length s.classes
      + (member_width * length s.methods
      + (member_width * length s.fields + (length s.interfaces + (length s.compilers + words_for s.bytes)))))
      + length s.rest
  unfolding laid_out
  length-laid =
      omega (
        arith,
        length-append (joined s.classes) (from_methods s),
        length-append (joined s.methods) (sections.from_fields s),
        length-append (joined s.fields) (sections.from_interfaces s),
        length-append s.interfaces (sections.from_compilers s),
        length-append s.compilers (sections.from_text s),
        length-append s.text s.rest,
        length-joined f.classes,
        length-joined f.methods,
        length-joined f.fields,
        f.text,
      )

  pub laid-front : (j : ℕ) → j < counts_width → get_or (laid_out s) j 0 ≡ get_or (counts_of s) j 0
  laid-front j h = rw (at-classes s) (get_or-append (counts_of s) (from_classes s) 0 j h)

  pub laid_record : (i k : ℕ) → i < length s.classes → k < w → get_or (laid_out s) (counts_width + w * i + k) 0 ≡ row_word s.classes i k
  laid_record i k h g =
      rw (at-classes s)
      (skip (counts_of s) (from_classes s) (counts_width + w * i + k) (w * i + k) 0 (omega arith) ∙ joined_word i k f.classes (from_methods s) h g)

  pub laid-after : (t : ℕ) → get_or (laid_out s) (counts_width + w * length s.classes + t) 0 ≡ get_or (from_methods s) t 0
  laid-after t =
      rw (at-methods s)
      (skip (to_methods s) (from_methods s) (counts_width + w * length s.classes + t) t 0
      (omega (arith, length-append (counts_of s) (joined s.classes), length-joined f.classes)))

-- ---- words that hold the content of the one form, and the other form of it

pub widened-text : (ws : List ℕ) (f : ℕ → ℕ) → text_length (widened ws f) ≡ text_length ws
unfolding widened laid_out count_at sections_by
widened-text ws f = refl

-- the content of old words, and what follows it
module _ (ws : List ℕ) (fits : old_end ws ≤ length ws) where
  abbrev old : Sections
  old = sections_by old_width ws

  abbrev pub old_sections : Sections
  old_sections = with_rest old []

  pub old-formed : Formed old_width old_sections
  old-formed =
      let g = sections.formed old_width ws fits in
      record { classes = g.classes; methods = g.methods; fields = g.fields; text = g.text }

  pub old-words : laid_out old_sections ++ old.rest ≡ ws
  old-words = laid_more old_sections old.rest ∙ laid-sections old_width ws fits

  pub old-classes : length old.classes ≡ class_count ws
  old-classes = sym (sections.number_of_classes old) ∙ ap class_count (laid-sections old_width ws fits)

  pub old-length : length (laid_out old_sections) ≡ old_end ws
  unfolding end_by
  old-length =
      let e : laid_out old ≡ ws = laid-sections old_width ws fits in
      omega (
        arith,
        length-laid old_width old_sections old-formed,
        old-classes,
        sym (sections.number_of_methods old) ∙ ap method_count e,
        sym (sections.number_of_fields old) ∙ ap field_count e,
        sym (sections.number_of_interfaces old) ∙ ap interface_count e,
        sym (sections.number_of_compilers old) ∙ ap compiler_count e,
        sym (sections.length_of_text old) ∙ ap text_length e,
      )

  pub old-at : (j : ℕ) → j < old_end ws → get_or ws j 0 ≡ get_or (laid_out old_sections) j 0
  old-at j h =
      ap (λ (x : List ℕ). get_or x j 0) (sym old-words) ∙ get_or-append (laid_out old_sections) old.rest 0 j (omega (arith, old-length))

  -- the new form, with f's words
  module _ (f : ℕ → ℕ) where
    pub new-formed : Formed class_width (widened_sections ws f)
    new-formed = record {
      classes = rows-widen f 1 old-formed.classes;
      methods = old-formed.methods;
      fields = old-formed.fields;
      text = old-formed.text;
    }

    pub new-classes : length (widened_sections ws f).classes ≡ class_count ws
    new-classes = length-widen f 1 old.classes ∙ old-classes

    pub widened-length : length (widened ws f) ≡ content_end ws
    unfolding widened
    widened-length =
        omega (
          arith,
          length-laid class_width (widened_sections ws f) new-formed,
          length-laid old_width old_sections old-formed,
          new-classes,
          old-classes,
          old-length,
          old-end ws,
        )

    pub widened-count : class_count (widened ws f) ≡ class_count ws
    unfolding widened
    widened-count = sections.number_of_classes (widened_sections ws f) ∙ new-classes

    -- "a class's word k" and its static words, by their names
    pub widened_word_lem : (c k : ℕ) → 1 ≤ c → c ≤ class_count ws → k < old_width
        → class_word (widened ws f) c k ≡ get_or ws (counts_width + old_width * (c - 1) + k) 0
    unfolding widened
    widened_word_lem c k l h g =
        sections.class-word (widened_sections ws f) new-formed c k l (omega (arith, new-classes)) (omega arith)
        ∙ widen-word f 1 old-formed.classes (c - 1) k g
        ∙ sym (laid_record old_width old_sections old-formed (c - 1) k (omega (arith, old-classes)) g)
        ∙ sym (old-at (counts_width + old_width * (c - 1) + k) (omega (arith, old-length, length-laid old_width old_sections old-formed, old-classes)))

    pub widened-statics : (c : ℕ) → 1 ≤ c → c ≤ class_count ws → class_static_words (widened ws f) c ≡ f c
    unfolding widened
    widened-statics c l h =
        let z : 1 + (c - 1) ≡ c = omega arith in
        sections.class-word (widened_sections ws f) new-formed c old_width l (omega (arith, new-classes)) (omega arith)
        ∙ widen-last f 1 old-formed.classes (c - 1) (omega (arith, old-classes)) ∙ ap f z

    same-counts : counts_of (widened_sections ws f) ≡ counts_of old_sections
    same-counts =
        ap (λ (n : ℕ). n ∷ length old.methods ∷ length old.fields ∷ length old.interfaces ∷ length old.compilers ∷ old.bytes ∷ [])
        (length-widen f 1 old.classes)

    pub widened-front : (j : ℕ) → j < counts_width → get_or (widened ws f) j 0 ≡ get_or ws j 0
    unfolding widened
    widened-front j h =
        laid-front class_width (widened_sections ws f) new-formed j h ∙ ap (λ (x : List ℕ). get_or x j 0) same-counts
        ∙ sym (laid-front old_width old_sections old-formed j h)
        ∙ sym (old-at j (omega (arith, old-length, length-laid old_width old_sections old-formed)))

    record_word_lem : (i k : ℕ) → i < class_count ws → k < old_width
        → get_or (widened ws f) (counts_width + class_width * i + k) 0 ≡ get_or ws (counts_width + old_width * i + k) 0
    unfolding widened
    record_word_lem i k h g =
        laid_record class_width (widened_sections ws f) new-formed i k (omega (arith, new-classes)) (omega arith)
        ∙ widen-word f 1 old-formed.classes i k g
        ∙ sym (laid_record old_width old_sections old-formed i k (omega (arith, old-classes)) g)
        ∙ sym (old-at (counts_width + old_width * i + k) (omega (arith, old-length, length-laid old_width old_sections old-formed, old-classes)))

    pub widened-after : (t : ℕ) → counts_width + class_width * class_count ws + t < content_end ws
        → get_or (widened ws f) (counts_width + class_width * class_count ws + t) 0 ≡ get_or ws (counts_width + old_width * class_count ws + t) 0
    unfolding widened
    widened-after t h =
        rw new-classes at (laid-after class_width (widened_sections ws f) new-formed t)
        ∙ sym (rw old-classes at (laid-after old_width old_sections old-formed t))
        ∙ sym (old-at (counts_width + old_width * class_count ws + t) (omega (arith, old-end ws)))

    -- word by word
    module _ (ss : List ℕ) (same : (i : ℕ) → i < class_count ws → f (i + 1) ≡ get_or ss i 0) where
      statics-word : (i : ℕ) → i < class_count ws → get_or (widened ws f) (counts_width + class_width * i + old_width) 0 ≡ get_or ss i 0
      unfolding widened
      statics-word i h =
          let z : 1 + i ≡ i + 1 = omega arith in
          laid_record class_width (widened_sections ws f) new-formed i old_width (omega (arith, new-classes)) (omega arith)
          ∙ widen-last f 1 old-formed.classes i (omega (arith, old-classes)) ∙ ap f z ∙ same i h

      pub widened-at : (j : ℕ) → j < content_end ws → get_or (widened ws f) j 0 ≡ widened_word ws ss j
      unfolding widened_word
      widened-at j h =
          by (ltb j counts_width)
          (λ p. rw p (widened-front j (ltb-true _ _ p)))
          (λ p.
          let past : counts_width ≤ j = ltb-false _ _ p in
          by (ltb j (counts_width + class_width * class_count ws))
          (λ q.
          let inside : j < counts_width + class_width * class_count ws = ltb-true _ _ q in
          let i : ℕ = (j - counts_width) / class_width in
          let k : ℕ = (j - counts_width) % class_width in
          let z : counts_width + class_width * i + k ≡ j = omega arith in
          by (eqb k old_width)
          (λ e.
          let d : k ≡ old_width = eqb-true k old_width e in
          let y : counts_width + class_width * i + old_width ≡ j = omega arith in
          rw (p, q, e) (rw y at (statics-word i (omega arith))))
          (λ e. rw (p, q, e) (rw z at (record_word_lem i k (omega arith) (let n = eqb-false k old_width e in omega arith)))))
          (λ q.
          let outside : counts_width + class_width * class_count ws ≤ j = ltb-false _ _ q in
          let z : counts_width + class_width * class_count ws + (j - (counts_width + class_width * class_count ws)) ≡ j = omega arith in
          let y : counts_width + old_width * class_count ws + (j - (counts_width + class_width * class_count ws)) ≡ j - class_count ws = omega arith in
          rw (p, q) (rw (z, y) at (widened-after (j - (counts_width + class_width * class_count ws)) (omega arith)))))

      pub widened-table : widened ws f ≡ table (content_end ws) (widened_word ws ss)
      widened-table =
          let l = length-table (content_end ws) (widened_word ws ss) in
          ext_get_or 0 (widened ws f) (table (content_end ws) (widened_word ws ss)) (widened-length ∙ sym l)
          (λ j h.
          let b : j < content_end ws = omega (arith, widened-length) in
          widened-at j b ∙ sym (get_d_table (content_end ws) (widened_word ws ss) j b))

-- new words, and the old form of their content
module _ (ws : List ℕ) (fits : content_end ws ≤ length ws) where
  abbrev new : Sections
  new = sections_of ws

  abbrev pub new_sections : Sections
  new_sections = with_rest new []

  pub content-formed : Formed class_width new_sections
  content-formed =
      let g = sections.formed-of ws fits in
      record { classes = g.classes; methods = g.methods; fields = g.fields; text = g.text }

  pub content-words : laid_out new_sections ++ new.rest ≡ ws
  content-words = laid_more new_sections new.rest ∙ sections.laid_of ws fits

  pub content-classes : length new.classes ≡ class_count ws
  content-classes = sym (sections.number_of_classes new) ∙ ap class_count (sections.laid_of ws fits)

  pub content-length : length (laid_out new_sections) ≡ content_end ws
  content-length =
      sections.length-laid new_sections content-formed
      ∙ omega (arith, ap content_end (sections.laid_of ws fits), sections.end-at new, sections.end-at new_sections)

  pub content-at : (j : ℕ) → j < content_end ws → get_or ws j 0 ≡ get_or (laid_out new_sections) j 0
  content-at j h =
      ap (λ (x : List ℕ). get_or x j 0) (sym content-words) ∙ get_or-append (laid_out new_sections) new.rest 0 j (omega (arith, content-length))

  pub narrowed-formed : Formed old_width (narrowed_sections ws)
  narrowed-formed = record {
    classes = rows-narrow content-formed.classes;
    methods = content-formed.methods;
    fields = content-formed.fields;
    text = content-formed.text;
  }

  pub narrowed-classes : length (narrowed_sections ws).classes ≡ class_count ws
  narrowed-classes = length-narrow new.classes ∙ content-classes

  pub narrowed-length : length (narrowed ws) ≡ old_end ws
  unfolding narrowed
  narrowed-length =
      omega (
        arith,
        length-laid class_width new_sections content-formed,
        length-laid old_width (narrowed_sections ws) narrowed-formed,
        narrowed-classes,
        content-classes,
        content-length,
        old-end ws,
      )

  kept-counts : counts_of (narrowed_sections ws) ≡ counts_of new_sections
  kept-counts =
      ap (λ (n : ℕ). n ∷ length new.methods ∷ length new.fields ∷ length new.interfaces ∷ length new.compilers ∷ new.bytes ∷ [])
      (length-narrow new.classes)

  pub narrowed-front : (j : ℕ) → j < counts_width → get_or (narrowed ws) j 0 ≡ get_or ws j 0
  unfolding narrowed
  narrowed-front j h =
      laid-front old_width (narrowed_sections ws) narrowed-formed j h ∙ ap (λ (x : List ℕ). get_or x j 0) kept-counts
      ∙ sym (laid-front class_width new_sections content-formed j h)
      ∙ sym (content-at j (omega (arith, content-length, length-laid class_width new_sections content-formed)))

  record_back : (i k : ℕ) → i < class_count ws → k < old_width
      → get_or (narrowed ws) (counts_width + old_width * i + k) 0 ≡ get_or ws (counts_width + class_width * i + k) 0
  unfolding narrowed
  record_back i k h g =
      laid_record old_width (narrowed_sections ws) narrowed-formed i k (omega (arith, narrowed-classes)) g
      ∙ narrow-word new.classes i k g
      ∙ sym (laid_record class_width new_sections content-formed i k (omega (arith, content-classes)) (omega arith))
      ∙ sym (content-at (counts_width + class_width * i + k)
      (omega (arith, content-length, length-laid class_width new_sections content-formed, content-classes)))

  pub narrowed-after : (t : ℕ) → counts_width + old_width * class_count ws + t < old_end ws
      → get_or (narrowed ws) (counts_width + old_width * class_count ws + t) 0 ≡ get_or ws (counts_width + class_width * class_count ws + t) 0
  unfolding narrowed
  narrowed-after t h =
      rw narrowed-classes at (laid-after old_width (narrowed_sections ws) narrowed-formed t)
      ∙ sym (rw content-classes at (laid-after class_width new_sections content-formed t))
      ∙ sym (content-at (counts_width + class_width * class_count ws + t) (omega (arith, old-end ws)))

  pub narrowed_at : (j : ℕ) → j < old_end ws → get_or (narrowed ws) j 0 ≡ narrowed_word ws j
  unfolding narrowed_word
  narrowed_at j h =
      by (ltb j counts_width)
      (λ p. rw p (narrowed-front j (ltb-true _ _ p)))
      (λ p.
      let past : counts_width ≤ j = ltb-false _ _ p in
      by (ltb j (counts_width + old_width * class_count ws))
      (λ q.
      let inside : j < counts_width + old_width * class_count ws = ltb-true _ _ q in
      let i : ℕ = (j - counts_width) / old_width in
      let k : ℕ = (j - counts_width) % old_width in
      let z : counts_width + old_width * i + k ≡ j = omega arith in
      rw (p, q) (rw z at (record_back i k (omega arith) (omega arith))))
      (λ q.
      let outside : counts_width + old_width * class_count ws ≤ j = ltb-false _ _ q in
      let z : counts_width + old_width * class_count ws + (j - (counts_width + old_width * class_count ws)) ≡ j = omega arith in
      let y : counts_width + class_width * class_count ws + (j - (counts_width + old_width * class_count ws)) ≡ j + class_count ws = omega arith in
      rw (p, q) (rw (z, y) at (narrowed-after (j - (counts_width + old_width * class_count ws)) (omega arith)))))

  pub narrowed-table : narrowed ws ≡ table (old_end ws) (narrowed_word ws)
  narrowed-table =
      let l = length-table (old_end ws) (narrowed_word ws) in
      ext_get_or 0 (narrowed ws) (table (old_end ws) (narrowed_word ws)) (narrowed-length ∙ sym l)
      (λ j h.
      let b : j < old_end ws = omega (arith, narrowed-length) in
      narrowed_at j b ∙ sym (get_d_table (old_end ws) (narrowed_word ws) j b))
