-- The two calls as the code makes them: the words of one form stored word by word are the other form, and the rows in their order are the
-- definition's. Assumes nothing.
use mathlib.Core.Path.{◌≡◌, sym, ap, ◌∙◌}
use mathlib.Core.Bool.{true, false, not, ◌&&◌, and-true}
use mathlib.Core.List.{List, ◌++◌}
use Prim.Native.Nat.{ℕ, ◌+◌, ◌*◌, ◌≤◌, ◌<◌}
use native.Mathlib.Omega.{arith}
use lib.ListN.{length, get_or, take, drop}
use lib.Seq.{take_at}
use lib.Dec.{eqb, leb, ltb}
use borrow.Author.Tests.{ne_eqb, eqb-true, leb-true, not-false}
use Rattle.words.specs.Folds.{all_of, table, stores}
use Rattle.words.proofs.Bools.{by, and_both, and_3, and_4, passed}
use Rattle.words.proofs.FoldLaws.{all-ext, length-table, stores-is, stores_at}
use Rattle.block.specs.Block.{block_count, sheet_words, least_fit}
use Rattle.block.proofs.Laws.{length-content}
use Rattle.text.specs.Text.{zero_rest}
use Rattle.class_sheet.specs.ClassSheet as layout
use Rattle.class_sheet.specs.ClassSheet.{block_limit, class_count, text_length, text_at, content_end, text_of}
use Rattle.class_sheet.proofs.Laws.{content-within}
use Rattle.class_rules.specs.ClassRules.{class_limits, unlinked, statics_clean, fresh, all_fresh, class_form}
use Rattle.class_rules.proofs.Laws as class
use Rattle.sheet.specs.Sheet as R
use Rattle.std.proofs.Common.{Result, Ok, Err}
use Rattle.std.specs.Result.{IsErrAnd}
use Rattle.std.proofs.lemmas.Result.{err_from_is_err_and}
use Rattle.refusal.specs.Rows.{row}
use Rattle.refusal.specs.declared.Refusal.{Refusal}
use Rattle.refusal.proofs.Rows.{row_above}
use Rattle.writer.specs.Writer as W
use Rattle.sheet.specs.Sheet.{outcome, block_refusal, sheet_refusal, class_rows, class_sheet_refusal, read_sheet, read_class_sheet}
use Rattle.writer.proofs.RoundTrip.{read_is}
use Rattle.writer.proofs.Blocks.{sheet-passed}
use Rattle.writer.specs.Writer.{Outcome}
use Rattle.convert.specs.Convert.{old_end, old_text_at, judged, old_fits, old_form, old_rows, old_sheet_refusal, forward_statics, drops_statics, blocks_or_row, forward, widen_refusal, widen_sheet, narrowed, narrow_refusal, narrow_sheet, new_sheet_refusal}
use Rattle.convert.specs.Steps.{widened_word, widened_words, narrowed_word, fresh_rows, forward_words, put_words, widen_words, narrow_words}
use Rattle.convert.proofs.Judging.{old-end}
use Rattle.convert.proofs.Forms.{widened-count, widened-text, widened-statics, widened-table, narrowed-length, narrowed-table}

-- ---- rows 3 to 5 of words in the new form

pub sums_handed : (ws d : List ℕ) {t o : List ℕ} → t ≡ text_of ws → o ≡ stores (class_count ws) (λ i. forward_statics ws t (i + 1)) d
    → o ≡ stores (class_count ws) (λ i. forward_statics ws (text_of ws) (i + 1)) d
sums_handed ws d e s = rw (← e) s

-- ---- words stored one by one into the front of an array

pub stored-part : (n : ℕ) (f : ℕ → ℕ) (d : List ℕ) {o p : List ℕ} {e : ℕ} → o ≡ stores n f d → n ≤ length d → e ≡ n → p ≡ take e (drop 0 o)
    → p ≡ table n f
stored-part n f d s h k part =
    part ∙ rw (k, s, stores-is n f d h) (take_at (table n f) (drop n d) n (length-table n f))

-- ---- forward, of words that fit

module _ (ws : List ℕ) (fitted : old_fits ws ≡ true) where
  pub three : (class_limits ws ≡ true) × (least_fit (old_end ws) (length ws) ≡ true) × (zero_rest ws (4 * old_text_at ws + text_length ws) ≡ true)
  unfolding old_fits
  three = and_3 (class_limits ws) (least_fit (old_end ws) (length ws)) (zero_rest ws (4 * old_text_at ws + text_length ws)) fitted

  pub fits-end : old_end ws ≤ length ws
  unfolding least_fit
  fits-end = leb-true _ _ (and_both (leb (old_end ws) (length ws)) (ltb (length ws) (old_end ws + 127)) three.1).0

  pub fits-array : content_end ws ≤ 11684
  fits-array = let l = content-within ws (class.limits ws three.0) in omega arith

  pub few-classes : class_count ws ≤ 64
  few-classes = (class.limits ws three.0).classes

  -- the words that are judged, and those that are written
  pub judged-text : text_length (judged ws) ≤ 8192
  judged-text = let l = (class.limits ws three.0).text in omega (arith, widened-text ws (λ c. 0))

  module _ (zeros wide : List ℕ) (z : (i : ℕ) → get_or zeros i 0 ≡ 0) (room : 11684 ≤ length wide) {e : ℕ} (end : e ≡ content_end ws) where
    pub judged-part : {o p : List ℕ} → o ≡ stores (content_end ws) (widened_word ws zeros) wide → p ≡ take e (drop 0 o) → p ≡ judged ws
    judged-part s q =
        stored-part (content_end ws) (widened_word ws zeros) wide s (omega (arith, fits-array)) end q
        ∙ sym (widened-table ws fits-end (λ c. 0) zeros (λ i h. sym (z i)))

  -- the sums of the judged words' classes; with them the words are those that are written
  pub forward_sums : (d : List ℕ) {p o : List ℕ} → p ≡ judged ws → o ≡ stores (class_count p) (λ i. forward_statics p (text_of p) (i + 1)) d
      → o ≡ forward_words ws d
  forward_sums d {p} j s =
      let n : class_count p ≡ class_count ws = ap class_count j ∙ widened-count ws fits-end (λ c. 0) in rw (n, j) at s

  pub forward-is : (d : List ℕ) → 64 ≤ length d → {o : List ℕ} → o ≡ forward_words ws d → widened_words ws o ≡ forward ws
  unfolding forward
  forward-is d l {o} s =
      sym (widened-table ws fits-end (forward_statics (judged ws) (text_of (judged ws))) o
      (λ i h. sym (ap (λ (x : List ℕ). get_or x i 0) s ∙ stores_at (class_count ws) _ d i h (omega (arith, few-classes)))))

  -- no class of the judged words has static words, so that a fresh class is an unlinked one
  fresh-unlinked : (i : ℕ) → i < class_count ws → fresh (judged ws) (i + 1) ≡ unlinked (judged ws) (i + 1)
  unfolding fresh statics_clean
  fresh-unlinked i h = simp (widened-statics ws fits-end (λ c. 0) (i + 1) (omega arith) (omega arith), and-true)

  pub judged-fresh : all_fresh (judged ws) ≡ all_of (class_count ws) (λ i. unlinked (judged ws) (i + 1))
  judged-fresh =
      rw (widened-count ws fits-end (λ c. 0))
      (all-ext (class_count ws) (λ i. fresh (judged ws) (i + 1)) (λ i. unlinked (judged ws) (i + 1)) fresh-unlinked)

  pub judged-rows : fresh_rows (judged ws) ≡ old_rows ws
  unfolding fresh_rows old_rows old_form
  judged-rows = rw (fitted, judged-fresh)

-- ---- forward

-- words whose rows do not refuse fit
pub rows_fit : (ws : List ℕ) → old_rows ws ≡ 0 → old_fits ws ≡ true
unfolding old_rows old_form
rows_fit ws e =
    let p = passed (not (old_fits ws && all_of (class_count ws) (λ i. unlinked (judged ws) (i + 1)))) 3 _ (omega arith) e in
    (and_both (old_fits ws) _ (not-false _ p.0)).0

-- the words judged, as they were stored
module _ (ws : List ℕ) (fitted : old_fits ws ≡ true) (zeros wide : List ℕ) (z : (i : ℕ) → get_or zeros i 0 ≡ 0) (room : 11684 ≤ length wide) {e : ℕ}
    (end : e ≡ content_end ws) {o p : List ℕ} (stored : o ≡ stores (content_end ws) (widened_word ws zeros) wide) (part : p ≡ take e (drop 0 o)) where
  here : p ≡ judged ws
  here = judged-part ws fitted zeros wide z room end stored part

  pub part-text : text_length p ≤ 8192
  part-text = rw here (judged-text ws fitted)

  pub rows-rest : {r : ℕ} → r ≡ fresh_rows p → r ≡ old_rows ws
  rows-rest g = g ∙ ap fresh_rows here ∙ judged-rows ws fitted

  pub sums_rest : (d : List ℕ) {s : List ℕ} → s ≡ stores (class_count p) (λ i. forward_statics p (text_of p) (i + 1)) d → s ≡ forward_words ws d
  sums_rest d g = forward_sums ws fitted d here g

pub part-words : (ws ss wide : List ℕ) → content_end ws ≤ 11684 → 11684 ≤ length wide → {e : ℕ} {o p : List ℕ}
    → o ≡ stores (content_end ws) (widened_word ws ss) wide → e ≡ content_end ws → p ≡ take e (drop 0 o) → p ≡ widened_words ws ss
part-words ws ss wide l h s e q = stored-part (content_end ws) (widened_word ws ss) wide s (omega arith) e q

pub words-short : (ws ss : List ℕ) → content_end ws ≤ 11684 → {p : List ℕ} → p ≡ widened_words ws ss → length p ≤ 11684
words-short ws ss l e = rw e (omega (arith, length-table (content_end ws) (widened_word ws ss)))

module _ (ws : List ℕ) (rows : 0 ≡ old_rows ws) where
  pub widen-fits : content_end ws ≤ 11684
  widen-fits = fits-array ws (rows_fit ws (sym rows))

  pub widen-written : (d out : List ℕ) → 64 ≤ length d → {s : List ℕ} {o : Outcome} → s ≡ forward_words ws d → o ≡ put_words (widened_words ws s) out
      → o ≡ widen_words ws out
  unfolding widen_words
  widen-written d out l sums g = g ∙ rw (forward-is ws (rows_fit ws (sym rows)) d l sums, ← rows)

pub widen-rest : (bs out : List ℕ) → 0 ≡ block_refusal bs layout.sheet_words block_limit → {p : List ℕ} {o : Outcome} → p ≡ sheet_words bs
    → o ≡ widen_words p out → o ≡ widen_sheet bs out
unfolding widen_sheet widen_refusal old_sheet_refusal sheet_refusal widen_words
widen-rest bs out z e g = g ∙ rw (e, ← z)

-- ---- back, of words that a reading accepted

module _ (ws : List ℕ) (form : class_form ws ≡ true) where
  pub form_text : text_length ws ≤ 8192
  form_text = (class.formed ws form).text

  pub form-end : content_end ws ≤ length ws
  unfolding class_form least_fit
  form-end =
      let p = and_4 (class_limits ws) (least_fit (content_end ws) (length ws)) (zero_rest ws (4 * text_at ws + text_length ws)) (all_fresh ws) form in
      leb-true _ _ (and_both (leb (content_end ws) (length ws)) (ltb (length ws) (content_end ws + 127)) p.1).0

  pub form-array : old_end ws ≤ 11684
  form-array = let l = content-within ws (class.formed ws form) in omega (arith, old-end ws)

  pub narrowed-part : (d : List ℕ) → 11684 ≤ length d → {o p : List ℕ} {e : ℕ} → o ≡ stores (old_end ws) (narrowed_word ws) d → e ≡ old_end ws
      → p ≡ take e (drop 0 o) → p ≡ narrowed ws
  narrowed-part d l s e q =
      stored-part (old_end ws) (narrowed_word ws) d s (omega (arith, form-array)) e q ∙ sym (narrowed-table ws form-end)

  pub short-part : (d : List ℕ) → 11684 ≤ length d → {o p : List ℕ} {e : ℕ} → o ≡ stores (old_end ws) (narrowed_word ws) d → e ≡ old_end ws
      → p ≡ take e (drop 0 o) → length p ≤ 11684
  short-part d l s e q = rw (narrowed-part d l s e q) (omega (arith, narrowed-length ws form-end, form-array))

pub narrow-written : (ws out : List ℕ) → false ≡ drops_statics ws → {q : List ℕ} {o : Outcome} → q ≡ narrowed ws → o ≡ put_words q out → o ≡ narrow_words ws out
unfolding narrow_words
narrow-written ws out drops e g = g ∙ rw (e, ← drops)

-- ---- what a reading answers

pub length-words : (bs : List ℕ) → length (sheet_words bs) ≡ 127 * block_count bs
unfolding sheet_words
length-words bs = length-content bs (block_count bs)

pub read-refusal : (bs d : List ℕ) → (read_class_sheet bs d).refusal ≡ class_sheet_refusal bs (length d)
unfolding read_class_sheet read_sheet
read-refusal bs d = by (eqb (class_sheet_refusal bs (length d)) 0) (λ q. rw q (sym (eqb-true _ _ q))) (λ q. rw q)

accepted-form : (bs : List ℕ) (room : ℕ) → class_sheet_refusal bs room ≡ 0 → class_form (sheet_words bs) ≡ true
unfolding class_rows class_sheet_refusal
accepted-form bs room e = let p = passed (not (class_form (sheet_words bs))) 3 _ (omega arith) (sheet-passed class_rows bs room e).1 in not-false _ p.0

module _ (bs d out : List ℕ) (room : length d ≡ layout.sheet_words) where
  pub narrow-early : (r : Result ℕ Refusal) (k : Refusal) (m : List ℕ) → outcome (Err k) m ≡ read_class_sheet bs d → IsErrAnd r (λ e. e ≡ k)
      → W.outcome r out ≡ narrow_sheet bs out
  unfolding narrow_sheet narrow_refusal blocks_or_row
  narrow-early r k m got i =
      let p = err_from_is_err_and r i in
      let q : new_sheet_refusal bs ≡ row k = rw room at (sym (read-refusal bs d) ∙ sym (ap (λ (x : R.Outcome). x.refusal) got)) in
      rw (p.1, p.2, q) (simp (ne_eqb (row k) 0 (λ z. omega (arith, z, row_above k))))

  module _ (m : List ℕ) {n : ℕ} (got : outcome (Ok n) m ≡ read_class_sheet bs d) {p : List ℕ} (part : p ≡ take n (drop 0 m)) where
    accepted : new_sheet_refusal bs ≡ 0
    accepted = rw room at (sym (read-refusal bs d) ∙ sym (ap (λ (x : R.Outcome). x.refusal) got))

    pub read-words : p ≡ sheet_words bs
    read-words =
        let a = got ∙ read_is bs d (rw (← room) at accepted) in
        let k : n ≡ 127 * block_count bs = ap (λ (x : R.Outcome). x.words) a in
        let l : m ≡ sheet_words bs ++ drop (127 * block_count bs) d = ap (λ (x : R.Outcome). x.memory) a in
        part ∙ rw (k, l) (take_at (sheet_words bs) (drop (127 * block_count bs) d) (127 * block_count bs) (length-words bs))

    pub read-form : class_form p ≡ true
    read-form = rw read-words (accepted-form bs layout.sheet_words accepted)

    pub narrow-rest : {o : Outcome} → o ≡ narrow_words p out → o ≡ narrow_sheet bs out
    unfolding narrow_sheet narrow_refusal narrow_words
    narrow-rest f = f ∙ rw (read-words, accepted)
