-- What a reading by rows 1 to 3 leaves is never refused by the step's 3: its row 3 is the stricter one, and nothing that follows the content is asked. A
-- reading by rows 1 to 5 judges rows 4 and 5 besides. Assumes nothing.
use mathlib.Core.Path.{◌≡◌, sym, ◌∙◌}
use mathlib.Core.Logic.{◌≢◌, ◌↔◌}
use mathlib.Core.Bool.{Bool, true, false, cond, not}
use mathlib.Core.List.{List, ◌++◌}
use Prim.Native.Nat.{ℕ, ◌+◌, ◌*◌, ◌≤◌, ◌<◌}
use native.Mathlib.Omega.{arith}
use lib.ListN.{length, drop}
use lib.Dec.{eqb, leb, ltb}
use borrow.Author.Tests.{eq-eqb, eqb-true, eqb-false, not-false}
use Rattle.words.proofs.Bools.{by, and_both, and_4, passed}
use Rattle.words.proofs.FoldLaws.{all-ext}
use Rattle.block.specs.Block.{block_count, sheet_words, least_fit}
use Rattle.text.specs.Text.{zero_rest}
use Rattle.class_sheet.specs.ClassSheet.{class_width, class_count_number, kind_word, table_place_word, slot_count_word, static_words_word, class_count, class_word, text_length, text_at, content_end, text_of}
use Rattle.class_sheet.proofs.Sections.{count_kept, class-kept}
use Rattle.class_rules.specs.ClassRules.{class_limits, class_fits, fresh, all_fresh, class_form}
use Rattle.class_rules.proofs.Laws as class
use Rattle.set_rules.specs.SetRules.{class_refusal}
use Rattle.set_rules.proofs.Kept.{class-fits-kept}
use Rattle.sheet.specs.Sheet.{block_refusal, sheet_refusal, read_sheet, class_rows, class_sheet_refusal, read_class_sheet, loose_rows, unordered_sheet_refusal, read_unordered_sheet}
use Rattle.renumber.specs.Renumber.{renumber_form, names_classes, cyclic, renumber_refusal}

-- ---- the step's 3, of words that hold their content and of longer ones

fitted : (ws : List ℕ) → class_limits ws ≡ true → leb (content_end ws) (length ws) ≡ true → class_fits ws ≡ true
unfolding class_fits
fitted ws l e = rw (l, e)

form-kept : (ws rest : List ℕ) → class_form ws ≡ true → renumber_form (ws ++ rest) ≡ true
unfolding class_form least_fit renumber_form
form-kept ws rest h =
    let p = and_4 (class_limits ws) (least_fit (content_end ws) (length ws)) (zero_rest ws (4 * text_at ws + text_length ws)) (all_fresh ws) h in
    let fit : class_fits ws ≡ true = fitted ws p.0 (and_both (leb (content_end ws) (length ws)) (ltb (length ws) (content_end ws + 127)) p.1).0 in
    let end : content_end ws ≤ length ws = (class.fits ws fit).1 in
    rw (class-fits-kept ws rest fit, count_kept ws rest end class_count_number (omega arith))
    (all-ext (class_count ws) (λ i. fresh (ws ++ rest) (i + 1)) (λ i. fresh ws (i + 1))
    (λ i l.
    let word : (k : ℕ) → k < class_width → class_word (ws ++ rest) (i + 1) k ≡ class_word ws (i + 1) k =
    λ k b. class-kept ws rest end (i + 1) k (omega arith) (omega arith) b in
    class.fresh-same (ws ++ rest) ws (i + 1) (i + 1) (word kind_word (omega arith)) (word table_place_word (omega arith)) (word slot_count_word (omega arith))
    (word static_words_word (omega arith)))
    ∙ p.3)

-- a ladder of numbers that are not m
other : (b : Bool) (k r m : ℕ) → (k ≡ m → ⊥) → (r ≡ m → ⊥) → cond b k r ≡ m → ⊥
other true k r m f g e = f e
other false k r m f g e = g e

form_not_3 : (ws : List ℕ) (room : ℕ) → renumber_form ws ≡ true → renumber_refusal ws room ≢ 3
unfolding renumber_refusal
form_not_3 ws room h e =
    other (not (names_classes ws)) 4 _ 3 (λ z. omega arith)
    (other (cyclic ws) 19 _ 3 (λ z. omega arith) (other (ltb room (class_count ws)) 15 0 3 (λ z. omega arith) (λ z. omega arith))) (rw h at e)

-- ---- a reading, by its rows

read-refusal : (rows : List ℕ → ℕ → ℕ) (bs ws : List ℕ) → (read_sheet rows bs ws).refusal ≡ rows bs (length ws)
unfolding read_sheet
read-refusal rows bs ws =
    by (eqb (rows bs (length ws)) 0) (λ t. rw t (sym (eqb-true (rows bs (length ws)) 0 t))) (λ f. rw f)

read-accepted : (rows : List ℕ → ℕ → ℕ) (bs ws : List ℕ) → rows bs (length ws) ≡ 0
    → read_sheet rows bs ws ≡ record { refusal = 0; words = 127 * block_count bs; memory = sheet_words bs ++ drop (127 * block_count bs) ws }
unfolding read_sheet
read-accepted rows bs ws e = rw (eq-eqb (rows bs (length ws)) 0 e)

sheet-rows : (limit : ℕ) (rows : List ℕ → ℕ) (bs : List ℕ) (room : ℕ) → sheet_refusal limit rows bs room ≡ 0
    → (block_refusal bs room limit ≡ 0) × (rows (sheet_words bs) ≡ 0)
unfolding sheet_refusal
sheet-rows limit rows bs room e =
    by (eqb (block_refusal bs room limit) 0) (λ q. (eqb-true _ _ q, rw q at e)) (λ q. absurd (eqb-false _ _ q (rw q at e)))

rows-sheet : (limit : ℕ) (rows : List ℕ → ℕ) (bs : List ℕ) (room : ℕ) → block_refusal bs room limit ≡ 0 → rows (sheet_words bs) ≡ 0
    → sheet_refusal limit rows bs room ≡ 0
unfolding sheet_refusal
rows-sheet limit rows bs room e f = rw (eq-eqb (block_refusal bs room limit) 0 e) f

loose_formed : (ws : List ℕ) → loose_rows ws ≡ 0 → class_form ws ≡ true
unfolding loose_rows
loose_formed ws e = not-false _ (passed (not (class_form ws)) 3 0 (omega arith) e).0

formed_loose : (ws : List ℕ) → class_form ws ≡ true → loose_rows ws ≡ 0
unfolding loose_rows
formed_loose ws h = rw h

class-formed : (ws : List ℕ) → class_rows ws ≡ 0 → (class_form ws ≡ true) × (class_refusal ws (text_of ws) ≡ 0)
unfolding class_rows
class-formed ws e = let p = passed (not (class_form ws)) 3 (class_refusal ws (text_of ws)) (omega arith) e in (not-false _ p.0, p.1)

formed-class : (ws : List ℕ) → class_form ws ≡ true → class_refusal ws (text_of ws) ≡ 0 → class_rows ws ≡ 0
unfolding class_rows
formed-class ws h e = rw h e

module _ (ws bs : List ℕ) where
  class_loose : class_sheet_refusal bs (length ws) ≡ 0
      → (unordered_sheet_refusal bs (length ws) ≡ 0) × (class_refusal (sheet_words bs) (text_of (sheet_words bs)) ≡ 0)
  unfolding class_sheet_refusal unordered_sheet_refusal
  class_loose e =
      let s = sheet-rows _ class_rows bs (length ws) e in
      let p = class-formed (sheet_words bs) s.1 in
      (rows-sheet _ loose_rows bs (length ws) s.0 (formed_loose (sheet_words bs) p.0), p.1)

  loose_class : unordered_sheet_refusal bs (length ws) ≡ 0 → class_refusal (sheet_words bs) (text_of (sheet_words bs)) ≡ 0
      → class_sheet_refusal bs (length ws) ≡ 0
  unfolding class_sheet_refusal unordered_sheet_refusal
  loose_class e f =
      let s = sheet-rows _ loose_rows bs (length ws) e in
      rows-sheet _ class_rows bs (length ws) s.0 (formed-class (sheet_words bs) (loose_formed (sheet_words bs) s.1) f)

  pub reading-formed : (room : ℕ) → (read_unordered_sheet bs ws).refusal ≡ 0 → renumber_refusal (read_unordered_sheet bs ws).memory room ≢ 3
  unfolding read_unordered_sheet unordered_sheet_refusal
  reading-formed room e =
      let r = sym (read-refusal unordered_sheet_refusal bs ws) ∙ e in
      let f = loose_formed (sheet_words bs) (sheet-rows _ loose_rows bs (length ws) r).1 in
      rw (read-accepted unordered_sheet_refusal bs ws r)
      (form_not_3 (sheet_words bs ++ drop (127 * block_count bs) ws) room (form-kept (sheet_words bs) (drop (127 * block_count bs) ws) f))

  pub reading_exactly : ((read_class_sheet bs ws).refusal ≡ 0)
      ↔ (((read_unordered_sheet bs ws).refusal ≡ 0) × (class_refusal (sheet_words bs) (text_of (sheet_words bs)) ≡ 0))
  unfolding read_class_sheet read_unordered_sheet
  reading_exactly = (
    λ e. let p = class_loose (sym (read-refusal class_sheet_refusal bs ws) ∙ e) in (read-refusal unordered_sheet_refusal bs ws ∙ p.0, p.1),
    λ p. read-refusal class_sheet_refusal bs ws ∙ loose_class (sym (read-refusal unordered_sheet_refusal bs ws) ∙ p.0) p.1,
  )

  pub reading-same : (read_class_sheet bs ws).refusal ≡ 0 → read_class_sheet bs ws ≡ read_unordered_sheet bs ws
  unfolding read_class_sheet read_unordered_sheet
  reading-same e =
      let r = sym (read-refusal class_sheet_refusal bs ws) ∙ e in
      read-accepted class_sheet_refusal bs ws r ∙ sym (read-accepted unordered_sheet_refusal bs ws (class_loose r).0)
