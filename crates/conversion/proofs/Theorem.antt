-- The theorems on converted sheets, together. Assumes nothing.
use Rattle.std.proofs.Common.{◌≡◌, refl, sym, ap, ◌∙◌, ◌↔◌, ◌≢◌, true, false, not, List, ◌++◌, ℕ, ◌+◌, ◌*◌, ◌≤◌, ◌<◌, arith, length, drop, eqb, ltb, eqb-true, ne_eqb, lt-ltb, le-ltb, ltb-true, ltb-false}
use borrow.Author.Tests.{eqb-false}
use Rattle.words.specs.Folds.{all_of}
use Rattle.words.proofs.Bools.{by, passed}
use Rattle.words.specs.Words.{AreBytes}
use Rattle.block.specs.Block.{block_count, sheet_words, check_ok, shape_ok, blocks_for, sheet_bytes}
use Rattle.block.proofs.Laws.{least-blocks}
use Rattle.class_sheet.specs.ClassSheet as layout
use Rattle.class_sheet.specs.ClassSheet.{block_limit, class_count, content_end, text_of}
use Rattle.class_rules.proofs.Laws as class
use Rattle.sheet.specs.Sheet.{block_refusal, sheet_refusal, class_rows, class_sheet_refusal, read_class_sheet}
use Rattle.writer.specs.Writer as W
use Rattle.writer.specs.Writer.{content_of, write_class_sheet}
use Rattle.writer.proofs.RoundTrip.{round_trip}
use Rattle.writer.proofs.Laws.{few-blocks}
use Rattle.writer.proofs.Blocks.{sheet-passed}
use Rattle.convert.specs.Convert.{old_end, old_form, old_rows, old_sheet_refusal, judged, blocks_or_row, room_refusal, forward, widen_refusal, widen_sheet, drops_statics, narrowed, new_sheet_refusal, narrow_refusal, narrow_sheet}
use Rattle.convert.proofs.Judging.{old-end}
use Rattle.convert.proofs.Forms.{widened-front, widened-length, widened_word_lem, widened-statics, widened-after, narrowed-length}
use Rattle.convert.proofs.Calls.{three, few-classes, length-words}
use Rattle.convert.proofs.Few.{at_most, records-few, class-few}
use Rattle.conversion.specs.Converted.{sheet_made, Converted}
use Rattle.conversion.proofs.Forward.{fitted, forward-fits, forward-blocks, forward-content, forward-length, forward_writing, widen-passed, no_row, roomed}
use Rattle.conversion.proofs.Again.{made-is, forward-small, back-again}
use Rattle.conversion.proofs.Back.{four, fits, old-some, forward-again}

blocks-made : (ws out : List ℕ) → (blocks_or_row 0 ws out).blocks ≡ blocks_for (length ws)
unfolding blocks_or_row
blocks-made ws out = refl

-- ---- forward

module _ (bs out : List ℕ) (accepted : (widen_sheet bs out).refusal ≡ 0) where
  abbrev content : List ℕ
  content = forward (sheet_words bs)

  made : widen_sheet bs out ≡ blocks_or_row 0 content out
  unfolding widen_sheet
  made = rw (widen-passed bs out accepted).2

  sheet-made : sheet_made (widen_sheet bs out) ≡ sheet_bytes content (blocks_for (length content))
  sheet-made = ap sheet_made made ∙ made-is content out (widen-passed bs out accepted).1

  rows : old_rows (sheet_words bs) ≡ 0
  unfolding old_sheet_refusal
  rows = (sheet-passed old_rows bs layout.sheet_words (widen-passed bs out accepted).0).1

  written : widen_sheet bs out ≡ write_class_sheet content out
  written = made ∙ forward_writing (sheet_words bs) rows out (widen-passed bs out accepted).1

  module _ (small : AreBytes bs) where
    forward_back : (lent : List ℕ) → length bs ≤ length lent
        → narrow_sheet (sheet_made (widen_sheet bs out)) lent ≡ record { refusal = 0; blocks = block_count bs; memory = bs ++ drop (length bs) lent }
    forward_back lent l = rw sheet-made (back-again bs small (widen-passed bs out accepted).0 lent l)

    read_again : (set : List ℕ) → 127 * (widen_sheet bs out).blocks ≤ length set
        → ((read_class_sheet (sheet_made (widen_sheet bs out)) set).refusal ≡ 0)
        × (content_of (read_class_sheet (sheet_made (widen_sheet bs out)) set).memory ≡ content)
    read_again set l =
        let s = forward-small bs small (widen-passed bs out accepted).0 in
        let z : (write_class_sheet content out).refusal ≡ 0 = ap (λ (o : W.Outcome). o.refusal) (sym written) ∙ accepted in
        let h : 127 * (write_class_sheet content out).blocks ≤ length set = rw written at l in
        rw written (
          ap (λ o. o.refusal) (round_trip.write_read content out set s z h),
          round_trip.same_content content out set s z h ∙ forward-content (sheet_words bs) rows,
        )

  few : (block_count bs ≤ (widen_sheet bs out).blocks) × ((widen_sheet bs out).blocks ≤ block_count bs + 1) × ((widen_sheet bs out).blocks ≤ block_limit)
  unfolding blocks_for
  few =
      let ws : List ℕ = sheet_words bs in
      let f = fitted ws rows in
      let blocks : (widen_sheet bs out).blocks ≡ blocks_for (length content) = ap (λ (o : W.Outcome). o.blocks) made ∙ blocks-made content out in
      let least = least-blocks (old_end ws) (block_count bs) (rw (length-words bs) at (three ws f).1) in
      let n : length content ≡ old_end ws + class_count ws = forward-length ws rows ∙ sym (old-end ws) in
      let b = few-blocks content (forward-fits ws rows) in (
        omega (arith, blocks, least.1, n),
        omega (arith, blocks, least.1, n, few-classes ws f),
        omega (arith, blocks, b.1, forward-blocks ws rows),
      )

  some : (widen_sheet bs out).blocks ≢ 0
  unfolding blocks_for
  some z =
      let blocks : (widen_sheet bs out).blocks ≡ blocks_for (length content) = ap (λ (o : W.Outcome). o.blocks) made ∙ blocks-made content out in
      let b = few-blocks content (forward-fits (sheet_words bs) rows) in
      omega (arith, z, blocks, b.0, forward-blocks (sheet_words bs) rows)

-- ---- back

module _ (bs out : List ℕ) (accepted : (narrow_sheet bs out).refusal ≡ 0) where
  narrow-passed : (new_sheet_refusal bs ≡ 0) × (drops_statics (sheet_words bs) ≡ false) × (512 * blocks_for (length (narrowed (sheet_words bs))) ≤ length out)
      × (narrow_refusal bs (length out) ≡ 0)
  unfolding narrow_sheet narrow_refusal
  narrow-passed =
      let r = no_row (narrow_refusal bs (length out)) (narrowed (sheet_words bs)) out accepted in
      by (eqb (new_sheet_refusal bs) 0)
      (λ q.
      let p = passed (drops_statics (sheet_words bs)) 23 _ (omega arith) (rw q at r) in
      (eqb-true _ _ q, p.0, roomed (narrowed (sheet_words bs)) (length out) p.1, r))
      (λ q. absurd (eqb-false _ _ q (rw q at r)))

  rows_of_classes : class_rows (sheet_words bs) ≡ 0
  unfolding class_sheet_refusal
  rows_of_classes = (sheet-passed class_rows bs layout.sheet_words narrow-passed.0).1

  some_back : (narrow_sheet bs out).blocks ≢ 0
  unfolding narrow_sheet blocks_for
  some_back z =
      let blocks : (narrow_sheet bs out).blocks ≡ blocks_for (length (narrowed (sheet_words bs))) =
      rw narrow-passed.3 (blocks-made (narrowed (sheet_words bs)) out) in
      omega (arith, z, blocks, narrowed-length (sheet_words bs) (fits (sheet_words bs) rows_of_classes), old-some (sheet_words bs))

  back_few : ((narrow_sheet bs out).blocks ≤ block_count bs) × (block_count bs ≤ (narrow_sheet bs out).blocks + 1)
  unfolding narrow_sheet blocks_for
  back_few =
      let ws : List ℕ = sheet_words bs in
      let blocks : (narrow_sheet bs out).blocks ≡ blocks_for (length (narrowed ws)) = rw narrow-passed.3 (blocks-made (narrowed ws) out) in
      let four : _ = four ws rows_of_classes in
      let least = least-blocks (content_end ws) (block_count bs) (rw (length-words bs) at four.1) in
      let n : length (narrowed ws) ≡ old_end ws = narrowed-length ws (fits ws rows_of_classes) in
      let classes = (class.limits ws four.0).classes in
      (omega (arith, blocks, least.1, n, old-end ws), omega (arith, blocks, least.1, n, old-end ws, classes))

  back_forward : AreBytes bs → (lent : List ℕ) → length bs ≤ length lent
      → widen_sheet (sheet_made (narrow_sheet bs out)) lent ≡ record { refusal = 0; blocks = block_count bs; memory = bs ++ drop (length bs) lent }
  unfolding narrow_sheet
  back_forward small lent l =
      rw (narrow-passed.3, made-is (narrowed (sheet_words bs)) out narrow-passed.2)
      (forward-again bs small narrow-passed.0 narrow-passed.1 lent l)

-- ---- the rows of forward

old-few : (ws : List ℕ) → old_rows ws ≤ 5
unfolding old_rows
old-few ws = at_most 5 (not (old_form ws)) 3 _ (omega arith) (records-few (judged ws) (text_of (judged ws)))

blocks-few : (bs : List ℕ) (room limit : ℕ) → block_refusal bs room limit ≤ 5
unfolding block_refusal
blocks-few bs room limit =
    at_most 5 (not (shape_ok (length bs) room limit)) 1 _ (omega arith)
    (at_most 5 (not (all_of (block_count bs) (check_ok bs))) 2 0 (omega arith) (omega arith))

rows_few : (bs : List ℕ) → old_sheet_refusal bs ≤ 5
unfolding old_sheet_refusal sheet_refusal
rows_few bs =
    at_most 5 (eqb (block_refusal bs layout.sheet_words block_limit) 0) _ _ (old-few (sheet_words bs)) (blocks-few bs layout.sheet_words block_limit)

module _ (bs out : List ℕ) where
  early : 1 ≤ old_sheet_refusal bs → (widen_sheet bs out).refusal ≡ old_sheet_refusal bs
  unfolding widen_sheet widen_refusal blocks_or_row
  early h = let n : eqb (old_sheet_refusal bs) 0 ≡ false = ne_eqb (old_sheet_refusal bs) 0 (omega arith) in rw (n, n)

  short : old_sheet_refusal bs ≡ 0 → length out < 512 * blocks_for (length (forward (sheet_words bs))) → (widen_sheet bs out).refusal ≡ 18
  unfolding widen_sheet widen_refusal room_refusal blocks_or_row
  short e l = rw (e, lt-ltb _ _ l)

  enough : old_sheet_refusal bs ≡ 0 → 512 * blocks_for (length (forward (sheet_words bs))) ≤ length out → (widen_sheet bs out).refusal ≡ 0
  unfolding widen_sheet widen_refusal room_refusal blocks_or_row
  enough e l = rw (e, le-ltb _ _ l)

  room : ((widen_sheet bs out).refusal ≡ 18) ↔ ((old_sheet_refusal bs ≡ 0) × (length out < 512 * blocks_for (length (forward (sheet_words bs)))))
  room = (
    λ e.
        by (eqb (old_sheet_refusal bs) 0)
        (λ q.
        let z = eqb-true (old_sheet_refusal bs) 0 q in
        by (ltb (length out) (512 * blocks_for (length (forward (sheet_words bs)))))
        (λ t. (z, ltb-true _ _ t))
        (λ t. absurd (omega (arith, e, enough z (ltb-false _ _ t)))))
        (λ q. let n = eqb-false (old_sheet_refusal bs) 0 q in absurd (omega (arith, e, early (omega arith), rows_few bs))),
    λ p. short p.0 p.1,
  )

most : (bs : List ℕ) → old_sheet_refusal bs ≡ 0 → blocks_for (length (forward (sheet_words bs))) ≤ block_limit
unfolding old_sheet_refusal
most bs e =
    let r = (sheet-passed old_rows bs layout.sheet_words e).1 in
    let b = few-blocks (forward (sheet_words bs)) (forward-fits (sheet_words bs) r) in
    omega (arith, b.1, forward-blocks (sheet_words bs) r)

-- ---- the rows of back

back_rows : (bs : List ℕ) → new_sheet_refusal bs ≤ 5
unfolding class_sheet_refusal sheet_refusal
back_rows bs =
    at_most 5 (eqb (block_refusal bs layout.sheet_words block_limit) 0) _ _ (class-few (sheet_words bs)) (blocks-few bs layout.sheet_words block_limit)

module _ (bs out : List ℕ) where
  back_early : 1 ≤ new_sheet_refusal bs → (narrow_sheet bs out).refusal ≡ new_sheet_refusal bs
  unfolding narrow_sheet narrow_refusal blocks_or_row
  back_early h = let n : eqb (new_sheet_refusal bs) 0 ≡ false = ne_eqb (new_sheet_refusal bs) 0 (omega arith) in rw (n, n)

  back_dropped : new_sheet_refusal bs ≡ 0 → drops_statics (sheet_words bs) ≡ true → (narrow_sheet bs out).refusal ≡ 23
  unfolding narrow_sheet narrow_refusal blocks_or_row
  back_dropped e d = rw (e, d)

  back-short : new_sheet_refusal bs ≡ 0 → drops_statics (sheet_words bs) ≡ false → length out < 512 * blocks_for (length (narrowed (sheet_words bs)))
      → (narrow_sheet bs out).refusal ≡ 18
  unfolding narrow_sheet narrow_refusal room_refusal blocks_or_row
  back-short e d l = rw (e, d, lt-ltb _ _ l)

  back_enough : new_sheet_refusal bs ≡ 0 → drops_statics (sheet_words bs) ≡ false → 512 * blocks_for (length (narrowed (sheet_words bs))) ≤ length out
      → (narrow_sheet bs out).refusal ≡ 0
  unfolding narrow_sheet narrow_refusal room_refusal blocks_or_row
  back_enough e d l = rw (e, d, le-ltb _ _ l)

  -- a row that is none of 1 to 5: the reading's accept the sheet, and it drops static words, or has no room, or has some
  beyond : {X : Type 0} → 6 ≤ (narrow_sheet bs out).refusal
      → (new_sheet_refusal bs ≡ 0 → drops_statics (sheet_words bs) ≡ true → X)
      → (new_sheet_refusal bs ≡ 0 → drops_statics (sheet_words bs) ≡ false → length out < 512 * blocks_for (length (narrowed (sheet_words bs))) → X)
      → X
  beyond h drops short =
      by (eqb (new_sheet_refusal bs) 0)
      (λ q.
      let z = eqb-true (new_sheet_refusal bs) 0 q in
      by (drops_statics (sheet_words bs)) (drops z)
      (λ d.
      by (ltb (length out) (512 * blocks_for (length (narrowed (sheet_words bs)))))
      (λ t. short z d (ltb-true _ _ t))
      (λ t. absurd (omega (arith, h, back_enough z d (ltb-false _ _ t))))))
      (λ q. let n = eqb-false (new_sheet_refusal bs) 0 q in absurd (omega (arith, h, back_early (omega arith), back_rows bs)))

  back_statics : ((narrow_sheet bs out).refusal ≡ 23) ↔ ((new_sheet_refusal bs ≡ 0) × (drops_statics (sheet_words bs) ≡ true))
  back_statics = (
    λ e. beyond (omega arith) (λ z d. (z, d)) (λ z d l. absurd (omega (arith, e, back-short z d l))),
    λ p. back_dropped p.0 p.1,
  )

  back_room : ((narrow_sheet bs out).refusal ≡ 18)
      ↔ ((new_sheet_refusal bs ≡ 0) × (drops_statics (sheet_words bs) ≡ false) × (length out < 512 * blocks_for (length (narrowed (sheet_words bs)))))
  back_room = (
    λ e. beyond (omega arith) (λ z d. absurd (omega (arith, e, back_dropped z d))) (λ z d l. (z, d, l)),
    λ p. back-short p.0 p.1 p.2,
  )

pub converted : Converted
converted = record {
  forward_back = λ bs out lent small a l. forward_back bs out a small lent l;
  back_forward = λ bs out lent small a l. back_forward bs out a small lent l;
  written = λ bs out small a. written bs out a;
  read_again = λ bs out set small a l. read_again bs out a small set l;
  counts = λ ws f fits k h. widened-front ws fits f k h;
  all_words = λ ws f fits. widened-length ws fits f;
  class_words = λ ws f fits c k l h g. widened_word_lem ws fits f c k l h g;
  words_of_statics = λ ws f fits c l h. widened-statics ws fits f c l h;
  other_words = λ ws f fits t h. widened-after ws fits f t h;
  few = few;
  widened_some = some;
  narrowed_some = some_back;
  rows = rows_few;
  early = early;
  room = room;
  enough = enough;
  most = most;
  back_rows = back_rows;
  back_early = back_early;
  back_statics = back_statics;
  back_room = back_room;
  back_enough = back_enough;
  back_few = back_few;
}
