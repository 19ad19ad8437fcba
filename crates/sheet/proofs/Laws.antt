-- Laws of reading, over any limit and any rows after the first two. Assumes nothing.
use mathlib.Core.Path.{◌≡◌, sym, ◌∙◌}
use mathlib.Core.Bool.{true, not}
use mathlib.Core.List.{List, ◌++◌}
use Prim.Native.Nat.{ℕ, ◌*◌, ◌%◌, ◌^◌, ◌≤◌, ◌<◌}
use native.Mathlib.Omega.{arith}
use lib.ListN.{length, take, drop}
use lib.Seq.{take_at}
use borrow.Author.Tests.{ne_eqb, not-false}
use Rattle.words.proofs.Bools.{passed}
use Rattle.block.specs.Block.{block_count, sheet_words, content, unpacked, shape_ok}
use Rattle.block.proofs.Laws.{shape_fits, unpacked-is, length-content}
use Rattle.std.proofs.Common.{Result, Ok}
use Rattle.std.specs.Result.{IsErrAnd}
use Rattle.std.proofs.lemmas.Result.{err_from_is_err_and}
use Rattle.refusal.specs.Rows.{row}
use Rattle.refusal.specs.declared.Refusal.{Refusal}
use Rattle.refusal.proofs.Rows.{row_above}
use Rattle.sheet.specs.Sheet.{outcome, block_refusal, sheet_refusal, read_sheet}

-- ---- rows 1 and 2

-- of blocks that row 1 lets pass the count is whole
pub whole : (bs : List ℕ) (room limit : ℕ) {n : ℕ} → n ≡ block_count bs % 2 ^ 32 → shape_ok (length bs) room limit ≡ true → limit < 2 ^ 32 → n ≡ block_count bs
unfolding block_count
whole bs room limit e h l = let f = shape_fits (length bs) room limit h in omega arith

-- blocks that rows 1 and 2 do not refuse are few, and their words fit
pub block-fits : (bs : List ℕ) (room limit : ℕ) → block_refusal bs room limit ≡ 0
    → (block_count bs ≤ limit) × (127 * block_count bs ≤ room)
unfolding block_refusal block_count
block-fits bs room limit e =
    let p = passed (not (shape_ok (length bs) room limit)) 1 _ (omega arith) e in
    shape_fits (length bs) room limit (not-false _ p.0)

module _ (limit : ℕ) (bs : List ℕ) (room : ℕ) (small : limit < 2 ^ 32)
    (first : 0 ≡ block_refusal bs room limit) {n : ℕ} (blocks : n ≡ block_count bs % 2 ^ 32) where
  pub all-blocks : (n ≡ block_count bs) × (n ≤ limit) × (127 * n ≤ room)
  all-blocks = let k = block-fits bs room limit (sym first) in (omega arith, omega arith, omega arith)

  -- the words unpacked into a slice that has room for them
  pub words-unpacked : (d : List ℕ) → 127 * n ≤ length d → {u : List ℕ} → u ≡ unpacked bs n d → u ≡ sheet_words bs ++ drop (127 * block_count bs) d
  unfolding sheet_words
  words-unpacked d l g = rw (← all-blocks.0) (g ∙ unpacked-is bs n d l)

  -- and handed on as their part
  pub words-handed : (d : List ℕ) → 127 * limit ≤ length d → {u p : List ℕ} → u ≡ unpacked bs n d → p ≡ take (127 * n) (drop 0 u) → p ≡ sheet_words bs
  unfolding sheet_words
  words-handed d l {u = u} g i =
      let b = all-blocks in
      let o : u ≡ content bs n ++ drop (127 * n) d = g ∙ unpacked-is bs n d (omega arith) in
      rw (← b.0) (i ∙ rw o (take_at (content bs n) (drop (127 * n) d) (127 * n) (length-content bs n)))

-- ---- rows 1 to 5

module _ (limit : ℕ) (rows : List ℕ → ℕ) (bs : List ℕ) (room : ℕ) where
  pub sheet-early : (k : Refusal) → row k ≡ block_refusal bs room limit → row k ≡ sheet_refusal limit rows bs room
  unfolding sheet_refusal
  sheet-early k e = rw (← e) (simp (ne_eqb (row k) 0 (λ z. omega (arith, z, row_above k))))

  pub sheet-rest : 0 ≡ block_refusal bs room limit → {r : ℕ} {p : List ℕ} → p ≡ sheet_words bs → r ≡ rows p → r ≡ sheet_refusal limit rows bs room
  unfolding sheet_refusal
  sheet-rest z e q = q ∙ rw (← z, e)

-- ---- what a reading leaves

module _ (refusal : List ℕ → ℕ → ℕ) (bs ws : List ℕ) where
  pub refused : (r : Result ℕ Refusal) (k : Refusal) → IsErrAnd r (λ e. e ≡ k) → row k ≡ refusal bs (length ws) → outcome r ws ≡ read_sheet refusal bs ws
  unfolding read_sheet
  refused r k i e =
      let p = err_from_is_err_and r i in
      rw (p.1, p.2, ← e) (simp (ne_eqb (row k) 0 (λ z. omega (arith, z, row_above k))))

  pub accepted : {n : ℕ} {o : List ℕ} → 0 ≡ refusal bs (length ws) → n ≡ block_count bs → o ≡ sheet_words bs ++ drop (127 * block_count bs) ws
      → outcome (Ok (127 * n)) o ≡ read_sheet refusal bs ws
  unfolding read_sheet
  accepted e n o = rw (← e, n, o)
