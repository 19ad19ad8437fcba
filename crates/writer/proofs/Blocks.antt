-- Words and their blocks, whatever the words stand for: the blocks of words are read as the words and zeros to the end of the last block, and a
-- sheet whose words are 0 past a place is the blocks of the words before it. Assumes nothing.
use mathlib.Core.Path.{◌≡◌, sym, ◌∙◌}
use mathlib.Core.Bool.{true, not}
use mathlib.Core.List.{List, [], ◌++◌, append-nil}
use Prim.Native.Nat.{ℕ, ◌+◌, ◌*◌, ◌-◌, ◌/◌, ◌%◌, ◌^◌, ◌≤◌, ◌<◌}
use native.Mathlib.Omega.{arith}
use lib.ListN.{length, get_or, take, replicate, length-append, length-replicate, get_or-eq_default}
use lib.Seq.{ext_get_or, get_or-take, length-take-le}
use lib.Dec.{eqb, ltb}
use borrow.Author.Tests.{ltb-true, ltb-false, not-false, eqb-true, eqb-false}
use Rattle.words.specs.Words.{byte_of, AreWords, AreBytes}
use Rattle.words.specs.Folds.{all_of, table}
use Rattle.words.proofs.Bools.{by, passed}
use Rattle.words.proofs.Bytes.{word-of-bytes}
use Rattle.words.proofs.FoldLaws.{all-each, all-if, length-table, get_d_table}
use Rattle.block.specs.Block.{block_count, check_ok, sheet_words, shape_ok, least_fit, blocks_for, sheet_bytes}
use Rattle.block.proofs.Laws.{length-content, shape_whole, shape_if, blocks-least, least-blocks}
use Rattle.block.proofs.PackLaws.{length-bytes, bytes_same}
use Rattle.block.proofs.RoundTrip.{check-back, content-back, sheet-again, content-small}
use Rattle.text.specs.Text.{text_byte, zero_rest}
use Rattle.class_sheet.specs.ClassSheet.{block_limit}
use Rattle.sheet.specs.Sheet.{block_refusal, sheet_refusal}
use Rattle.writer.proofs.Zeros.{zero-each, padded-at}

-- ---- rows 1 and 2

pub block-passed : (bs : List ℕ) (room : ℕ) → block_refusal bs room block_limit ≡ 0
    → (shape_ok (length bs) room block_limit ≡ true) × (all_of (block_count bs) (check_ok bs) ≡ true)
unfolding block_refusal
block-passed bs room e =
    let p = passed (not (shape_ok (length bs) room block_limit)) 1 _ (omega arith) e in
    let q = passed (not (all_of (block_count bs) (check_ok bs))) 2 0 (omega arith) p.1 in
    (not-false _ p.0, not-false _ q.0)

pub block-accepts : (bs : List ℕ) (room : ℕ) → shape_ok (length bs) room block_limit ≡ true → all_of (block_count bs) (check_ok bs) ≡ true
    → block_refusal bs room block_limit ≡ 0
unfolding block_refusal
block-accepts bs room s c = rw (s, c)

pub sheet-passed : (rows : List ℕ → ℕ) (bs : List ℕ) (room : ℕ) → sheet_refusal block_limit rows bs room ≡ 0
    → (block_refusal bs room block_limit ≡ 0) × (rows (sheet_words bs) ≡ 0)
unfolding sheet_refusal
sheet-passed rows bs room e =
    by (eqb (block_refusal bs room block_limit) 0) (λ q. (eqb-true _ _ q, rw q at e)) (λ q. absurd (eqb-false _ _ q (rw q at e)))

-- ---- the blocks of words, read

-- words, then zeros to the end of their last block
abbrev pub padded : List ℕ → List ℕ
padded c = c ++ replicate (127 * blocks_for (length c) - length c) 0

module _ (c : List ℕ) (small : AreWords c) where
  abbrev n : ℕ
  n = blocks_for (length c)

  abbrev bytes : List ℕ
  bytes = sheet_bytes c n

  pub blocks-count : block_count bytes ≡ n
  unfolding block_count
  blocks-count = omega (arith, length-bytes c n)

  pub length-padded : length (padded c) ≡ 127 * n
  length-padded =
      let b = least-blocks (length c) n (blocks-least (length c)) in
      omega (arith, length-append c (replicate (127 * n - length c) 0), length-replicate {A = ℕ} (127 * n - length c) 0, b.0)

  pub blocks-words : sheet_words bytes ≡ padded c
  unfolding sheet_words
  blocks-words =
      let l = length-table (127 * n) (λ i. get_or c i 0) in
      rw blocks-count
      (rw (append-nil bytes) at (content-back c small n [])
      ∙ ext_get_or 0 (table (127 * n) (λ i. get_or c i 0)) (padded c) (l ∙ sym length-padded)
      (λ i h. get_d_table (127 * n) (λ i. get_or c i 0) i (omega arith) ∙ sym (padded-at c (127 * n - length c) i)))

  blocks-checked : all_of (block_count bytes) (check_ok bytes) ≡ true
  blocks-checked =
      rw blocks-count (all-if n (check_ok bytes) (λ k l. rw (append-nil bytes) at (check-back c small n [] k l)))

  -- rows 1 and 2 do not refuse them, and the other rows see the padded words
  pub blocks-rows : (rows : List ℕ → ℕ) (room : ℕ) → 1 ≤ n → n ≤ block_limit → 127 * n ≤ room
      → sheet_refusal block_limit rows bytes room ≡ rows (padded c)
  unfolding sheet_refusal
  blocks-rows rows room some few l =
      let s : shape_ok (length bytes) room block_limit ≡ true = rw (length-bytes c n) (shape_if n room block_limit some few l) in
      rw (block-accepts bytes room s blocks-checked, blocks-words)

-- ---- a sheet, from the words that were read

-- a word whose bytes are all 0
zero_word : (ws : List ℕ) (i : ℕ) → get_or ws i 0 < 2 ^ 32 → ((r : ℕ) → r < 4 → text_byte ws (4 * i + r) ≡ 0) → get_or ws i 0 ≡ 0
unfolding text_byte
zero_word ws i h z =
    let byte : (r : ℕ) → r < 4 → byte_of (get_or ws i 0) r ≡ 0 =
    λ r l. let q : (4 * i + r) / 4 ≡ i = omega arith in let e : (4 * i + r) % 4 ≡ r = omega arith in rw (q, e) at (z r l) in
    let w = word-of-bytes (get_or ws i 0) h in
    omega (arith, byte 0 (omega arith), byte 1 (omega arith), byte 2 (omega arith), byte 3 (omega arith))

module _ (bs : List ℕ) (room : ℕ) (small : AreBytes bs) (e : block_refusal bs room block_limit ≡ 0) where
  abbrev ws : List ℕ
  ws = sheet_words bs

  pub whole : length bs ≡ 512 * block_count bs
  unfolding block_count
  whole = (shape_whole (length bs) room block_limit (block-passed bs room e).0).1

  checked : (k : ℕ) → k < block_count bs → check_ok bs k ≡ true
  checked = all-each (block_count bs) (check_ok bs) (block-passed bs room e).1

  pub words-length : length ws ≡ 127 * block_count bs
  unfolding sheet_words
  words-length = length-content bs (block_count bs)

  pub words_small : AreWords ws
  unfolding sheet_words
  words_small = content-small bs small (block_count bs) whole checked

  -- where the words fit in the least blocks up to `end`, and each byte from `start` on is 0
  module _ (end start : ℕ) (least : least_fit end (length ws) ≡ true) (inside : start ≤ 4 * end) (zero : zero_rest ws start ≡ true) where
    pub again-blocks : (end ≤ 127 * block_count bs) × (blocks_for end ≡ block_count bs)
    again-blocks = least-blocks end (block_count bs) (rw words-length at least)

    past : (i : ℕ) → end ≤ i → get_or ws i 0 ≡ 0
    past i h = zero_word ws i (words_small i) (λ r l. zero-each ws start zero (4 * i + r) (omega arith))

    pub again-same : (i : ℕ) → get_or ws i 0 ≡ get_or (take end ws) i 0
    again-same i =
        by (ltb i end)
        (λ t. sym (get_or-take end ws i 0 (ltb-true i end t)))
        (λ t.
        let l = ltb-false i end t in
        let outside : length (take end ws) ≤ i = omega (arith, length-take-le end ws (omega (arith, words-length, again-blocks.0))) in
        past i l ∙ sym (get_or-eq_default (take end ws) 0 outside))

    pub again : sheet_bytes (take end ws) (blocks_for end) ≡ bs
    unfolding sheet_words
    again = rw (again-blocks.1, ← (bytes_same ws (take end ws) again-same (block_count bs))) (sheet-again bs small (block_count bs) whole checked)
