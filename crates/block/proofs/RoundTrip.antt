-- Words packed into blocks and read back are those words, and blocks read and packed again are those blocks. Assumes nothing.
use Rattle.std.proofs.Common.{◌≡◌, ℕ, zero, suc, ◌+◌, ◌*◌, ◌/◌, ◌%◌, ◌^◌, ◌<◌, ◌≤◌, true, ltb, List, ◌++◌, length, get_or, take, drop, sym, refl, ◌∙◌, ⊎_elim, append_assoc, eq-or-lt_of_le, arith, length-take, take_all, take_at, take-add, drop_at, ltb-false, ltb-true, eq-eqb, eqb-true}
use lib.ListN.{get_or-append, get_or-eq_default}
use Rattle.words.specs.Words.{le_word, byte_of, AreWords, AreBytes}
use Rattle.words.specs.Folds.{sum_of, table}
use Rattle.words.proofs.Bools.{by}
use Rattle.words.proofs.Bytes.{word_byte, word-of-bytes}
use Rattle.words.proofs.FoldLaws.{sum-ext, length-table, get_d_table, table-ext, table-append, table-list}
use Rattle.block.specs.Block.{word_of, block, check_ok, content, word_in, check_word, packed_word, block_byte, sheet_bytes}
use Rattle.words.proofs.Lists.{skip, part_at, length_part}
use Rattle.block.proofs.Laws.{length-content}
use Rattle.block.proofs.PackLaws.{length-bytes, packed-one, packed-check}

module _ (ws : List ℕ) (small : AreWords ws) where
  packed-small : (k j : ℕ) → packed_word ws k j < 2 ^ 32
  unfolding packed_word check_word
  packed-small k j =
      by (ltb j 127) (λ t. rw t (small (127 * k + j))) (λ t. rw t (omega arith))

  -- byte r of word j of a block
  byte-back : (k j r : ℕ) → j < 128 → r < 4 → get_or (table 512 (block_byte ws k)) (4 * j + r) 0 ≡ byte_of (packed_word ws k j) r
  unfolding block_byte
  byte-back k j r h l =
      let q : (4 * j + r) / 4 ≡ j = omega arith in
      let e : (4 * j + r) % 4 ≡ r = omega arith in
      get_d_table 512 (block_byte ws k) (4 * j + r) (omega arith) ∙ rw (q, e)

  -- word j of a block that was packed
  pub word_back : (k j : ℕ) → j < 128 → word_of (table 512 (block_byte ws k)) j ≡ packed_word ws k j
  unfolding word_of le_word
  word_back k j h =
      let z : 4 * j ≡ 4 * j + 0 = omega arith in
      let b : get_or (table 512 (block_byte ws k)) (4 * j) 0 ≡ byte_of (packed_word ws k j) 0 = rw z (byte-back k j 0 h (omega arith)) in
      rw (b, byte-back k j 1 h (omega arith), byte-back k j 2 h (omega arith), byte-back k j 3 h (omega arith))
      (word-of-bytes (packed_word ws k j) (packed-small k j))

-- block k of n that were packed, whatever follows them
pub block_back : (ws : List ℕ) (n k : ℕ) (rest : List ℕ) → k < n → block (sheet_bytes ws n ++ rest) k ≡ table 512 (block_byte ws k)
unfolding block sheet_bytes
block_back ws zero k rest h = absurd (omega arith)
block_back ws (suc n) k rest h =
    rw (append_assoc (sheet_bytes ws n) (table 512 (block_byte ws n)) rest)
    (⊎_elim
    (λ (q : k ≡ n).
    let e : n * 512 ≡ 512 * n = omega arith in
    rw (q, e, drop_at (sheet_bytes ws n) (table 512 (block_byte ws n) ++ rest) (512 * n) (length-bytes ws n))
    (take_at (table 512 (block_byte ws n)) rest 512 (length-table 512 (block_byte ws n))))
    (λ l. block_back ws n k (table 512 (block_byte ws n) ++ rest) l)
    (eq-or-lt_of_le (omega arith)))

module _ (ws : List ℕ) (small : AreWords ws) (n : ℕ) (rest : List ℕ) where
  packed-word-back : (k j : ℕ) → k < n → j < 128 → word_of (block (sheet_bytes ws n ++ rest) k) j ≡ packed_word ws k j
  packed-word-back k j h l = rw (block_back ws n k rest h) (word_back ws small k j l)

  content-word-back : (k j : ℕ) → k < n → j < 127 → word_of (block (sheet_bytes ws n ++ rest) k) j ≡ word_in ws k j
  content-word-back k j h l = packed-word-back k j h (omega arith) ∙ sym (packed-one ws k j l refl)

  -- row 2 holds of each block
  pub check-back : (k : ℕ) → k < n → check_ok (sheet_bytes ws n ++ rest) k ≡ true
  unfolding check_ok check_word
  check-back k h =
      eq-eqb _ _
      (packed-word-back k 127 h (omega arith) ∙ sym (packed-check ws k 127 (omega arith) refl)
      ∙ check-is-sum (sum-ext 127 (word_of (block (sheet_bytes ws n ++ rest) k)) (word_in ws k) (λ j l. content-word-back k j h l)))
    where
      check-is-sum : {s : ℕ} → s ≡ sum_of 127 (word_in ws k) → check_word ws k ≡ (s + (k + 1)) % 2 ^ 32
      check-is-sum e = rw e

  -- and their words are the words that were packed, with zeros past their end
  content-up_to : (m : ℕ) → m ≤ n → content (sheet_bytes ws n ++ rest) m ≡ table (127 * m) (λ i. get_or ws i 0)
  unfolding content table
  content-up_to zero h = refl
  content-up_to (suc m) h =
      let e : 127 * suc m ≡ 127 * m + 127 = omega arith in
      rw (
        e,
        table-append (127 * m) 127 (λ i. get_or ws i 0),
        content-up_to m (omega arith),
        table-ext 127 (word_of (block (sheet_bytes ws n ++ rest) m)) (word_in ws m) (λ j l. content-word-back m j (omega arith) l),
      )

  pub content-back : content (sheet_bytes ws n ++ rest) n ≡ table (127 * n) (λ i. get_or ws i 0)
  content-back = content-up_to n (omega arith)

-- ---- blocks read and packed again

module _ (bs : List ℕ) (small : AreBytes bs) (n : ℕ) (whole : length bs ≡ 512 * n) (checked : (k : ℕ) → k < n → check_ok bs k ≡ true) where
  -- word j of block k of the content
  content-at : (m k j : ℕ) → k < m → j < 127 → get_or (content bs m) (127 * k + j) 0 ≡ word_of (block bs k) j
  unfolding content
  content-at zero k j h l = absurd (omega arith)
  content-at (suc m) k j h l =
      ⊎_elim
      (λ (q : k ≡ m).
      skip (content bs m) (table 127 (word_of (block bs m))) (127 * k + j) j 0 (omega (arith, length-content bs m))
      ∙ rw q (get_d_table 127 (word_of (block bs m)) j l))
      (λ g.
      get_or-append (content bs m) (table 127 (word_of (block bs m))) 0 (127 * k + j) (omega (arith, length-content bs m))
      ∙ content-at m k j g l)
      (eq-or-lt_of_le (omega arith))

  check-again : (k : ℕ) → k < n → check_word (content bs n) k ≡ word_of (block bs k) 127
  unfolding check_word check_ok
  check-again k h =
      rw (sum-ext 127 (word_in (content bs n) k) (word_of (block bs k)) (λ j l. content-at n k j h l)) (sym (eqb-true _ _ (checked k h)))

  -- so is the word that is packed, the check word too
  packed-again : (k j : ℕ) → k < n → j < 128 → packed_word (content bs n) k j ≡ word_of (block bs k) j
  packed-again k j h l =
      ⊎_elim
      (λ (q : j ≡ 127). sym (packed-check (content bs n) k j (omega arith) refl) ∙ rw q (check-again k h))
      (λ g. sym (packed-one (content bs n) k j g refl) ∙ content-at n k j h g) (eq-or-lt_of_le (omega arith))

  block-small : (k i : ℕ) → get_or (block bs k) i 0 < 256
  unfolding block
  block-small k i =
      by (ltb i 512)
      (λ t. rw (part_at bs (k * 512) 512 i 0 (ltb-true i 512 t)) (small (k * 512 + i)))
      (λ t.
      let past : length (take 512 (drop (k * 512) bs)) ≤ i = omega (arith, ltb-false i 512 t, length-take 512 (drop (k * 512) bs)) in
      rw (get_or-eq_default (take 512 (drop (k * 512) bs)) 0 past) (omega arith))

  length-block : (k : ℕ) → k < n → length (block bs k) ≡ 512
  unfolding block
  length-block k h = length_part bs (k * 512) 512 (omega arith)

  byte-again : (k i : ℕ) → k < n → i < 512 → block_byte (content bs n) k i ≡ get_or (block bs k) i 0
  unfolding block_byte word_of
  byte-again k i h l =
      let e : 4 * (i / 4) + i % 4 ≡ i = omega arith in
      rw (packed-again k (i / 4) h (omega arith))
      (word_byte (block bs k) (block-small k) (4 * (i / 4)) (i % 4) (omega arith) ∙ rw e)

  block-again : (k : ℕ) → k < n → table 512 (block_byte (content bs n) k) ≡ block bs k
  block-again k h =
      table-ext 512 (block_byte (content bs n) k) (λ i. get_or (block bs k) i 0) (λ i l. byte-again k i h l)
      ∙ table-list (block bs k) 512 (sym (length-block k h))

  sheet-up_to : (m : ℕ) → m ≤ n → sheet_bytes (content bs n) m ≡ take (512 * m) bs
  unfolding sheet_bytes block
  sheet-up_to zero h = refl
  sheet-up_to (suc m) h =
      let e : 512 * suc m ≡ 512 * m + 512 = omega arith in
      let g : m * 512 ≡ 512 * m = omega arith in
      rw (sheet-up_to m (omega arith), block-again m (omega arith), e, g, take-add)

  pub sheet-again : sheet_bytes (content bs n) n ≡ bs
  sheet-again = sheet-up_to n (omega arith) ∙ take_all (512 * n) bs (omega arith)

  -- the words that were read are words
  word_small : (k j : ℕ) → word_of (block bs k) j < 2 ^ 32
  unfolding word_of le_word
  word_small k j =
      omega (arith, block-small k (4 * j), block-small k (4 * j + 1), block-small k (4 * j + 2), block-small k (4 * j + 3))

  pub content-small : AreWords (content bs n)
  content-small i =
      by (ltb i (127 * n))
      (λ t.
      let e : 127 * (i / 127) + i % 127 ≡ i = omega arith in
      rw (rw e at (content-at n (i / 127) (i % 127) (omega (arith, ltb-true i (127 * n) t)) (omega arith))) (word_small (i / 127) (i % 127)))
      (λ t.
      let past : length (content bs n) ≤ i = omega (arith, length-content bs n, ltb-false i (127 * n) t) in
      rw (get_or-eq_default (content bs n) 0 past) (omega arith))
