-- Laws of packing words into blocks. Assumes nothing.
use Rattle.std.proofs.Common.{◌≡◌, ℕ, zero, suc, ◌+◌, ◌-◌, ◌*◌, ◌/◌, ◌<◌, ◌≤◌, List, ◌++◌, length, get_or, take, drop, refl, ◌∙◌, add-one, arith, length-append, le-ltb, lt-ltb}
use Rattle.words.specs.Folds.{table, stores}
use Rattle.words.proofs.FoldLaws.{sum-ext, length-table, table-ext}
use Rattle.block.proofs.Laws.{part_filled}
use Rattle.block.specs.Block.{word_in, check_word, packed_word, block_byte, sheet_bytes, packed_blocks}

pub packed-one : (ws : List ℕ) (k j : ℕ) {w : ℕ} → j < 127 → w ≡ word_in ws k j → w ≡ packed_word ws k j
unfolding packed_word
packed-one ws k j h e = simp (lt-ltb j 127 h) e

pub packed-check : (ws : List ℕ) (k j : ℕ) {w : ℕ} → 127 ≤ j → w ≡ check_word ws k → w ≡ packed_word ws k j
unfolding packed_word
packed-check ws k j h e = simp (le-ltb j 127 h) e

-- ---- the blocks

pub bytes_none : (ws d : List ℕ) → d ≡ sheet_bytes ws 0 ++ drop (512 * 0) d
unfolding sheet_bytes
bytes_none ws d = refl

pub length-bytes : (ws : List ℕ) (n : ℕ) → length (sheet_bytes ws n) ≡ 512 * n
unfolding sheet_bytes
length-bytes ws zero = refl
length-bytes ws (suc n) =
    let e = length-append (sheet_bytes ws n) (table 512 (block_byte ws n)) in
    let f = length-table 512 (block_byte ws n) in
    let g = length-bytes ws n in
    omega (arith, add-one n)

-- a turn of the loop that packs: block k's bytes
pub bytes_turn : (ws d : List ℕ) (k : ℕ) {o y : List ℕ} → 512 * k + 512 ≤ length d → o ≡ sheet_bytes ws k ++ drop (512 * k) d
    → y ≡ stores 512 (block_byte ws k) (take (512 * k + 512 - 512 * k) (drop (512 * k) o))
    → take (512 * k) o ++ (y ++ drop (512 * k + 512 - 512 * k) (drop (512 * k) o)) ≡ sheet_bytes ws (k + 1) ++ drop (512 * (k + 1)) d
unfolding sheet_bytes
bytes_turn ws d k room p r =
    let e : 512 * (k + 1) ≡ 512 * k + 512 = omega arith in
    rw (e, add-one k) (part_filled (sheet_bytes ws k) d (512 * k) 512 (block_byte ws k) (length-bytes ws k) room p r)

pub packed_none : (ws : List ℕ) (n : ℕ) (bs : List ℕ) → length bs < 512 * n → bs ≡ packed_blocks ws n bs
unfolding packed_blocks
packed_none ws n bs h = simp (lt-ltb (length bs) (512 * n) h)

pub packed_all : (ws : List ℕ) (n k : ℕ) (bs : List ℕ) {o : List ℕ} → o ≡ sheet_bytes ws k ++ drop (512 * k) bs → n ≤ k → k ≤ n → 512 * n ≤ length bs
    → o ≡ packed_blocks ws n bs
unfolding packed_blocks
packed_all ws n k bs p g l h = let e : k ≡ n = omega arith in p ∙ simp (le-ltb (length bs) (512 * n) h, e)

pub packed-is : (ws : List ℕ) (n : ℕ) (bs : List ℕ) → 512 * n ≤ length bs → packed_blocks ws n bs ≡ sheet_bytes ws n ++ drop (512 * n) bs
unfolding packed_blocks
packed-is ws n bs h = simp (le-ltb (length bs) (512 * n) h)

-- words that are the same with zeros past their end have the same blocks
module _ (a b : List ℕ) (same : (i : ℕ) → get_or a i 0 ≡ get_or b i 0) where
  byte-same : (k i : ℕ) → block_byte a k i ≡ block_byte b k i
  unfolding block_byte packed_word check_word
  byte-same k i =
      let s = sum-ext 127 (word_in a k) (word_in b k) (λ j l. same (127 * k + j)) in rw (same (127 * k + i / 4), s)

  pub bytes_same : (n : ℕ) → sheet_bytes a n ≡ sheet_bytes b n
  unfolding sheet_bytes
  bytes_same zero = refl
  bytes_same (suc n) = rw (bytes_same n, table-ext 512 (block_byte a n) (block_byte b n) (λ i l. byte-same n i))
