-- The block form of a sheet, on lists of bytes and words. Assumes nothing.
-- "The house form: blocks of 512 bytes, 128 little-endian u32 words. The last word is the sum of the other 127 and the block's
-- number from 1, modulo 2^32. The 127s run on as one word list."
use Rattle.std.specs.Prelude.{ℕ, zero, suc, ◌+◌, ◌*◌, ◌/◌, ◌%◌, ◌^◌, Bool, cond, not, ◌&&◌, List, [], ◌++◌, length, take, drop, ◌==◌, nat_le, nat_lt, slice_index}
use Rattle.words.specs.Words.{le_word, byte_of}
use Rattle.words.specs.Folds.{sum_of, table}

-- word j of a block
unfoldable pub word_of : List ℕ → ℕ → ℕ
word_of blk j = le_word blk (4 * j)

-- block k, counted from 0
unfoldable pub block : List ℕ → ℕ → List ℕ
block bs k = take 512 (drop (k * 512) bs)

-- how many blocks the bytes are, and the words that they hold: "The 127s run on as one word list."
unfoldable pub block_count : List ℕ → ℕ
block_count bs = length bs / 512

-- row 2, of block k: its last word is the sum of the other 127 and its number from 1
unfoldable pub check_ok : List ℕ → ℕ → Bool
check_ok bs k = word_of (block bs k) 127 == (sum_of 127 (word_of (block bs k)) + (k + 1)) % 2 ^ 32

-- the 127s of the first n blocks, one after the other
unfoldable pub content : List ℕ → ℕ → List ℕ
content bs zero = []
content bs (suc n) = content bs n ++ table 127 (word_of (block bs n))

unfoldable pub sheet_words : List ℕ → List ℕ
sheet_words bs = content bs (block_count bs)

-- words with the content of n blocks in front and the rest as it was, where there is room
unfoldable pub unpacked : List ℕ → ℕ → List ℕ → List ℕ
unpacked bs n ws = cond (nat_lt (length ws) (127 * n)) ws (content bs n ++ drop (127 * n) ws)

-- row 1 does not refuse: "bytes 0, not a multiple of 512, above 92 blocks (class sheet) or 51 (ABI sheet), or the lent word slice
-- holds fewer than 127 words a block"
unfoldable pub shape_ok : ℕ → ℕ → ℕ → Bool
shape_ok len room limit = not (len == 0) && len % 512 == 0 && nat_le (len / 512) limit && nat_le (127 * (len / 512)) room

-- row 3: "a block count not the least that fits" does not hold: n words, 127 a block, hold the content, and a block less would not
unfoldable pub least_fit : ℕ → ℕ → Bool
least_fit end n = nat_le end n && nat_lt n (end + 127)

-- ---- writing: blocks made of a word list

-- how many blocks the content takes: the least that fits
unfoldable pub blocks_for : ℕ → ℕ
blocks_for end = (end + 126) / 127

-- word j of block k's 127; 0 past the end of the words
abbrev pub word_in : List ℕ → ℕ → ℕ → ℕ
word_in ws k j = slice_index ws (127 * k + j)

-- "The last word is the sum of the other 127 and the block's number from 1, modulo 2^32."
unfoldable pub check_word : List ℕ → ℕ → ℕ
check_word ws k = (sum_of 127 (word_in ws k) + (k + 1)) % 2 ^ 32

unfoldable pub packed_word : List ℕ → ℕ → ℕ → ℕ
packed_word ws k j = cond (nat_lt j 127) (word_in ws k j) (check_word ws k)

-- the 512 bytes of block k, and those of n blocks one after the other
unfoldable pub block_byte : List ℕ → ℕ → ℕ → ℕ
block_byte ws k i = byte_of (packed_word ws k (i / 4)) (i % 4)

unfoldable pub sheet_bytes : List ℕ → ℕ → List ℕ
sheet_bytes ws zero = []
sheet_bytes ws (suc n) = sheet_bytes ws n ++ table 512 (block_byte ws n)

-- bytes with n blocks in front and the rest as it was, where there is room
unfoldable pub packed_blocks : List ℕ → ℕ → List ℕ → List ℕ
packed_blocks ws n bs = cond (nat_lt (length bs) (512 * n)) bs (sheet_bytes ws n ++ drop (512 * n) bs)
