-- The instance reference bitmap: which of an object's words hold references. Assumes nothing.
-- "word i is marked if byte i / 8 has the bit 0x80 shifted right by i modulo 8. It gives the marked word numbers in rising order and their
-- count. Bits beyond the instance words are ignored."
use Rattle.std.specs.Prelude.{ℕ, ◌+◌, ◌*◌, ◌-◌, ◌/◌, ◌%◌, ◌^◌, min, Bool, cond, not, List, [], ◌++◌, length, get_or, drop, eqb, ltb, Result, Ok, Err}
use Rattle.std.specs.Int.Bits.{bit_and}
use Rattle.std.specs.Int.Count.{ones}
use Rattle.words.specs.Folds.{sum_of}
use Rattle.words.specs.Lists.{numbers, keep}
use Rattle.refusal.specs.declared.Refusal.{Refusal}
use Rattle.refusal.specs.Rows.{row}

-- ---- the marked words

-- "byte i / 8 has the bit 0x80 shifted right by i modulo 8"
unfoldable pub is_marked : List ℕ → ℕ → Bool
is_marked bitmap i = not (eqb (bit_and (get_or bitmap (i / 8) 0) (0x80 / 2 ^ (i % 8))) 0)

-- of n instance words, "in rising order"
unfoldable pub marked_words : List ℕ → ℕ → List ℕ
marked_words bitmap n = keep (is_marked bitmap) (numbers 0 n)

-- ---- "The count is also to be had without the list, byte by byte": the ones of each byte, those beyond the instance words left out

-- how many bytes n words take
unfoldable pub bytes_for : ℕ → ℕ
bytes_for n = (n + 7) / 8

-- how many bits of byte j, from the highest on, are of instance words
unfoldable pub kept_bits : ℕ → ℕ → ℕ
kept_bits n j = min 8 (n - 8 * j)

-- a byte's k highest bits, and zeros below them: the mask has ones in those bits
unfoldable pub masked : ℕ → ℕ → ℕ
masked b k = bit_and b (256 - 2 ^ (8 - k))

-- byte j without the bits "beyond the instance words"
abbrev pub masked_byte : List ℕ → ℕ → ℕ → ℕ
masked_byte bitmap n j = masked (get_or bitmap j 0) (kept_bits n j)

-- "Ones of each masked bitmap byte are summed"
unfoldable pub masked_ones : List ℕ → ℕ → ℕ
masked_ones bitmap n = sum_of (bytes_for n) (λ j. ones (masked_byte bitmap n j))

-- ---- the calls: "24, if the bitmap has too few bytes; 25, after it, if the lent list is shorter than the count"

unfoldable pub too_few : List ℕ → ℕ → Bool
too_few bitmap n = ltb (length bitmap) (bytes_for n)

-- "An accepted call gives 0 and its result; a refused one gives its number, zero in every other answer word, and unchanged lent memory."
pub record Outcome : Type 0 where
  pub refusal : ℕ
  pub count : ℕ
  pub memory : List ℕ

-- the number and value of an answer, beside the memory
abbrev pub outcome : Result ℕ Refusal → List ℕ → Outcome
outcome (Ok n) list = record { refusal = 0; count = n; memory = list }
outcome (Err r) list = record { refusal = row r; count = 0; memory = list }

-- the marked words fill the list from its front; words after them stay
unfoldable pub written_over : List ℕ → List ℕ → List ℕ
written_over marks list = marks ++ drop (length marks) list

unfoldable pub read_references : List ℕ → ℕ → List ℕ → Outcome
read_references bitmap n list =
    let marks : List ℕ = marked_words bitmap n in
    cond (too_few bitmap n)
    (record { refusal = 24; count = 0; memory = list })
    (cond (ltb (length list) (length marks))
    (record { refusal = 25; count = 0; memory = list })
    (record { refusal = 0; count = length marks; memory = written_over marks list }))

-- the count alone; no memory is lent to be written
abbrev pub counted : Result ℕ Refusal → Outcome
counted r = outcome r []

unfoldable pub count_references : List ℕ → ℕ → Outcome
count_references bitmap n =
    cond (too_few bitmap n) (record { refusal = 24; count = 0; memory = [] }) (record { refusal = 0; count = masked_ones bitmap n; memory = [] })
