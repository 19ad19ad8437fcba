-- Words and bytes as lists of numbers. Assumes nothing.
use Rattle.std.specs.Prelude.{ℕ, ◌+◌, ◌*◌, ◌/◌, ◌%◌, ◌^◌, ◌<◌, Bool, true, false, cond, ◌&&◌, List, ◌++◌, get_or, take, drop, length, leb}

-- words of 32 bits and bytes of 8, as slices have them
abbrev pub AreWords : List ℕ → Type 0
AreWords ws = (i : ℕ) → get_or ws i 0 < 2 ^ 32

abbrev pub AreBytes : List ℕ → Type 0
AreBytes bs = (i : ℕ) → get_or bs i 0 < 256

-- the little-endian word at byte b: the four bytes from b, lowest first
unfoldable pub le_word : List ℕ → ℕ → ℕ
le_word bs b = get_or bs b 0 + 256 * get_or bs (b + 1) 0 + 65536 * get_or bs (b + 2) 0 + 16777216 * get_or bs (b + 3) 0

-- how many words hold so many bytes, four a word
abbrev pub words_for : ℕ → ℕ
words_for bytes = (bytes + 3) / 4

-- byte j of a word, counted from the lowest
unfoldable pub byte_of : ℕ → ℕ → ℕ
byte_of w j = w / 256 ^ j % 256

-- n elements from `first` on lie inside a section of `total`
unfoldable pub inside : ℕ → ℕ → ℕ → Bool
inside first n total = leb (first + n) total

module _ {A : Type 0} (src : List A) (from n : ℕ) (dst : List A) (at : ℕ) where
  -- dst with n elements of src from `from` in it from `at`
  unfoldable pub pasted : List A
  pasted = take at dst ++ take n (drop from src) ++ drop (at + n) dst

  -- the n elements are in src, and fit into dst
  unfoldable pub copy_fits : Bool
  copy_fits = leb (from + n) (length src) && leb (at + n) (length dst)

  -- whether the copy was made, and what dst then holds
  unfoldable pub copy_elements : Bool × List A
  copy_elements = cond copy_fits (true, pasted) (false, dst)
