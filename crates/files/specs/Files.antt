-- Files as programs take them, and words stored in bytes. Assumes nothing.
use Rattle.std.specs.Prelude.{ℕ, ◌+◌, ◌*◌, ◌%◌, ◌^◌, ◌≤◌, ◌<◌, ◌≡◌, Bool, Option, Some, None, IfSome, List, length, get_or, slice_get, drop, eqb, ◌&&◌}
use Rattle.std.specs.List.{list_all, starts_with}
use Rattle.words.specs.Folds.{sum_of}
use Rattle.words.specs.Words.{le_word}

-- the bytes that were read, as many as the answer says, are no more than there is room for
abbrev pub Fits : Option ℕ → ℕ → Type 0
Fits r room = IfSome r (λ n. n ≤ room)

-- What reading a file leaves. Which bytes it has, and how many, is the world's choice, and the kit promises of no lent byte that it stays: not of those after
-- the ones that were read, and not where the reading failed. Of every choice: the count has room, the lent bytes stay as many, and each is a byte.
pub record Left (r : Option ℕ) (before after : List ℕ) : Type 0 where
  pub counted : Fits r (length before)
  pub as_many : length after ≡ length before
  pub bytes : (i : ℕ) → get_or after i 0 < 256

-- word i of bytes that hold words, four bytes each, the lowest first
unfoldable pub word_of : List ℕ → ℕ → ℕ
word_of bytes i = le_word bytes (4 * i)

-- word i of one list is word i of another; a word past the end is 0
abbrev pub same_word : List ℕ → List ℕ → ℕ → Bool
same_word ws others i = eqb (get_or ws i 0) (get_or others i 0)

-- lent bytes begin with these, and each one after them is 7
abbrev pub holds_only : List ℕ → List ℕ → Bool
holds_only lent bytes = starts_with eqb lent bytes && list_all (λ b. eqb b 7) (drop (length bytes) lent)

-- an element that gives w, times its place from 1, as a word; nothing past the end
abbrev pub weighed : {A : Type 0} → (A → ℕ) → ℕ → Option A → ℕ
weighed w i (Some x) = (i % 2 ^ 32 + 1) % 2 ^ 32 * w x % 2 ^ 32
weighed w i None = 0

-- the sum of them, modulo 2^32
abbrev pub weighed_sum : {A : Type 0} → (A → ℕ) → List A → ℕ
weighed_sum w xs = sum_of (length xs) (λ i. weighed w i (slice_get xs i)) % 2 ^ 32
