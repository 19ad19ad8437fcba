-- What the list of marked words is, and what the count has to do with it. Assumes nothing.
use Rattle.std.specs.Prelude.{ℕ, ◌+◌, ◌<◌, ◌≤◌, true, false, ◌≡◌, length, get_or}
use mathlib.Core.List.{List, ◌++◌, Memᴰ}
use Rattle.words.specs.Words.{AreBytes}
use Rattle.references.specs.References.{is_marked, marked_words, masked_ones, too_few, read_references, count_references}

pub record Meaning : Type 0 where
  -- "The count is also to be had without the list, byte by byte, and is shown equal."
  pub count_is_length : (bitmap : List ℕ) (n : ℕ) → AreBytes bitmap → masked_ones bitmap n ≡ length (marked_words bitmap n)
  -- hence both entries answer one count
  pub one_count : (bitmap list : List ℕ) (n : ℕ) → AreBytes bitmap → (read_references bitmap n list).refusal ≡ 0
      → (read_references bitmap n list).count ≡ (count_references bitmap n).count
  -- just those words stand in the list that are marked and instance words
  pub listed_marked : (bitmap : List ℕ) (n i : ℕ) → Memᴰ i (marked_words bitmap n) → (i < n) × (is_marked bitmap i ≡ true)
  pub marked_listed : (bitmap : List ℕ) (n i : ℕ) → i < n → is_marked bitmap i ≡ true → Memᴰ i (marked_words bitmap n)
  -- "in rising order": so no number stands there twice
  pub rising : (bitmap : List ℕ) (n k : ℕ) → k + 1 < length (marked_words bitmap n)
      → get_or (marked_words bitmap n) k 0 < get_or (marked_words bitmap n) (k + 1) 0
  -- "Bits beyond the instance words are ignored": bitmaps that agree on those words give one list, also where bytes follow
  pub beyond_ignored : (a b : List ℕ) (n : ℕ) → ((i : ℕ) → i < n → is_marked a i ≡ is_marked b i) → marked_words a n ≡ marked_words b n
  pub more_ignored : (bitmap more : List ℕ) (n : ℕ) → too_few bitmap n ≡ false → marked_words (bitmap ++ more) n ≡ marked_words bitmap n
  -- at most all words are marked
  pub bound : (bitmap : List ℕ) (n : ℕ) → length (marked_words bitmap n) ≤ n
