-- How many pairs of bytes a comparison of names reads, in each of its three cases. Assumes nothing.
use Rattle.std.specs.Prelude.{ℕ, ◌-◌, ◌<◌, ◌≤◌, ◌≡◌, ◌≢◌, List, length, get_or}
use Rattle.text.specs.Text.{pairs_read}

pub record Pairs : Type 0 where
  -- "0 for unequal lengths"
  pub unequal : (a b : List ℕ) → length a ≢ length b → pairs_read a b ≡ 0
  -- "all for equal names"
  pub equal : (a : List ℕ) → pairs_read a a ≡ length a
  -- "else the length minus the last differing place (from 0)"
  pub differing : (a b : List ℕ) (p : ℕ) → length a ≡ length b → p < length a → get_or a p 0 ≢ get_or b p 0
      → ((q : ℕ) → p < q → q < length a → get_or a q 0 ≡ get_or b q 0) → pairs_read a b ≡ length a - p
  -- never more pairs than there are, and at least one of names of one length that are not empty
  pub bound : (a b : List ℕ) → pairs_read a b ≤ length a
  pub some : (a b : List ℕ) → length a ≡ length b → 0 < length a → 0 < pairs_read a b
