-- Laws of a number's digits, one after the other as the code reads them. Assumes nothing.
use Rattle.std.proofs.Common.{◌≡◌, ℕ, ◌+◌, ◌<◌, ◌≤◌, ◌&&◌, true, false, cond, ltb, List, [], ◌∷◌, length, get_or, drop, Some, None, refl, arith, drop-cons, add-one, drop_of_length-le}
use mathlib.Core.Bool.{and-false}
use borrow.Author.Tests.{lt-ltb, le-ltb}
use Rattle.members.specs.Number.{is_digit, with_digit, number_from, number_of}

-- ---- byte i of a word, after the number n

module _ (word : List ℕ) (n i : ℕ) (h : i < length word) where
  here : number_from n (drop i word)
      ≡ cond (is_digit (get_or word i 0) && ltb (with_digit n (get_or word i 0)) 4294967296)
      (number_from (with_digit n (get_or word i 0)) (drop (i + 1) word)) None
  unfolding number_from
  here = rw (drop-cons word i 0 h, add-one i)

  -- it is no digit
  pub number_stop : is_digit (get_or word i 0) ≡ false → number_from n (drop i word) ≡ None
  number_stop e = rw (here, e)

  -- the number is too large with it
  pub number_large : 4294967296 ≤ with_digit n (get_or word i 0) → number_from n (drop i word) ≡ None
  number_large l = rw (here, le-ltb (with_digit n (get_or word i 0)) 4294967296 l, and-false)

  pub number_turn : is_digit (get_or word i 0) ≡ true → with_digit n (get_or word i 0) < 4294967296
      → number_from n (drop i word) ≡ number_from (with_digit n (get_or word i 0)) (drop (i + 1) word)
  number_turn e l = rw (here, e, lt-ltb (with_digit n (get_or word i 0)) 4294967296 l)

-- ---- the whole word

pub number_end : (word : List ℕ) (n i : ℕ) → length word ≤ i → number_from n (drop i word) ≡ Some n
unfolding number_from
number_end word n i h = rw (drop_of_length-le word h)

-- a word with a byte is read digit by digit
pub number_some : (word : List ℕ) → 0 < length word → number_of word ≡ number_from 0 (drop 0 word)
number_some [] h = absurd (omega arith)
number_some (b ∷ bs) h = refl

pub number_none : (word : List ℕ) → length word ≡ 0 → number_of word ≡ None
number_none [] h = refl
number_none (b ∷ bs) h = absurd (omega arith)

pub ruleset number_steps = (number_stop, number_end, number_some, number_none)
