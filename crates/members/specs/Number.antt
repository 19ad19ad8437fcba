-- A number as a word spells it: decimal digits, one at least, of a value below 2^32. Assumes nothing.
use Rattle.std.specs.Prelude.{ℕ, ◌+◌, ◌*◌, ◌-◌, Bool, cond, ◌&&◌, List, [], ◌∷◌, leb, ltb, Option, Some, None}

-- from "0" to "9"
abbrev pub is_digit : ℕ → Bool
is_digit b = leb 48 b && leb b 57

-- a number with one more digit
abbrev pub with_digit : ℕ → ℕ → ℕ
with_digit n b = 10 * n + (b - 48)

-- the number that the digits before spell, and these after them
unfoldable pub number_from : ℕ → List ℕ → Option ℕ
number_from n [] = Some n
number_from n (b ∷ bs) = cond (is_digit b && ltb (with_digit n b) 4294967296) (number_from (with_digit n b) bs) None

abbrev pub number_of : List ℕ → Option ℕ
number_of [] = None
number_of (b ∷ bs) = number_from 0 (b ∷ bs)
