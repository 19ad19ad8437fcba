-- Texts as bytes, and how they are put into lent bytes. Assumes nothing.
use Rattle.std.specs.Prelude.{ℕ, zero, suc, ◌+◌, ◌/◌, ◌%◌, cond, List, [], ◌∷◌, ◌++◌, length, set, ltb}
use Rattle.words.specs.Lists.{fold}

-- ---- into lent bytes

-- lent bytes and a place in them, after a byte was put there: the next place, or all as it was where there is no room
unfoldable pub put_byte : List ℕ × ℕ → ℕ → List ℕ × ℕ
put_byte p b = cond (ltb p.1 (length p.0)) (set p.0 p.1 b, p.1 + 1) p

-- after these bytes were put there, as many as there is room for
unfoldable pub put : List ℕ × ℕ → List ℕ → List ℕ × ℕ
put p bs = fold put_byte p bs

-- ---- numbers

-- the last k decimal digits of n, without zeros in front
unfoldable pub digits : ℕ → ℕ → List ℕ
digits zero n = []
digits (suc k) n = cond (ltb n 10) ((48 + n) ∷ []) (digits k (n / 10) ++ ((48 + n % 10) ∷ []))

-- a number in decimal; it has no more than n + 1 digits
unfoldable pub decimal : ℕ → List ℕ
decimal n = digits (suc n) n
