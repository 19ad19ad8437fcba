-- Records of one width as rows, lists of words: joined to one list and cut from it again. Assumes nothing.
use Rattle.std.specs.Prelude.{ℕ, zero, suc, ◌≡◌, List, [], ◌∷◌, ◌++◌, length, get_or, take, drop, set}

-- each row has w words
pub data Rows (w : ℕ) : List (List ℕ) → Type 0 where
  no_rows : Rows w []
  a_row : {r : List ℕ} {rs : List (List ℕ)} → length r ≡ w → Rows w rs → Rows w (r ∷ rs)

-- the words of the rows, one row after the other
unfoldable pub joined : List (List ℕ) → List ℕ
joined [] = []
joined (r ∷ rs) = r ++ joined rs

-- the first n rows of w words each
unfoldable pub cut : ℕ → ℕ → List ℕ → List (List ℕ)
cut w zero ws = []
cut w (suc n) ws = take w ws ∷ cut w n (drop w ws)

-- word k of row i, 0 outside
abbrev pub row_word : List (List ℕ) → ℕ → ℕ → ℕ
row_word rs i k = get_or (get_or rs i []) k 0

-- the rows with a store to word k of row i
abbrev pub set_word : List (List ℕ) → ℕ → ℕ → ℕ → List (List ℕ)
set_word rs i k v = set rs i (set (get_or rs i []) k v)
