-- The classes that declare the slots' methods, in an array beside words and marks: a number for each slot, 0 where there is none.
-- Assumes nothing.
use Rattle.std.specs.Prelude.{ℕ, ◌<◌, ◌≡◌, cond, not, ◌&&◌, List, get_or, eqb, Option}
use Rattle.words.specs.Folds.{stores}
use Rattle.linking.specs.declared.Declared.{Declared}
use Rattle.linking.specs.Whose.{declaring_class}

-- a slot's class d, or where it has none and has a mark k, class c; and n slots' classes after that
unfoldable pub claimed : ℕ → ℕ → ℕ → ℕ
claimed c k d = cond (eqb d 0 && not (eqb k 0)) c d

unfoldable pub claims : ℕ → ℕ → List ℕ → List ℕ → List ℕ
claims c n ms cs = stores n (λ i. claimed c (get_or ms i 0) (get_or cs i 0)) cs

-- a slot's class, or where it has none the class of what is answered for it; and n slots' classes after that
unfoldable pub or_class : ℕ → Option Declared → ℕ
or_class d a = cond (eqb d 0) (declaring_class a) d

unfoldable pub classes_with : (ℕ → Option Declared) → ℕ → List ℕ → List ℕ
classes_with f n cs = stores n (λ i. or_class (get_or cs i 0) (f i)) cs

-- each of the n slots has a class exactly if it has a mark
unfoldable pub Paired : ℕ → List ℕ → List ℕ → Type 0
Paired n ms cs = (i : ℕ) → i < n → eqb (get_or cs i 0) 0 ≡ eqb (get_or ms i 0) 0
