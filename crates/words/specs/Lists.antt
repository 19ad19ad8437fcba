-- Lists that are given by a count, and searches and folds along lists, front to back, as a loop goes along them. Assumes nothing.
use Rattle.std.specs.Prelude.{ℕ, zero, suc, ◌+◌, Bool, false, cond, ◌||◌, List, [], ◌∷◌, Option, Some, None}
use Rattle.std.specs.Option.{option_or}

-- f m, f (m + 1), .., n in all
unfoldable pub list_from {ℓ} : {A : Type ℓ} → (ℕ → A) → ℕ → ℕ → List A
list_from f m zero = []
list_from f m (suc n) = f m ∷ list_from f (m + 1) n

-- m, m + 1, .., n in all
abbrev pub numbers : ℕ → ℕ → List ℕ
numbers m n = list_from (λ k. k) m n

-- the first number of the list that passes the test
unfoldable pub find : (ℕ → Bool) → List ℕ → Option ℕ
find p [] = None
find p (x ∷ xs) = cond (p x) (Some x) (find p xs)

-- what the first element finds that finds anything
unfoldable pub first_found {ℓ} : {A : Type ℓ} → (A → Option ℕ) → List A → Option ℕ
first_found f [] = None
first_found f (x ∷ xs) = option_or (f x) (first_found f xs)

-- all that the elements find, in their order
abbrev pub cons_found : Option ℕ → List ℕ → List ℕ
cons_found (Some n) ns = n ∷ ns
cons_found None ns = ns

unfoldable pub all_found : (ℕ → Option ℕ) → List ℕ → List ℕ
all_found f [] = []
all_found f (x ∷ xs) = cons_found (f x) (all_found f xs)

-- the place, counted from k, of the first element that passes the test
unfoldable pub position {ℓ} : {A : Type ℓ} → (A → Bool) → ℕ → List A → Option ℕ
position p k [] = None
position p k (x ∷ xs) = cond (p x) (Some k) (position p (k + 1) xs)

-- the state after a step for each element
unfoldable pub fold {ℓ ℓ'} : {A : Type ℓ} {S : Type ℓ'} → (S → A → S) → S → List A → S
fold f s [] = s
fold f s (x ∷ xs) = fold f (f s x) xs

-- the elements that pass the test
unfoldable pub keep {ℓ} : {A : Type ℓ} → (A → Bool) → List A → List A
keep p [] = []
keep p (x ∷ xs) = cond (p x) (x ∷ keep p xs) (keep p xs)

-- some element passes the test
unfoldable pub some {ℓ} : {A : Type ℓ} → (A → Bool) → List A → Bool
some p [] = false
some p (x ∷ xs) = p x || some p xs
