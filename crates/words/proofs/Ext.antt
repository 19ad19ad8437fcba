-- Lists by a count and searches along a list: functions that agree on the places give the same; and a list by a count, with one more. Assumes nothing.
use mathlib.Core.Path.{◌≡◌, refl, ap}
use mathlib.Core.Bool.{Bool}
use mathlib.Core.List.{List, [], ◌∷◌, ◌++◌, Memᴰ}
use Prim.Native.Nat.{ℕ, zero, suc, ◌+◌, ◌<◌}
use native.Mathlib.Omega.{arith}
use native.Mathlib.Numerals.{add-one}
use Rattle.words.specs.Lists.{list_from, find, all_found}
use Rattle.std.specs.Prelude.{Option}

-- ---- lists by a count

list_snoc {ℓ} : {A : Type ℓ} (f : ℕ → A) (m n : ℕ) → list_from f m (suc n) ≡ list_from f m n ++ (f (m + n) ∷ [])
unfolding list_from
list_snoc f m zero = let e : m + 0 ≡ m = omega arith in rw e
list_snoc f m (suc n) =
    let e : m + 1 + n ≡ m + suc n = omega arith in ap (λ l. f m ∷ l) (rw e at (list_snoc f (m + 1) n))

-- a list from 0 on, with one more
pub list-more {ℓ} : {A : Type ℓ} (f : ℕ → A) (n : ℕ) → list_from f 0 (n + 1) ≡ list_from f 0 n ++ (f n ∷ [])
list-more f n = let e : 0 + n ≡ n = omega arith in rw add-one (rw e at (list_snoc f 0 n))

-- two lists that agree at each of their places
pub list_ext {ℓ} : {A : Type ℓ} (f g : ℕ → A) (m n : ℕ) → ((i : ℕ) → i < m + n → f i ≡ g i) → list_from f m n ≡ list_from g m n
unfolding list_from
list_ext f g m zero h = refl
list_ext f g m (suc n) h = rw (h m (omega arith), list_ext f g (m + 1) n (λ i l. h i (omega arith)))

-- ---- searches that test the same of each element

pub find-ext : (p q : ℕ → Bool) (xs : List ℕ) → ((x : ℕ) → Memᴰ x xs → p x ≡ q x) → find p xs ≡ find q xs
unfolding find
find-ext p q [] h = refl
find-ext p q (x ∷ xs) h = rw (h x (Memᴰ.head refl), find-ext p q xs (λ y i. h y (Memᴰ.tail i)))

pub founds_ext : (f g : ℕ → Option ℕ) (xs : List ℕ) → ((x : ℕ) → Memᴰ x xs → f x ≡ g x) → all_found f xs ≡ all_found g xs
unfolding all_found
founds_ext f g [] h = refl
founds_ext f g (x ∷ xs) h = rw (h x (Memᴰ.head refl), founds_ext f g xs (λ y i. h y (Memᴰ.tail i)))
