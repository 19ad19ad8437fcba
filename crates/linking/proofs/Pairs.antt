-- Two lists that are alike element by element, and two searches that find alike things or nothing: `R` says when two elements are alike.
-- Assumes nothing.
use mathlib.Core.Path.{◌≡◌, refl, ap}
use mathlib.Core.Bool.{Bool}
use mathlib.Core.List.{List, [], ◌∷◌, ◌++◌, Memᴰ}
use Prim.Native.Nat.{ℕ, zero, suc, ◌+◌, ◌<◌}
use native.Mathlib.Omega.{arith}
use lib.ListN.{length, get_or, set, replicate}
use Rattle.words.specs.Lists.{list_from, find, first_found, position, fold, keep, some}
use Rattle.std.specs.Option.{option_or}
use Rattle.std.specs.Prelude.{Option, Some, None}
use Rattle.words.proofs.Bools.{by}

-- ---- what is found on both sides

pub data Both (R : ℕ → ℕ → Type 0) : Option ℕ → Option ℕ → Type 0 where
  both : {m k : ℕ} → R m k → Both R (Some m) (Some k)
  neither : Both R None None

module _ {R : ℕ → ℕ → Type 0} where
  pub by_both : {X : Type 0} {f g : Option ℕ} → Both R f g → ((m k : ℕ) → f ≡ Some m → g ≡ Some k → R m k → X) → (f ≡ None → g ≡ None → X) → X
  by_both (both {m} {k} h) found none = found m k refl refl h
  by_both neither found none = none refl refl

  pub both-or : {f g f' g' : Option ℕ} → Both R f f' → Both R g g' → Both R (option_or f g) (option_or f' g')
  both-or (both h) j = both h
  both-or neither j = j

  -- a relation that says less
  pub both_less : {S : ℕ → ℕ → Type 0} → ((m k : ℕ) → R m k → S m k) → {f g : Option ℕ} → Both R f g → Both S f g
  both_less less (both {m} {k} h) = both (less m k h)
  both_less less neither = neither

-- ---- lists

pub data Pairs {A B : Type 0} (R : A → B → Type 0) : List A → List B → Type 0 where
  none : Pairs R [] []
  pair : {x : A} {y : B} {xs : List A} {ys : List B} → R x y → Pairs R xs ys → Pairs R (x ∷ xs) (y ∷ ys)

module _ {A B : Type 0} {R : A → B → Type 0} where
  pub pairs-length : {xs : List A} {ys : List B} → Pairs R xs ys → length xs ≡ length ys
  pairs-length none = refl
  pairs-length (pair r h) = ap suc (pairs-length h)

  pub pairs-append : {xs us : List A} {ys vs : List B} → Pairs R xs ys → Pairs R us vs → Pairs R (xs ++ us) (ys ++ vs)
  pairs-append none g = g
  pairs-append (pair r h) g = pair r (pairs-append h g)

  pub pairs-at : {xs : List A} {ys : List B} {d : A} {e : B} → Pairs R xs ys → R d e → (i : ℕ) → R (get_or xs i d) (get_or ys i e)
  pairs-at none r i = r
  pairs-at (pair q h) r zero = q
  pairs-at (pair q h) r (suc i) = pairs-at h r i

  pub pairs-inside : {xs : List A} {ys : List B} (d : A) (e : B) → Pairs R xs ys → (i : ℕ) → i < length xs → R (get_or xs i d) (get_or ys i e)
  pairs-inside d e none i h = absurd (omega arith)
  pairs-inside d e (pair q h) zero l = q
  pairs-inside d e (pair q h) (suc i) l = pairs-inside d e h i (omega arith)

  pub pairs_set : {xs : List A} {ys : List B} {d : A} {e : B} → Pairs R xs ys → (i : ℕ) → R d e → Pairs R (set xs i d) (set ys i e)
  pairs_set none i r = none
  pairs_set (pair q h) zero r = pair r h
  pairs_set (pair q h) (suc i) r = pair q (pairs_set h i r)

  pub pairs-blank : (n : ℕ) (d : A) (e : B) → R d e → Pairs R (replicate n d) (replicate n e)
  pairs-blank zero d e r = none
  pairs-blank (suc n) d e r = pair r (pairs-blank n d e r)

  -- lists by a count
  pub pairs-from : (f : ℕ → A) (g : ℕ → B) (m k n : ℕ) → ((i : ℕ) → i < n → R (f (m + i)) (g (k + i))) → Pairs R (list_from f m n) (list_from g k n)
  unfolding list_from
  pairs-from f g m k zero h = none
  pairs-from f g m k (suc n) h =
      let a : m + 0 ≡ m = omega arith in
      let b : k + 0 ≡ k = omega arith in
      pair (rw (a, b) at (h 0 (omega arith)))
      (pairs-from f g (m + 1) (k + 1) n
      (λ i l.
      let p : m + (i + 1) ≡ m + 1 + i = omega arith in
      let q : k + (i + 1) ≡ k + 1 + i = omega arith in
      rw (p, q) at (h (i + 1) (omega arith))))

  -- by tests that alike elements pass alike: whether some one passes, and the place of the first
  module _ (p : A → Bool) (q : B → Bool) (same : (x : A) (y : B) → R x y → p x ≡ q y) where
    pub pairs-some : {xs : List A} {ys : List B} → Pairs R xs ys → some p xs ≡ some q ys
    unfolding some
    pairs-some none = refl
    pairs-some (pair {x} {y} r h) = rw (same x y r, pairs-some h)

    pub pairs-position : {xs : List A} {ys : List B} (k : ℕ) → Pairs R xs ys → position p k xs ≡ position q k ys
    unfolding position
    pairs-position k none = refl
    pairs-position k (pair {x} {y} r h) = rw (same x y r, pairs-position (k + 1) h)

    pub pairs-keep : {xs : List A} {ys : List B} → Pairs R xs ys → Pairs R (keep p xs) (keep q ys)
    unfolding keep
    pairs-keep none = none
    pairs-keep (pair {x} {y} r h) = by (q y) (λ t. rw (same x y r, t) (pair r (pairs-keep h))) (λ t. rw (same x y r, t) (pairs-keep h))

  -- what the first element finds that finds anything
  pub pairs_first : (S : ℕ → ℕ → Type 0) (f : A → Option ℕ) (g : B → Option ℕ) → ((x : A) (y : B) → R x y → Both S (f x) (g y)) → {xs : List A} {ys : List B}
      → Pairs R xs ys → Both S (first_found f xs) (first_found g ys)
  unfolding first_found
  pairs_first S f g e none = neither
  pairs_first S f g e (pair {x} {y} r h) = both-or (e x y r) (pairs_first S f g e h)

  -- a fold whose step keeps what holds of the two states
  pub pairs-fold : {S T : Type 0} (I : S → T → Type 0) (f : S → A → S) (g : T → B → T)
      → ((s : S) (t : T) (x : A) (y : B) → I s t → R x y → I (f s x) (g t y)) → {xs : List A} {ys : List B} → Pairs R xs ys → {s : S} {t : T} → I s t
      → I (fold f s xs) (fold g t ys)
  unfolding fold
  pairs-fold I f g e none i = i
  pairs-fold I f g e (pair {x} {y} r h) {s} {t} i = pairs-fold I f g e h (e s t x y i r)

  pub pairs_less : {S : A → B → Type 0} → ((x : A) (y : B) → R x y → S x y) → {xs : List A} {ys : List B} → Pairs R xs ys → Pairs S xs ys
  pairs_less less none = none
  pairs_less less (pair {x} {y} r h) = pair (less x y r) (pairs_less less h)

-- ---- numbers

module _ {R : ℕ → ℕ → Type 0} where
  pub pairs-find : (p q : ℕ → Bool) → ((x y : ℕ) → R x y → p x ≡ q y) → {xs ys : List ℕ} → Pairs R xs ys → Both R (find p xs) (find q ys)
  unfolding find
  pairs-find p q e none = neither
  pairs-find p q e (pair {x} {y} r h) = by (q y) (λ t. rw (e x y r, t) (both r)) (λ t. rw (e x y r, t) (pairs-find p q e h))

-- searches along one list
pub both_first : (R : ℕ → ℕ → Type 0) (f g : ℕ → Option ℕ) (xs : List ℕ) → ((x : ℕ) → Memᴰ x xs → Both R (f x) (g x))
    → Both R (first_found f xs) (first_found g xs)
unfolding first_found
both_first R f g [] h = neither
both_first R f g (x ∷ xs) h = both-or (h x (Memᴰ.head refl)) (both_first R f g xs (λ y i. h y (Memᴰ.tail i)))

-- a list and itself
pub pairs-same : (R : ℕ → ℕ → Type 0) (xs : List ℕ) → ((x : ℕ) → Memᴰ x xs → R x x) → Pairs R xs xs
pairs-same R [] h = none
pairs-same R (x ∷ xs) h = pair (h x (Memᴰ.head refl)) (pairs-same R xs (λ y i. h y (Memᴰ.tail i)))
