-- The searches and folds of `words`' Lists, a turn at a time: along numbers that a loop counts up, and along a list that it indexes.
-- A loop's invariant is that the rest of the search, or of the fold, answers what the whole does. Assumes nothing.
use Rattle.std.specs.List.{fold as list_fold, range_with_len}
use mathlib.Core.Path.{◌≡◌, refl, ap, ◌∙◌}
use mathlib.Core.Bool.{Bool, true, false, ◌||◌}
use mathlib.Core.Logic.{⊎_elim}
use mathlib.Core.List.Memᴰ
use mathlib.Core.List.{List, [], ◌∷◌, ◌++◌, Memᴰ}
use Prim.Native.Nat.{ℕ, zero, suc, ◌+◌, ◌-◌, ◌≤◌, ◌<◌, max}
use native.Mathlib.Omega.{arith}
use native.Mathlib.Numerals.{add-one}
use lib.ListN.{length, get_or, take, drop, drop_of_length-le, length-append}
use lib.Seq.{drop-cons, take_all}
use Rattle.words.specs.Lists.{list_from, numbers, find, first_found, all_found, fold, some}
use Rattle.std.specs.Prelude.{Option, Some, None, is_some}
use Rattle.std.proofs.lemmas.Option.{none-some}
use Rattle.words.proofs.Bools.{by}

-- what is left of a count, one less each turn
pub rest-suc : (n i : ℕ) → i < n → n - i ≡ suc (n - (i + 1))
rest-suc n i h = omega arith

-- ---- lists by a count

module _ {ℓ} {A : Type ℓ} (f : ℕ → A) where
  -- what is left at turn i of the n elements from m on
  unfoldable pub rest_from : ℕ → ℕ → ℕ → List A
  rest_from m n i = list_from f (m + i) (n - i)

  pub rest-start : (m n : ℕ) → rest_from m n 0 ≡ list_from f m n
  unfolding rest_from
  rest-start m n = let e : m + 0 ≡ m = omega arith in let g : n - 0 ≡ n = omega arith in rw (e, g)

  pub rest-turn : (m n i : ℕ) → i < n → rest_from m n i ≡ f (m + i) ∷ rest_from m n (i + 1)
  unfolding rest_from list_from
  rest-turn m n i h = let g : m + i + 1 ≡ m + (i + 1) = omega arith in rw (rest-suc n i h, g)

  pub rest_end : (m n i : ℕ) → n ≤ i → rest_from m n i ≡ []
  unfolding rest_from list_from
  rest_end m n i h = let g : n - i ≡ 0 = omega arith in rw g

  pub length-list-from : (m n : ℕ) → length (list_from f m n) ≡ n
  unfolding list_from
  length-list-from m zero = refl
  length-list-from m (suc n) = ap suc (length-list-from (m + 1) n)

-- element i
pub get_d_list_from {ℓ} : {A : Type ℓ} (f : ℕ → A) (m n i : ℕ) (d : A) → i < n → get_or (list_from f m n) i d ≡ f (m + i)
unfolding list_from
get_d_list_from f m zero i d h = absurd (omega arith)
get_d_list_from f m (suc n) zero d h = let e : m + 0 ≡ m = omega arith in rw e
get_d_list_from f m (suc n) (suc i) d h =
    let e : m + 1 + i ≡ m + suc i = omega arith in get_d_list_from f (m + 1) n i d (omega arith) ∙ ap f e

-- the first n and then k more
pub numbers-split : (m n k : ℕ) → numbers m (n + k) ≡ numbers m n ++ numbers (m + n) k
unfolding list_from
numbers-split m zero k =
    let e : 0 + k ≡ k = omega arith in
    let f : m + 0 ≡ m = omega arith in
    rw (e, f)
numbers-split m (suc n) k =
    let e : suc n + k ≡ suc (n + k) = omega arith in
    let f : m + suc n ≡ m + 1 + n = omega arith in
    rw (e, f) (ap (λ (l : List ℕ). m ∷ l) (numbers-split (m + 1) n k))

-- a test along a list, and then along another
pub some-append : {A : Type 0} (p : A → Bool) (xs ys : List A) → some p (xs ++ ys) ≡ (some p xs || some p ys)
unfolding some
some-append p [] ys = refl
some-append p (x ∷ xs) ys = by (p x) (λ t. rw t) (λ t. rw t (some-append p xs ys))

-- one is added, where there is room for it
pub push_room : {A : Type 0} (n : ℕ) (xs : List A) (x : A) → length xs < n → take n (xs ++ x ∷ []) ≡ xs ++ x ∷ []
push_room n xs x h = take_all n (xs ++ x ∷ []) (omega (arith, length-append xs (x ∷ [])))

-- nothing found is no number
pub not_found : {X : Type 0} {m : ℕ} → ◌≡◌ {A = Option ℕ} None (Some m) → X
not_found {m = m} e = absurd (none-some m e)

-- ---- the first number that passes a test

-- a number passes if and only if one is found
some_found : (p : ℕ → Bool) (xs : List ℕ) → is_some (find p xs) ≡ some p xs
unfolding find some
some_found p [] = refl
some_found p (x ∷ xs) = by (p x) (λ t. rw t refl) (λ f. rw f (some_found p xs))

pub found-some : (p : ℕ → Bool) (xs : List ℕ) {f : Option ℕ} {b : Bool} → f ≡ find p xs → b ≡ is_some f → b ≡ some p xs
found-some p xs e q = q ∙ ap is_some e ∙ some_found p xs

-- a found number passes the test, and is in the list
pub find-passes : (p : ℕ → Bool) (xs : List ℕ) (m : ℕ) → find p xs ≡ Some m → p m ≡ true
unfolding find
find-passes p [] m e = cc
find-passes p (x ∷ xs) m e =
    by (p x) (λ t. let q : Some x ≡ Some m = rw t at e in cc) (λ f. find-passes p xs m (rw f at e))

pub find-member : (p : ℕ → Bool) (xs : List ℕ) (m : ℕ) → find p xs ≡ Some m → Memᴰ m xs
unfolding find
find-member p [] m e = let z : ◌≡◌ {A = ℕ} 0 1 = cc in absurd (omega arith)
find-member p (x ∷ xs) m e =
    by (p x) (λ t. let q : Some x ≡ Some m = rw t at e in Memᴰ.head (cc)) (λ f. Memᴰ.tail (find-member p xs m (rw f at e)))

pub numbers-within : (m n k : ℕ) → Memᴰ k (numbers m n) → (m ≤ k) × (k < m + n)
unfolding list_from
numbers-within m zero k h = absurd (Memᴰ.not-nil h)
numbers-within m (suc n) k h =
    ⊎_elim (λ (e : k ≡ m). (omega arith, omega arith)) (λ t. let r = numbers-within (m + 1) n k t in (omega arith, omega arith))
    (Memᴰ.cases_cons h)

pub find-within : (p : ℕ → Bool) (m n k : ℕ) → find p (numbers m n) ≡ Some k → (m ≤ k) × (k < m + n)
find-within p m n k e = numbers-within m n k (find-member p (numbers m n) k e)

-- ---- what the first element finds that finds anything

-- by cases on what is found
pub by-found : {X : Type 0} (r : Option ℕ) → ((k : ℕ) → r ≡ Some k → X) → (r ≡ None → X) → X
by-found (Some k) f g = f k refl
by-found None f g = g refl

-- the search at place i of a list
unfoldable pub found_from {ℓ} : {A : Type ℓ} → (A → Option ℕ) → List A → ℕ → Option ℕ
found_from f xs i = first_found f (drop i xs)

module _ {ℓ} {A : Type ℓ} (f : A → Option ℕ) (xs : List A) where
  pub found-start : found_from f xs 0 ≡ first_found f xs
  unfolding found_from
  found-start = refl

  pub found-hit : (i : ℕ) (d : A) {r : Option ℕ} (k : ℕ) → i < length xs → r ≡ f (get_or xs i d) → r ≡ Some k → Some k ≡ found_from f xs i
  unfolding found_from first_found
  found-hit i d k h e t = rw (drop-cons xs i d h, ← e, t)

  pub found-miss : (i : ℕ) (d : A) {r : Option ℕ} → i < length xs → r ≡ f (get_or xs i d) → r ≡ None → found_from f xs (i + 1) ≡ found_from f xs i
  unfolding found_from first_found
  found-miss i d h e t = rw (add-one, drop-cons xs i d h, ← e, t)

  pub found-end : (i : ℕ) → length xs ≤ i → None ≡ found_from f xs i
  unfolding found_from first_found
  found-end i h = rw (drop_of_length-le xs h)

-- what is found is what some element finds
pub found-by {ℓ} : {A : Type ℓ} {P : Type 0} (f : A → Option ℕ) (xs : List A) (m : ℕ) → ((x : A) → Memᴰ x xs → f x ≡ Some m → P)
    → first_found f xs ≡ Some m → P
unfolding first_found
found-by f [] m h e = let z : ◌≡◌ {A = ℕ} 0 1 = cc in absurd (omega arith)
found-by f (x ∷ xs) m h e =
    by-found (f x) (λ k q. h x (Memᴰ.head refl) (let r : Some k ≡ Some m = rw q at e in q ∙ r))
    (λ q. found-by f xs m (λ y t. h y (Memᴰ.tail t)) (rw q at e))

-- ---- all that the elements find

pub all-found-length : (f : ℕ → Option ℕ) (xs : List ℕ) → length (all_found f xs) ≤ length xs
unfolding all_found
all-found-length f [] = omega arith
all-found-length f (x ∷ xs) =
    let l = all-found-length f xs in by-found (f x) (λ k q. rw q (omega arith)) (λ q. rw q (omega arith))

-- ---- folds

-- the fold from state s on, at turn i of the n elements from m on
unfoldable pub fold_from {ℓ ℓ'} : {A : Type ℓ} {S : Type ℓ'} → (ℕ → A) → (S → A → S) → S → ℕ → ℕ → ℕ → S
fold_from f g s m n i = fold g s (rest_from f m n i)

module _ {ℓ ℓ'} {A : Type ℓ} {S : Type ℓ'} (f : ℕ → A) (g : S → A → S) (m n : ℕ) where
  pub fold_start : (s : S) → fold_from f g s m n 0 ≡ fold g s (list_from f m n)
  unfolding fold_from
  fold_start s = rw (rest-start f m n)

  pub fold-turn : (i : ℕ) {s t : S} → i < n → t ≡ g s (f (m + i)) → fold_from f g t m n (i + 1) ≡ fold_from f g s m n i
  unfolding fold_from fold
  fold-turn i h e = rw (rest-turn f m n i h, e)

  pub fold_end : (i : ℕ) (s : S) → n ≤ i → s ≡ fold_from f g s m n i
  unfolding fold_from fold
  fold_end i s h = rw (rest_end f m n i h)

-- the library's fold is this one
pub fold_is : {A S : Type 0} (f : S → A → S) (s : S) (xs : List A) → list_fold f s xs ≡ fold f s xs
unfolding fold
fold_is f s [] = refl
fold_is f s (x ∷ xs) = fold_is f (f s x) xs

-- and so are its numbers
pub range_is : (m n : ℕ) → range_with_len m n ≡ numbers m n
unfolding list_from
range_is m zero = refl
range_is m (suc n) = ap (λ (l : List ℕ). m ∷ l) (range_is (m + 1) n)

-- ---- whether some element passes a test, at place i of a list

unfoldable pub some_from {ℓ} : {A : Type ℓ} → (A → Bool) → List A → ℕ → Bool
some_from p s i = some p (drop i s)

module _ {ℓ} {A : Type ℓ} (p : A → Bool) (s : List A) where
  pub some-start : some p s ≡ some_from p s 0
  unfolding some_from
  some-start = refl

  pub some_turn : (d : A) (i : ℕ) {x : A} → i < length s → x ≡ get_or s i d → p x ≡ false → some_from p s i ≡ some_from p s (i + 1)
  unfolding some_from some
  some_turn d i h e n = let u : p (get_or s i d) ≡ false = rw e at n in rw (add-one, drop-cons s i d h, u)

  pub some_end : (i : ℕ) → length s ≤ i → some_from p s i ≡ false
  unfolding some_from some
  some_end i h = rw (drop_of_length-le s h)

-- ---- the largest number that the elements have

module _ {ℓ} {A : Type ℓ} (g : A → ℕ) where
  pub largest_start : (xs : List A) (s : ℕ) → s ≤ fold (λ n x. max n (g x)) s xs
  unfolding fold
  largest_start [] s = omega arith
  largest_start (x ∷ xs) s = omega (arith, largest_start xs (max s (g x)))

  pub largest_member : (xs : List A) (s : ℕ) (x : A) → Memᴰ x xs → g x ≤ fold (λ n x. max n (g x)) s xs
  unfolding fold
  largest_member [] s x h = absurd (Memᴰ.not-nil h)
  largest_member (y ∷ xs) s x h =
      ⊎_elim (λ (e : x ≡ y). rw e (omega (arith, largest_start xs (max s (g y))))) (λ t. largest_member xs (max s (g y)) x t)
      (Memᴰ.cases_cons h)

  pub largest_room : (xs : List A) (s k : ℕ) → s ≤ k → ((x : A) → g x ≤ k) → fold (λ n x. max n (g x)) s xs ≤ k
  unfolding fold
  largest_room [] s k h r = h
  largest_room (x ∷ xs) s k h r = let q = r x in largest_room xs (max s (g x)) k (omega arith) r
