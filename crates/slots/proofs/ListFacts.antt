-- Searches along lists, by membership: what is found, and that nothing was; and the elements of a list after a store, with one more at
-- its end, or blank. All of them are generic. Assumes nothing.
use Rattle.std.proofs.Common.{◌≡◌, refl, sym, ap, ◌∙◌, ◌⊎◌, inl, inr, ◌≢◌, ⊎_elim, Bool, true, false, List, [], ◌∷◌, ◌++◌, ℕ, zero, suc, ◌+◌, ◌<◌, arith, length, get_or, set, replicate, get_or-set_same, get_or-set_other, eqb, ltb, eqb-true, ltb-true, ltb-false, Option, Some, None}
use mathlib.Core.List.Memᴰ
use mathlib.Core.List.{Memᴰ}
use lib.ListN.{get_or-eq_default}
use borrow.Author.Tests.{eqb-false}
use Rattle.words.specs.Lists.{find, first_found, all_found, position}
use Rattle.words.proofs.Bools.{by}
use Rattle.words.proofs.ListLaws.{by-found, not_found}

-- ---- found or not

pub found-same : {m n : ℕ} → Some m ≡ Some n → m ≡ n
found-same e = cc

-- ---- elements

pub in_none : {X : Type 0} {x : ℕ} {xs : List ℕ} → xs ≡ [] → Memᴰ x xs → X
in_none e i = absurd (Memᴰ.not-nil (rw e at i))

-- ---- searches

pub find-misses : (p : ℕ → Bool) {x : ℕ} {xs : List ℕ} → Memᴰ x xs → find p xs ≡ None → p x ≡ false
unfolding find
find-misses p (Memᴰ.head {x = y} q) e = rw q (by (p y) (λ t. not_found (sym (rw t at e))) (λ f. f))
find-misses p (Memᴰ.tail {x = y} i) e = by (p y) (λ t. not_found (sym (rw t at e))) (λ f. find-misses p i (rw f at e))

-- the element that found it
pub record FoundBy (f : ℕ → Option ℕ) (xs : List ℕ) (n : ℕ) : Type 0 where
  pub element : ℕ
  pub along : Memᴰ element xs
  pub finds : f element ≡ Some n

found-later : {f : ℕ → Option ℕ} {x n : ℕ} {xs : List ℕ} → FoundBy f xs n → FoundBy f (x ∷ xs) n
found-later r = record { element = r.element; along = Memᴰ.tail r.along; finds = r.finds }

pub found_in : (f : ℕ → Option ℕ) (xs : List ℕ) (n : ℕ) → first_found f xs ≡ Some n → FoundBy f xs n
unfolding first_found
found_in f [] n e = not_found e
found_in f (x ∷ xs) n e =
    by-found (f x) (λ k q. record { element = x; along = Memᴰ.head refl; finds = q ∙ (rw q at e) })
    (λ q. found-later (found_in f xs n (rw q at e)))

pub found-misses : (f : ℕ → Option ℕ) {x : ℕ} {xs : List ℕ} → Memᴰ x xs → first_found f xs ≡ None → f x ≡ None
unfolding first_found
found-misses f (Memᴰ.head {x = y} s) e = rw s (by-found (f y) (λ k q. not_found (sym (rw q at e))) (λ q. q))
found-misses f (Memᴰ.tail {x = y} i) e = by-found (f y) (λ k q. not_found (sym (rw q at e))) (λ q. found-misses f i (rw q at e))

-- an element that finds n, where no other finds anything else
pub found-only : (f : ℕ → Option ℕ) {x : ℕ} {xs : List ℕ} (n : ℕ) → Memᴰ x xs → f x ≡ Some n → ((y k : ℕ) → Memᴰ y xs → f y ≡ Some k → k ≡ n)
    → first_found f xs ≡ Some n
found-only f {xs = xs} n i e only =
    by-found (first_found f xs)
    (λ k q. let r = found_in f xs k q in q ∙ ap Some (only r.element k r.along r.finds))
    (λ q. not_found (sym (found-misses f i q) ∙ e))

pub all_found_lem : (f : ℕ → Option ℕ) {x n : ℕ} {xs : List ℕ} → Memᴰ x xs → f x ≡ Some n → Memᴰ n (all_found f xs)
unfolding all_found
all_found_lem f (Memᴰ.head s) e = rw (← s, e) (Memᴰ.head refl)
all_found_lem f (Memᴰ.tail {x = y} i) e = by-found (f y) (λ k q. rw q (Memᴰ.tail (all_found_lem f i e))) (λ q. rw q (all_found_lem f i e))

pub found-of-all : (f : ℕ → Option ℕ) {n : ℕ} (xs : List ℕ) → Memᴰ n (all_found f xs) → FoundBy f xs n
unfolding all_found
found-of-all f [] i = in_none refl i
found-of-all f {n} (x ∷ xs) i =
    by-found (f x)
    (λ k q.
    ⊎_elim (λ (e : n ≡ k). record { element = x; along = Memᴰ.head refl; finds = rw e q }) (λ j. found-later (found-of-all f xs j))
    (Memᴰ.cases_cons (rw q at i)))
    (λ q. found-later (found-of-all f xs (rw q at i)))

-- ---- places

-- a place, counted from k, whose element passes the test
record Passing {A : Type 0} (p : A → Bool) (k : ℕ) (xs : List A) (d : A) (j : ℕ) : Type 0 where
  index : ℕ
  counted : j ≡ k + index
  below : index < length xs
  passes : p (get_or xs index d) ≡ true

passing : {A : Type 0} (p : A → Bool) (k : ℕ) (xs : List A) (d : A) (j : ℕ) → position p k xs ≡ Some j → Passing p k xs d j
unfolding position
passing p k [] d j e = not_found e
passing p k (x ∷ xs) d j e =
    by (p x)
    (λ t. let q : k ≡ j = found-same (rw t at e) in record { index = 0; counted = omega arith; below = omega arith; passes = t })
    (λ f.
    let r = passing p (k + 1) xs d j (rw f at e) in
    let c = r.counted in let b = r.below in
    record { index = suc r.index; counted = omega arith; below = omega arith; passes = r.passes })

pub position-below : {A : Type 0} (p : A → Bool) (xs : List A) (d : A) (i : ℕ) → position p 0 xs ≡ Some i → i < length xs
position-below p xs d i e = let r = passing p 0 xs d i e in let c = r.counted in let b = r.below in omega arith

pub position-passes : {A : Type 0} (p : A → Bool) (xs : List A) (d : A) (i : ℕ) → position p 0 xs ≡ Some i → p (get_or xs i d) ≡ true
position-passes p xs d i e =
    let r = passing p 0 xs d i e in
    let c = r.counted in
    let q : i ≡ r.index = omega arith in
    rw q r.passes

pub position-misses : {A : Type 0} (p : A → Bool) (k : ℕ) (xs : List A) (d : A) (i : ℕ) → i < length xs → position p k xs ≡ None
    → p (get_or xs i d) ≡ false
unfolding position
position-misses p k [] d i h e = absurd (omega arith)
position-misses p k (x ∷ xs) d zero h e = by (p x) (λ t. not_found (sym (rw t at e))) (λ f. f)
position-misses p k (x ∷ xs) d (suc i) h e =
    by (p x) (λ t. not_found (sym (rw t at e))) (λ f. position-misses p (k + 1) xs d i (omega arith) (rw f at e))

-- ---- elements of a list after a store, or with one more at its end, or blank

pub set_at : {A : Type 0} (xs : List A) (i j : ℕ) (x d : A) → i < length xs
    → ((j ≡ i) × (get_or (set xs i x) j d ≡ x)) ⊎ ((j ≢ i) × (get_or (set xs i x) j d ≡ get_or xs j d))
set_at xs i j x d h =
    by (eqb j i)
    (λ t. let e : j ≡ i = eqb-true j i t in inl (e, (rw e (get_or-set_same xs i x d h))))
    (λ f. inr (eqb-false j i f, get_or-set_other xs i j x d (eqb-false j i f)))

pub snoc_at : {A : Type 0} (xs : List A) (x : A) (j : ℕ) (d : A)
    → ((j ≡ length xs) × (get_or (xs ++ (x ∷ [])) j d ≡ x)) ⊎ (get_or (xs ++ (x ∷ [])) j d ≡ get_or xs j d)
snoc_at [] x zero d = inl (refl, refl)
snoc_at [] x (suc j) d = inr refl
snoc_at (y ∷ xs) x zero d = inr refl
snoc_at (y ∷ xs) x (suc j) d = elim (snoc_at xs x j d) [ inl p ↦ inl (ap suc p.0, p.1) | inr p ↦ inr p ]

-- blank elements at the end change nothing, where the blank is what stands for none
pub blank-at : {A : Type 0} (n i : ℕ) (d : A) → get_or (replicate n d) i d ≡ d
blank-at zero i d = refl
blank-at (suc n) zero d = refl
blank-at (suc n) (suc i) d = blank-at n i d

pub extended-at : {A : Type 0} (xs : List A) (n i : ℕ) (d : A) → get_or (xs ++ replicate n d) i d ≡ get_or xs i d
extended-at [] n i d = blank-at n i d
extended-at (x ∷ xs) n zero d = refl
extended-at (x ∷ xs) n (suc i) d = extended-at xs n i d

-- an element that is not what stands for none is inside
pub inside : {A : Type 0} (xs : List A) (i : ℕ) (d : A) → (get_or xs i d ≡ d → ⊥) → i < length xs
inside xs i d n =
    by (ltb i (length xs)) (λ t. ltb-true i (length xs) t) (λ f. absurd (n (get_or-eq_default xs d {n = i} (ltb-false i (length xs) f))))
