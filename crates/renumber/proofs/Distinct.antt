-- Lists that hold no number twice, and only numbers from 1 to n: they have at most n numbers, and n exactly if they hold each. The proof counts the
-- numbers from 1 to n that stand in the list. Assumes nothing.
use mathlib.Core.Path.{◌≡◌, refl, sym, ap, ◌∙◌}
use mathlib.Core.Logic.{⊎_elim}
use mathlib.Core.Bool.{Bool, true, false, cond, not, ◌||◌, or-true, false≢true}
use mathlib.Core.List.{List, [], ◌∷◌}
use Prim.Native.Nat.{ℕ, zero, suc, ◌+◌, ◌≤◌, ◌<◌}
use native.Mathlib.Omega.{arith}
use native.Mathlib.Nat.{eq-or-lt_of_le, le_of_suc-le-suc}
use lib.ListN.{length, get_or, take}
use lib.Seq.{get_or-take, length-take-le}
use lib.Dec.{eqb}
use borrow.Author.Tests.{eq-eqb, ne_eqb, eqb-true, not-false}
use Rattle.words.specs.Folds.{sum_of}
use Rattle.words.specs.Lists.{numbers, list_from, find, some}
use Rattle.std.specs.Prelude.{Some, None}
use Rattle.words.proofs.Bools.{by, or-either}
use Rattle.words.proofs.FoldLaws.{sum-ext}
use Rattle.words.proofs.ListLaws.{by-found, find-passes, find-within}
use Rattle.renumber.specs.Renumber.{placed}
use Rattle.renumber.specs.Places.{Before}

-- ---- to stand in a list is to stand at a place of it

pub placed_at : (l : List ℕ) (i : ℕ) → i < length l → placed l (get_or l i 0) ≡ true
unfolding placed some
placed_at [] i h = absurd (omega arith)
placed_at (x ∷ l) zero h = rw (eq-eqb x x refl)
placed_at (x ∷ l) (suc i) h = rw (placed_at l i (omega arith)) (or-true (eqb (get_or l i 0) x))

pub placed-place : (l : List ℕ) (c : ℕ) → placed l c ≡ true → Before l (length l) c
unfolding placed some
placed-place [] c h = absurd (false≢true h)
placed-place (x ∷ l) c h =
    ⊎_elim (λ e. record { place = 0; before = omega arith; is = sym (eqb-true c x e) })
    (λ t. let b = placed-place l c t in record { place = suc b.place; before = omega (arith, b.before); is = b.is })
    (or-either (eqb c x) (some (eqb c) l) h)

pub take-place : (l : List ℕ) (i c : ℕ) → i ≤ length l → placed (take i l) c ≡ true → Before l i c
take-place l i c h e =
    let b = placed-place (take i l) c e in
    let s : b.place < i = omega (arith, b.before, length-take-le i l h) in
    record { place = b.place; before = s; is = sym (get_or-take i l b.place 0 s) ∙ b.is }

pub place-take : (l : List ℕ) (i c : ℕ) → i ≤ length l → Before l i c → placed (take i l) c ≡ true
place-take l i c h b =
    let s : b.place < i = b.before in
    let e : get_or (take i l) b.place 0 ≡ c = get_or-take i l b.place 0 s ∙ b.is in
    rw e at (placed_at (take i l) b.place (omega (arith, length-take-le i l h)))

pub place-placed : (l : List ℕ) (i : ℕ) {c : ℕ} → i < length l → get_or l i 0 ≡ c → placed l c ≡ true
place-placed l i h e = rw e at (placed_at l i h)

-- ---- searches along numbers

pub find-before : (p : ℕ → Bool) (m n k : ℕ) → find p (numbers m n) ≡ Some k → (j : ℕ) → m ≤ j → j < k → p j ≡ false
unfolding find list_from
find-before p m zero k e j h g = cc
find-before p m (suc n) k e j h g =
    by (p m) (λ t. let q : Some m ≡ Some k = rw t at e in let r : m ≡ k = cc in absurd (omega arith))
    (λ f. ⊎_elim (λ (q : m ≡ j). rw q at f) (λ (l : m < j). find-before p (m + 1) n k (rw f at e) j (omega arith) g) (eq-or-lt_of_le h))

pub find-nothing : (p : ℕ → Bool) (m n : ℕ) → find p (numbers m n) ≡ None → (j : ℕ) → m ≤ j → j < m + n → p j ≡ false
unfolding find list_from
find-nothing p m zero e j h g = absurd (omega arith)
find-nothing p m (suc n) e j h g =
    by (p m) (λ t. let q : Some m ≡ None = rw t at e in let z : ◌≡◌ {A = ℕ} 0 1 = cc in absurd (omega arith))
    (λ f. ⊎_elim (λ (q : m ≡ j). rw q at f) (λ (l : m < j). find-nothing p (m + 1) n (rw f at e) j (omega arith) (omega arith)) (eq-or-lt_of_le h))

-- ---- sums of zeros and ones

sum-add : (n : ℕ) (f g : ℕ → ℕ) → sum_of n (λ k. f k + g k) ≡ sum_of n f + sum_of n g
unfolding sum_of
sum-add zero f g = refl
sum-add (suc n) f g = omega (arith, sum-add n f g)

sum_zeros : (n : ℕ) (f : ℕ → ℕ) → ((k : ℕ) → k < n → f k ≡ 0) → sum_of n f ≡ 0
unfolding sum_of
sum_zeros zero f h = refl
sum_zeros (suc n) f h = omega (arith, sum_zeros n f (λ k l. h k (omega arith)), h n (omega arith))

sum_ones : (n : ℕ) (f : ℕ → ℕ) → ((k : ℕ) → k < n → f k ≡ 1) → sum_of n f ≡ n
unfolding sum_of
sum_ones zero f h = refl
sum_ones (suc n) f h = omega (arith, sum_ones n f (λ k l. h k (omega arith)), h n (omega arith))

sum-most : (n : ℕ) (f : ℕ → ℕ) → ((k : ℕ) → f k ≤ 1) → sum_of n f ≤ n
unfolding sum_of
sum-most zero f h = omega arith
sum-most (suc n) f h = omega (arith, sum-most n f h, h n)

sum_less : (n : ℕ) (f : ℕ → ℕ) → ((k : ℕ) → f k ≤ 1) → (k : ℕ) → k < n → f k ≡ 0 → sum_of n f < n
unfolding sum_of
sum_less zero f h k l e = absurd (omega arith)
sum_less (suc n) f h k l e =
    ⊎_elim (λ (q : k ≡ n). let z : f n ≡ 0 = rw q at e in omega (arith, sum-most n f h))
    (λ (m : k < n). omega (arith, sum_less n f h k m e, h n)) (eq-or-lt_of_le (le_of_suc-le-suc l))

-- ---- numbers counted by a test

abbrev one : Bool → ℕ
one b = cond b 1 0

one-most : (b : Bool) → one b ≤ 1
one-most true = omega arith
one-most false = omega arith

one-or : (a b : Bool) → (a ≡ true → b ≡ true → ⊥) → one (a || b) ≡ one a + one b
one-or true true h = absurd (h refl refl)
one-or true false h = refl
one-or false b h = omega arith

-- one of the numbers from 1 to n is x
count-one : (n x : ℕ) → 1 ≤ x → x ≤ n → sum_of n (λ k. one (eqb (k + 1) x)) ≡ 1
unfolding sum_of
count-one zero x h g = absurd (omega arith)
count-one (suc n) x h g =
    ⊎_elim (λ (q : x ≡ suc n).
    let e : eqb (n + 1) x ≡ true = eq-eqb (n + 1) x (omega arith) in
    let z = sum_zeros n (λ k. one (eqb (k + 1) x)) (λ k l. rw (ne_eqb (k + 1) x (λ r. omega arith))) in
    rw (z, e))
    (λ (l : x < suc n).
    let e : eqb (n + 1) x ≡ false = ne_eqb (n + 1) x (λ r. omega arith) in
    rw (count-one n x h (omega arith), e))
    (eq-or-lt_of_le g)

-- ---- lists without a number twice

pub record Distinct (n : ℕ) (l : List ℕ) : Type 0 where
  pub within : (i : ℕ) → i < length l → (1 ≤ get_or l i 0) × (get_or l i 0 ≤ n)
  pub once : (i j : ℕ) → i < length l → j < length l → get_or l i 0 ≡ get_or l j 0 → i ≡ j

distinct-rest : {n x : ℕ} {l : List ℕ} → Distinct n (x ∷ l) → Distinct n l
distinct-rest d = record {
  within = λ i h. d.within (suc i) (omega arith);
  once = λ i j h g e. let q = d.once (suc i) (suc j) (omega arith) (omega arith) e in omega arith;
}

-- a number that is not in the list may be put in front of it
pub distinct_more : (n x : ℕ) (l : List ℕ) → Distinct n l → 1 ≤ x → x ≤ n → placed l x ≡ false → Distinct n (x ∷ l)
distinct_more n x l d h g f = record { within = within; once = once }
  where
    within : (i : ℕ) → i < length (x ∷ l) → (1 ≤ get_or (x ∷ l) i 0) × (get_or (x ∷ l) i 0 ≤ n)
    within zero h₁ = (h, g)
    within (suc i) h₁ = d.within i (omega arith)

    not_there : (i : ℕ) → i < length l → get_or l i 0 ≡ x → ⊥
    not_there i h₁ e = false≢true (sym f ∙ place-placed l i h₁ e)

    once : (i j : ℕ) → i < length (x ∷ l) → j < length (x ∷ l) → get_or (x ∷ l) i 0 ≡ get_or (x ∷ l) j 0 → i ≡ j
    once zero zero h₁ h₂ e = refl
    once zero (suc j) h₁ h₂ e = absurd (not_there j (omega arith) (sym e))
    once (suc i) zero h₁ h₂ e = absurd (not_there i (omega arith) e)
    once (suc i) (suc j) h₁ h₂ e = ap suc (d.once i j (omega arith) (omega arith) e)

count-all : (n : ℕ) (l : List ℕ) → Distinct n l → sum_of n (λ k. one (placed l (k + 1))) ≡ length l
unfolding placed some
count-all n [] d = sum_zeros n (λ k. 0) (λ k h. refl)
count-all n (x ∷ l) d =
    let w = d.within 0 (omega arith) in
    let apart : (k : ℕ) → eqb (k + 1) x ≡ true → placed l (k + 1) ≡ true → ⊥ =
    λ k e t.
    let b = placed-place l (k + 1) t in
    let q = d.once 0 (suc b.place) (omega arith) (omega (arith, b.before)) (sym (eqb-true (k + 1) x e) ∙ sym b.is) in
    omega arith in
    sum-ext n (λ k. one (eqb (k + 1) x || some (eqb (k + 1)) l)) (λ k. one (eqb (k + 1) x) + one (some (eqb (k + 1)) l))
    (λ k h. one-or (eqb (k + 1) x) (some (eqb (k + 1)) l) (apart k))
    ∙ sum-add n (λ k. one (eqb (k + 1) x)) (λ k. one (some (eqb (k + 1)) l))
    ∙ omega (arith, count-one n x w.0 w.1, count-all n l (distinct-rest d))

module _ (n : ℕ) (l : List ℕ) (d : Distinct n l) where
  pub distinct-most : length l ≤ n
  distinct-most = omega (arith, count-all n l d, sum-most n (λ k. one (placed l (k + 1))) (λ k. one-most (placed l (k + 1))))

  -- n numbers are all from 1 to n
  pub distinct-whole : length l ≡ n → (c : ℕ) → 1 ≤ c → c ≤ n → placed l c ≡ true
  distinct-whole e (suc k) h g =
      by (placed l (suc k)) (λ t. t)
      (λ f.
      let s : k + 1 ≡ suc k = omega arith in
      let z : one (placed l (k + 1)) ≡ 0 = rw (s, f) in
      absurd (omega (
        arith,
        count-all n l d,
        sum_less n (λ k. one (placed l (k + 1))) (λ k. one-most (placed l (k + 1))) k (omega arith) z,
      )))
  distinct-whole e zero h g = absurd (omega arith)

  -- fewer leave one out
  pub distinct-short : {X : Type 0} → length l < n → ((c : ℕ) → 1 ≤ c → c ≤ n → placed l c ≡ false → X) → X
  distinct-short h x =
      by-found (find (λ c. not (placed l c)) (numbers 1 n))
      (λ c e.
      let w = find-within (λ c. not (placed l c)) 1 n c e in
      let p = find-passes (λ c. not (placed l c)) (numbers 1 n) c e in
      x c w.0 (omega (arith, w.1)) (by (placed l c) (λ t. cc) (λ f. f)))
      (λ e.
      let all : (k : ℕ) → k < n → one (placed l (k + 1)) ≡ 1 =
      λ k h. rw (not-false (placed l (k + 1)) (find-nothing (λ c. not (placed l c)) 1 n e (k + 1) (omega arith) (omega arith))) in
      absurd (omega (arith, count-all n l d, sum_ones n (λ k. one (placed l (k + 1))) all)))
