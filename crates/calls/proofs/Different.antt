-- Numbers from 1 to n that are all different are at most n: without n itself, if it is among them, they are one fewer, and from 1 to n - 1. Assumes
-- nothing.
use mathlib.Core.Path.{◌≡◌, refl, ap}
use mathlib.Core.Logic.{◌≢◌, ⊎_elim}
use mathlib.Core.Bool.{cond}
use mathlib.Core.List.Memᴰ
use mathlib.Core.List.{List, [], ◌∷◌, Memᴰ}
use Prim.Native.Nat.{ℕ, zero, suc, ◌≤◌}
use native.Mathlib.Omega.{arith}
use lib.ListN.{length}
use lib.Dec.{eqb}
use borrow.Author.Tests.{eqb-true, eqb-false}
use Rattle.words.proofs.Bools.{by}
use Rattle.slots.proofs.ListFacts.{in_none}
use Rattle.calls.specs.Kept.{Different}

without : ℕ → List ℕ → List ℕ
without n [] = []
without n (x ∷ xs) = cond (eqb x n) (without n xs) (x ∷ without n xs)

in_without : (n : ℕ) {x : ℕ} (xs : List ℕ) → Memᴰ x (without n xs) → Memᴰ x xs × (x ≢ n)
unfolding without
in_without n [] i = in_none refl i
in_without n {x} (y ∷ xs) i =
    by (eqb y n)
    (λ t. let r = in_without n xs (rw t at i) in (Memᴰ.tail r.0, r.1))
    (λ f.
    ⊎_elim (λ (e : x ≡ y). (rw e (Memᴰ.head refl), rw e (eqb-false y n f))) (λ j. let r = in_without n xs j in (Memᴰ.tail r.0, r.1))
    (Memᴰ.cases_cons (rw f at i)))

different-without : (n : ℕ) (xs : List ℕ) → Different xs → Different (without n xs)
unfolding without
different-without n [] d = tt
different-without n (y ∷ xs) d =
    by (eqb y n)
    (λ t. rw t (different-without n xs d.1))
    (λ f. rw f (λ i. d.0 (in_without n xs i).0, different-without n xs d.1))

absent_length : (n : ℕ) (xs : List ℕ) → (Memᴰ n xs → ⊥) → length (without n xs) ≡ length xs
unfolding without
absent_length n [] a = refl
absent_length n (y ∷ xs) a =
    by (eqb y n)
    (λ t. let e : y ≡ n = eqb-true y n t in absurd (a (rw e (Memᴰ.head refl))))
    (λ f. rw f (ap suc (absent_length n xs (λ i. a (Memᴰ.tail i)))))

without-length : (n : ℕ) (xs : List ℕ) → Different xs → length xs ≤ suc (length (without n xs))
unfolding without
without-length n [] d = omega arith
without-length n (y ∷ xs) d =
    by (eqb y n)
    (λ t.
    let e : y ≡ n = eqb-true y n t in
    let l = absent_length n xs (λ i. d.0 (rw e i)) in
    rw t (omega arith))
    (λ f. let l = without-length n xs d.1 in rw f (omega arith))

pub at_most : (n : ℕ) (xs : List ℕ) → Different xs → ((x : ℕ) → Memᴰ x xs → (1 ≤ x) × (x ≤ n)) → length xs ≤ n
at_most zero [] d within = omega arith
at_most zero (x ∷ xs) d within = let h = within x (Memᴰ.head refl) in absurd (omega arith)
at_most (suc n) xs d within =
    let r = at_most n (without (suc n) xs) (different-without (suc n) xs d)
    (λ x i.
    let p = in_without (suc n) xs i in
    let h = within x p.0 in
    let ne : x ≢ suc n = p.1 in
    (h.0, omega arith)) in
    let l = without-length (suc n) xs d in
    omega arith
