-- Steps, and items one after the other, as the code meets them. Assumes nothing.
use mathlib.Core.Path.{◌≡◌, refl, sym, ◌∙◌}
use mathlib.Core.List.{List}
use Prim.Native.Nat.{ℕ, suc, ◌+◌, ◌-◌, ◌≤◌, ◌<◌}
use native.Mathlib.Omega.{arith}
use lib.ListN.{length}
use lib.Dec.{leb, eqb}
use borrow.Author.Tests.{lt-leb, leb-true, eq-eqb, ne_eqb, eqb-true, eqb-false}
use Rattle.std.specs.Prelude.{Result, Ok, Err}
use Rattle.words.proofs.Bools.{by}
use Rattle.refusal.specs.declared.Refusal.{Refusal}
use Rattle.refusal.specs.declared.Refusal.TheVariants.{WrongEnd}
use Rattle.class_form.specs.Form.{Step, ◌>>=◌, taken, is_wide, places, after_constants, pool_count, after_pool, after_each, after_counted, after_attributes}

-- ---- results told apart

module _ {A : Type 0} where
  pub ok_same : {x y : A} → ◌≡◌ {A = Result A Refusal} (Ok x) (Ok y) → x ≡ y
  ok_same e = cc

  pub not_ok : {X : Type 0} {r : Refusal} {x : A} → ◌≡◌ {A = Result A Refusal} (Err r) (Ok x) → X
  not_ok e = let z : ◌≡◌ {A = ℕ} 0 1 = cc in absurd (omega arith)

  -- what follows a step goes on, so the step does
  pub step_to : (s : Step) (g : ℕ → Result A Refusal) {x : A} → (s >>= g) ≡ Ok x → (q : ℕ) × (s ≡ Ok q) × (g q ≡ Ok x)
  step_to (Ok q) g e = (q, refl, e)
  step_to (Err r) g e = not_ok e

-- ---- items

-- what was taken is there
pub taken_to : (bs : List ℕ) (p n : ℕ) {q : ℕ} → taken bs p n ≡ Ok q → (q ≡ p + n) × (p + n ≤ length bs)
unfolding taken
taken_to bs p n {q} e =
    by (leb (p + n) (length bs))
    (λ t. (ok_same (sym (rw t at e)), leb-true _ _ t))
    (λ t. not_ok (rw t at e))

-- one index is left where the next one is the count
pub last_index : (i count : ℕ) → eqb (count - i) 1 ≡ eqb (i + 1) count
last_index i count =
    by (eqb (i + 1) count)
    (λ t. let e = eqb-true _ _ t in eq-eqb _ _ (omega arith) ∙ sym t)
    (λ t. let n = eqb-false _ _ t in ne_eqb _ _ (λ (e : count - i ≡ 1). n (omega arith)) ∙ sym t)

-- a constant takes one place or two
pub places_few : (t : ℕ) → (1 ≤ places t) × (places t ≤ 2)
unfolding places
places_few t = by (is_wide t) (λ e. rw e (omega arith)) (λ e. rw e (omega arith))

-- k of n items have been passed: one more, or none is left
module _ (item : ℕ → Step) (n k at : ℕ) where
  pub each_turn : k < n → after_each item (n - k) at ≡ (item at >>= after_each item (n - (k + 1)))
  unfolding after_each
  each_turn h = let z : n - k ≡ suc (n - (k + 1)) = omega arith in rw z

  pub each_end : n ≤ k → after_each item (n - k) at ≡ Ok at
  unfolding after_each
  each_end h = let z : n - k ≡ 0 = omega arith in rw z

-- attributes that begin past the end, and a pool whose count is there
pub attributes_cut : (bs : List ℕ) (p : ℕ) → length bs < p → after_attributes bs p ≡ Err WrongEnd
unfolding after_attributes after_counted taken
attributes_cut bs p h = rw (lt-leb (p + 2) (length bs) (omega arith))

pub pool_is : (bs : List ℕ) → after_pool bs ≡ (taken bs 8 2 >>= (λ q. after_constants bs (pool_count bs) (pool_count bs) 1 10))
unfolding after_pool taken
pool_is bs = by (leb 10 (length bs)) (λ t. rw t) (λ t. rw t)
