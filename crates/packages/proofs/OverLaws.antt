-- What a method overrides, as the code goes: along a class's methods, and up the chain; and searches up the chain. Assumes nothing.
use mathlib.Core.Path.{◌≡◌, refl, sym, ap, ◌∙◌}
use mathlib.Core.Bool.{Bool, true, false, cond, not, ◌||◌, or-false, or-true, or_assoc}
use mathlib.Core.List.{List, [], ◌∷◌, ◌++◌}
use Prim.Native.Nat.{ℕ, zero, suc, ◌+◌, ◌-◌, ◌≤◌, ◌<◌}
use native.Mathlib.Omega.{arith}
use lib.ListN.{length, length-append}
use borrow.Author.Tests.{not-true, not-false}
use Rattle.words.specs.Lists.{numbers, fold, keep, some}
use Rattle.words.proofs.ListLaws.{rest_from, rest-start, rest-turn, rest_end}
use Rattle.class_sheet.specs.ClassSheet.{class_limit, class_first_method, class_method_count, method_flags, method_limit}
use Rattle.linking.specs.Chain.{list_count, own_methods, parent_of, chain, is_private, is_virtual}
use Rattle.linking.specs.Packages.{is_overridden, overridden_in, reached_with, overridden_along, overridden}
use Rattle.linking.proofs.ChainLaws.{parent_below, parent-within, chain-none, chain_more}
use Rattle.packages.specs.Marks.{mark, is_some}

-- ---- along a class's methods

pub fold-append {ℓ ℓ'} : {A : Type ℓ} {S : Type ℓ'} (f : S → A → S) (s : S) (xs ys : List A) → fold f s (xs ++ ys) ≡ fold f (fold f s xs) ys
unfolding fold
fold-append f s [] ys = refl
fold-append f s (x ∷ xs) ys = fold-append f (f s x) xs ys

-- the numbers from `first` on, a turn at a time
module _ (first count : ℕ) where
  -- those left at number k
  unfoldable pub from : ℕ → List ℕ
  from k = rest_from (λ i. i) first count (k - first)

  pub from_start : from first ≡ numbers first count
  unfolding from
  from_start = let z : first - first ≡ 0 = omega arith in rw (z, rest-start (λ (i : ℕ). i) first count)

  pub from_turn : (k : ℕ) → first ≤ k → k < first + count → from k ≡ k ∷ from (k + 1)
  unfolding from
  from_turn k l h =
      let e : first + (k - first) ≡ k = omega arith in
      let f : k - first + 1 ≡ k + 1 - first = omega arith in
      rw (rest-turn (λ (i : ℕ). i) first count (k - first) (omega arith), e, f)

  pub from_end : (k : ℕ) → first + count ≤ k → from k ≡ []
  unfolding from
  from_end k h = rw (rest_end (λ (i : ℕ). i) first count (k - first) (omega arith))

-- those of them that pass a test
module _ (p : ℕ → Bool) (first count : ℕ) where
  unfoldable pub left : ℕ → List ℕ
  left k = keep p (from first count k)

  pub left-start : left first ≡ keep p (numbers first count)
  unfolding left
  left-start = rw (from_start first count)

  left_yes : (k : ℕ) {b : Bool} → first ≤ k → k < first + count → b ≡ p k → b ≡ true → left k ≡ k ∷ left (k + 1)
  unfolding left keep
  left_yes k l h e t = let q : p k ≡ true = sym e ∙ t in rw (from_turn first count k l h, q)

  left_no : (k : ℕ) {b : Bool} → first ≤ k → k < first + count → b ≡ p k → b ≡ false → left k ≡ left (k + 1)
  unfolding left keep
  left_no k l h e t = let q : p k ≡ false = sym e ∙ t in rw (from_turn first count k l h, q)

  left_end : (k : ℕ) → first + count ≤ k → left k ≡ []
  unfolding left keep
  left_end k h = rw (from_end first count k h)

  -- a fold over them
  pub left-fold-turn : {S : Type 0} (f : S → ℕ → S) (k : ℕ) (s : S) (b : Bool) {t goal : S} → first ≤ k → k < first + count → b ≡ p k
      → t ≡ cond b (f s k) s → fold f s (left k) ≡ goal → fold f t (left (k + 1)) ≡ goal
  unfolding fold
  left-fold-turn f k s true l h e n g = rw n (sym (ap (fold f s) (left_yes k l h e refl)) ∙ g)
  left-fold-turn f k s false l h e n g = rw n (sym (ap (fold f s) (left_no k l h e refl)) ∙ g)

  pub left-fold-end : {S : Type 0} (f : S → ℕ → S) (k : ℕ) (s : S) {goal : S} → first + count ≤ k → fold f s (left k) ≡ goal → s ≡ goal
  unfolding fold
  left-fold-end f k s h g = sym (ap (fold f s) (left_end k h)) ∙ g

  -- whether one of them passes another test
  pub left-some-turn : (q : ℕ → Bool) (k : ℕ) (o b : Bool) {r t goal : Bool} → first ≤ k → k < first + count → b ≡ p k → r ≡ q k
      → t ≡ cond b (o || r) o → (o || some q (left k)) ≡ goal → (t || some q (left (k + 1))) ≡ goal
  unfolding some
  left-some-turn q k o true l h e r n g =
      rw (n, r) (or_assoc o (q k) (some q (left (k + 1))) ∙ sym (ap (λ (l : List ℕ). o || some q l) (left_yes k l h e refl)) ∙ g)
  left-some-turn q k o false l h e r n g = rw n (sym (ap (λ (l : List ℕ). o || some q l) (left_no k l h e refl)) ∙ g)

  pub left-some-end : (q : ℕ → Bool) (k : ℕ) (o : Bool) {goal : Bool} → first + count ≤ k → (o || some q (left k)) ≡ goal → o ≡ goal
  unfolding some
  left-some-end q k o h g = sym (or-false o) ∙ sym (ap (λ (l : List ℕ). o || some q l) (left_end k h)) ∙ g

  -- whether there is one
  pub left-is-turn : (k : ℕ) (o b : Bool) {t goal : Bool} → first ≤ k → k < first + count → b ≡ p k → t ≡ cond b true o
      → (o || is_some (left k)) ≡ goal → (t || is_some (left (k + 1))) ≡ goal
  left-is-turn k o true l h e n g = rw n (sym (or-true o) ∙ sym (ap (λ (l : List ℕ). o || is_some l) (left_yes k l h e refl)) ∙ g)
  left-is-turn k o false l h e n g = rw n (sym (ap (λ (l : List ℕ). o || is_some l) (left_no k l h e refl)) ∙ g)

  pub left-is-end : (k : ℕ) (o : Bool) {goal : Bool} → first + count ≤ k → (o || is_some (left k)) ≡ goal → o ≡ goal
  left-is-end k o h g = sym (or-false o) ∙ sym (ap (λ (l : List ℕ). o || is_some l) (left_end k h)) ∙ g

-- the methods of class a that are overridden are those of its list that pass
pub overridden-left : (same : ℕ → ℕ → Bool) (ws text R : List ℕ) (m a first count : ℕ) → first ≡ class_first_method ws a
    → count ≡ list_count (class_first_method ws a) (class_method_count ws a) method_limit
    → left (is_overridden same ws text m R a) first count first ≡ overridden_in same ws text m R a
unfolding overridden_in own_methods
overridden-left same ws text R m a first count e f =
    left-start (is_overridden same ws text m R a) first count ∙ rw (e, f)

-- ---- up the chain

module _ (same : ℕ → ℕ → Bool) (ws text : List ℕ) (m : ℕ) where
  abbrev pub along : List ℕ → ℕ → List ℕ
  along R a = overridden_along same ws text m R (chain ws a)

  pub along-none : (a : ℕ) (marks : List Bool) (R : List ℕ) → a ≡ 0 → marks ≡ fold mark marks (along R a)
  unfolding overridden_along fold
  along-none a marks R e = rw (chain-none ws a e)

  pub along-up : (a : ℕ) (r : Bool) {p : ℕ} (marks : List Bool) (R : List ℕ) {Q S : List ℕ} {ns out : List Bool} → 0 < a → p ≡ parent_of ws a → Q ≡ R
      → ns ≡ fold mark marks (overridden_in same ws text m Q a)
      → r ≡ some (λ k. not (is_private (method_flags ws k))) (overridden_in same ws text m Q a)
      → S ≡ cond r (R ++ (a ∷ [])) R → out ≡ fold mark ns (along S p) → out ≡ fold mark marks (along R a)
  unfolding overridden_along reached_with
  along-up a r marks R h e l n t s o =
      let here = overridden_in same ws text m R a in
      o ∙ rw (n, s, e, l, chain_more ws a h, ← (rw l at t)) (sym (fold-append mark marks here (along (cond r (R ++ (a ∷ [])) R) (parent_of ws a))))

  pub marks_virtual : (c : ℕ) {p f : ℕ} {b : Bool} {R : List ℕ} (marks : List Bool) {out : List Bool} → f ≡ method_flags ws m → b ≡ is_virtual f
      → not b ≡ false → R ≡ c ∷ [] → p ≡ parent_of ws c → out ≡ fold mark marks (along R p)
      → out ≡ fold mark marks (overridden same ws text c m)
  unfolding overridden
  marks_virtual c {b = b} marks f v t r e o =
      let q : is_virtual (method_flags ws m) ≡ true = sym (rw f at v) ∙ not-false b t in o ∙ rw (q, e, r)

  pub marks_none : (c : ℕ) {f : ℕ} {b : Bool} (marks : List Bool) → f ≡ method_flags ws m → b ≡ is_virtual f → not b ≡ true
      → marks ≡ fold mark marks (overridden same ws text c m)
  unfolding overridden fold
  marks_none c {b = b} marks f v t = let q : is_virtual (method_flags ws m) ≡ false = sym (rw f at v) ∙ not-true b t in rw q

-- one class more, or none
pub reached_length : (reached : List ℕ) (a : ℕ) {new : List ℕ} → new ≡ reached ++ (a ∷ []) → length new ≡ length reached + 1
reached_length reached a e = rw e (omega (arith, length-append reached (a ∷ [])))

pub reached_no : (reached : List ℕ) (a : ℕ) {b : Bool} → b ≡ false → reached ≡ cond b (reached ++ (a ∷ [])) reached
reached_no reached a e = rw e

pub reached_yes : (reached : List ℕ) (a : ℕ) {b : Bool} {new : List ℕ} → b ≡ true → new ≡ reached ++ (a ∷ [])
    → new ≡ cond b (reached ++ (a ∷ [])) reached
reached_yes reached a e s = rw (e, s)

-- ---- searches up the chain

pub parent_less : (ws : List ℕ) (d : ℕ) {q : ℕ} → q ≡ parent_of ws d → 0 < d → q < d
parent_less ws d e h = rw e (parent_below ws d h)

pub parent-room : (ws : List ℕ) (c : ℕ) {q : ℕ} → q ≡ parent_of ws c → c ≤ class_limit → q < class_limit
parent-room ws zero e h = omega (arith, e, parent-within ws 0)
parent-room ws (suc c) e h = omega (arith, parent_less ws (suc c) e (omega arith))

module _ (ws : List ℕ) (p : ℕ → Bool) (c : ℕ) where
  pub seek_none : c ≡ 0 → false ≡ some p (chain ws c)
  unfolding some
  seek_none e = rw (chain-none ws c e)

  pub seek_found : {b : Bool} → 0 < c → b ≡ p c → b ≡ true → true ≡ some p (chain ws c)
  unfolding some
  seek_found h e t = let u = sym e ∙ t in rw (chain_more ws c h, u)

  pub seek_up : {q : ℕ} {b r : Bool} → 0 < c → q ≡ parent_of ws c → b ≡ p c → b ≡ false → r ≡ some p (chain ws q) → r ≡ some p (chain ws c)
  unfolding some
  seek_up h e f t g = let u = sym f ∙ t in rw (chain_more ws c h, u, ← e) g
