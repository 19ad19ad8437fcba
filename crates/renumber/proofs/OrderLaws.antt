-- The order is built by placing the first ready class, so each of its elements is the first that is ready after those before it; the search stops at n
-- classes, or where none is ready. All else about the order follows from these two. Assumes nothing.
use mathlib.Core.Path.{◌≡◌, refl, sym, ◌∙◌}
use mathlib.Core.Logic.{◌⊎◌, inl, inr, ⊎_elim}
use mathlib.Core.Bool.{true, false, not, ◌||◌, false≢true, or-true}
use mathlib.Core.List.{List, [], ◌∷◌, ◌++◌}
use Prim.Native.Nat.{ℕ, zero, suc, ◌+◌, ◌≤◌, ◌<◌}
use native.Mathlib.Omega.{arith}
use native.Mathlib.Nat.{eq-or-lt_of_le, le_of_suc-le-suc}
use lib.ListN.{length, get_or, take, length-append, get_or-append}
use lib.Seq.{take-append-le, take_at, get_or_at}
use lib.Dec.{eqb, ltb}
use borrow.Author.Tests.{eq-eqb, eqb-true, eqb-false, ltb-true, ltb-false, not-true}
use Rattle.words.specs.Lists.{numbers}
use Rattle.std.specs.Prelude.{Some, None}
use Rattle.words.proofs.Bools.{by, and_both, or-either, or-neither}
use Rattle.words.proofs.ListLaws.{by-found, find-passes, find-within}
use Rattle.class_sheet.specs.ClassSheet.{class_count, class_parent}
use Rattle.set_rules.specs.Valid.{IsClass}
use Rattle.renumber.specs.Renumber.{placed, ready, next_class, order_from, order_of}
use Rattle.renumber.specs.Places.{Before, Settled}
use Rattle.renumber.proofs.Distinct.{Distinct, take-place, place-take, find-before, find-nothing}

-- where none is ready the order stays as it is
pub order_stuck : (ws : List ℕ) (k : ℕ) (l : List ℕ) → next_class ws l ≡ None → order_from ws k l ≡ l
unfolding order_from
order_stuck ws zero l e = refl
order_stuck ws (suc k) l e = rw e (order_stuck ws k l e)

-- a class that is placed is one turn
pub order-turn : (ws : List ℕ) (k : ℕ) (l : List ℕ) (c : ℕ) → next_class ws l ≡ Some c → order_from ws (suc k) l ≡ order_from ws k (l ++ (c ∷ []))
unfolding order_from
order-turn ws k l c e = rw e

-- it ends with all turns taken, or where none is ready
pub order-ends : (ws : List ℕ) (k : ℕ) (l : List ℕ)
    → (length (order_from ws k l) ≡ length l + k) ⊎ (next_class ws (order_from ws k l) ≡ None)
unfolding order_from
order-ends ws zero l = inl (omega arith)
order-ends ws (suc k) l =
    by-found (next_class ws l)
    (λ c e.
    rw e
    (⊎_elim (λ (q : length (order_from ws k (l ++ (c ∷ []))) ≡ length (l ++ (c ∷ [])) + k). inl (omega (arith, length-append l (c ∷ []))))
    (λ q. inr q) (order-ends ws k (l ++ (c ∷ [])))))
    (λ e. rw e (inr (rw (order_stuck ws k l e) e)))

pub order-most : (ws : List ℕ) (k : ℕ) (l : List ℕ) → length (order_from ws k l) ≤ length l + k
unfolding order_from
order-most ws zero l = omega arith
order-most ws (suc k) l =
    by-found (next_class ws l) (λ c e. rw e (omega (arith, order-most ws k (l ++ (c ∷ [])), length-append l (c ∷ []))))
    (λ e. rw e (omega (arith, order-most ws k l)))

-- ---- each element is the first that is ready after those before it

abbrev pub Each : List ℕ → List ℕ → Type 0
Each ws l = (i : ℕ) → i < length l → next_class ws (take i l) ≡ Some (get_or l i 0)

each_more : (ws l : List ℕ) (c : ℕ) → next_class ws l ≡ Some c → Each ws l → Each ws (l ++ (c ∷ []))
each_more ws l c e h i g =
    ⊎_elim (λ (q : i ≡ length l). rw (take_at l (c ∷ []) i (sym q), get_or_at l c [] 0 i (sym q)) e)
    (λ (m : i < length l). rw (take-append-le i l (c ∷ []) (omega arith), get_or-append l (c ∷ []) 0 i m) (h i m))
    (eq-or-lt_of_le (le_of_suc-le-suc (omega (arith, length-append l (c ∷ [])))))

each_from : (ws : List ℕ) (k : ℕ) (l : List ℕ) → Each ws l → Each ws (order_from ws k l)
unfolding order_from
each_from ws zero l h = h
each_from ws (suc k) l h =
    by-found (next_class ws l) (λ c e. rw e (each_from ws k (l ++ (c ∷ [])) (each_more ws l c e h))) (λ e. rw e (each_from ws k l h))

pub each-order : (ws : List ℕ) → Each ws (order_of ws)
unfolding order_of
each-order ws = each_from ws (class_count ws) [] (λ i h. absurd (omega arith))

-- ---- what that says of the elements

module _ (ws l : List ℕ) (each : Each ws l) (i : ℕ) (h : i < length l) where
  pub element-class : IsClass ws (get_or l i 0)
  unfolding next_class
  element-class = let w = find-within (ready ws (take i l)) 1 (class_count ws) (get_or l i 0) (each i h) in (w.0, omega (arith, w.1))

  element-ready : ready ws (take i l) (get_or l i 0) ≡ true
  unfolding next_class
  element-ready = find-passes (ready ws (take i l)) (numbers 1 (class_count ws)) (get_or l i 0) (each i h)

  pub element-new : placed (take i l) (get_or l i 0) ≡ false
  unfolding ready
  element-new = not-true (placed (take i l) (get_or l i 0)) (and_both (not (placed (take i l) (get_or l i 0))) _ element-ready).0

  pub element_settled : Settled ws l i (get_or l i 0)
  unfolding ready
  element_settled =
      ⊎_elim (λ e. inl (eqb-true (class_parent ws (get_or l i 0)) 0 e)) (λ t. inr (take-place l i (class_parent ws (get_or l i 0)) (omega arith) t))
      (or-either (eqb (class_parent ws (get_or l i 0)) 0) (placed (take i l) (class_parent ws (get_or l i 0)))
      (and_both (not (placed (take i l) (get_or l i 0))) _ element-ready).1)

  -- a class that could go next is ready, so it is not smaller
  pub element-smallest : (c : ℕ) → IsClass ws c → (Before l i c → ⊥) → Settled ws l i c → get_or l i 0 ≤ c
  unfolding next_class ready
  element-smallest c k new settled =
      let out : placed (take i l) c ≡ false = by (placed (take i l) c) (λ t. absurd (new (take-place l i c (omega arith) t))) (λ f. f) in
      let free : (eqb (class_parent ws c) 0 || placed (take i l) (class_parent ws c)) ≡ true =
      ⊎_elim (λ (e : class_parent ws c ≡ 0). rw (eq-eqb (class_parent ws c) 0 e))
      (λ (b : Before l i (class_parent ws c)). rw (place-take l i (class_parent ws c) (omega arith) b) (or-true (eqb (class_parent ws c) 0))) settled in
      by (ltb c (get_or l i 0))
      (λ t.
      let passed_over = find-before (ready ws (take i l)) 1 (class_count ws) (get_or l i 0) (each i h) c k.0 (ltb-true c (get_or l i 0) t) in
      absurd (false≢true (sym passed_over ∙ rw (out, free))))
      (λ f. ltb-false c (get_or l i 0) f)

-- no number twice, and only classes
pub order-distinct : (ws l : List ℕ) → Each ws l → Distinct (class_count ws) l
order-distinct ws l each = record { within = λ i h. element-class ws l each i h; once = once }
  where
    -- an element does not stand before itself
    later : (i j : ℕ) → i < j → j < length l → get_or l i 0 ≡ get_or l j 0 → ⊥
    later i j h g e =
        false≢true (sym (element-new ws l each j g) ∙ place-take l j (get_or l j 0) (omega arith) (record { place = i; before = h; is = e }))

    once : (i j : ℕ) → i < length l → j < length l → get_or l i 0 ≡ get_or l j 0 → i ≡ j
    once i j h g e =
        by (ltb i j) (λ t. absurd (later i j (ltb-true i j t) g e))
        (λ f. by (ltb j i) (λ t. absurd (later j i (ltb-true j i t) h (sym e))) (λ k. omega (arith, ltb-false i j f, ltb-false j i k)))

-- where none is ready, a class that is not placed has a parent that is not placed
pub left_behind : (ws l : List ℕ) → next_class ws l ≡ None → (c : ℕ) → IsClass ws c → placed l c ≡ false
    → (class_parent ws c ≡ 0 → ⊥) × (placed l (class_parent ws c) ≡ false)
unfolding next_class ready
left_behind ws l e c k f =
    let no = find-nothing (ready ws l) 1 (class_count ws) e c k.0 (omega (arith, k.1)) in
    let both = or-neither (eqb (class_parent ws c) 0) (placed l (class_parent ws c)) (rw f at no) in
    (eqb-false (class_parent ws c) 0 both.0, both.1)
