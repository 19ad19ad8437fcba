-- Names compared from the far end: what is seen at a pair that differs, and at the end. Assumes nothing.
use mathlib.Core.Path.{◌≡◌, refl, sym, ap, ◌∙◌}
use mathlib.Core.Logic.{◌≢◌, ◌⊎◌, inl, inr, ⊎_elim}
use mathlib.Core.Bool.{true, false}
use mathlib.Core.List.{List, [], ◌∷◌}
use Prim.Native.Nat.{ℕ, zero, suc, ◌+◌, ◌-◌, ◌<◌}
use native.Mathlib.Omega.{arith}
use lib.ListN.{length, get_or, drop, length-drop, drop_of_length-le}
use lib.Seq.{drop-cons, get_or-drop, ext_get_or}
use lib.Dec.{eqb}
use borrow.Author.Tests.{eq-eqb, ne_eqb, eqb-true, eqb-false}
use Rattle.std.specs.Prelude.{Some, None}
use Rattle.words.proofs.Bools.{by}
use Rattle.words.proofs.ListLaws.{by-found}
use Rattle.text.specs.Text.{same_bytes, last_differing, pairs_read}
use Rattle.text.specs.Pairs.{Pairs}
use Rattle.text.proofs.Laws.{same-is, same_refl}

-- ---- the last differing place

last_none : (a : List ℕ) → last_differing a a ≡ None
unfolding last_differing
last_none [] = refl
last_none (x ∷ xs) = rw (last_none xs, eq-eqb x x refl)

-- place i, where they differ, if they are the same from there on
last-at : (a b : List ℕ) (i : ℕ) → i < length a → i < length b → get_or a i 0 ≢ get_or b i 0 → drop (suc i) a ≡ drop (suc i) b
    → last_differing a b ≡ Some i
unfolding last_differing
last-at [] b i h k n e = absurd (omega arith)
last-at (x ∷ xs) [] i h k n e = absurd (omega arith)
last-at (x ∷ xs) (y ∷ ys) zero h k n e = rw (e, last_none ys, ne_eqb x y n)
last-at (x ∷ xs) (y ∷ ys) (suc i) h k n e =
    let t : last_differing xs ys ≡ Some i = last-at xs ys i (omega arith) (omega arith) n e in
    let q : i + 1 ≡ suc i = omega arith in rw (t, q)

-- ---- the count, and whether they are the same, as the loop sees them

module _ (a b : List ℕ) where
  pub pairs-unequal : length a ≢ length b → 0 ≡ pairs_read a b
  unfolding pairs_read
  pairs-unequal h = simp (ne_eqb (length a) (length b) h)

  -- at place i the names differ, and after it they are the same
  module _ (i : ℕ) (lengths : length a ≡ length b) (inside : i < length a) (differ : get_or a i 0 ≢ get_or b i 0) where
    pub differ_same : false ≡ same_bytes a b
    differ_same = by (same_bytes a b) (λ t. absurd (differ (ap (λ (l : List ℕ). get_or l i 0) (same-is a b t)))) sym

    pub differ-pairs : (n : ℕ) {k : ℕ} → drop n a ≡ drop n b → n ≡ i + 1 → k + i ≡ length a → k ≡ pairs_read a b
    unfolding pairs_read
    differ-pairs n t e s =
        let q : suc i ≡ i + 1 = omega arith in
        let l : last_differing a b ≡ Some i = last-at a b i inside (omega arith) differ (rw (q, ← e) t) in
        simp (eq-eqb (length a) (length b) lengths) (rw l (omega arith))

  -- nothing is left to be read
  pub all_same : drop 0 a ≡ drop 0 b → true ≡ same_bytes a b
  all_same e = rw e (sym (same_refl b))

  pub all-pairs : {k : ℕ} → drop 0 a ≡ drop 0 b → k ≡ length a → k ≡ pairs_read a b
  unfolding pairs_read
  all-pairs e s = rw (s, e) (simp (eq-eqb (length b) (length b) refl) (rw (last_none b)))

  -- a pair that is the same
  pub same-before : (i n : ℕ) → drop n a ≡ drop n b → get_or a i 0 ≡ get_or b i 0 → n ≡ i + 1 → i < length a → i < length b → drop i a ≡ drop i b
  same-before i n t p e h k =
      let q : suc i ≡ i + 1 = omega arith in
      let u : drop (suc i) a ≡ drop (suc i) b = rw (q, ← e) t in
      rw (drop-cons a i 0 h, drop-cons b i 0 k, p, u)

  -- at the far end there is nothing after
  pub nothing-after : length a ≡ length b → drop (length a) a ≡ drop (length a) b
  nothing-after e = rw (drop_of_length-le a {i = length a} (omega arith), drop_of_length-le b {i = length a} (omega arith))

-- ---- the three cases

-- lists that are the same after place p
same_after : (a b : List ℕ) (p : ℕ) → length a ≡ length b → ((q : ℕ) → p < q → q < length a → get_or a q 0 ≡ get_or b q 0) → drop (p + 1) a ≡ drop (p + 1) b
same_after a b p e h =
    let la = length-drop (p + 1) a in let lb = length-drop (p + 1) b in
    ext_get_or 0 (drop (p + 1) a) (drop (p + 1) b) (omega arith)
    (λ i l. get_or-drop (p + 1) a i 0 ∙ h (p + 1 + i) (omega arith) (omega arith) ∙ sym (get_or-drop (p + 1) b i 0))

last_within : (a b : List ℕ) (p : ℕ) → last_differing a b ≡ Some p → p < length a
unfolding last_differing
last_within [] b p e = absurd (let z : ◌≡◌ {A = ℕ} 0 1 = cc in omega arith)
last_within (x ∷ xs) [] p e = absurd (let z : ◌≡◌ {A = ℕ} 0 1 = cc in omega arith)
last_within (x ∷ xs) (y ∷ ys) p e =
    by-found (last_differing xs ys)
    (λ k t. let u : Some (k + 1) ≡ Some p = rw t at e in let v : k + 1 ≡ p = cc in omega (arith, last_within xs ys k t))
    (λ t.
    by (eqb x y)
    (λ s. let u : None ≡ Some p = rw (t, s) at e in let z : ◌≡◌ {A = ℕ} 0 1 = cc in absurd (omega arith))
    (λ s. let u : Some 0 ≡ Some p = rw (t, s) at e in let v : 0 ≡ p = cc in omega arith))

-- the count of names of one length, by the place that is found
pairs-by : (a b : List ℕ) → length a ≡ length b → (pairs_read a b ≡ length a) ⊎ ((p : ℕ) × (p < length a) × (pairs_read a b ≡ length a - p))
unfolding pairs_read
pairs-by a b e =
    by-found (last_differing a b)
    (λ p t. inr (p, last_within a b p t, simp (eq-eqb (length a) (length b) e) (rw t)))
    (λ t. inl (simp (eq-eqb (length a) (length b) e) (rw t)))

pub pairs : Pairs
pairs =
    record {
      unequal = λ a b h. sym (pairs-unequal a b h);
      equal = λ a. sym (all-pairs a a refl refl);
      differing = λ a b p e h n s.
          sym (differ-pairs a b p e h n (p + 1) {k = length a - p} (same_after a b p e s) refl (omega arith));
      bound = λ a b.
          by (eqb (length a) (length b))
          (λ t. ⊎_elim (λ q. omega arith) (λ q. omega (arith, q.2)) (pairs-by a b (eqb-true _ _ t)))
          (λ t. omega (arith, pairs-unequal a b (eqb-false _ _ t)));
      some = λ a b e h. ⊎_elim (λ q. omega arith) (λ q. omega (arith, q.1, q.2)) (pairs-by a b e);
    }
