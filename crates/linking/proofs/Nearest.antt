-- The method that holds an index, by the sentence: along the ABI classes, nearest first, the first entry whose index comes from there. Assumes nothing.
use mathlib.Core.Path.{◌≡◌, refl, sym, ap, ◌∙◌}
use mathlib.Core.Bool.{false, cond}
use mathlib.Core.List.{List, [], ◌∷◌}
use Prim.Native.Nat.{ℕ, zero, suc, ◌+◌, ◌≤◌, ◌<◌}
use native.Mathlib.Omega.{arith}
use lib.Dec.{eqb, ltb}
use borrow.Author.Tests.{eqb-true, eqb-false, ltb-true, ltb-false, lt-ltb, le-ltb}
use Rattle.words.specs.Lists.{list_from, numbers, first_found, fold}
use Rattle.std.specs.Option.{option_or}
use Rattle.std.specs.Prelude.{Option, Some, None}
use Rattle.words.proofs.Bools.{by}
use Rattle.words.proofs.ListLaws.{by-found}
use Rattle.linking.specs.Chain.{on_found}
use Rattle.linking.specs.Vtable.{Entry, comes_from, nearest_first}
use Rattle.linking.specs.Relays.{hold, hold_entry, holder}
use Rattle.linking.proofs.Relaying.{found-same, not_found}

module _ (fixed : ℕ → Option ℕ) (distance : ℕ → ℕ) (n : ℕ) (near : (m i : ℕ) → fixed m ≡ Some i → distance m < n) (i : ℕ) where
  -- of two, the second only if it is nearer
  abbrev pick : Option ℕ → Option ℕ → Option ℕ
  pick (Some k) (Some m) = cond (ltb (distance m) (distance k)) (Some m) (Some k)
  pick (Some k) None = Some k
  pick None g = g

  -- e's method, if its index is i
  unfoldable comes : Entry → Option ℕ
  comes e = on_found e.method (λ m. cond (on_found (fixed m) (λ j. eqb j i) false) (Some m) None) None

  comes-index : (e : Entry) (m : ℕ) → comes e ≡ Some m → (e.method ≡ Some m) × (fixed m ≡ Some i)
  unfolding comes
  comes-index e m q =
      by-found e.method
      (λ k r.
      by-found (fixed k)
      (λ j f.
      by (eqb j i)
      (λ t. let z : k ≡ m = found-same (rw (r, f, t) at q) in let y = eqb-true j i t in (r ∙ ap Some z, (rw z at f) ∙ ap Some y))
      (λ t. not_found (rw (r, f, t) at q)))
      (λ f. not_found (rw (r, f) at q)))
      (λ r. not_found (rw r at q))

  hold-pick : (h : Option ℕ) (e : Entry) → hold_entry fixed distance i h e ≡ pick h (comes e)
  unfolding hold_entry hold comes
  hold-pick h e =
      by-found e.method
      (λ m q.
      by (on_found (fixed m) (λ j. eqb j i) false)
      (λ t. by-found h (λ k r. rw (q, t, r) refl) (λ r. rw (q, t, r) refl))
      (λ t. by-found h (λ k r. rw (q, t, r) refl) (λ r. rw (q, t, r) refl)))
      (λ q. by-found h (λ k r. rw (q, r) refl) (λ r. rw (q, r) refl))

  pick_assoc : (h c g : Option ℕ) → pick (pick h c) g ≡ pick h (pick c g)
  pick_assoc None c g = refl
  pick_assoc (Some k) None g = refl
  pick_assoc (Some k) (Some m) None = by (ltb (distance m) (distance k)) (λ t. rw t refl) (λ t. rw t refl)
  pick_assoc (Some k) (Some m) (Some l) =
      by (ltb (distance m) (distance k))
      (λ t.
      by (ltb (distance l) (distance m))
      (λ u.
      let a = ltb-true (distance m) (distance k) t in
      let b = ltb-true (distance l) (distance m) u in
      let c = lt-ltb (distance l) (distance k) (omega arith) in
      rw (t, u, c) refl)
      (λ u. rw (t, u, t) refl))
      (λ t.
      by (ltb (distance l) (distance m))
      (λ u. rw (t, u) refl)
      (λ u.
      let a = ltb-false (distance m) (distance k) t in
      let b = ltb-false (distance l) (distance m) u in
      let c = le-ltb (distance l) (distance k) (omega arith) in
      rw (t, u, c, t) refl))

  from-none : (d : ℕ) (e : Entry) → comes e ≡ None → comes_from fixed distance i d e ≡ None
  unfolding comes comes_from
  from-none d e q =
      by-found e.method
      (λ m r. by (on_found (fixed m) (λ j. eqb j i) false) (λ t. not_found (sym (rw (r, t) at q))) (λ t. rw (r, t) refl))
      (λ r. rw r refl)

  from_some : (d : ℕ) (e : Entry) (m : ℕ) → comes e ≡ Some m → comes_from fixed distance i d e ≡ cond (eqb (distance m) d) (Some m) None
  unfolding comes comes_from
  from_some d e m q =
      by-found e.method
      (λ k r.
      by (on_found (fixed k) (λ j. eqb j i) false)
      (λ t. let z : k ≡ m = found-same (rw (r, t) at q) in rw (r, t, z) refl)
      (λ t. not_found (rw (r, t) at q)))
      (λ r. not_found (rw r at q))

  from-distance : (d : ℕ) (es : List Entry) (l : ℕ) → first_found (comes_from fixed distance i d) es ≡ Some l → distance l ≡ d
  unfolding first_found
  from-distance d [] l q = not_found q
  from-distance d (e ∷ es) l q =
      by-found (comes e)
      (λ m r.
      by (eqb (distance m) d)
      (λ t. let z : m ≡ l = found-same (rw (from_some d e m r, t) at q) in (rw z at (eqb-true (distance m) d t)))
      (λ t. from-distance d es l (rw (from_some d e m r, t) at q)))
      (λ r. from-distance d es l (rw (from-none d e r) at q))

  module _ (es : List Entry) where
    far : (a k l : ℕ) → first_found (λ d. first_found (comes_from fixed distance i d) es) (numbers a k) ≡ Some l → a ≤ distance l
    unfolding first_found list_from
    far a zero l q = not_found q
    far a (suc k) l q =
        by-found (first_found (comes_from fixed distance i a) es)
        (λ m r.
        let z : m ≡ l = found-same (rw r at q) in
        let y = from-distance a es m r in
        let x : distance l ≡ a = rw z at y in omega arith)
        (λ r. let y = far (a + 1) k l (rw r at q) in omega arith)

    module _ (e : Entry) where
      more-none : comes e ≡ None → (a k : ℕ)
          → first_found (λ d. first_found (comes_from fixed distance i d) (e ∷ es)) (numbers a k)
          ≡ first_found (λ d. first_found (comes_from fixed distance i d) es) (numbers a k)
      unfolding first_found list_from
      more-none q a zero = refl
      more-none q a (suc k) = rw (from-none a e q, more-none q (a + 1) k) refl

      more-some : (m : ℕ) → comes e ≡ Some m → (a k : ℕ) → a ≤ distance m → distance m < a + k
          → first_found (λ d. first_found (comes_from fixed distance i d) (e ∷ es)) (numbers a k)
          ≡ pick (Some m) (first_found (λ d. first_found (comes_from fixed distance i d) es) (numbers a k))
      unfolding first_found list_from
      more-some m q a zero b c = absurd (omega arith)
      more-some m q a (suc k) b c =
          by (eqb (distance m) a)
          (λ t.
          let z = eqb-true (distance m) a t in
          rw (from_some a e m q, t)
          (sym (first m (option_or (first_found (comes_from fixed distance i a) es)
          (first_found (λ d. first_found (comes_from fixed distance i d) es) (numbers (a + 1) k)))
          (λ l r. let y = far a (suc k) l r in omega arith))))
          (λ t.
          let z = eqb-false (distance m) a t in
          rw (from_some a e m q, t)
          (by-found (first_found (comes_from fixed distance i a) es)
          (λ l r.
          let y = from-distance a es l r in
          let x = lt-ltb (distance l) (distance m) (omega arith) in rw (r, x) refl)
          (λ r. rw r (more-some m q (a + 1) k (omega arith) (omega arith)))))
        where
          first : (m : ℕ) (g : Option ℕ) → ((l : ℕ) → g ≡ Some l → distance m ≤ distance l) → pick (Some m) g ≡ Some m
          first m (Some l) h = let y = le-ltb (distance l) (distance m) (h l refl) in rw y refl
          first m None h = refl

      nearest-more : nearest_first fixed distance n (e ∷ es) i ≡ pick (comes e) (nearest_first fixed distance n es i)
      unfolding nearest_first
      nearest-more =
          by-found (comes e)
          (λ m q. let b = comes-index e m q in let c = near m i b.1 in rw q (more-some m q 0 n (omega arith) (omega arith)))
          (λ q. rw q (more-none q 0 n))

  none_found : (a k : ℕ) → first_found (λ d. first_found (comes_from fixed distance i d) []) (numbers a k) ≡ None
  unfolding first_found list_from
  none_found a zero = refl
  none_found a (suc k) = none_found (a + 1) k

  nearest-none : nearest_first fixed distance n [] i ≡ None
  unfolding nearest_first
  nearest-none = none_found 0 n

  holds-nearest : (h : Option ℕ) (es : List Entry) → fold (hold_entry fixed distance i) h es ≡ pick h (nearest_first fixed distance n es i)
  unfolding fold
  holds-nearest h [] = rw nearest-none (by-found h (λ k q. rw q refl) (λ q. rw q refl))
  holds-nearest h (e ∷ es) =
      holds-nearest (hold_entry fixed distance i h e) es
      ∙ ap (λ (x : Option ℕ). pick x (nearest_first fixed distance n es i)) (hold-pick h e)
      ∙ pick_assoc h (comes e) (nearest_first fixed distance n es i)
      ∙ ap (pick h) (sym (nearest-more es e))

  -- the method that holds index i: nearest first, and then the first entry
  pub holder-nearest : (E : List Entry) → holder fixed distance E i ≡ nearest_first fixed distance n E i
  unfolding holder
  holder-nearest E = holds-nearest None E
