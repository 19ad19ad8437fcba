-- Relaying looks at an entry's method alone, and at methods only through the comparison, the index and the distance: entries whose methods are alike
-- (`R`), where alike methods have these three alike, are laid out alike. With `R` equality of the methods that some `Q` holds of, two comparisons that
-- agree on them lay out alike. Assumes nothing.
use mathlib.Core.Path.{◌≡◌}
use mathlib.Core.Bool.{Bool, false, cond, ◌&&◌}
use mathlib.Core.List.{List}
use Prim.Native.Nat.{ℕ, ◌+◌}
use lib.Dec.{eqb}
use Rattle.std.specs.Prelude.{Option}
use Rattle.words.specs.Lists.{numbers, first_found}
use Rattle.words.proofs.Bools.{by}
use Rattle.words.proofs.ListLaws.{by-found}
use Rattle.linking.specs.Chain.{on_found}
use Rattle.linking.specs.Vtable.{Entry, empty, is_of, occurs, last_of, comes_from, nearest_first, stays, standing, follows, following, laid_out}
use Rattle.linking.proofs.Pairs.{Both, both, neither, by_both, Pairs, none, pair, pairs-append, pairs-from, pairs-some, pairs_first, pairs-fold, both_first}

module _ (R : ℕ → ℕ → Type 0) (S : Entry → Entry → Type 0) (methods : (e e' : Entry) → S e e' → Both R e.method e'.method) (fixed fixed' : ℕ → Option ℕ)
    (fixed-is : (m k : ℕ) → R m k → fixed m ≡ fixed' k) where
  -- ---- the signature that stays at an index

  module _ (distance distance' : ℕ → ℕ) (distance-is : (m k : ℕ) → R m k → distance m ≡ distance' k) where
    comes-same : (i d : ℕ) (e e' : Entry) → S e e' → Both R (comes_from fixed distance i d e) (comes_from fixed' distance' i d e')
    unfolding comes_from
    comes-same i d e e' s =
        by_both (methods e e' s)
        (λ m k p q r.
        rw (p, q, fixed-is m k r, distance-is m k r)
        (by (on_found (fixed' k) (λ j. eqb j i) false && eqb (distance' k) d) (λ t. rw t (both r)) (λ t. rw t neither)))
        (λ p q. rw (p, q) neither)

    pub nearest_same : (n : ℕ) {E F : List Entry} → Pairs S E F → (i : ℕ)
        → Both R (nearest_first fixed distance n E i) (nearest_first fixed' distance' n F i)
    unfolding nearest_first
    nearest_same n {E} {F} h i =
        both_first R (λ d. first_found (comes_from fixed distance i d) E) (λ d. first_found (comes_from fixed' distance' i d) F) (numbers 0 n)
        (λ d j. pairs_first R (comes_from fixed distance i d) (comes_from fixed' distance' i d) (comes-same i d) h)

  module _ (same same' : ℕ → ℕ → Bool) (same-is : (m k n l : ℕ) → R m k → R n l → same m n ≡ same' k l) (staying staying' : ℕ → Option ℕ)
      (staying-is : (i : ℕ) → Both R (staying i) (staying' i)) where
    is-of-same : (m k : ℕ) → R m k → (e e' : Entry) → S e e' → is_of same m e ≡ is_of same' k e'
    unfolding is_of
    is-of-same m k r e e' s = by_both (methods e e' s) (λ n l p q t. rw (p, q) (same-is n l m k t r)) (λ p q. rw (p, q))

    occurs-same : (m k : ℕ) → R m k → {es us : List Entry} → Pairs S es us → occurs same m es ≡ occurs same' k us
    unfolding occurs
    occurs-same m k r h = pairs-some (is_of same m) (is_of same' k) (is-of-same m k r) h

    last_same : (m k : ℕ) → R m k → {e e' : Entry} → S e e' → {es us : List Entry} → Pairs S es us → S (last_of same m e es) (last_of same' k e' us)
    unfolding last_of
    last_same m k r s h =
        pairs-fold S (λ l f. cond (is_of same m f) f l) (λ l f. cond (is_of same' k f) f l)
        (λ l l' f f' q t. rw (is-of-same m k r f f' t) (by (is_of same' k f') (λ u. rw u t) (λ u. rw u q))) h s

    stays_same : (i m k : ℕ) → R m k → stays same staying i m ≡ stays same' staying' i k
    unfolding stays
    stays_same i m k r = by_both (staying-is i) (λ x y p q t. rw (p, q) (same-is x y m k t r)) (λ p q. rw (p, q))

    standing-same : S empty empty → {E F : List Entry} → Pairs S E F → (i : ℕ) → S (standing same staying E i) (standing same' staying' F i)
    unfolding standing
    standing-same blank h i = by_both (staying-is i) (λ m k p q r. rw (p, q) (last_same m k r blank h)) (λ p q. rw (p, q) blank)

    -- ---- what follows

    follows-same : (e e' : Entry) → S e e' → {es us : List Entry} → Pairs S es us → follows same fixed staying e es ≡ follows same' fixed' staying' e' us
    unfolding follows
    follows-same e e' s h =
        by_both (methods e e' s)
        (λ m k p q r.
        rw (p, q, fixed-is m k r, occurs-same m k r h) (by-found (fixed' k) (λ i f. rw (f, stays_same i m k r)) (λ f. rw f)))
        (λ p q. rw (p, q))

    following-same : {es us : List Entry} → Pairs S es us → Pairs S (following same fixed staying es) (following same' fixed' staying' us)
    unfolding following
    following-same none = none
    following-same (pair {x = e} {y = e'} {xs = es} {ys = us} s h) =
        rw (follows-same e e' s h)
        (by (follows same' fixed' staying' e' us) (λ t. rw t (pair s (following-same h))) (λ t. rw t (following-same h)))

    pub laid_same : S empty empty → {E F : List Entry} → Pairs S E F → (n : ℕ)
        → Pairs S (laid_out same fixed staying E n) (laid_out same' fixed' staying' F n)
    unfolding laid_out
    laid_same blank {E} {F} h n =
        pairs-append (pairs-from (standing same staying E) (standing same' staying' F) 0 0 n (λ i l. standing-same blank h (0 + i))) (following-same h)
