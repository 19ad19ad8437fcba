-- JVMS 5.4.5 and the walk: a method overrides what is open to a class that it reaches, and the classes that the walk holds are those reached.
-- Assumes nothing.
use mathlib.Core.Path.{◌≡◌, refl, sym, ◌∙◌}
use mathlib.Core.Logic.{◌⊎◌, inl, inr, ⊎_elim}
use mathlib.Core.Bool.{Bool, true, false, not, false≢true}
use mathlib.Core.List.{List, [], ◌∷◌, Memᴰ}
use Prim.Native.Nat.{ℕ, zero, suc, ◌+◌, ◌≤◌, ◌<◌}
use native.Mathlib.Omega.{arith}
use lib.Dec.{eqb}
use borrow.Author.Tests.{eqb-true, eqb-false}
use Rattle.words.specs.Lists.{keep, some}
use Rattle.words.proofs.Bools.{by, and_both, and_3}
use Rattle.words.proofs.ListLaws.{numbers-within}
use Rattle.text.specs.Text.{same_bytes}
use Rattle.text.proofs.Laws.{same-is, same_refl}
use Rattle.class_sheet.specs.ClassSheet.{text_of, class_first_method, class_method_count, method_name, method_descriptor, method_flags, method_limit}
use Rattle.set_rules.specs.Valid.{IsClass}
use Rattle.linking.specs.Signature.{methods_same, place_name, place_descriptor, by_bytes}
use Rattle.linking.specs.Chain.{list_count, own_methods, parent_of, chain, is_private, is_static, is_virtual, SameSignature}
use Rattle.linking.specs.Packages.{is_public, is_protected, package_at, open_to, is_overridden, overridden_in, reached_with, overridden_along, overridden, Above, Instance, Virtual, Open, public, protected, in_package, Overrides, open_method, through, OverridesMeaning}
use Rattle.linking.proofs.ChainLaws.{parent_below, parent-within, chain-none, chain_more, chain-within}

-- ---- elements that pass a test

module _ {A : Type 0} (p : A → Bool) where
  pub keep-of : {x : A} (xs : List A) → Memᴰ x (keep p xs) → Memᴰ x xs × (p x ≡ true)
  unfolding keep
  keep-of [] h = absurd (mathlib.Core.List.Memᴰ.not-nil h)
  keep-of {x} (y ∷ xs) h =
      by (p y)
      (λ t.
      ⊎_elim (λ (e : x ≡ y). (mathlib.Core.List.Memᴰ.head e, rw e t)) (λ i. let r = keep-of xs i in (mathlib.Core.List.Memᴰ.tail r.0, r.1))
      (mathlib.Core.List.Memᴰ.cases_cons (rw t at h)))
      (λ f. let r = keep-of xs (rw f at h) in (mathlib.Core.List.Memᴰ.tail r.0, r.1))

  pub keep_in : {x : A} (xs : List A) → Memᴰ x xs → p x ≡ true → Memᴰ x (keep p xs)
  unfolding keep
  keep_in [] h t = absurd (mathlib.Core.List.Memᴰ.not-nil h)
  keep_in {x} (y ∷ xs) h t =
      ⊎_elim (λ (e : x ≡ y). rw (← e, t) (mathlib.Core.List.Memᴰ.head refl))
      (λ i. by (p y) (λ u. rw u (mathlib.Core.List.Memᴰ.tail (keep_in xs i t))) (λ u. rw u (keep_in xs i t))) (mathlib.Core.List.Memᴰ.cases_cons h)

  pub some_of : (xs : List A) → some p xs ≡ true → (x : A) × Memᴰ x xs × (p x ≡ true)
  unfolding some
  some_of [] h = absurd (false≢true h)
  some_of (y ∷ xs) h =
      by (p y) (λ t. (y, mathlib.Core.List.Memᴰ.head refl, t)) (λ f. let r = some_of xs (rw f at h) in (r.0, mathlib.Core.List.Memᴰ.tail r.1, r.2))

  pub some_in : {x : A} (xs : List A) → Memᴰ x xs → p x ≡ true → some p xs ≡ true
  unfolding some
  some_in [] h t = absurd (mathlib.Core.List.Memᴰ.not-nil h)
  some_in {x} (y ∷ xs) h t =
      ⊎_elim (λ (e : x ≡ y). rw (← e, t)) (λ i. by (p y) (λ u. rw u) (λ u. rw u (some_in xs i t))) (mathlib.Core.List.Memᴰ.cases_cons h)

-- ---- chains: what is above a class of a chain is on it

pub chain-above : (ws : List ℕ) (bound c : ℕ) {a b : ℕ} → c ≤ bound → Memᴰ b (chain ws c) → Memᴰ a (chain ws (parent_of ws b))
    → Memᴰ a (chain ws (parent_of ws c))
chain-above ws zero c b h i =
    let e : c ≡ 0 = omega arith in absurd (mathlib.Core.List.Memᴰ.not-nil (rw (e, chain-none ws 0 refl) at h))
chain-above ws (suc bound) c {a} {b} l h i =
    let r = chain-within ws c b h in
    let f = parent_below ws c (omega arith) in
    ⊎_elim (λ (e : b ≡ c). rw (← e) i) (λ j. up (chain-above ws bound (parent_of ws c) (omega arith) j i))
    (mathlib.Core.List.Memᴰ.cases_cons (rw (chain_more ws c (omega arith)) at h))
  where
    up : Memᴰ a (chain ws (parent_of ws (parent_of ws c))) → Memᴰ a (chain ws (parent_of ws c))
    up j =
        by (eqb (parent_of ws c) 0)
        (λ t.
        let e = eqb-true (parent_of ws c) 0 t in
        let n = parent-within ws (parent_of ws c) in
        let g : parent_of ws (parent_of ws c) ≡ parent_of ws c = omega arith in rw g at j)
        (λ t.
        let n = eqb-false (parent_of ws c) 0 t in
        rw (chain_more ws (parent_of ws c) (omega arith)) (mathlib.Core.List.Memᴰ.tail j))

-- the chain of a class of the chain lies on it
pub chain-of-chain : (ws : List ℕ) (bound c : ℕ) {a b : ℕ} → c ≤ bound → Memᴰ b (chain ws c) → Memᴰ a (chain ws b) → Memᴰ a (chain ws c)
chain-of-chain ws bound c {a} {b} l h i =
    let r = chain-within ws c b h in
    ⊎_elim (λ (e : a ≡ b). rw e h)
    (λ j. rw (chain_more ws c (omega arith)) (mathlib.Core.List.Memᴰ.tail (chain-above ws bound c l h j)))
    (mathlib.Core.List.Memᴰ.cases_cons (rw (chain_more ws b (omega arith)) at i))

module _ (ws text : List ℕ) where
  same_back : {m k : ℕ} → SameSignature ws text m k → SameSignature ws text k m
  same_back s = record { name = sym s.name; descriptor = sym s.descriptor }

  same_then : {m k n : ℕ} → SameSignature ws text m k → SameSignature ws text k n → SameSignature ws text m n
  same_then s t = record { name = s.name ∙ t.name; descriptor = s.descriptor ∙ t.descriptor }

  -- ---- the classes that method m of class c reaches: c, and each that declares a method which m overrides and which can override in its turn

  data Reach (c m : ℕ) : ℕ → Type 0 where
    first : Reach c m c
    next : {b : ℕ} (a k : ℕ) → Reach c m b → Above ws a b → Virtual ws a k → SameSignature ws text m k → Open ws text k a b → Reach c m a

  -- method k of class a is open to a class reached
  record Met (c m a k : ℕ) : Type 0 where
    from : ℕ
    reach : Reach c m from
    above : Above ws a from
    declared : Instance ws a k
    signature : SameSignature ws text m k
    opens : Open ws text k a from

  join : {c m b n e : ℕ} → Reach c m b → SameSignature ws text m n → Reach b n e → Reach c m e
  join r s first = r
  join r s (next a k t u v w o) = next a k (join r s t) u v (same_then s w) o

  -- what a method overrides is so open: a path of methods is one path of classes

  overrides_met : {c m a k : ℕ} → Overrides ws text c m a k → Virtual ws c m × Met c m a k
  overrides_met {c} (open_method u v i s o) =
      (v, record { from = c; reach = first; above = u; declared = i; signature = s; opens = o })
  overrides_met (through b n p q) =
      let x = overrides_met p in
      let y = overrides_met q in
      let l = x.1 in
      let r = y.1 in (
        x.0,
        record {
          from = r.from;
          reach = join (next b n l.reach l.above y.0 l.signature l.opens) l.signature r.reach;
          above = r.above;
          declared = r.declared;
          signature = same_then l.signature r.signature;
          opens = r.opens;
        },
      )

  -- and back

  reach-overrides : {c m b a k : ℕ} → Virtual ws c m → Reach c m b → Above ws a b → Instance ws a k → SameSignature ws text m k
      → Open ws text k a b → Overrides ws text c m a k
  reach-overrides v first u i s o = open_method u v i s o
  reach-overrides v (next b n r u₁ w s₁ o₁) u i s o =
      through b n (reach-overrides v r u₁ w.declared s₁ o₁) (open_method u w i (same_then (same_back s₁) s) o)

  met_overrides : {c m a k : ℕ} → Virtual ws c m → Met c m a k → Overrides ws text c m a k
  met_overrides v r = reach-overrides v r.reach r.above r.declared r.signature r.opens

  -- ---- the tests and what they say

  open_true : {k a c : ℕ} → Open ws text k a c → open_to ws text k a c ≡ true
  unfolding open_to
  open_true (public e) = rw e
  open_true {k} (protected e) = by (is_public (method_flags ws k)) (λ t. rw t) (λ t. rw (t, e))
  open_true {k} {c = c} (in_package e p) =
      by (is_public (method_flags ws k)) (λ t. rw t)
      (λ t. by (is_protected (method_flags ws k)) (λ u. rw (t, u)) (λ u. rw (t, u, e, p, same_refl (package_at ws text c))))

  open_of : (k a c : ℕ) → open_to ws text k a c ≡ true → Open ws text k a c
  unfolding open_to
  open_of k a c h =
      by (is_public (method_flags ws k)) public
      (λ t.
      by (is_protected (method_flags ws k)) protected
      (λ u.
      let r = rw (t, u) at h in
      by (is_private (method_flags ws k)) (λ v. absurd (false≢true (rw v at r)))
      (λ v. in_package v (same-is (package_at ws text a) (package_at ws text c) (rw v at r)))))

  module _ (c m : ℕ) where
    pub virtual_of : Memᴰ m (own_methods ws c) → is_virtual (method_flags ws m) ≡ true → Virtual ws c m
    unfolding is_virtual
    virtual_of i h =
        let p = and_both (not (is_static (method_flags ws m))) (not (is_private (method_flags ws m))) h in
        record {
          declared = record { own = i; not_static = by (is_static (method_flags ws m)) (λ u. absurd (false≢true (rw u at p.0))) (λ u. u) };
          not_private = by (is_private (method_flags ws m)) (λ u. absurd (false≢true (rw u at p.1))) (λ u. u);
        }

    virtual_true : Virtual ws c m → is_virtual (method_flags ws m) ≡ true
    unfolding is_virtual
    virtual_true v = rw (v.declared.not_static, v.not_private)

  -- ---- where signatures are compared by their bytes

  module _ (abi labels : List ℕ) where
    pub same_true : {m k : ℕ} → SameSignature ws text m k → methods_same (by_bytes ws text abi labels) k m ≡ true
    unfolding methods_same by_bytes place_name place_descriptor
    same_true {k = k} s = rw (s.name, s.descriptor, same_refl (method_name ws text k)) (same_refl (method_descriptor ws text k))

    pub same_of : (m k : ℕ) → methods_same (by_bytes ws text abi labels) k m ≡ true → SameSignature ws text m k
    unfolding methods_same by_bytes place_name place_descriptor
    same_of m k h =
        let p = and_both (same_bytes (method_name ws text k) (method_name ws text m))
        (same_bytes (method_descriptor ws text k) (method_descriptor ws text m)) h in
        record { name = sym (same-is _ _ p.0); descriptor = sym (same-is _ _ p.1) }

    abbrev same : ℕ → ℕ → Bool
    same = methods_same (by_bytes ws text abi labels)

    passes : {m k a e : ℕ} (R : List ℕ) → Instance ws a k → SameSignature ws text m k → Memᴰ e R → Open ws text k a e
        → is_overridden same ws text m R a k ≡ true
    unfolding is_overridden
    passes {k = k} {a = a} R i s h o = rw (i.not_static, same_true s) (some_in (open_to ws text k a) R h (open_true o))

    pub in_here : {m k a e : ℕ} (R : List ℕ) → Instance ws a k → SameSignature ws text m k → Memᴰ e R → Open ws text k a e
        → Memᴰ k (overridden_in same ws text m R a)
    unfolding overridden_in
    in_here {m} {a = a} R i s h o = keep_in (is_overridden same ws text m R a) (own_methods ws a) i.own (passes R i s h o)

    -- what a method found in class a is
    record Here (m a k : ℕ) (R : List ℕ) : Type 0 where
      declared : Instance ws a k
      signature : SameSignature ws text m k
      class : ℕ
      reached : Memᴰ class R
      opens : Open ws text k a class

    here_of : (m a k : ℕ) (R : List ℕ) → Memᴰ k (overridden_in same ws text m R a) → Here m a k R
    unfolding overridden_in is_overridden
    here_of m a k R h =
        let r = keep-of (is_overridden same ws text m R a) (own_methods ws a) h in
        let t = and_3 (not (is_static (method_flags ws k))) (same k m) (some (open_to ws text k a) R) r.1 in
        let o = some_of (open_to ws text k a) R t.2 in
        record {
          declared = record { own = r.0; not_static = by (is_static (method_flags ws k)) (λ u. absurd (false≢true (rw u at t.0))) (λ u. u) };
          signature = same_of m k t.1;
          class = o.0;
          reached = o.1;
          opens = open_of k a o.0 o.2;
        }

    -- ---- one walk

    module _ (c m : ℕ) where
      -- the classes held are reached, and below what is left of the chain; and those reached are held, or are still to come

      abbrev Sound : List ℕ → ℕ → Type 0
      Sound R p = (e : ℕ) → Memᴰ e R → Reach c m e × ((a : ℕ) → Memᴰ a (chain ws p) → Above ws a e)

      abbrev Full : List ℕ → ℕ → Type 0
      Full R p = (e : ℕ) → Reach c m e → Memᴰ e R ⊎ Memᴰ e (chain ws p)

      chain_next : (p : ℕ) → 0 < p → {a : ℕ} → Memᴰ a (chain ws (parent_of ws p)) → Memᴰ a (chain ws p)
      chain_next p h i = rw (chain_more ws p h) (mathlib.Core.List.Memᴰ.tail i)

      reached-cases : (R : List ℕ) (p e : ℕ) → Memᴰ e (reached_with same ws text m R p)
          → Memᴰ e R ⊎ ((e ≡ p) × ((k : ℕ) × Virtual ws p k × Here m p k R))
      unfolding reached_with
      reached-cases R p e h =
          by (some (λ k. not (is_private (method_flags ws k))) (overridden_in same ws text m R p))
          (λ t.
          ⊎_elim (λ i. inl i)
          (λ j.
          let q : e ≡ p = mathlib.Core.List.Memᴰ.eq_of_singleton j in
          let s = some_of (λ k. not (is_private (method_flags ws k))) (overridden_in same ws text m R p) t in
          let r = here_of m p s.0 R s.1 in
          inr (
            q,
            (
              s.0,
              record {
                declared = r.declared;
                not_private = by (is_private (method_flags ws s.0)) (λ u. absurd (false≢true (rw u at s.2))) (λ u. u);
              },
              r,
            ),
          ))
          (mathlib.Core.List.Memᴰ.append_cases R (rw t at h)))
          (λ t. inl (rw t at h))

      reached-stays : (R : List ℕ) (p e : ℕ) → Memᴰ e R → Memᴰ e (reached_with same ws text m R p)
      unfolding reached_with
      reached-stays R p e h =
          by (some (λ k. not (is_private (method_flags ws k))) (overridden_in same ws text m R p))
          (λ t. rw t (mathlib.Core.List.Memᴰ.append_left (p ∷ []) h)) (λ t. rw t h)

      reached-new : (R : List ℕ) (p k : ℕ) → Memᴰ k (overridden_in same ws text m R p) → is_private (method_flags ws k) ≡ false
          → Memᴰ p (reached_with same ws text m R p)
      unfolding reached_with
      reached-new R p k h n =
          rw (some_in (λ k. not (is_private (method_flags ws k))) (overridden_in same ws text m R p) h (rw n))
          (mathlib.Core.List.Memᴰ.append_right R (mathlib.Core.List.Memᴰ.head refl))

      sound-next : (R : List ℕ) (p : ℕ) → 0 < p → Sound R p → Sound (reached_with same ws text m R p) (parent_of ws p)
      sound-next R p h s e i =
          elim (reached-cases R p e i) [
            | inl j ↦ ((s e j).0, λ a k. (s e j).1 a (chain_next p h k))
            | inr r ↦ (let f = r.1.2 in
                let t = s f.class f.reached in
                let o : Above ws p f.class = t.1 p (rw (chain_more ws p h) (mathlib.Core.List.Memᴰ.head refl)) in
                (rw r.0 (next p r.1.0 t.0 o r.1.1 f.signature f.opens), λ a k. rw r.0 k))
          ]

      -- what the walk finds is met
      walk_met : (bound p k : ℕ) (R : List ℕ) → p ≤ bound → Sound R p → Memᴰ k (overridden_along same ws text m R (chain ws p))
          → (a : ℕ) × Memᴰ a (chain ws p) × Met c m a k
      unfolding overridden_along
      walk_met zero p k R b s h =
          let e : p ≡ 0 = omega arith in absurd (mathlib.Core.List.Memᴰ.not-nil (rw (e, chain-none ws 0 refl) at h))
      walk_met (suc bound) p k R b s h =
          by (eqb p 0)
          (λ t. absurd (mathlib.Core.List.Memᴰ.not-nil (rw (eqb-true p 0 t, chain-none ws 0 refl) at h)))
          (λ t.
          let n = eqb-false p 0 t in
          let f = parent_below ws p (omega arith) in
          elim (mathlib.Core.List.Memᴰ.append_cases (overridden_in same ws text m R p) (rw (chain_more ws p (omega arith)) at h)) [
            | inl i ↦ (let r = here_of m p k R i in
                let t = s r.class r.reached in
                let q : Memᴰ p (chain ws p) = rw (chain_more ws p (omega arith)) (mathlib.Core.List.Memᴰ.head refl) in (
                  p,
                  q,
                  record {
                    from = r.class;
                    reach = t.0;
                    above = t.1 p q;
                    declared = r.declared;
                    signature = r.signature;
                    opens = r.opens;
                  },
                ))
            | inr i ↦ (let r =
                walk_met bound (parent_of ws p) k (reached_with same ws text m R p) (omega arith) (sound-next R p (omega arith) s) i in
                (r.0, chain_next p (omega arith) r.1, r.2))
          ])

      -- a class reached, other than c, by a method of its own
      reach-cases : (b : ℕ) → Reach c m b → (b ≡ c) ⊎ ((k : ℕ) × Virtual ws b k × Met c m b k)
      reach-cases b first = inl refl
      reach-cases b (next {b = e} a k r u v s o) =
          inr (k, v, record { from = e; reach = r; above = u; declared = v.declared; signature = s; opens = o })

      -- the class that a method of p is met from is held
      held : (R : List ℕ) (p k : ℕ) → 0 < p → Full R p → (r : Met c m p k) → Memᴰ r.from R
      held R p k h full r =
          elim (full r.from r.reach) [
            | inl i ↦ i
            | inr i ↦ (let w = chain-within ws p r.from i in
                let v = chain-within ws (parent_of ws r.from) p r.above in
                let u = parent_below ws r.from w.0 in absurd (omega arith))
          ]

      full-next : (R : List ℕ) (p : ℕ) → 0 < p → p < c → Full R p → Full (reached_with same ws text m R p) (parent_of ws p)
      full-next R p h l full e r =
          elim (full e r) [
            | inl i ↦ inl (reached-stays R p e i)
            | inr i ↦ ⊎_elim
                (λ (q : e ≡ p).
                elim (reach-cases e r) [
                  | inl z ↦ absurd (omega arith)
                  | inr t ↦ (let met : Met c m p t.0 = rw q at t.2 in
                      let v : Virtual ws p t.0 = rw q at t.1 in
                      inl (rw q
                      (reached-new R p t.0 (in_here R met.declared met.signature (held R p t.0 h full met) met.opens)
                      v.not_private)))
                ])
                (λ j. inr j) (mathlib.Core.List.Memᴰ.cases_cons (rw (chain_more ws p h) at i))
          ]

      -- what is met is found
      met_walk : (bound p k a : ℕ) (R : List ℕ) → p ≤ bound → p < c → Full R p → Memᴰ a (chain ws p) → Met c m a k
          → Memᴰ k (overridden_along same ws text m R (chain ws p))
      unfolding overridden_along
      met_walk zero p k a R b l full i r = absurd (let w = chain-within ws p a i in omega arith)
      met_walk (suc bound) p k a R b l full i r =
          let w = chain-within ws p a i in
          let f = parent_below ws p (omega arith) in
          rw (chain_more ws p (omega arith))
          (⊎_elim
          (λ (q : a ≡ p).
          let met : Met c m p k = rw q at r in
          mathlib.Core.List.Memᴰ.append_left _ (in_here R met.declared met.signature (held R p k (omega arith) full met) met.opens))
          (λ j.
          mathlib.Core.List.Memᴰ.append_right (overridden_in same ws text m R p)
          (met_walk bound (parent_of ws p) k a (reached_with same ws text m R p) (omega arith) (omega arith) (full-next R p (omega arith) l full) j r))
          (mathlib.Core.List.Memᴰ.cases_cons (rw (chain_more ws p (omega arith)) at i)))

      -- at its start the walk holds c
      sound-start : Sound (c ∷ []) (parent_of ws c)
      sound-start e i = let q = mathlib.Core.List.Memᴰ.eq_of_singleton i in (rw q first, λ a k. rw q k)

      reach-along : (e : ℕ) → Reach c m e → (e ≡ c) ⊎ Memᴰ e (chain ws (parent_of ws c))
      reach-along e first = inl refl
      reach-along e (next {b = b} a k r u v s o) =
          elim (reach-along b r) [
            | inl q ↦ inr (rw q at u)
            | inr j ↦ (let w = chain-within ws (parent_of ws c) b j in
                inr (chain_next (parent_of ws c) (omega arith) (chain-above ws (parent_of ws c) (parent_of ws c) (omega arith) j u)))
          ]

      full_start : Full (c ∷ []) (parent_of ws c)
      full_start e r = elim (reach-along e r) [ inl q ↦ inl (mathlib.Core.List.Memᴰ.head q) | inr j ↦ inr j ]

      -- ---- the methods that m overrides

      pub overridden-overrides : (k : ℕ) → Memᴰ m (own_methods ws c) → Memᴰ k (overridden same ws text c m)
          → (a : ℕ) × Memᴰ a (chain ws (parent_of ws c)) × Overrides ws text c m a k
      unfolding overridden
      overridden-overrides k i h =
          by (is_virtual (method_flags ws m))
          (λ t.
          let r = walk_met (parent_of ws c) (parent_of ws c) k (c ∷ []) (omega arith) sound-start (rw t at h) in
          (r.0, r.1, met_overrides (virtual_of c m i t) r.2))
          (λ t. absurd (mathlib.Core.List.Memᴰ.not-nil (rw t at h)))

      met_above : {a k : ℕ} → Met c m a k → Memᴰ a (chain ws (parent_of ws c))
      met_above r =
          elim (reach-along r.from r.reach) [
            | inl q ↦ rw q at r.above
            | inr j ↦ (let w = chain-within ws (parent_of ws c) r.from j in
                chain_next (parent_of ws c) (omega arith) (chain-above ws (parent_of ws c) (parent_of ws c) (omega arith) j r.above))
          ]

      pub overrides-overridden : {a k : ℕ} → 0 < c → Overrides ws text c m a k → Memᴰ k (overridden same ws text c m)
      unfolding overridden
      overrides-overridden {a} {k} h o =
          let r = overrides_met o in
          rw (virtual_true c m r.0)
          (met_walk (parent_of ws c) (parent_of ws c) k a (c ∷ []) (omega arith) (parent_below ws c h) full_start (met_above r.1) r.1)

      -- what is overridden has m's signature
      pub overridden-same : (k : ℕ) → Memᴰ m (own_methods ws c) → Memᴰ k (overridden same ws text c m) → SameSignature ws text m k
      overridden-same k i h = let r = overridden-overrides k i h in (overrides_met r.2).1.signature

-- ---- THE THEOREM

own-within : (ws : List ℕ) (c m : ℕ) → Memᴰ m (own_methods ws c)
    → (class_first_method ws c ≤ m) × (m < class_first_method ws c + class_method_count ws c)
unfolding own_methods
own-within ws c m h =
    let r = numbers-within (class_first_method ws c) (list_count (class_first_method ws c) (class_method_count ws c) method_limit) m h in
    (omega arith, omega arith)

pub overrides-meaning : OverridesMeaning
overrides-meaning ws abi labels valid c m a k class own above mine = (there, back)
  where
    text : List ℕ
    text = text_of ws

    among : {d : ℕ} → Memᴰ d (chain ws (parent_of ws c)) → IsClass ws d
    among {d} i =
        let w = chain-within ws (parent_of ws c) d i in let f = parent_below ws c class.0 in
        (omega arith, omega arith)

    owner : {d : ℕ} → Memᴰ d (chain ws (parent_of ws c)) → Memᴰ k (own_methods ws d) → d ≡ a
    owner {d} i j =
        let p = own-within ws d k j in
        let q = own-within ws a k mine in
        valid.methods d a k (among i) (among above) p.0 p.1 q.0 q.1

    there : Memᴰ k (overridden (methods_same (by_bytes ws (text_of ws) abi labels)) ws (text_of ws) c m) → Overrides ws (text_of ws) c m a k
    there h =
        let r = overridden-overrides ws (text_of ws) abi labels c m k own h in
        let o = r.2 in
        rw (owner r.1 (overrides_met ws (text_of ws) o).1.declared.own) at o

    back : Overrides ws (text_of ws) c m a k → Memᴰ k (overridden (methods_same (by_bytes ws (text_of ws) abi labels)) ws (text_of ws) c m)
    back o = overrides-overridden ws (text_of ws) abi labels c m class.0 o
