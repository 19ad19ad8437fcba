-- Relaying, over any comparison of methods: where no two signatures have one index it is what it was; where several have, none is lost, and each
-- stands where the sentences say. Assumes nothing.
use mathlib.Core.Path.{◌≡◌, refl, ap, ◌∙◌}
use mathlib.Core.Logic.{◌⊎◌, inl, inr}
use mathlib.Core.Bool.{Bool, true, false, ◌&&◌, true≢false, false≢true}
use mathlib.Core.List.{List, [], ◌∷◌, ◌++◌}
use Prim.Native.Nat.{ℕ}
use native.Mathlib.Omega.{arith}
use lib.ListN.{set}
use lib.Dec.{eqb, ltb}
use borrow.Author.Tests.{eqb-true, eq-eqb}
use Rattle.words.specs.Lists.{fold, some}
use Rattle.std.specs.Prelude.{Option, Some, None}
use Rattle.words.proofs.Bools.{by, or-neither, and_both}
use Rattle.words.proofs.ListLaws.{by-found}
use Rattle.linking.specs.Chain.{on_found}
use Rattle.linking.specs.Vtable.{Entry, occurs, stays}
use Rattle.linking.specs.Relays.{hold, hold_entry, holder, relay_one, relays}
use Rattle.linking.specs.Before.{rivals, clash}

-- ---- found or not, true or not

pub found-same : {m n : ℕ} → Some m ≡ Some n → m ≡ n
found-same e = cc

pub not_found : {X : Type 0} {n : ℕ} → None ≡ Some n → X
not_found {n = n} e = let z : ◌≡◌ {A = ℕ} 0 1 = cc in absurd (omega arith)

-- e is an element of the list
pub data Among (e : Entry) : List Entry → Type 0 where
  front : {es : List Entry} → Among e (e ∷ es)
  behind : {f : Entry} {es : List Entry} → Among e es → Among e (f ∷ es)

none_passes : (p : Entry → Bool) {e : Entry} {es : List Entry} → some p es ≡ false → Among e es → p e ≡ false
unfolding some
none_passes p {es = []} h i = elim i [ ]
none_passes p {es = f ∷ es} h front = (or-neither (p f) (some p es) h).0
none_passes p {es = f ∷ es} h (behind i) = none_passes p (or-neither (p f) (some p es) h).1 i

-- ---- who holds an index

module _ (fixed : ℕ → Option ℕ) (distance : ℕ → ℕ) (i : ℕ) where
  -- h is no method, or one of E's whose index is i
  abbrev Held : List Entry → Option ℕ → Type 0
  Held E h = (m : ℕ) → h ≡ Some m → (fixed m ≡ Some i) × ((e : Entry) × (Among e E × (e.method ≡ Some m)))

  pub hold-index : (m k : ℕ) (h : Option ℕ) → hold fixed distance i h m ≡ Some k → (h ≡ Some k) ⊎ ((m ≡ k) × (fixed m ≡ Some i))
  unfolding hold
  hold-index m k h e =
      by (on_found (fixed m) (λ j. eqb j i) false && on_found h (λ k. ltb (distance m) (distance k)) true)
      (λ t.
      let b = (and_both (on_found (fixed m) (λ j. eqb j i) false) (on_found h (λ k. ltb (distance m) (distance k)) true) t).0 in
      by-found (fixed m) (λ j q. let r = eqb-true j i (rw q at b) in inr (found-same (rw t at e), q ∙ ap Some r)) (λ q. absurd (false≢true (rw q at b))))
      (λ t. inl (rw t at e))

  holder-held : (E : List Entry) (h : Option ℕ) (E₀ : List Entry) → ((e : Entry) → Among e E → Among e E₀) → Held E₀ h
      → Held E₀ (fold (hold_entry fixed distance i) h E)
  unfolding fold hold_entry
  holder-held [] h E₀ all held = held
  holder-held (e ∷ es) h E₀ all held =
      holder-held es (hold_entry fixed distance i h e) E₀ (λ f a. all f (behind a))
      (λ m q. by-found e.method
      (λ k r. elim (hold-index k m h (rw r at q)) [
        | inl z ↦ held m z
        | inr z ↦ (rw z.0 at z.1, (e, (all e front, r ∙ ap Some z.0)))
      ])
      (λ r. held m (rw r at q)))

  hold-kept : (m k : ℕ) → (l : ℕ) × (hold fixed distance i (Some k) m ≡ Some l)
  unfolding hold
  hold-kept m k = by (on_found (fixed m) (λ j. eqb j i) false && ltb (distance m) (distance k)) (λ t. (m, rw t refl)) (λ t. (k, rw t refl))

  hold-first : (m : ℕ) → fixed m ≡ Some i → hold fixed distance i None m ≡ Some m
  unfolding hold
  hold-first m q = rw (q, eq-eqb i i refl) refl

  hold-some : (h : Option ℕ) (m : ℕ) → fixed m ≡ Some i → (l : ℕ) × (hold fixed distance i h m ≡ Some l)
  hold-some (Some k) m q = hold-kept m k
  hold-some None m q = (m, hold-first m q)

  -- an index that is held stays held
  holds_on : (es : List Entry) (k : ℕ) → (l : ℕ) × (fold (hold_entry fixed distance i) (Some k) es ≡ Some l)
  unfolding fold hold_entry
  holds_on [] k = (k, refl)
  holds_on (e ∷ es) k =
      by-found e.method
      (λ m r. let s = hold-kept m k in let t = holds_on es s.0 in (t.0, rw (r, s.1) t.1))
      (λ r. let t = holds_on es k in (t.0, rw r t.1))

  holder-some : {e : Entry} {es : List Entry} (h : Option ℕ) (m : ℕ) → Among e es → e.method ≡ Some m → fixed m ≡ Some i
      → (l : ℕ) × (fold (hold_entry fixed distance i) h es ≡ Some l)
  unfolding fold hold_entry
  holder-some {es = []} h m a q r = elim a [ ]
  holder-some {es = f ∷ es} h m front q r =
      let s = hold-some h m r in let t = holds_on es s.0 in (t.0, rw (q, s.1) t.1)
  holder-some {es = f ∷ es} h m (behind a) q r = holder-some (hold_entry fixed distance i h f) m a q r

  -- an index that a known entry has is held, by the method of a known entry that has it
  pub record Holds (E : List Entry) (h : ℕ) : Type 0 where
    pub holds : holder fixed distance E i ≡ Some h
    pub index : fixed h ≡ Some i
    pub entry : Entry
    pub among : Among entry E
    pub method : entry.method ≡ Some h

  pub held : (E : List Entry) (h : ℕ) → holder fixed distance E i ≡ Some h → Holds E h
  unfolding holder
  held E h q =
      let r = holder-held E None E (λ e a. a) (λ m z. not_found z) h q in
      record { holds = q; index = r.0; entry = r.1.0; among = r.1.1.0; method = r.1.1.1 }

  pub holder-is : {e : Entry} {E : List Entry} (m : ℕ) → Among e E → e.method ≡ Some m → fixed m ≡ Some i → (h : ℕ) × Holds E h
  unfolding holder
  holder-is {E = E} m a q r = let s = holder-some None m a q r in (s.0, held E s.0 s.1)

-- ---- no clash: the relaying that was

module _ (same : ℕ → ℕ → Bool) (fixed : ℕ → Option ℕ) (distance : ℕ → ℕ) where
  -- the step before ticket 13
  unfoldable pub step_before : List Entry → Entry → List Entry
  step_before T e = on_found e.method (λ m. on_found (fixed m) (λ i. set T i e) (T ++ (e ∷ []))) T

  module _ (E : List Entry) where
    one_as_before : (e : Entry) (es T : List Entry) → ((m i : ℕ) → e.method ≡ Some m → fixed m ≡ Some i → stays same (holder fixed distance E) i m ≡ true)
        → relay_one same fixed distance E e es T ≡ step_before T e
    unfolding relay_one step_before
    one_as_before e es T h =
        by-found e.method (λ m q. by-found (fixed m) (λ i r. rw (q, r, h m i q r) refl) (λ r. rw (q, r) refl)) (λ q. rw q refl)

    all_as_before : (es T : List Entry)
        → ((e : Entry) (m i : ℕ) → Among e es → e.method ≡ Some m → fixed m ≡ Some i → stays same (holder fixed distance E) i m ≡ true)
        → relays same fixed distance E T es ≡ fold step_before T es
    unfolding relays fold
    all_as_before [] T h = refl
    all_as_before (e ∷ es) T h =
        rw (one_as_before e es T (λ m i. h e m i front)) (all_as_before es (step_before T e) (λ f m i a. h f m i (behind a)))

    no_rival : {e f : Entry} → clash same fixed E ≡ false → Among e E → Among f E → rivals same fixed e f ≡ false
    unfolding clash
    no_rival {e} c a b = none_passes (rivals same fixed e) (none_passes (λ e. some (rivals same fixed e) E) c a) b

    rival_same : (e f : Entry) (m k i : ℕ) → rivals same fixed e f ≡ false → e.method ≡ Some m → f.method ≡ Some k → fixed m ≡ Some i → fixed k ≡ Some i
        → same m k ≡ true
    unfolding rivals
    rival_same e f m k i c q r s t = by (same m k) (λ b. b) (λ b. absurd (true≢false (rw (q, r, s, t, b, eq-eqb i i refl) at c)))

    all_stay : clash same fixed E ≡ false → (e : Entry) (m i : ℕ) → Among e E → e.method ≡ Some m → fixed m ≡ Some i
        → stays same (holder fixed distance E) i m ≡ true
    unfolding stays
    all_stay c e m i a q r =
        let h = holder-is fixed distance i m a q r in
        rw h.1.holds
        (rival_same h.1.entry e h.0 m i (no_rival c h.1.among a) h.1.method q h.1.index r)

    pub relays_as_before : (T : List Entry) → clash same fixed E ≡ false → relays same fixed distance E T E ≡ fold step_before T E
    relays_as_before T c = all_as_before E T (all_stay c)

    -- ---- a step by its cases

    pub one-cases : {X : Type 0} (e : Entry) (es T : List Entry) → (e.method ≡ None → relay_one same fixed distance E e es T ≡ T → X)
        → ((m i : ℕ) → e.method ≡ Some m → fixed m ≡ Some i → stays same (holder fixed distance E) i m ≡ true
        → relay_one same fixed distance E e es T ≡ set T i e → X)
        → ((m i : ℕ) → e.method ≡ Some m → fixed m ≡ Some i → stays same (holder fixed distance E) i m ≡ false → occurs same m es ≡ true
        → relay_one same fixed distance E e es T ≡ T → X)
        → ((m i : ℕ) → e.method ≡ Some m → fixed m ≡ Some i → stays same (holder fixed distance E) i m ≡ false → occurs same m es ≡ false
        → relay_one same fixed distance E e es T ≡ T ++ (e ∷ []) → X)
        → ((m : ℕ) → e.method ≡ Some m → fixed m ≡ None → relay_one same fixed distance E e es T ≡ T ++ (e ∷ []) → X) → X
    unfolding relay_one
    one-cases e es T unknown stay again last free =
        by-found e.method
        (λ m q.
        by-found (fixed m)
        (λ i r.
        by (stays same (holder fixed distance E) i m)
        (λ t. stay m i q r t (rw (q, r, t) refl))
        (λ t.
        by (occurs same m es)
        (λ u. again m i q r t u (rw (q, r, t, u) refl))
        (λ u. last m i q r t u (rw (q, r, t, u) refl))))
        (λ r. free m q r (rw (q, r) refl)))
        (λ q. unknown q (rw q refl))

  pub before-cases : {X : Type 0} (e : Entry) (T : List Entry) → (e.method ≡ None → step_before T e ≡ T → X)
      → ((m i : ℕ) → e.method ≡ Some m → fixed m ≡ Some i → step_before T e ≡ set T i e → X)
      → ((m : ℕ) → e.method ≡ Some m → fixed m ≡ None → step_before T e ≡ T ++ (e ∷ []) → X) → X
  unfolding step_before
  before-cases e T unknown fix free =
      by-found e.method
      (λ m q. by-found (fixed m) (λ i r. fix m i q r (rw (q, r) refl)) (λ r. free m q r (rw (q, r) refl)))
      (λ q. unknown q (rw q refl))
