-- Rows 11 and 12 over a table that was relayed, by any comparison of methods. Row 11 is met only by a method whose inherited signature gave way;
-- row 12 is met by the relaying before ticket 13, too. Assumes nothing.
use mathlib.Core.Path.{◌≡◌, refl, sym, ap, ◌∙◌}
use mathlib.Core.Logic.{◌⊎◌, inl, inr, ◌≢◌}
use mathlib.Core.Bool.{Bool, true, false, cond, not, true≢false, false≢true}
use mathlib.Core.List.Memᴰ
use mathlib.Core.List.{List, [], ◌∷◌, ◌++◌, Memᴰ}
use Prim.Native.Nat.{ℕ, suc, ◌≤◌, ◌<◌}
use native.Mathlib.Omega.{arith}
use lib.ListN.{length, get_or, set, replicate, length-set, length-append, length-replicate, get_or-append}
use lib.Seq.{set_out, get_or-set_same, get_or-set_other, get_or-append_seam}
use lib.Dec.{eqb, ltb}
use borrow.Author.Tests.{eqb-true, eqb-false, ltb-true, ltb-false, not-true, not-false}
use Rattle.words.specs.Lists.{fold, some, position}
use Rattle.std.specs.Prelude.{Option, Some, None}
use Rattle.words.proofs.Bools.{by}
use Rattle.words.proofs.ListLaws.{by-found, not_found}
use Rattle.linking.specs.Chain.{on_found}
use Rattle.linking.specs.Vtable.{Entry, empty, Built, built, refused, on_built, is_of, occurs, last_of, stays}
use Rattle.linking.specs.Relays.{Signatures, holder, relay_one, relays}
use Rattle.linking.specs.Before.{GaveWay}
use Rattle.linking.proofs.Relaying.{Among, front, behind, held, holder-is, step_before, one-cases, before-cases}
use Rattle.linking.proofs.Relayed.{last-same, stays_same, occurs-same, among-occurs, stands_at, nothing_lost}
use Rattle.slots.proofs.ListFacts.{found-same, in_none, position-below, position-passes, position-misses, snoc_at, blank-at}
use Rattle.slots.proofs.EntryFacts.{at, known-below}

-- ---- an element after a store, wherever that was

set_cases : (T : List Entry) (i j : ℕ) (e : Entry) → ((j ≡ i) × (at (set T i e) j ≡ e)) ⊎ (at (set T i e) j ≡ at T j)
set_cases T i j e =
    by (eqb j i)
    (λ t.
    let z = eqb-true j i t in
    by (ltb i (length T))
    (λ l. inl (z, rw z (get_or-set_same T i e empty (ltb-true i (length T) l))))
    (λ l. inr (ap (λ (x : List Entry). at x j) (set_out T i e (ltb-false i (length T) l)))))
    (λ f. inr (get_or-set_other T i j e empty (eqb-false j i f)))

-- ---- methods are added, by a comparison

module _ (same : ℕ → ℕ → Bool) (fixed : ℕ → Option ℕ) (eligible : ℕ → Bool) (entry : ℕ → Entry) where
  abbrev pub slot_by : ℕ → List Entry → Option ℕ
  slot_by m T = position (is_of same m) 0 T

  abbrev pub other_by : ℕ → Entry → Bool
  other_by m e = on_found e.method (λ k. not (same k m)) false

  unfoldable pub put_by : Option ℕ → Option ℕ → ℕ → List Entry → Built
  put_by (Some i) slot m T =
      cond (on_found slot (λ j. not (eqb j i)) false)
      (refused 11)
      (cond (other_by m (get_or T i empty)) (refused 12) (built (set T i (entry m))))
  put_by None (Some j) m T = built (set T j (entry m))
  put_by None None m T = built (T ++ (entry m ∷ []))

  unfoldable pub add_by : ℕ → List Entry → Built
  add_by m T = cond (eligible m) (put_by (fixed m) (slot_by m T) m T) (built T)

  unfoldable pub adds_by : List ℕ → List Entry → Built
  adds_by [] T = built T
  adds_by (m ∷ ms) T = on_built (add_by m T) (adds_by ms)

  -- what adding method m to T comes to
  data Put (m : ℕ) (T : List Entry) : Built → Type 0 where
    skipped : eligible m ≡ false → Put m T (built T)
    moved : (i j : ℕ) → eligible m ≡ true → fixed m ≡ Some i → slot_by m T ≡ Some j → j ≢ i → Put m T (refused 11)
    taken : (i : ℕ) → eligible m ≡ true → fixed m ≡ Some i → ((j : ℕ) → slot_by m T ≡ Some j → j ≡ i) → other_by m (at T i) ≡ true → Put m T (refused 12)
    placed : (i : ℕ) → eligible m ≡ true → fixed m ≡ Some i → ((j : ℕ) → slot_by m T ≡ Some j → j ≡ i) → other_by m (at T i) ≡ false
        → Put m T (built (set T i (entry m)))
    kept : (j : ℕ) → eligible m ≡ true → fixed m ≡ None → slot_by m T ≡ Some j → Put m T (built (set T j (entry m)))
    added : eligible m ≡ true → fixed m ≡ None → slot_by m T ≡ None → Put m T (built (T ++ (entry m ∷ [])))

  put : (m : ℕ) (T : List Entry) → Put m T (add_by m T)
  unfolding add_by put_by
  put m T =
      by (eligible m)
      (λ e.
      by-found (fixed m)
      (λ i q.
      by-found (slot_by m T)
      (λ j r.
      by (eqb j i)
      (λ z.
      let y : (k : ℕ) → slot_by m T ≡ Some k → k ≡ i = (λ k p. found-same (sym p ∙ r) ∙ eqb-true j i z) in
      by (other_by m (get_or T i empty))
      (λ o. rw (e, q, r, z, o) (taken i e q y o))
      (λ o. rw (e, q, r, z, o) (placed i e q y o)))
      (λ z. rw (e, q, r, z) (moved i j e q r (eqb-false j i z))))
      (λ r.
      let y : (k : ℕ) → slot_by m T ≡ Some k → k ≡ i = (λ k p. not_found (sym r ∙ p)) in
      by (other_by m (get_or T i empty))
      (λ o. rw (e, q, r, o) (taken i e q y o))
      (λ o. rw (e, q, r, o) (placed i e q y o))))
      (λ q.
      by-found (slot_by m T)
      (λ j r. rw (e, q, r) (kept j e q r))
      (λ r. rw (e, q, r) (added e q r))))
      (λ e. rw e (skipped e))

  -- row 11, row 12 or a table
  put-cases : (m : ℕ) (T : List Entry) (b : Built) → Put m T b → (b ≡ refused 11) ⊎ ((b ≡ refused 12) ⊎ ((U : List Entry) × (b ≡ built U)))
  put-cases m T b (skipped e) = inr (inr (T, refl))
  put-cases m T b (moved i j e q f d) = inl refl
  put-cases m T b (taken i e q f o) = inr (inl refl)
  put-cases m T b (placed i e q f o) = inr (inr (set T i (entry m), refl))
  put-cases m T b (kept j e q f) = inr (inr (set T j (entry m), refl))
  put-cases m T b (added e q f) = inr (inr (T ++ (entry m ∷ []), refl))

pub on_refused : (b : Built) (f : List Entry → Built) (n : ℕ) → on_built b f ≡ refused n
    → (b ≡ refused n) ⊎ ((U : List Entry) × ((b ≡ built U) × (f U ≡ refused n)))
on_refused (built U) f n e = inr (U, (refl, e))
on_refused (refused m) f n e = inl e

-- two different outcomes
refused-same : {m n : ℕ} → refused m ≡ refused n → m ≡ n
refused-same e = cc

built-same : {T U : List Entry} → built T ≡ built U → T ≡ U
built-same e = cc

pub not-both : {X : Type 0} {T : List Entry} {n : ℕ} → built T ≡ refused n → X
not-both e = let z : ◌≡◌ {A = ℕ} 0 1 = cc in absurd (omega arith)

pub on_built_lem : (b : Built) (f : List Entry → Built) (U : List Entry) → on_built b f ≡ built U → (T : List Entry) × ((b ≡ built T) × (f T ≡ built U))
on_built_lem (built T) f U e = (T, (refl, e))
on_built_lem (refused n) f U e = not-both (sym e)

module _ (same : ℕ → ℕ → Bool) (fixed : ℕ → Option ℕ) (distance : ℕ → ℕ) (s : Signatures same fixed distance) (eligible : ℕ → Bool)
    (entry : ℕ → Entry) (own : (m : ℕ) → (entry m).method ≡ Some m) where
  -- the slot of m's signature holds a method of it
  slot-holds : (m j : ℕ) (T : List Entry) → position (is_of same m) 0 T ≡ Some j → (k : ℕ) × (((at T j).method ≡ Some k) × (same k m ≡ true))
  unfolding is_of
  slot-holds m j T q =
      let p = position-passes (is_of same m) T empty j q in
      by-found (at T j).method (λ k r. (k, (r, (rw r at p)))) (λ r. absurd (false≢true (rw r at p)))

  -- no slot is of m's signature
  unseen : (m : ℕ) (T : List Entry) → position (is_of same m) 0 T ≡ None → (j k : ℕ) → (at T j).method ≡ Some k → same k m ≡ false
  unfolding is_of
  unseen m T q j k r = rw r at (position-misses (is_of same m) 0 T empty j (known-below T j k r) q)

  -- ---- row 11

  module _ (Gone : ℕ → Type 0) (gone_same : (k m : ℕ) → same k m ≡ true → Gone k → Gone m) where
    -- each known entry with a fixed index is at it, or its signature gave way
    abbrev Placed : List Entry → Type 0
    Placed T = (j k i : ℕ) → (at T j).method ≡ Some k → fixed k ≡ Some i → (j ≡ i) ⊎ Gone k

    put-placed : (m : ℕ) (T U : List Entry) (b : Built) → Put same fixed eligible entry m T b → b ≡ built U → Placed T → Placed U
    put-placed m T U b (skipped e) r p = rw (← built-same r) p
    put-placed m T U b (moved i j e q f d) r p = not-both (sym r)
    put-placed m T U b (taken i e q f o) r p = not-both (sym r)
    put-placed m T U b (placed i e q f o) r p =
        rw (← built-same r)
        (λ j k l x y. elim (set_cases T i j (entry m)) [
          | inl z ↦
              let g : m ≡ k = found-same (sym (own m) ∙ sym (ap (λ (n : Entry). n.method) z.1) ∙ x) in
              inl (z.0 ∙ found-same (sym q ∙ (rw (← g) at y)))
          | inr z ↦ p j k l (sym (ap (λ (n : Entry). n.method) z) ∙ x) y
        ])
    put-placed m T U b (kept i e q f) r p =
        rw (← built-same r)
        (λ j k l x y. elim (set_cases T i j (entry m)) [
          | inl z ↦
              let g : m ≡ k = found-same (sym (own m) ∙ sym (ap (λ (n : Entry). n.method) z.1) ∙ x) in
              not_found (sym q ∙ (rw (← g) at y))
          | inr z ↦ p j k l (sym (ap (λ (n : Entry). n.method) z) ∙ x) y
        ])
    put-placed m T U b (added e q f) r p =
        rw (← built-same r)
        (λ j k l x y. elim (snoc_at T (entry m) j empty) [
          | inl z ↦
              let g : m ≡ k = found-same (sym (own m) ∙ sym (ap (λ (n : Entry). n.method) z.1) ∙ x) in
              not_found (sym q ∙ (rw (← g) at y))
          | inr z ↦ p j k l (sym (ap (λ (n : Entry). n.method) z) ∙ x) y
        ])

    put-eleven : (m : ℕ) (T : List Entry) (b : Built) → Put same fixed eligible entry m T b → b ≡ refused 11 → Placed T
        → (eligible m ≡ true) × Gone m
    put-eleven m T b (skipped e) r p = not-both r
    put-eleven m T b (moved i j e q f d) r p =
        let h = slot-holds m j T f in
        elim (p j h.0 i h.1.0 (s.same_index h.0 m h.1.1 ∙ q)) [
          | inl z ↦ absurd (d z)
          | inr g ↦ (e, gone_same h.0 m h.1.1 g)
        ]
    put-eleven m T b (taken i e q f o) r p = let z = refused-same r in absurd (omega arith)
    put-eleven m T b (placed i e q f o) r p = not-both r
    put-eleven m T b (kept i e q f) r p = not-both r
    put-eleven m T b (added e q f) r p = not-both r

    pub adds-placed : (ms : List ℕ) (T U : List Entry) → adds_by same fixed eligible entry ms T ≡ built U → Placed T → Placed U
    unfolding adds_by
    adds-placed [] T U r p = rw (← built-same r) p
    adds-placed (m ∷ ms) T U r p =
        let q = on_built_lem (add_by same fixed eligible entry m T) (adds_by same fixed eligible entry ms) U r in
        adds-placed ms q.0 U q.1.1
        (put-placed m T q.0 (add_by same fixed eligible entry m T) (put same fixed eligible entry m T) q.1.0 p)

    -- a method that row 11 refuses is of a signature that gave way
    pub eleven : (m : ℕ) (T : List Entry) → Placed T → add_by same fixed eligible entry m T ≡ refused 11 → (eligible m ≡ true) × Gone m
    eleven m T p r = put-eleven m T (add_by same fixed eligible entry m T) (put same fixed eligible entry m T) r p

    -- so where none did, it refuses none
    pub never-eleven : (ms : List ℕ) (T : List Entry) → Placed T → ((m : ℕ) → Gone m → ⊥)
        → (adds_by same fixed eligible entry ms T ≡ refused 12) ⊎ ((U : List Entry) × (adds_by same fixed eligible entry ms T ≡ built U))
    unfolding adds_by
    never-eleven [] T p none = inr (T, refl)
    never-eleven (m ∷ ms) T p none =
        elim (put-cases same fixed eligible entry m T (add_by same fixed eligible entry m T) (put same fixed eligible entry m T)) [
          | inl q ↦ absurd (none m (eleven m T p q).1)
          | inr q ↦ elim q [
            | inl r ↦ inl (rw r refl)
            | inr r ↦
                rw r.1
                (never-eleven ms r.0
                (put-placed m T r.0 (add_by same fixed eligible entry m T) (put same fixed eligible entry m T) r.1 p) none)
          ]
        ]

  -- ---- row 12: two tables, T of the relaying now and U of the one before

  -- what method m changed
  data Why (m : ℕ) (T : List Entry) (j : ℕ) : Type 0 where
    index : fixed m ≡ Some j → Why m T j
    known : (k : ℕ) → fixed m ≡ None → (at T j).method ≡ Some k → Why m T j
    new : fixed m ≡ None → length T ≤ j → Why m T j

  record Effect (m : ℕ) (T U : List Entry) : Type 0 where
    longer : length T ≤ length U
    shows : (j : ℕ) × (at U j ≡ entry m)
    index : (i : ℕ) → fixed m ≡ Some i → at U i ≡ entry m
    each : (j : ℕ) → (at U j ≡ at T j) ⊎ ((at U j ≡ entry m) × Why m T j)
    over : (j k : ℕ) → (at T j).method ≡ Some k → (at U j ≡ at T j) ⊎ (same k m ≡ true)

  module _ (n : ℕ) (room : (m i : ℕ) → fixed m ≡ Some i → i < n) where
    effect : (m : ℕ) (T U : List Entry) (b : Built) → n ≤ length T → Put same fixed eligible entry m T b → b ≡ built U
        → ((eligible m ≡ false) × (T ≡ U)) ⊎ Effect m T U
    effect m T U b l (skipped e) r = inl (e, built-same r)
    effect m T U b l (moved i j e q f d) r = not-both (sym r)
    effect m T U b l (taken i e q f o) r = not-both (sym r)
    effect m T U b l (placed i e q f o) r =
        let below : i < length T = omega (arith, room m i q) in
        let stored : at (set T i (entry m)) i ≡ entry m = get_or-set_same T i (entry m) empty below in
        inr (rw (← built-same r)
        (record {
          longer = omega (arith, length-set T i (entry m));
          shows = (i, stored);
          index = λ k g. let z : i ≡ k = found-same (sym q ∙ g) in rw (← z) stored;
          each = λ j. elim (set_cases T i j (entry m)) [ inl z ↦ inr (z.1, index (rw z.0 q)) | inr z ↦ inl z ];
          over = λ j k g. elim (set_cases T i j (entry m)) [
            | inl z ↦ inr (not-false (same k m) (rw (rw z.0 at g) at o))
            | inr z ↦ inl z
          ];
        }))
    effect m T U b l (kept i e q f) r =
        let below = position-below (is_of same m) T empty i f in
        let stored : at (set T i (entry m)) i ≡ entry m = get_or-set_same T i (entry m) empty below in
        let h = slot-holds m i T f in
        inr (rw (← built-same r)
        (record {
          longer = omega (arith, length-set T i (entry m));
          shows = (i, stored);
          index = λ k g. not_found (sym q ∙ g);
          each = λ j. elim (set_cases T i j (entry m)) [ inl z ↦ inr (z.1, known h.0 q (rw z.0 h.1.0)) | inr z ↦ inl z ];
          over = λ j k g. elim (set_cases T i j (entry m)) [
            | inl z ↦ let y : h.0 ≡ k = found-same (sym h.1.0 ∙ (rw z.0 at g)) in inr (rw y at h.1.1)
            | inr z ↦ inl z
          ];
        }))
    effect m T U b l (added e q f) r =
        inr (rw (← built-same r)
        (record {
          longer = omega (arith, length-append T (entry m ∷ []));
          shows = elim (snoc_at T (entry m) (length T) empty) [
            | inl z ↦ (length T, z.1)
            | inr z ↦ (length T, get_or-append_seam T (entry m) [] empty)
          ];
          index = λ k g. not_found (sym q ∙ g);
          each = λ j. elim (snoc_at T (entry m) j empty) [ inl z ↦ inr (z.1, new q (omega (arith, z.0))) | inr z ↦ inl z ];
          over = λ j k g. inl (get_or-append T (entry m ∷ []) empty j (known-below T j k g));
        }))

    -- a slot shows m's signature: as the entry `last`, or as a method that `Own` holds of
    pub record ShownAs (m : ℕ) (last : Entry) (Own : ℕ → Type 0) (T : List Entry) : Type 0 where
      pub slot : ℕ
      pub method : ℕ
      pub known : (at T slot).method ≡ Some method
      pub of : same method m ≡ true
      pub is : (at T slot ≡ last) ⊎ (Own method × (at T slot ≡ entry method))

    module _ (m : ℕ) (last : Entry) (Own : ℕ → Type 0) where
      shown_on : (k : ℕ) (T U : List Entry) → Own k → Effect k T U → ShownAs m last Own T → ShownAs m last Own U
      shown_on k T U o a h = elim (a.over h.slot h.method h.known) [
        | inl z ↦ record {
          slot = h.slot;
          method = h.method;
          known = ap (λ (x : Entry). x.method) z ∙ h.known;
          of = h.of;
          is = elim h.is [ inl e ↦ inl (z ∙ e) | inr e ↦ inr (e.0, z ∙ e.1) ];
        }
        | inr z ↦ record {
          slot = a.shows.0;
          method = k;
          known = ap (λ (x : Entry). x.method) a.shows.1 ∙ own k;
          of = s.same_trans k h.method m (s.same_sym h.method k z) h.of;
          is = inr (o, a.shows.1);
        }
      ]

      -- no signature is lost when the class's own methods are added
      pub adds-shown : (ms : List ℕ) (T U : List Entry) → ((k : ℕ) → Memᴰ k ms → Own k) → n ≤ length T → adds_by same fixed eligible entry ms T ≡ built U
          → ShownAs m last Own T → ShownAs m last Own U
      unfolding adds_by
      adds-shown [] T U o l r h = rw (← built-same r) h
      adds-shown (k ∷ ms) T U o l r h =
          let q = on_built_lem (add_by same fixed eligible entry k T) (adds_by same fixed eligible entry ms) U r in
          elim (effect k T q.0 (add_by same fixed eligible entry k T) l (put same fixed eligible entry k T) q.1.0) [
            | inl e ↦
                let z : T ≡ q.0 = e.1 in
                adds-shown ms q.0 U (λ j i. o j (Memᴰ.tail i)) (rw z at l) q.1.1 (rw z at h)
            | inr e ↦
                let x = e.longer in
                adds-shown ms q.0 U (λ j i. o j (Memᴰ.tail i)) (omega arith) q.1.1 (shown_on k T q.0 (o k (Memᴰ.head refl)) e h)
          ]

    -- m's signature stands in T, and at its fixed index another one
    pub record Elsewhere (m : ℕ) (T : List Entry) : Type 0 where
      pub index : ℕ
      pub fixed_at : fixed m ≡ Some index
      pub slot : ℕ
      pub method : ℕ
      pub known : (at T slot).method ≡ Some method
      pub of : same method m ≡ true
      pub holds : ℕ
      pub stored : (at T index).method ≡ Some holds
      pub other : same holds m ≡ false

    elsewhere_on : (m k : ℕ) (T U : List Entry) → Effect k T U → Elsewhere m T → Elsewhere m U
    elsewhere_on m k T U a h =
        let w = shown_on m (at T h.slot) (λ j. Unit {0}) k T U tt a
        (record { slot = h.slot; method = h.method; known = h.known; of = h.of; is = inl refl }) in
        let o = stored in
        record {
          index = h.index;
          fixed_at = h.fixed_at;
          slot = w.slot;
          method = w.method;
          known = w.known;
          of = w.of;
          holds = o.0;
          stored = o.1.0;
          other = o.1.1;
        }
      where
        stored : (g : ℕ) × (((at U h.index).method ≡ Some g) × (same g m ≡ false))
        stored = elim (a.over h.index h.holds h.stored) [
          | inl z ↦ (h.holds, (ap (λ (x : Entry). x.method) z ∙ h.stored, h.other))
          | inr z ↦ elim (a.each h.index) [
            | inl e ↦ (h.holds, (ap (λ (x : Entry). x.method) e ∙ h.stored, h.other))
            | inr e ↦ (
              k,
              (
                ap (λ (x : Entry). x.method) e.0 ∙ own k,
                by (same k m) (λ t. absurd (true≢false (sym (s.same_trans h.holds k m z t) ∙ h.other))) (λ t. t),
              ),
            )
          ]
        ]

    -- the method itself is refused by row 11
    elsewhere-refused : (m : ℕ) (T : List Entry) (b : Built) → eligible m ≡ true → Elsewhere m T → Put same fixed eligible entry m T b → b ≡ refused 11
    elsewhere-refused m T b e h (skipped x) = absurd (true≢false (sym e ∙ x))
    elsewhere-refused m T b e h (moved i j x q f d) = refl
    elsewhere-refused m T b e h (taken i x q f o) =
        let z : h.index ≡ i = found-same (sym h.fixed_at ∙ q) in
        by-found (position (is_of same m) 0 T)
        (λ j r.
        let w = slot-holds m j T r in
        let y : h.holds ≡ w.0 = found-same (sym h.stored ∙ ap (λ (l : ℕ). (at T l).method) (z ∙ sym (f j r)) ∙ w.1.0) in
        absurd (true≢false (sym w.1.1 ∙ (rw y at h.other))))
        (λ r. absurd (true≢false (sym h.of ∙ unseen m T r h.slot h.method h.known)))
    elsewhere-refused m T b e h (placed i x q f o) =
        let z : h.index ≡ i = found-same (sym h.fixed_at ∙ q) in
        let y : same h.holds m ≡ true = not-false (same h.holds m) (rw (rw z at h.stored) at o) in
        absurd (true≢false (sym y ∙ h.other))
    elsewhere-refused m T b e h (kept j x q f) = not_found (sym q ∙ h.fixed_at)
    elsewhere-refused m T b e h (added x q f) = not_found (sym q ∙ h.fixed_at)

    -- the methods before m
    split-at : (m : ℕ) (ks : List ℕ) → Memᴰ m ks → (a : List ℕ) × ((z : List ℕ) × (ks ≡ a ++ (m ∷ z)))
    split-at m [] i = in_none refl i
    split-at m (k ∷ ks) i =
        elim (Memᴰ.cases_cons i) [
          | inl q ↦ ([], (ks, ap (λ (x : ℕ). x ∷ ks) (sym q)))
          | inr j ↦ let r = split-at m ks j in (k ∷ r.0, (r.1.0, ap (λ (x : List ℕ). k ∷ x) r.1.1))
        ]

    -- row 12 refuses a method before m
    pub record Earlier (m : ℕ) (ms : List ℕ) (T : List Entry) : Type 0 where
      pub earlier : List ℕ
      pub later : List ℕ
      pub split : ms ≡ earlier ++ (m ∷ later)
      pub refuses : adds_by same fixed eligible entry earlier T ≡ refused 12

    -- a method whose signature stands elsewhere is refused, by 11, or an earlier one is
    pub elsewhere-adds : (m : ℕ) → eligible m ≡ true → (ms : List ℕ) (T : List Entry) → Memᴰ m ms → n ≤ length T → Elsewhere m T
        → (adds_by same fixed eligible entry ms T ≡ refused 11) ⊎ ((adds_by same fixed eligible entry ms T ≡ refused 12) × Earlier m ms T)
    unfolding adds_by
    elsewhere-adds m e [] T i l h = in_none refl i
    elsewhere-adds m e (k ∷ ks) T i l h =
        elim (Memᴰ.cases_cons i) [
          | inl q ↦
              let r = elsewhere-refused k T (add_by same fixed eligible entry k T) (rw q at e) (rw q at h) (put same fixed eligible entry k T) in
              inl (rw r refl)
          | inr j ↦ elim (put-cases same fixed eligible entry k T (add_by same fixed eligible entry k T) (put same fixed eligible entry k T)) [
            | inl r ↦ inl (rw r refl)
            | inr r ↦ elim r [
              | inl z ↦
                  let a = split-at m ks j in
                  inr (
                    rw z refl,
                    record { earlier = k ∷ a.0; later = a.1.0; split = ap (λ (x : List ℕ). k ∷ x) a.1.1; refuses = rw z refl },
                  )
              | inr z ↦
                  let next : (adds_by same fixed eligible entry ks z.0 ≡ refused 11)
                  ⊎ ((adds_by same fixed eligible entry ks z.0 ≡ refused 12) × Earlier m ks z.0) =
                  elim (effect k T z.0 (add_by same fixed eligible entry k T) l (put same fixed eligible entry k T) z.1) [
                    | inl y ↦ elsewhere-adds m e ks z.0 j (rw y.1 at l) (rw y.1 at h)
                    | inr y ↦ let x = y.longer in elsewhere-adds m e ks z.0 j (omega arith) (elsewhere_on m k T z.0 y h)
                  ] in
                  elim next [
                    | inl g ↦ inl (rw z.1 g)
                    | inr g ↦
                        inr (
                          rw z.1 g.0,
                          record {
                            earlier = k ∷ g.1.earlier;
                            later = g.1.later;
                            split = ap (λ (x : List ℕ). k ∷ x) g.1.split;
                            refuses = rw z.1 g.1.refuses;
                          },
                        )
                  ]
            ]
          ]
        ]

    pub record Pair (T U : List Entry) : Type 0 where
      pub new-room : n ≤ length T
      pub old-room : n ≤ length U
      pub shown : (j k : ℕ) → (at U j).method ≡ Some k → (l : ℕ) × ((g : ℕ) × (((at T l).method ≡ Some g) × (same g k ≡ true)))
      pub full : (i k : ℕ) → i < n → (at T i).method ≡ Some k → (g : ℕ) × ((at U i).method ≡ Some g)
      pub put : (j k i : ℕ) → (at U j).method ≡ Some k → fixed k ≡ Some i → (j ≡ i) ⊎ ⊥

    module _ (m : ℕ) (T U X W : List Entry) (p : Pair T U) (a : Effect m T X) (b : Effect m U W) where
      method-of : (j k : ℕ) (Y : List Entry) → at Y j ≡ entry m → (at Y j).method ≡ Some k → m ≡ k
      method-of j k Y e q = found-same (sym (own m) ∙ sym (ap (λ (x : Entry). x.method) e) ∙ q)

      keeps : (j k : ℕ) (Y Z : List Entry) → at Y j ≡ at Z j → (at Y j).method ≡ Some k → (at Z j).method ≡ Some k
      keeps j k Y Z e q = sym (ap (λ (x : Entry). x.method) e) ∙ q

      shown-next : (j k : ℕ) → (at W j).method ≡ Some k → (l : ℕ) × ((g : ℕ) × (((at X l).method ≡ Some g) × (same g k ≡ true)))
      shown-next j k q = elim (b.each j) [
        | inl e ↦
            let h = p.shown j k (keeps j k W U e q) in
            elim (a.over h.0 h.1.0 h.1.1.0) [
              | inl z ↦ (h.0, (h.1.0, (ap (λ (x : Entry). x.method) z ∙ h.1.1.0, h.1.1.1)))
              | inr z ↦ (
                a.shows.0,
                (
                  m,
                  (
                    ap (λ (x : Entry). x.method) a.shows.1 ∙ own m,
                    s.same_trans m h.1.0 k (s.same_sym h.1.0 m z) h.1.1.1,
                  ),
                ),
              )
            ]
        | inr e ↦
            let z = method-of j k W e.0 q in
            (a.shows.0, (m, (ap (λ (x : Entry). x.method) a.shows.1 ∙ own m, rw z (s.same_self k))))
      ]

      known_next : (i g : ℕ) → (at U i).method ≡ Some g → (k : ℕ) × ((at W i).method ≡ Some k)
      known_next i g q = elim (b.each i) [
        | inl e ↦ (g, ap (λ (x : Entry). x.method) e ∙ q)
        | inr e ↦ (m, ap (λ (x : Entry). x.method) e.0 ∙ own m)
      ]

      full-next : (i k : ℕ) → i < n → (at X i).method ≡ Some k → (g : ℕ) × ((at W i).method ≡ Some g)
      full-next i k l q = elim (a.each i) [
        | inl e ↦ let h = p.full i k l (keeps i k X T e q) in known_next i h.0 h.1
        | inr e ↦ why e.1
      ]
        where
          why : Why m T i → (g : ℕ) × ((at W i).method ≡ Some g)
          why (index f) = (m, ap (λ (x : Entry). x.method) (b.index i f) ∙ own m)
          why (known k f h) = let g = p.full i k l h in known_next i g.0 g.1
          why (new f h) = let r = p.new-room in absurd (omega arith)

      put_next : (j k i : ℕ) → (at W j).method ≡ Some k → fixed k ≡ Some i → (j ≡ i) ⊎ ⊥
      put_next j k i q f = elim (b.each j) [
        | inl e ↦ p.put j k i (keeps j k W U e q) f
        | inr e ↦ let z = method-of j k W e.0 q in why (rw (← z) at f) e.1
      ]
        where
          why : fixed m ≡ Some i → Why m U j → (j ≡ i) ⊎ ⊥
          why g (index h) = inl (found-same (sym h ∙ g))
          why g (known l h x) = not_found (sym h ∙ g)
          why g (new h x) = not_found (sym h ∙ g)

      pair-next : Pair X W
      pair-next =
          let x = p.new-room in let y = p.old-room in let z = a.longer in let w = b.longer in
          record { new-room = omega arith; old-room = omega arith; shown = shown-next; full = full-next; put = put_next }

    -- ---- a method that row 12 refuses now was refused by it

    pub other-known : (m : ℕ) (e : Entry) → on_found e.method (λ k. not (same k m)) false ≡ true → (k : ℕ) × ((e.method ≡ Some k) × (same k m ≡ false))
    other-known m e o =
        by-found e.method (λ k q. (k, (q, not-true (same k m) (rw q at o)))) (λ q. absurd (false≢true (rw q at o)))

    module _ (m i : ℕ) (T U : List Entry) (p : Pair T U) (e : eligible m ≡ true) (f : fixed m ≡ Some i)
        (slot : (j : ℕ) → position (is_of same m) 0 T ≡ Some j → j ≡ i) (o : on_found (at T i).method (λ k. not (same k m)) false ≡ true) where
      none-new : position (is_of same m) 0 T ≡ None
      none-new =
          let x = other-known m (at T i) o in
          by-found (position (is_of same m) 0 T)
          (λ j q.
          let h = slot-holds m j T q in
          let y : x.0 ≡ h.0 = found-same (sym x.1.0 ∙ ap (λ (l : ℕ). (at T l).method) (sym (slot j q)) ∙ h.1.0) in
          absurd (true≢false (sym h.1.1 ∙ (rw y at x.1.1))))
          (λ q. q)

      none_old : (j k : ℕ) → (at U j).method ≡ Some k → same k m ≡ false
      none_old j k q =
          let h = p.shown j k q in
          by (same k m)
          (λ t. absurd (true≢false (sym (s.same_trans h.1.0 k m h.1.1.1 t) ∙ unseen m T none-new h.0 h.1.0 h.1.1.0)))
          (λ t. t)

      no_slot : {X : Type 0} (j : ℕ) → position (is_of same m) 0 U ≡ Some j → X
      no_slot j q = let h = slot-holds m j U q in absurd (true≢false (sym h.1.1 ∙ none_old j h.0 h.1.0))

      still-other : on_found (at U i).method (λ k. not (same k m)) false ≡ true
      still-other =
          let x = other-known m (at T i) o in
          let g = p.full i x.0 (room m i f) x.1.0 in rw (g.1, none_old i g.0 g.1) refl

      twelve-now : (b : Built) → Put same fixed eligible entry m U b → b ≡ refused 12
      twelve-now b (skipped x) = absurd (true≢false (sym e ∙ x))
      twelve-now b (moved k j x q r d) = no_slot j r
      twelve-now b (taken k x q r y) = refl
      twelve-now b (placed k x q r y) =
          let z : i ≡ k = found-same (sym f ∙ q) in absurd (true≢false (sym (rw z at still-other) ∙ y))
      twelve-now b (kept k x q r) = not_found (sym q ∙ f)
      twelve-now b (added x q r) = not_found (sym q ∙ f)

    put-twelve : (m : ℕ) (T U : List Entry) (b c : Built) → Pair T U → Put same fixed eligible entry m T b → b ≡ refused 12
        → Put same fixed eligible entry m U c → c ≡ refused 12
    put-twelve m T U b c p (skipped x) r w = not-both r
    put-twelve m T U b c p (moved i j x q f d) r w = let z = refused-same r in absurd (omega arith)
    put-twelve m T U b c p (taken i x q f o) r w = twelve-now m i T U p x q f o c w
    put-twelve m T U b c p (placed i x q f o) r w = not-both r
    put-twelve m T U b c p (kept i x q f) r w = not-both r
    put-twelve m T U b c p (added x q f) r w = not-both r

    -- the other table refuses by row 12, or has the method, too
    put-old : (m : ℕ) (T U : List Entry) (c : Built) → Pair T U → Put same fixed eligible entry m U c → (c ≡ refused 12) ⊎ ((W : List Entry) × (c ≡ built W))
    put-old m T U c p (skipped x) = inr (U, refl)
    put-old m T U c p (moved i j x q f d) =
        let h = slot-holds m j U f in
        elim (p.put j h.0 i h.1.0 (s.same_index h.0 m h.1.1 ∙ q)) [ inl z ↦ absurd (d z) | inr z ↦ absurd z ]
    put-old m T U c p (taken i x q f o) = inl refl
    put-old m T U c p (placed i x q f o) = inr (set U i (entry m), refl)
    put-old m T U c p (kept i x q f) = inr (set U i (entry m), refl)
    put-old m T U c p (added x q f) = inr (U ++ (entry m ∷ []), refl)

    put_both : (m : ℕ) (T U X W : List Entry) (b c : Built) → Pair T U → Put same fixed eligible entry m T b → b ≡ built X
        → Put same fixed eligible entry m U c → c ≡ built W → eligible m ≡ true → Pair X W
    put_both m T U X W b c p x q y r e =
        elim (effect m T X b p.new-room x q) [
          | inl z ↦ absurd (true≢false (sym e ∙ z.0))
          | inr a ↦ elim (effect m U W c p.old-room y r) [
            | inl z ↦ absurd (true≢false (sym e ∙ z.0))
            | inr d ↦ pair-next m T U X W p a d
          ]
        ]

    pub twelve : (ms : List ℕ) (T U : List Entry) → Pair T U → adds_by same fixed eligible entry ms T ≡ refused 12
        → adds_by same fixed eligible entry ms U ≡ refused 12
    unfolding adds_by
    twelve [] T U p r = not-both r
    twelve (m ∷ ms) T U p r =
        let x = put same fixed eligible entry m T in
        let y = put same fixed eligible entry m U in
        elim (on_refused (add_by same fixed eligible entry m T) (adds_by same fixed eligible entry ms) 12 r) [
          | inl q ↦ rw (put-twelve m T U (add_by same fixed eligible entry m T) (add_by same fixed eligible entry m U) p x q y) refl
          | inr q ↦ elim (put-old m T U (add_by same fixed eligible entry m U) p y) [
            | inl z ↦ rw z refl
            | inr z ↦
                rw z.1
                (twelve ms q.0 z.0
                (by (eligible m)
                (λ e. put_both m T U q.0 z.0 (add_by same fixed eligible entry m T) (add_by same fixed eligible entry m U) p x q.1.0 y z.1 e)
                (λ e. skip_both m T U q.0 z.0 p e q.1.0 z.1))
                q.1.1)
          ]
        ]
      where
        skip_both : (m : ℕ) (T U X W : List Entry) → Pair T U → eligible m ≡ false → add_by same fixed eligible entry m T ≡ built X
            → add_by same fixed eligible entry m U ≡ built W → Pair X W
        skip_both m T U X W p e q r =
            let a : T ≡ X = built-same (unfold add_by in (rw e at q)) in
            let b : U ≡ W = built-same (unfold add_by in (rw e at r)) in
            rw (← a, ← b) p

-- ---- the tables before the class's own methods

pub among-index : {e : Entry} (T : List Entry) → Among e T → (j : ℕ) × (at T j ≡ e)
among-index [] a = elim a [ ]
among-index (e ∷ T) front = (0, refl)
among-index (f ∷ T) (behind a) = let r = among-index T a in (suc r.0, r.1)

module _ (same : ℕ → ℕ → Bool) (fixed : ℕ → Option ℕ) (distance : ℕ → ℕ) (s : Signatures same fixed distance) (E : List Entry) (n : ℕ)
    (room : (m i : ℕ) → fixed m ≡ Some i → i < n) where
  -- a known inherited signature whose index another one holds
  abbrev pub Gave : ℕ → Type 0
  Gave m = GaveWay same fixed (holder fixed distance E) E m

  pub gave_same : (k m : ℕ) → same k m ≡ true → Gave k → Gave m
  gave_same k m t g = record {
    inherited = sym (occurs-same same fixed distance E s n room k m t E) ∙ g.inherited;
    index = g.index;
    fixed_at = sym (s.same_index k m t) ∙ g.fixed_at;
    away = sym (stays_same same fixed distance E s n room g.index k m t) ∙ g.away;
  }

  -- a known entry of the signature
  pub found_among : (m : ℕ) (es : List Entry) → occurs same m es ≡ true → (e : Entry) × (Among e es × (is_of same m e ≡ true))
  unfolding occurs some
  found_among m [] t = absurd (false≢true t)
  found_among m (e ∷ es) t =
      by (is_of same m e)
      (λ x. (e, (front, x)))
      (λ x. let r = found_among m es (rw x at t) in (r.0, (behind r.1.0, r.1.1)))

  -- another signature holds the index
  pub gave_held : (m : ℕ) (g : Gave m) → (h : ℕ) × ((holder fixed distance E g.index ≡ Some h) × (same h m ≡ false))
  unfolding stays is_of
  gave_held m g =
      let f = found_among m E g.inherited in
      by-found f.0.method
      (λ k q.
      let t : same k m ≡ true = rw q at f.1.1 in
      let h = holder-is fixed distance g.index k f.1.0 q (s.same_index k m t ∙ g.fixed_at) in
      (h.0, (h.1.holds, rw h.1.holds at g.away)))
      (λ q. absurd (false≢true (rw q at f.1.1)))

  abbrev PlacedOr : (ℕ → Type 0) → List Entry → Type 0
  PlacedOr Gone T = (j k i : ℕ) → (at T j).method ≡ Some k → fixed k ≡ Some i → (j ≡ i) ⊎ Gone k

  module _ (Gone : ℕ → Type 0) (T : List Entry) (e : Entry) (m : ℕ) (known : e.method ≡ Some m) (p : PlacedOr Gone T) where
    set-placed : (i : ℕ) → fixed m ≡ Some i → PlacedOr Gone (set T i e)
    set-placed i f j k l q r = elim (set_cases T i j e) [
      | inl z ↦
          let y : m ≡ k = found-same (sym known ∙ sym (ap (λ (x : Entry). x.method) z.1) ∙ q) in
          inl (z.0 ∙ found-same (sym f ∙ (rw (← y) at r)))
      | inr z ↦ p j k l (sym (ap (λ (x : Entry). x.method) z) ∙ q) r
    ]

    snoc_placed : ((i : ℕ) → fixed m ≡ Some i → Gone m) → PlacedOr Gone (T ++ (e ∷ []))
    snoc_placed g j k l q r = elim (snoc_at T e j empty) [
      | inl z ↦
          let y : m ≡ k = found-same (sym known ∙ sym (ap (λ (x : Entry). x.method) z.1) ∙ q) in
          inr (rw y at (g l (rw (← y) at r)))
      | inr z ↦ p j k l (sym (ap (λ (x : Entry). x.method) z) ∙ q) r
    ]

  blank-placed : (Gone : ℕ → Type 0) → PlacedOr Gone (replicate n empty)
  blank-placed Gone j k i q r = not_found (sym (ap (λ (x : Entry). x.method) (blank-at n j empty)) ∙ q)

  one_placed : (e : Entry) (es T : List Entry) → Among e E → PlacedOr Gave T → PlacedOr Gave (relay_one same fixed distance E e es T)
  one_placed e es T a p =
      one-cases same fixed distance E e es T
      (λ q z. rw z p)
      (λ m i q r t z. rw z (set-placed Gave T e m q p i r))
      (λ m i q r t u z. rw z p)
      (λ m i q r t u z.
      rw z
      (snoc_placed Gave T e m q p
      (λ j f.
      record { inherited = among-occurs same fixed distance E s n room m a q; index = i; fixed_at = r; away = t })))
      (λ m q r z. rw z (snoc_placed Gave T e m q p (λ j f. not_found (sym r ∙ f))))

  all_placed : (es T : List Entry) → ((e : Entry) → Among e es → Among e E) → PlacedOr Gave T → PlacedOr Gave (relays same fixed distance E T es)
  unfolding relays
  all_placed [] T a p = p
  all_placed (e ∷ es) T a p =
      all_placed es (relay_one same fixed distance E e es T) (λ f i. a f (behind i)) (one_placed e es T (a e front) p)

  -- in a table that was relayed each known entry with a fixed index is at it, or its signature gave way
  pub relays-placed : PlacedOr Gave (relays same fixed distance E (replicate n empty) E)
  relays-placed = all_placed E (replicate n empty) (λ e a. a) (blank-placed Gave)

  -- ---- step by step with the relaying before

  record Steps (T U : List Entry) : Type 0 where
    new-room : n ≤ length T
    old-room : n ≤ length U
    full : (i k : ℕ) → i < n → (at T i).method ≡ Some k → (g : ℕ) × ((at U i).method ≡ Some g)
    put : PlacedOr (λ k. ⊥) U
    from : (j k : ℕ) → (at U j).method ≡ Some k → (e : Entry) × (Among e E × (e.method ≡ Some k))

  set_known : (U : List Entry) (j i : ℕ) (e : Entry) (m g : ℕ) → e.method ≡ Some m → (at U i).method ≡ Some g → (k : ℕ) × ((at (set U j e) i).method ≡ Some k)
  set_known U j i e m g q r = elim (set_cases U j i e) [
    | inl z ↦ (m, ap (λ (x : Entry). x.method) z.1 ∙ q)
    | inr z ↦ (g, ap (λ (x : Entry). x.method) z ∙ r)
  ]

  snoc_known : (U : List Entry) (i : ℕ) (e : Entry) (g : ℕ) → (at U i).method ≡ Some g → (k : ℕ) × ((at (U ++ (e ∷ [])) i).method ≡ Some k)
  snoc_known U i e g r = (g, ap (λ (x : Entry). x.method) (get_or-append U (e ∷ []) empty i (known-below U i g r)) ∙ r)

  before-known : (U : List Entry) (i : ℕ) (e : Entry) (g : ℕ) → (at U i).method ≡ Some g
      → (k : ℕ) × ((at (step_before same fixed distance U e) i).method ≡ Some k)
  before-known U i e g r =
      before-cases same fixed distance e U (λ q z. rw z (g, r)) (λ m j q f z. rw z (set_known U j i e m g q r)) (λ m q f z. rw z (snoc_known U i e g r))

  before-longer : (U : List Entry) (e : Entry) → length U ≤ length (step_before same fixed distance U e)
  before-longer U e =
      before-cases same fixed distance e U
      (λ q z. rw z (omega arith))
      (λ m j q f z. rw z (omega (arith, length-set U j e)))
      (λ m q f z. rw z (omega (arith, length-append U (e ∷ []))))

  before-from : (U : List Entry) (e : Entry) → Among e E → ((j k : ℕ) → (at U j).method ≡ Some k → (e : Entry) × (Among e E × (e.method ≡ Some k)))
      → (j k : ℕ) → (at (step_before same fixed distance U e) j).method ≡ Some k → (e : Entry) × (Among e E × (e.method ≡ Some k))
  before-from U e a h =
      before-cases same fixed distance e U
      (λ q z. rw z h)
      (λ m i q f z. rw z
      (λ j k r. elim (set_cases U i j e) [
        | inl y ↦ (e, (a, sym (ap (λ (x : Entry). x.method) y.1) ∙ r))
        | inr y ↦ h j k (sym (ap (λ (x : Entry). x.method) y) ∙ r)
      ]))
      (λ m q f z. rw z
      (λ j k r. elim (snoc_at U e j empty) [
        | inl y ↦ (e, (a, sym (ap (λ (x : Entry). x.method) y.1) ∙ r))
        | inr y ↦ h j k (sym (ap (λ (x : Entry). x.method) y) ∙ r)
      ]))

  before-put : (U : List Entry) (e : Entry) → PlacedOr (λ k. ⊥) U → PlacedOr (λ k. ⊥) (step_before same fixed distance U e)
  before-put U e p =
      before-cases same fixed distance e U
      (λ q z. rw z p)
      (λ m i q f z. rw z (set-placed (λ k. ⊥) U e m q p i f))
      (λ m q f z. rw z (snoc_placed (λ k. ⊥) U e m q p (λ i r. not_found (sym f ∙ r))))

  one-steps : (e : Entry) (es T U : List Entry) → Among e E → Steps T U → Steps (relay_one same fixed distance E e es T) (step_before same fixed distance U e)
  one-steps e es T U a p =
      let l = before-longer U e in
      let o = p.old-room in
      let t = p.new-room in
      let same_old : (X : List Entry) → n ≤ length X
      → ((i k : ℕ) → i < n → (at X i).method ≡ Some k → (g : ℕ) × ((at (step_before same fixed distance U e) i).method ≡ Some g))
      → Steps X (step_before same fixed distance U e) =
      (λ X r f.
      record { new-room = r; old-room = omega arith; full = f; put = before-put U e p.put; from = before-from U e a p.from }) in
      let still : (i k : ℕ) → i < n → (at T i).method ≡ Some k → (g : ℕ) × ((at (step_before same fixed distance U e) i).method ≡ Some g) =
      (λ i k b q. let g = p.full i k b q in before-known U i e g.0 g.1) in
      one-cases same fixed distance E e es T
      (λ q z. rw z (same_old T t still))
      (λ m i q r u z. rw z
      (same_old (set T i e) (omega (arith, length-set T i e))
      (λ j k b x. elim (set_cases T i j e) [
        | inl y ↦ rw y.0 (stored m i q r)
        | inr y ↦ still j k b (sym (ap (λ (x : Entry). x.method) y) ∙ x)
      ])))
      (λ m i q r u v z. rw z (same_old T t still))
      (λ m i q r u v z. rw z (same_old (T ++ (e ∷ [])) (omega (arith, length-append T (e ∷ []))) (last still)))
      (λ m q r z. rw z (same_old (T ++ (e ∷ [])) (omega (arith, length-append T (e ∷ []))) (last still)))
    where
      stored : (m i : ℕ) → e.method ≡ Some m → fixed m ≡ Some i → (g : ℕ) × ((at (step_before same fixed distance U e) i).method ≡ Some g)
      stored m i q r =
          before-cases same fixed distance e U
          (λ x z. not_found (sym x ∙ q))
          (λ k j x y z.
          let w : m ≡ k = found-same (sym q ∙ x) in
          let v : i ≡ j = found-same (sym r ∙ (rw (← w) at y)) in
          let o = p.old-room in
          let b : j < length U = omega (arith, room k j y) in
          rw (z, v) (m, ap (λ (x : Entry). x.method) (get_or-set_same U j e empty b) ∙ q))
          (λ k x y z. let w : m ≡ k = found-same (sym q ∙ x) in not_found (sym y ∙ (rw w at r)))

      last : ((i k : ℕ) → i < n → (at T i).method ≡ Some k → (g : ℕ) × ((at (step_before same fixed distance U e) i).method ≡ Some g))
          → (i k : ℕ) → i < n → (at (T ++ (e ∷ [])) i).method ≡ Some k → (g : ℕ) × ((at (step_before same fixed distance U e) i).method ≡ Some g)
      last still i k b q =
          let t = p.new-room in
          still i k b (sym (ap (λ (x : Entry). x.method) (get_or-append T (e ∷ []) empty i (omega arith))) ∙ q)

  all-steps : (es T U : List Entry) → ((e : Entry) → Among e es → Among e E) → Steps T U
      → Steps (relays same fixed distance E T es) (fold (step_before same fixed distance) U es)
  unfolding relays fold
  all-steps [] T U a p = p
  all-steps (e ∷ es) T U a p =
      all-steps es (relay_one same fixed distance E e es T) (step_before same fixed distance U e) (λ f i. a f (behind i)) (one-steps e es T U (a e front) p)

  blank_none : {X : Type 0} (i k : ℕ) → (at (replicate n empty) i).method ≡ Some k → X
  blank_none i k q = not_found (sym (ap (λ (x : Entry). x.method) (blank-at n i empty)) ∙ q)

  steps : Steps (relays same fixed distance E (replicate n empty) E) (fold (step_before same fixed distance) (replicate n empty) E)
  steps =
      all-steps E (replicate n empty) (replicate n empty) (λ e a. a)
      (record {
        new-room = simp length-replicate (omega arith);
        old-room = simp length-replicate (omega arith);
        full = λ i k b q. blank_none i k q;
        put = blank-placed (λ k. ⊥);
        from = λ j k q. blank_none j k q;
      })

  pub relays-room : n ≤ length (relays same fixed distance E (replicate n empty) E)
  relays-room = steps.new-room

  -- each known entry of the table before is at its index
  pub before-placed : PlacedOr (λ k. ⊥) (fold (step_before same fixed distance) (replicate n empty) E)
  before-placed = steps.put

  -- the last entry of a signature is of it
  last-is : (m : ℕ) (l : Entry) (es : List Entry) → (is_of same m l ≡ true) ⊎ (occurs same m es ≡ true) → is_of same m (last_of same m l es) ≡ true
  unfolding last_of fold occurs some
  last-is m l [] (inl t) = t
  last-is m l [] (inr t) = absurd (false≢true t)
  last-is m l (e ∷ es) h =
      by (is_of same m e)
      (λ t. rw t (last-is m e es (inl t)))
      (λ t. rw t (last-is m l es (elim h [ inl x ↦ inl x | inr x ↦ inr (rw t at x) ])))

  pub of-method : (m : ℕ) (e : Entry) → is_of same m e ≡ true → (k : ℕ) × ((e.method ≡ Some k) × (same k m ≡ true))
  unfolding is_of
  of-method m e t = by-found e.method (λ k q. (k, (q, (rw q at t)))) (λ q. absurd (false≢true (rw q at t)))

  pub relays-pair : (eligible : ℕ → Bool) (entry : ℕ → Entry) (own : (m : ℕ) → (entry m).method ≡ Some m)
      → Pair same fixed distance s eligible entry own n room (relays same fixed distance E (replicate n empty) E)
      (fold (step_before same fixed distance) (replicate n empty) E)
  relays-pair eligible entry own = record {
    new-room = steps.new-room;
    old-room = steps.old-room;
    shown = λ j k q.
        let f = steps.from j k q in
        let a = among-index (relays same fixed distance E (replicate n empty) E) (nothing_lost same fixed distance E s n room k f.1.0 f.1.1) in
        let o = of-method k (last_of same k empty E) (last-is k empty E (inr (among-occurs same fixed distance E s n room k f.1.0 f.1.1))) in
        (a.0, (o.0, (ap (λ (x : Entry). x.method) a.1 ∙ o.1.0, o.1.1)));
    full = steps.full;
    put = steps.put;
  }

  -- of each known inherited signature the last entry is shown
  pub relays-shown : (m : ℕ) → occurs same m E ≡ true → (eligible : ℕ → Bool) (entry : ℕ → Entry) (own : (m : ℕ) → (entry m).method ≡ Some m)
      (Own : ℕ → Type 0)
      → ShownAs same fixed distance s eligible entry own n room m (last_of same m empty E) Own (relays same fixed distance E (replicate n empty) E)
  relays-shown m t eligible entry own Own =
      let f = found_among m E t in
      let k = of-method m f.0 f.1.1 in
      let a = among-index (relays same fixed distance E (replicate n empty) E) (nothing_lost same fixed distance E s n room k.0 f.1.0 k.1.0) in
      let z = last-same same fixed distance E s n room k.0 m k.1.1 empty E in
      let o = of-method m (last_of same m empty E) (last-is m empty E (inr t)) in
      record {
        slot = a.0;
        method = o.0;
        known = ap (λ (x : Entry). x.method) (a.1 ∙ z) ∙ o.1.0;
        of = o.1.1;
        is = inl (a.1 ∙ z);
      }

  -- a signature that gave way stands elsewhere
  pub gave_elsewhere : (m : ℕ) → Gave m → (eligible : ℕ → Bool) (entry : ℕ → Entry) (own : (m : ℕ) → (entry m).method ≡ Some m)
      → Elsewhere same fixed distance s eligible entry own n room m (relays same fixed distance E (replicate n empty) E)
  gave_elsewhere m g eligible entry own =
      let w = relays-shown m g.inherited eligible entry own (λ k. Unit {0}) in
      let h = gave_held m g in
      let x = held fixed distance g.index E h.0 h.1.0 in
      let i = room m g.index g.fixed_at in
      let a = stands_at same fixed distance E s n room g.index h.0 i h.1.0 in
      let o = of-method h.0 (last_of same h.0 empty E)
      (last-is h.0 empty E (inr (among-occurs same fixed distance E s n room h.0 x.among x.method))) in
      record {
        index = g.index;
        fixed_at = g.fixed_at;
        slot = w.slot;
        method = w.method;
        known = w.known;
        of = w.of;
        holds = o.0;
        stored = ap (λ (x : Entry). x.method) a ∙ o.1.0;
        other = by (same o.0 m)
            (λ t. absurd (true≢false (sym (s.same_trans h.0 o.0 m (s.same_sym o.0 h.0 o.1.1) t) ∙ h.1.1))) (λ t. t);
      }
