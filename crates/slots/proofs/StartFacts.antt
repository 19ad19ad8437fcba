-- What a class starts from: its parent's entries, extended, or, where it has an ABI entry of its own, laid out anew (with no clash that is
-- `relayed_before`). Either way a good table stays good, there is room for all that the chain fixes, and each entry is an inherited one or empty.
-- Assumes nothing.
use Rattle.std.proofs.lemmas.Grind.{common_steps}
use Rattle.std.proofs.Common.{◌≡◌, refl, ap, ◌∙◌, inl, inr, List, [], ◌∷◌, ◌++◌, ℕ, suc, ◌≤◌, ◌<◌, arith, length, set, replicate, length-set, length-append, Some, None}
use lib.ListN.{length-replicate}
use Rattle.words.specs.Lists.{fold}
use Rattle.words.proofs.ListLaws.{by-found}
use Rattle.linking.specs.Signature.{by_bytes}
use Rattle.linking.specs.Abi.{chain_abi, minimum_size}
use Rattle.linking.specs.Vtable.{Entry, empty, fixed_of, extended}
use Rattle.linking.specs.Before.{relay_step, relayed_before}
use Rattle.slots.proofs.ListFacts.{set_at, snoc_at, blank-at}
use Rattle.slots.proofs.PlaceFacts.{Signature, OneIndex, Good, good_less, good_none}
use Rattle.slots.proofs.FixedFacts.{method_signature, Fixes, fixed-some, fixed-none, fixed-room}
use Rattle.slots.proofs.EntryFacts.{at, Shows, shows_same, shows-entry, set-good, append-good}

-- ---- "parent entries, extended with empty ones to the largest fixed index + 1 or table size among the chain's ABI classes"

module _ (abi abis : List ℕ) (T : List Entry) where
  pub extended-same : (i : ℕ) → at (extended abi abis T) i ≡ at T i
  unfolding extended
  extended-same i = grind (arith, common_steps)

  pub extended-room : minimum_size abi abis ≤ length (extended abi abis T)
  unfolding extended
  extended-room = grind (arith, common_steps)

pub extended-good : (ws text abi abis : List ℕ) (T : List Entry) {F : Signature → ℕ → Type 0} → Good F (Shows ws text T)
    → Good F (Shows ws text (extended abi abis T))
extended-good ws text abi abis T g =
    good_less (λ i s k. shows_same ws text (extended abi abis T) T i i s (extended-same abi abis T i) k) g

module _ (ws text abi labels : List ℕ) where
  -- ---- "A class with its own ABI entry first puts each known inherited entry at its fixed index, later ones overwriting; known entries without
  -- one follow after the minimum size; unknown ones go."

  module _ (abis : List ℕ) (T : List Entry) (e : Entry) where
    step-none : e.method ≡ None → relay_step (by_bytes ws text abi labels) abi abis T e ≡ T
    unfolding relay_step
    step-none q = cc

    step-fixed : (m i : ℕ) → e.method ≡ Some m → fixed_of (by_bytes ws text abi labels) abi abis m ≡ Some i
        → relay_step (by_bytes ws text abi labels) abi abis T e ≡ set T i e
    unfolding relay_step
    step-fixed m i q r = cc

    step-last : (m : ℕ) → e.method ≡ Some m → fixed_of (by_bytes ws text abi labels) abi abis m ≡ None
        → relay_step (by_bytes ws text abi labels) abi abis T e ≡ T ++ (e ∷ [])
    unfolding relay_step
    step-last m q r = cc

  blank_none : (n i : ℕ) (s : Signature) → Shows ws text (replicate n empty) i s → ⊥
  blank_none n i s k = grind (arith, common_steps)

  module _ (c : ℕ) (within : c ≤ 64) (one : OneIndex (Fixes ws text abi labels c)) where
    -- the entries T laid out already share no signature with those to come, E
    record Laying (T E : List Entry) : Type 0 where
      good : Good (Fixes ws text abi labels c) (Shows ws text T)
      room : minimum_size abi (chain_abi ws text abi labels c) ≤ length T
      rest : (i j : ℕ) (s : Signature) → Shows ws text E i s → Shows ws text E j s → i ≡ j
      apart : (i j : ℕ) (s : Signature) → Shows ws text T i s → Shows ws text E j s → ⊥

    module _ (T E : List Entry) (e : Entry) (l : Laying T (e ∷ E)) where
      next : {i : ℕ} {s : Signature} → Shows ws text E i s → Shows ws text (e ∷ E) (suc i) s
      next {i} {s} k = shows_same ws text E (e ∷ E) i (suc i) s refl k

      rest-next : (i j : ℕ) (s : Signature) → Shows ws text E i s → Shows ws text E j s → i ≡ j
      rest-next i j s k n = let q = l.rest (suc i) (suc j) s (next k) (next n) in omega arith

      lay-none : Laying T E
      lay-none = record { good = l.good; room = l.room; rest = rest-next; apart = λ i j s k n. l.apart i (suc j) s k (next n) }

      module _ (m : ℕ) (known : e.method ≡ Some m) where
        first : Shows ws text (e ∷ E) 0 (method_signature ws text m)
        first = record { method = m; holds = known; is = refl }

        new : (j : ℕ) → Shows ws text T j (method_signature ws text m) → ⊥
        new j k = l.apart j 0 (method_signature ws text m) k first

        -- no entry to come has the signature just laid out
        once : (j : ℕ) (s : Signature) → s ≡ method_signature ws text m → Shows ws text E j s → ⊥
        once j s q k = let z = l.rest 0 (suc j) (method_signature ws text m) first (rw q at (next k)) in absurd (omega arith)

        lay-fixed : (i : ℕ) → fixed_of (by_bytes ws text abi labels) abi (chain_abi ws text abi labels c) m ≡ Some i → Laying (set T i e) E
        lay-fixed i q =
            let f = fixed-some ws text abi labels c within m i q in
            let r = fixed-room ws text abi labels c within (method_signature ws text m) i f in
            let n = l.room in
            let below : i < length T = omega arith in
            record {
              good = set-good ws text T e m known i below (λ j g. one (method_signature ws text m) j i g f) (λ j k. absurd (new j k)) l.good;
              room = simp length-set n;
              rest = rest-next;
              apart = λ j k s a b. elim (set_at T i j e empty below) [
                | inl p ↦ once k s (shows-entry ws text (set T i e) j m s (ap (λ (x : Entry). x.method) p.1 ∙ known) a) b
                | inr p ↦ l.apart j (suc k) s (shows_same ws text (set T i e) T j j s p.1 a) (next b)
              ];
            }

        lay-last : fixed_of (by_bytes ws text abi labels) abi (chain_abi ws text abi labels c) m ≡ None → Laying (T ++ (e ∷ [])) E
        lay-last q =
            let n = l.room in
            record {
              good = append-good ws text T e m known (λ j f. absurd (fixed-none ws text abi labels c within m j q f)) new l.good;
              room = simp length-append (omega arith);
              rest = rest-next;
              apart = λ j k s a b. elim (snoc_at T e j empty) [
                | inl p ↦ once k s (shows-entry ws text (T ++ (e ∷ [])) j m s (ap (λ (x : Entry). x.method) p.1 ∙ known) a) b
                | inr p ↦ l.apart j (suc k) s (shows_same ws text (T ++ (e ∷ [])) T j j s p a) (next b)
              ];
            }

      lay : Laying (relay_step (by_bytes ws text abi labels) abi (chain_abi ws text abi labels c) T e) E
      lay =
          by-found e.method
          (λ m q.
          by-found (fixed_of (by_bytes ws text abi labels) abi (chain_abi ws text abi labels c) m)
          (λ i r. rw (step-fixed (chain_abi ws text abi labels c) T e m i q r) (lay-fixed m q i r))
          (λ r. rw (step-last (chain_abi ws text abi labels c) T e m q r) (lay-last m q r)))
          (λ q. rw (step-none (chain_abi ws text abi labels c) T e q) lay-none)

      -- each entry is an old one or this one
      lay-each : (R : ℕ → Entry → Type 0) → ((i : ℕ) → R i e) → ((i : ℕ) → R i (at T i))
          → (i : ℕ) → R i (at (relay_step (by_bytes ws text abi labels) abi (chain_abi ws text abi labels c) T e) i)
      lay-each R own h i =
          by-found e.method
          (λ m q.
          by-found (fixed_of (by_bytes ws text abi labels) abi (chain_abi ws text abi labels c) m)
          (λ j r.
          let f = fixed-room ws text abi labels c within (method_signature ws text m) j (fixed-some ws text abi labels c within m j r) in
          let n = l.room in
          rw (step-fixed (chain_abi ws text abi labels c) T e m j q r)
          (elim (set_at T j i e empty (omega arith)) [ inl p ↦ rw p.1 (own i) | inr p ↦ rw p.1 (h i) ]))
          (λ r.
          rw (step-last (chain_abi ws text abi labels c) T e m q r) (elim (snoc_at T e i empty) [ inl p ↦ rw p.1 (own i) | inr p ↦ rw p (h i) ])))
          (λ q. rw (step-none (chain_abi ws text abi labels c) T e q) (h i))

    lay-all : (T E : List Entry) → Laying T E → Laying (fold (relay_step (by_bytes ws text abi labels) abi (chain_abi ws text abi labels c)) T E) []
    unfolding fold
    lay-all T [] l = l
    lay-all T (e ∷ E) l = lay-all (relay_step (by_bytes ws text abi labels) abi (chain_abi ws text abi labels c) T e) E (lay T E e l)

    lay-all-each : (R : ℕ → Entry → Type 0) → ((i j : ℕ) (e : Entry) → R i e → R j e) → (T E : List Entry) → Laying T E
        → ((i : ℕ) → R i (at T i)) → ((i : ℕ) → R i (at E i)) → (i : ℕ)
        → R i (at (fold (relay_step (by_bytes ws text abi labels) abi (chain_abi ws text abi labels c)) T E) i)
    unfolding fold
    lay-all-each R any T [] l h k = h
    lay-all-each R any T (e ∷ E) l h k =
        lay-all-each R any (relay_step (by_bytes ws text abi labels) abi (chain_abi ws text abi labels c) T e) E (lay T E e l)
        (lay-each T E e l R (λ i. any 0 i e (k 0)) h) (λ i. any (suc i) i (at E i) (k (suc i)))

    module _ (E : List Entry) (unique : (i j : ℕ) (s : Signature) → Shows ws text E i s → Shows ws text E j s → i ≡ j) where
      lay-start : Laying (replicate (minimum_size abi (chain_abi ws text abi labels c)) empty) E
      lay-start = record {
        good = good_none (λ i s k. blank_none (minimum_size abi (chain_abi ws text abi labels c)) i s k);
        room = simp length-replicate (omega arith);
        rest = unique;
        apart = λ i j s k n. blank_none (minimum_size abi (chain_abi ws text abi labels c)) i s k;
      }

      pub relayed-good : Good (Fixes ws text abi labels c) (Shows ws text (relayed_before (by_bytes ws text abi labels) abi (chain_abi ws text abi labels c) E))
      unfolding relayed_before
      relayed-good = (lay-all (replicate (minimum_size abi (chain_abi ws text abi labels c)) empty) E lay-start).good

      pub relayed-room : minimum_size abi (chain_abi ws text abi labels c) ≤ length
          (relayed_before (by_bytes ws text abi labels) abi (chain_abi ws text abi labels c) E)
      unfolding relayed_before
      relayed-room = (lay-all (replicate (minimum_size abi (chain_abi ws text abi labels c)) empty) E lay-start).room

      pub relayed-each : (R : ℕ → Entry → Type 0) → ((i j : ℕ) (e : Entry) → R i e → R j e) → ((i : ℕ) → R i empty) → ((i : ℕ) → R i (at E i))
          → (i : ℕ) → R i (at (relayed_before (by_bytes ws text abi labels) abi (chain_abi ws text abi labels c) E) i)
      unfolding relayed_before
      relayed-each R any blank h =
          lay-all-each R any (replicate (minimum_size abi (chain_abi ws text abi labels c)) empty) E lay-start
          (λ i. rw (blank-at (minimum_size abi (chain_abi ws text abi labels c)) i empty) (blank i)) h
