-- Laws of relaying: the arrays of indices and of the methods that hold them, where an entry goes, and one entry after the other. Assumes nothing.
use mathlib.Core.Path.{◌≡◌, refl, sym, ◌∙◌}
use mathlib.Core.Bool.{Bool, true, false, cond}
use mathlib.Core.List.{List, [], ◌∷◌, ◌++◌}
use Prim.Native.Nat.{ℕ, zero, suc, ◌+◌, ◌-◌, ◌≤◌, ◌<◌}
use native.Mathlib.Omega.{arith}
use lib.ListN.{length, get_or, set, drop, replicate, drop_of_length-le}
use lib.Seq.{get_or-set_same, get_or-set_other, drop-cons}
use lib.Dec.{eqb, ltb}
use borrow.Author.Tests.{eqb-true, eqb-false, eq-eqb}
use Rattle.std.specs.Prelude.{Option, Some, None}
use Rattle.std.specs.Option.{option_and_then}
use Rattle.words.specs.Lists.{list_from, numbers, fold, some}
use Rattle.words.proofs.Bools.{by}
use Rattle.words.proofs.Lists.{zeros}
use Rattle.words.proofs.ListLaws.{by-found}
use Rattle.linking.specs.Signature.{Same, of_method, methods_same, place_number, by_numbers}
use Rattle.linking.specs.Chain.{on_found}
use Rattle.linking.specs.Abi.{minimum_size}
use Rattle.linking.specs.Vtable.{Entry, empty, entry_is, is_of, occurs, stays, fixed_of, relayed}
use Rattle.linking.specs.Relays.{hold, hold_entry, holder, relay_one, relays}
use Rattle.linking.proofs.Comparing.{Compares}
use Rattle.linking.proofs.RelayLoop.{fixed-below, relayed_loop}
use Rattle.abi.proofs.Laws.{minimum_size-room}
use Rattle.reading.specs.Arrays.{mark_of, method_of}
use Rattle.reading.proofs.ArrayLaws.{method-back, no_method, none-back}
use Rattle.vtable.specs.Relay.{found_at, Indices, Holders, Held, place_of, put_place, relays_of}
use Rattle.vtable.specs.declared.Place.{Place}
use Rattle.vtable.specs.declared.Place.TheVariants.{At, Last, Away}

-- ---- the fixed indices

module _ (same : Same) (abi abis : List ℕ) where
  pub fixed_small : (m i : ℕ) → fixed_of same abi abis m ≡ Some i → i < 1024
  fixed_small m i e = let b = fixed-below same abi abis m i e in let r = minimum_size-room abi abis in omega arith

  -- they come back from their marks
  pub index_back : (m : ℕ) → method_of (mark_of (fixed_of same abi abis m)) ≡ fixed_of same abi abis m
  index_back m =
      by-found (fixed_of same abi abis m)
      (λ i q. let l = fixed_small m i q in rw q (method-back i (omega arith)))
      (λ q. rw q none-back)

  -- those of the entries before the i-th are there
  pub record Indexed (E : List Entry) (at : List ℕ) (i : ℕ) : Type 0 where
    pub each : (k : ℕ) → k < i → found_at at k ≡ option_and_then (fixed_of same abi abis) (get_or E k empty).method

  module _ (E : List Entry) (at : List ℕ) where
    pub indexed_start : Indexed E at 0
    indexed_start = record { each = λ k h. absurd (omega arith) }

    pub indexed_turn : (i a : ℕ) {e : Entry} → i < length at → e ≡ get_or E i empty → method_of a ≡ option_and_then (fixed_of same abi abis) e.method
        → Indexed E at i → Indexed E (set at i a) (i + 1)
    indexed_turn i a {e = e} l q s b = record {
      each = λ k h.
          by (eqb k i)
          (λ t. let v = eqb-true k i t in rw (v, get_or-set_same at i a 0 l, s, ← q) refl)
          (λ t. let v = eqb-false k i t in rw (get_or-set_other at i k a 0 v) (b.each k (omega arith)));
    }

    pub indexed_end : (i : ℕ) → length E ≤ i → Indexed E at i → Indices (fixed_of same abi abis) E at
    indexed_end i h b = record { each = λ k l. b.each k (omega arith) }

-- ---- the holders after one entry

module _ (fixed : ℕ → Option ℕ) (distance : ℕ → ℕ) (e : Entry) (hs : List ℕ) {o : Option ℕ} (method : o ≡ e.method) where
  pub held_unknown : o ≡ None → Held fixed distance e hs hs
  unfolding hold_entry
  held_unknown q = record { each = λ j l. rw (← method, q) refl }

  module _ {m : ℕ} {f : Option ℕ} (known : o ≡ Some m) (index : f ≡ option_and_then fixed e.method) where
    index_is : f ≡ fixed m
    index_is = index ∙ rw (← method, known) refl

    pub held_free : f ≡ None → Held fixed distance e hs hs
    unfolding hold_entry hold
    held_free q = record { each = λ j l. rw (← method, known, ← index_is, q) refl }

    module _ {i : ℕ} (at : f ≡ Some i) {h : Option ℕ} {b : Bool} (holds : h ≡ found_at hs i)
        (takes : b ≡ on_found h (λ k. ltb (distance m) (distance k)) true) where
      taken_is : (j : ℕ) → i ≡ j → on_found (found_at hs j) (λ k. ltb (distance m) (distance k)) true ≡ b
      taken_is j z = rw (← z, ← holds) (sym takes)

      pub held_kept : b ≡ false → Held fixed distance e hs hs
      unfolding hold_entry hold
      held_kept q = record {
        each = λ j l.
            by (eqb i j)
            (λ t. let u = taken_is j (eqb-true i j t) ∙ q in rw (← method, known, ← index_is, at, t, u) refl)
            (λ t. rw (← method, known, ← index_is, at, t) refl);
      }

      pub held_taken : {gs : List ℕ} (k : ℕ) → length hs ≡ 1024 → b ≡ true → method_of k ≡ e.method → gs ≡ set hs i k → Held fixed distance e hs gs
      unfolding hold_entry hold
      held_taken k s q n g = record {
        each = λ j l.
            by (eqb i j)
            (λ t.
            let z = eqb-true i j t in
            let u = taken_is j z ∙ q in
            rw (g, z, get_or-set_same hs j k 0 (omega arith), n, ← method, known, ← index_is, at, eq-eqb i j z, u) refl)
            (λ t.
            let z = eqb-false i j t in
            rw (g, get_or-set_other hs i j k 0 (λ y. z (sym y)), ← method, known, ← index_is, at, t) refl);
      }

-- ---- the holders after all of them

module _ (fixed : ℕ → Option ℕ) (distance : ℕ → ℕ) (E : List Entry) where
  -- what the entries from the i-th on make of those that hold the indices so far is what all of them make
  pub record Holding (hs : List ℕ) (i : ℕ) : Type 0 where
    pub each : (j : ℕ) → j < 1024 → fold (hold_entry fixed distance j) (found_at hs j) (drop i E) ≡ holder fixed distance E j

  pub holding_start : (hs : List ℕ) → hs ≡ replicate 1024 0 → Holding hs 0
  unfolding holder
  holding_start hs e = record { each = λ j l. rw (e, zeros 1024 j, no_method) refl }

  pub holding_turn : (hs gs : List ℕ) (i : ℕ) {e : Entry} → i < length E → e ≡ get_or E i empty → Held fixed distance e hs gs → Holding hs i
      → Holding gs (i + 1)
  unfolding fold
  holding_turn hs gs i h q g b = record {
    each = λ j l.
        let z : i + 1 ≡ suc i = omega arith in
        let r = b.each j l in
        rw (g.each j l, q, z) (rw (drop-cons E i empty h) at r);
  }

  pub holding_end : (hs : List ℕ) (i : ℕ) → length E ≤ i → Holding hs i → Holders fixed distance E hs
  unfolding fold
  holding_end hs i h b = record { each = λ j l. let r = b.each j l in rw (drop_of_length-le E h) at r }

-- ---- the signatures of two methods

-- by the numbers of a slot's method and of method m
module _ (ns : List ℕ) (m : ℕ) {n : ℕ} (number : n ≡ get_or ns m 0) where
  pub slot_number : (e : Entry) {s : Entry} {r : Bool} → s ≡ e → r ≡ on_found s.method (λ k. eqb (get_or ns k 0) n) false
      → r ≡ entry_is (by_numbers ns) (of_method m) e
  unfolding entry_is by_numbers place_number
  slot_number e q h = h ∙ rw (q, number) refl

  pub entry_number : (e : Entry) {s : Entry} {r : Bool} → s ≡ e → r ≡ on_found s.method (λ k. eqb (get_or ns k 0) n) false
      → r ≡ is_of (methods_same (by_numbers ns)) m e
  unfolding is_of methods_same by_numbers place_number
  entry_number e q h = h ∙ rw (q, number) refl

-- an element of a list from the k-th on
some_rest : {A : Type 0} (p : A → Bool) (d : A) (xs : List A) (k n : ℕ) → n ≡ length xs - k
    → some (λ i. p (get_or xs i d)) (numbers k n) ≡ some p (drop k xs)
unfolding some list_from
some_rest p d xs k zero e = let h : length xs ≤ k = omega arith in rw (drop_of_length-le xs h) refl
some_rest p d xs k (suc n) e =
    let z : k + 1 ≡ suc k = omega arith in
    let r = some_rest p d xs (k + 1) n (omega arith) in
    rw (drop-cons xs k d (omega arith), r, z) refl

pub occurs-rest : (same : ℕ → ℕ → Bool) (m : ℕ) (E : List Entry) (k n : ℕ) → n ≡ length E - k
    → some (λ i. is_of same m (get_or E i empty)) (numbers k n) ≡ occurs same m (drop k E)
unfolding occurs
occurs-rest same m E k n e = some_rest (is_of same m) empty E k n e

-- ---- where an entry goes

module _ (same : ℕ → ℕ → Bool) (staying : ℕ → Option ℕ) (es : List Entry) {o r : Option ℕ} (method : r ≡ o) where
  pub place_unknown : (f : Option ℕ) → r ≡ None → Away ≡ place_of same staying f o es
  unfolding place_of
  place_unknown f q = rw (← method, q) refl

  module _ {m : ℕ} (known : r ≡ Some m) {f g : Option ℕ} (index : g ≡ f) where
    pub place_free : g ≡ None → Last ≡ place_of same staying f o es
    unfolding place_of
    place_free q = rw (← method, known, ← index, q) refl

    module _ {i : ℕ} (at : g ≡ Some i) {h : Option ℕ} {b : Bool} (holds : h ≡ staying i) (held : b ≡ on_found h (λ k. same k m) false) where
      stays_is : stays same staying i m ≡ b
      unfolding stays
      stays_is = rw (← holds) (sym held)

      pub place_stays : b ≡ true → At i ≡ place_of same staying f o es
      unfolding place_of
      place_stays q = rw (← method, known, ← index, at, stays_is, q) refl

      module _ (away : b ≡ false) {d : Bool} (again : d ≡ occurs same m es) where
        pub place_again : d ≡ true → Away ≡ place_of same staying f o es
        unfolding place_of
        place_again q = rw (← method, known, ← index, at, stays_is, away, ← again, q) refl

        pub place_last : d ≡ false → Last ≡ place_of same staying f o es
        unfolding place_of
        place_last q = rw (← method, known, ← index, at, stays_is, away, ← again, q) refl

-- ---- one entry

module _ (same : ℕ → ℕ → Bool) (fixed : ℕ → Option ℕ) (distance : ℕ → ℕ) (small : (m i : ℕ) → fixed m ≡ Some i → i < 1024) (E : List Entry)
    (at hs : List ℕ) (indices : Indices fixed E at) (holders : Holders fixed distance E hs) where
  -- (the entry's method stands beside the entry, which is stored whole)
  one_by : (f o : Option ℕ) (e : Entry) (es T : List Entry) → f ≡ option_and_then fixed o
      → put_place (place_of same (found_at hs) f o es) e T
      ≡ on_found o
      (λ m. on_found (fixed m)
      (λ i. cond (stays same (holder fixed distance E) i m) (set T i e) (cond (occurs same m es) T (T ++ (e ∷ [])))) (T ++ (e ∷ [])))
      T
  unfolding put_place place_of stays
  one_by f None e es T q = refl
  one_by f (Some m) e es T q =
      by-found (fixed m)
      (λ i z.
      rw (q, z, holders.each i (small m i z))
      (by (on_found (holder fixed distance E i) (λ k. same k m) false) (λ t. rw t refl)
      (λ t. rw t (by (occurs same m es) (λ u. rw u refl) (λ u. rw u refl)))))
      (λ z. rw (q, z) refl)

  pub relay_turn : (i : ℕ) (T W : List Entry) {U : List Entry} {e : Entry} {p : Place} → i < length E
      → p ≡ place_of same (found_at hs) (found_at at i) (get_or E i empty).method (drop (i + 1) E) → e ≡ get_or E i empty → U ≡ put_place p e T
      → relays same fixed distance E T (drop i E) ≡ W → relays same fixed distance E U (drop (i + 1) E) ≡ W
  unfolding relays relay_one
  relay_turn i T W {U} h p e u r =
      let z : i + 1 ≡ suc i = omega arith in
      let s = one_by (found_at at i) (get_or E i empty).method (get_or E i empty) (drop (i + 1) E) T (indices.each i h) in
      let v : U ≡ relay_one same fixed distance E (get_or E i empty) (drop (i + 1) E) T = u ∙ rw (p, e) s in
      rw (v, z) (rw (drop-cons E i empty h) at r)

pub relay_end : (same : ℕ → ℕ → Bool) (fixed : ℕ → Option ℕ) (distance : ℕ → ℕ) (E : List Entry) (i : ℕ) (T W : List Entry) → length E ≤ i
    → relays same fixed distance E T (drop i E) ≡ W → T ≡ W
unfolding relays
relay_end same fixed distance E i T W h r = rw (drop_of_length-le E h) at r

-- ---- all of them, onto the minimum size

pub relayed-is : (same : Same) (abi abis : List ℕ) (E : List Entry) {size n : ℕ} {C P T U : List Entry} → size ≡ minimum_size abi abis → P ≡ E → n ≡ 0
    → C ≡ [] → T ≡ C ++ replicate (size - n) empty → U ≡ relays_of same abi abis P T → Compares same → U ≡ relayed same abi abis E
relayed-is same abi abis E {size = size} least p n c t u compares =
    let z : size - 0 ≡ size = omega arith in u ∙ rw (t, c, n, z, least, p) (sym (relayed_loop same abi compares abis E))
