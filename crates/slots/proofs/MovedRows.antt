-- Rows 11 and 12 of whole links, against those of the linker before ticket 13 on the same memory; and that no inherited signature is lost: for
-- every comparison of signatures that is an equivalence. Assumes nothing.
use mathlib.Core.Path.{◌≡◌, refl, sym, ap, ◌∙◌, subst, subst⁻¹}
use mathlib.Core.Logic.{◌⊎◌, inl, inr}
use mathlib.Core.Bool.{true, cond}
use mathlib.Core.List.{List, [], ◌∷◌, ◌++◌, Memᴰ}
use Prim.Native.Nat.{ℕ, ◌≤◌}
use lib.ListN.{length, get_or, replicate}
use Rattle.words.specs.Lists.{fold}
use Rattle.std.specs.Prelude.{Option, Some, None}
use Rattle.linking.specs.Signature.{Same, of_method, methods_same}
use Rattle.linking.specs.Chain.{eligible}
use Rattle.linking.specs.Abi.{minimum_size}
use Rattle.linking.specs.Vtable.{Entry, empty, Built, built, refused, on_built, is_of, occurs, last_of, entry_is, slot_of, entry_is_other, method_entry, fixed_of, distance_of, staying_of, relayed, put_method, add_method, add_methods}
use Rattle.linking.specs.Relays.{relays}
use Rattle.linking.specs.Before.{relayed_before, GaveWay, RefusesAt, Displaced, Stands}
use Rattle.linking.proofs.Comparing.{Compares}
use Rattle.linking.proofs.Relaying.{step_before}
use Rattle.linking.proofs.RelayLoop.{signatures, fixed-below, holder-stays, relayed_loop}
use Rattle.linking.proofs.Before.{steps_are}
use Rattle.slots.proofs.EntryFacts.{known-below}
use Rattle.slots.proofs.Moved as by_any
use Rattle.slots.proofs.Moved.{put_by, add_by, adds_by, not-both, on_refused, among-index, found_among, of-method, other-known, Gave, gave_same, adds-placed, eleven, never-eleven, twelve, adds-shown, elsewhere-adds, gave_elsewhere, relays-shown, relays-placed, relays-room, before-placed, relays-pair}

on_same : (b : Built) (f g : List Entry → Built) → ((U : List Entry) → f U ≡ g U) → on_built b f ≡ on_built b g
on_same (built U) f g h = h U
on_same (refused n) f g h = refl

module _ (same : Same) (compares : Compares same) (ws text abi : List ℕ) where
  -- ---- the methods are added by that comparison

  module _ (abis : List ℕ) where
    put-by : (f g : Option ℕ) (m : ℕ) (T : List Entry)
        → put_method same ws f g m T
        ≡ put_by (methods_same same) (fixed_of same abi abis) (eligible ws text) (method_entry ws) f g m T
    unfolding put_method put_by entry_is_other methods_same
    put-by (Some i) g m T = refl
    put-by None (Some j) m T = refl
    put-by None None m T = refl

    add-by : (m : ℕ) (T : List Entry)
        → add_method same ws text abi abis m T
        ≡ add_by (methods_same same) (fixed_of same abi abis) (eligible ws text) (method_entry ws) m T
    unfolding add_method add_by slot_of entry_is is_of methods_same
    add-by m T =
        ap (λ (b : Built). cond (eligible ws text m) b (built T))
        (put-by (fixed_of same abi abis m) (slot_of same (of_method m) T) m T)

    adds-by : (ms : List ℕ) (T : List Entry)
        → add_methods same ws text abi abis ms T
        ≡ adds_by (methods_same same) (fixed_of same abi abis) (eligible ws text) (method_entry ws) ms T
    unfolding add_methods adds_by
    adds-by [] T = refl
    adds-by (m ∷ ms) T =
        rw (add-by m T)
        (on_same (add_by (methods_same same) (fixed_of same abi abis) (eligible ws text) (method_entry ws) m T)
        (add_methods same ws text abi abis ms)
        (adds_by (methods_same same) (fixed_of same abi abis) (eligible ws text) (method_entry ws) ms)
        (λ U. adds-by ms U))

    -- where the adding stops
    refused-at : (ms : List ℕ) (T : List Entry) (n : ℕ) → add_methods same ws text abi abis ms T ≡ refused n
        → (m : ℕ) × RefusesAt same ws text abi abis T ms n m
    unfolding add_methods
    refused-at [] T n r = not-both r
    refused-at (m ∷ ms) T n r =
        elim (on_refused (add_method same ws text abi abis m T) (add_methods same ws text abi abis ms) n r) [
          | inl q ↦ (m, record { earlier = []; later = ms; split = refl; table = T; added = refl; refuses = q })
          | inr q ↦
              let t = refused-at ms q.0 n q.1.1 in (
                t.0,
                record {
                  earlier = m ∷ t.1.earlier;
                  later = t.1.later;
                  split = ap (λ (x : List ℕ). m ∷ x) t.1.split;
                  table = t.1.table;
                  added = rw q.1.0 t.1.added;
                  refuses = t.1.refuses;
                },
              )
        ]

    -- row 12 refuses a method before m
    pub record Earlier (m : ℕ) (ms : List ℕ) (T : List Entry) : Type 0 where
      pub earlier : List ℕ
      pub later : List ℕ
      pub split : ms ≡ earlier ++ (m ∷ later)
      pub refuses : add_methods same ws text abi abis earlier T ≡ refused 12

    -- refused by 11, or by 12 for an earlier method
    abbrev pub Turned : ℕ → List ℕ → List Entry → Type 0
    Turned m ms T =
        (add_methods same ws text abi abis ms T ≡ refused 11) ⊎ ((add_methods same ws text abi abis ms T ≡ refused 12) × Earlier m ms T)

    turned : (m : ℕ) (ms : List ℕ) (T : List Entry)
        → (adds_by (methods_same same) (fixed_of same abi abis) (eligible ws text) (method_entry ws) ms T ≡ refused 11)
        ⊎ ((adds_by (methods_same same) (fixed_of same abi abis) (eligible ws text) (method_entry ws) ms T ≡ refused 12)
        × by_any.Earlier (methods_same same) (fixed_of same abi abis) (distance_of same abi abis) (signatures same abi compares abis)
        (eligible ws text) (method_entry ws) (λ k. refl) (minimum_size abi abis) (fixed-below same abi abis) m ms T)
        → Turned m ms T
    turned m ms T (inl r) = inl (adds-by ms T ∙ r)
    turned m ms T (inr r) =
        inr (
          adds-by ms T ∙ r.0,
          record { earlier = r.1.earlier; later = r.1.later; split = r.1.split; refuses = adds-by r.1.earlier T ∙ r.1.refuses },
        )

    -- a method whose signature stands in the table, though not at its fixed index, where another one does
    pub displaced_refused : (ms : List ℕ) (T : List Entry) (m : ℕ) → Memᴰ m ms → eligible ws text m ≡ true → minimum_size abi abis ≤ length T
        → Displaced same abi abis T m
        → Turned m ms T
    unfolding entry_is_other methods_same
    displaced_refused ms T m i e l d =
        let f =
        found_among (methods_same same) (fixed_of same abi abis) (distance_of same abi abis) (signatures same abi compares abis) []
        (minimum_size abi abis) (fixed-below same abi abis) m T d.shown in
        let k =
        of-method (methods_same same) (fixed_of same abi abis) (distance_of same abi abis) (signatures same abi compares abis) []
        (minimum_size abi abis) (fixed-below same abi abis) m f.0 f.1.1 in
        let a = among-index T f.1.0 in
        let o =
        other-known (methods_same same) (fixed_of same abi abis) (distance_of same abi abis) (signatures same abi compares abis)
        (eligible ws text) (method_entry ws) (λ k. refl) (minimum_size abi abis) (fixed-below same abi abis) m (get_or T d.index empty) d.other in
        turned m ms T
        (elsewhere-adds (methods_same same) (fixed_of same abi abis) (distance_of same abi abis) (signatures same abi compares abis)
        (eligible ws text) (method_entry ws) (λ k. refl) (minimum_size abi abis) (fixed-below same abi abis) m e ms T i l
        (record {
          index = d.index;
          fixed_at = d.fixed_at;
          slot = a.0;
          method = k.0;
          known = ap (λ (x : Entry). x.method) a.1 ∙ k.1.0;
          of = k.1.1;
          holds = o.0;
          stored = o.1.0;
          other = o.1.1;
        }))

    -- ---- a class that relays the entries E

    module _ (E : List Entry) where
      before-is : relayed_before same abi abis E
          ≡ fold (step_before (methods_same same) (fixed_of same abi abis) (distance_of same abi abis))
          (replicate (minimum_size abi abis) empty) E
      unfolding relayed_before
      before-is = sym (steps_are same abi abis E (replicate (minimum_size abi abis) empty))

      loop_is : relayed same abi abis E
          ≡ relays (methods_same same) (fixed_of same abi abis) (distance_of same abi abis) E (replicate (minimum_size abi abis) empty) E
      loop_is = relayed_loop same abi compares abis E

      -- the method that row 11 refuses is of a signature that gave way
      pub eleven-moved : (ms : List ℕ) → add_methods same ws text abi abis ms (relayed same abi abis E) ≡ refused 11
          → (m : ℕ)
          × (RefusesAt same ws text abi abis (relayed same abi abis E) ms 11 m
          × ((eligible ws text m ≡ true) × GaveWay (methods_same same) (fixed_of same abi abis) (staying_of same abi abis E) E m))
      eleven-moved ms r =
          let a = refused-at ms (relayed same abi abis E) 11 r in
          let placed =
          adds-placed (methods_same same) (fixed_of same abi abis) (distance_of same abi abis) (signatures same abi compares abis)
          (eligible ws text) (method_entry ws) (λ m. refl)
          (Gave (methods_same same) (fixed_of same abi abis) (distance_of same abi abis) (signatures same abi compares abis) E
          (minimum_size abi abis) (fixed-below same abi abis))
          (gave_same (methods_same same) (fixed_of same abi abis) (distance_of same abi abis) (signatures same abi compares abis) E
          (minimum_size abi abis) (fixed-below same abi abis))
          a.1.earlier (relayed same abi abis E) a.1.table
          (sym (adds-by a.1.earlier (relayed same abi abis E)) ∙ a.1.added)
          (rw loop_is
          (relays-placed (methods_same same) (fixed_of same abi abis) (distance_of same abi abis) (signatures same abi compares abis) E
          (minimum_size abi abis) (fixed-below same abi abis))) in
          let g =
          eleven (methods_same same) (fixed_of same abi abis) (distance_of same abi abis) (signatures same abi compares abis)
          (eligible ws text) (method_entry ws) (λ m. refl)
          (Gave (methods_same same) (fixed_of same abi abis) (distance_of same abi abis) (signatures same abi compares abis) E
          (minimum_size abi abis) (fixed-below same abi abis))
          (gave_same (methods_same same) (fixed_of same abi abis) (distance_of same abi abis) (signatures same abi compares abis) E
          (minimum_size abi abis) (fixed-below same abi abis))
          a.0 a.1.table placed (sym (add-by a.0 a.1.table) ∙ a.1.refuses) in (
            a.0,
            (
              a.1,
              (
                g.0,
                subst (λ (staying : ℕ → Option ℕ). GaveWay (methods_same same) (fixed_of same abi abis) staying E a.0)
                    (holder-stays same abi abis E) g.1,
              ),
            ),
          )

      -- the relaying before never met row 11
      pub before-rows : (ms : List ℕ)
          → (add_methods same ws text abi abis ms (relayed_before same abi abis E) ≡ refused 12)
          ⊎ ((T : List Entry) × (add_methods same ws text abi abis ms (relayed_before same abi abis E) ≡ built T))
      before-rows ms =
          rw (
            before-is,
            adds-by ms (fold (step_before (methods_same same) (fixed_of same abi abis) (distance_of same abi abis))
                (replicate (minimum_size abi abis) empty) E),
          )
          (never-eleven (methods_same same) (fixed_of same abi abis) (distance_of same abi abis) (signatures same abi compares abis)
          (eligible ws text) (method_entry ws) (λ m. refl) (λ k. ⊥) (λ k m t x. x) ms
          (fold (step_before (methods_same same) (fixed_of same abi abis) (distance_of same abi abis))
          (replicate (minimum_size abi abis) empty) E)
          (before-placed (methods_same same) (fixed_of same abi abis) (distance_of same abi abis) (signatures same abi compares abis) E
          (minimum_size abi abis) (fixed-below same abi abis))
          (λ m x. x))

      -- no inherited signature is lost
      pub relayed-stands : (ms : List ℕ) (T : List Entry) (m : ℕ) → occurs (methods_same same) m E ≡ true
          → add_methods same ws text abi abis ms (relayed same abi abis E) ≡ built T → Stands same ws E T ms m
      relayed-stands ms T m o r =
          let w =
          adds-shown (methods_same same) (fixed_of same abi abis) (distance_of same abi abis) (signatures same abi compares abis)
          (eligible ws text) (method_entry ws) (λ k. refl) (minimum_size abi abis) (fixed-below same abi abis) m
          (last_of (methods_same same) m empty E) (λ k. Memᴰ k ms) ms (relayed same abi abis E) T (λ k i. i)
          (rw loop_is
          (relays-room (methods_same same) (fixed_of same abi abis) (distance_of same abi abis) (signatures same abi compares abis) E
          (minimum_size abi abis) (fixed-below same abi abis)))
          (sym (adds-by ms (relayed same abi abis E)) ∙ r)
          (rw loop_is
          (relays-shown (methods_same same) (fixed_of same abi abis) (distance_of same abi abis) (signatures same abi compares abis) E
          (minimum_size abi abis) (fixed-below same abi abis) m o (eligible ws text) (method_entry ws) (λ k. refl) (λ k. Memᴰ k ms))) in
          record {
            slot = w.slot;
            inside = known-below T w.slot w.method w.known;
            is = elim w.is [ inl e ↦ inl e | inr e ↦ inr (w.method, (e.0, (w.of, e.1))) ];
          }

      -- a class that redeclares the moved signature is refused by 11, or by 12 for an earlier method
      pub moved-refused : (ms : List ℕ) (m : ℕ) → Memᴰ m ms → eligible ws text m ≡ true
          → GaveWay (methods_same same) (fixed_of same abi abis) (staying_of same abi abis E) E m
          → Turned m ms (relayed same abi abis E)
      moved-refused ms m i e g =
          turned m ms (relayed same abi abis E)
          (elsewhere-adds (methods_same same) (fixed_of same abi abis) (distance_of same abi abis) (signatures same abi compares abis)
          (eligible ws text) (method_entry ws) (λ k. refl) (minimum_size abi abis) (fixed-below same abi abis) m e ms
          (relayed same abi abis E) i
          (rw loop_is
          (relays-room (methods_same same) (fixed_of same abi abis) (distance_of same abi abis) (signatures same abi compares abis) E
          (minimum_size abi abis) (fixed-below same abi abis)))
          (rw loop_is
          (gave_elsewhere (methods_same same) (fixed_of same abi abis) (distance_of same abi abis) (signatures same abi compares abis) E
          (minimum_size abi abis) (fixed-below same abi abis) m
          (subst⁻¹ (λ (staying : ℕ → Option ℕ). GaveWay (methods_same same) (fixed_of same abi abis) staying E m)
          (holder-stays same abi abis E) g)
          (eligible ws text) (method_entry ws) (λ k. refl))))

      pub twelve-before : (ms : List ℕ) → add_methods same ws text abi abis ms (relayed same abi abis E) ≡ refused 12
          → add_methods same ws text abi abis ms (relayed_before same abi abis E) ≡ refused 12
      twelve-before ms r =
          rw before-is
          (adds-by ms (fold (step_before (methods_same same) (fixed_of same abi abis) (distance_of same abi abis))
          (replicate (minimum_size abi abis) empty) E)
          ∙ twelve (methods_same same) (fixed_of same abi abis) (distance_of same abi abis) (signatures same abi compares abis)
          (eligible ws text)
          (method_entry ws) (λ m. refl) (minimum_size abi abis) (fixed-below same abi abis) ms
          (relays (methods_same same) (fixed_of same abi abis) (distance_of same abi abis) E
          (replicate (minimum_size abi abis) empty) E)
          (fold (step_before (methods_same same) (fixed_of same abi abis) (distance_of same abi abis))
          (replicate (minimum_size abi abis) empty) E)
          (relays-pair (methods_same same) (fixed_of same abi abis) (distance_of same abi abis) (signatures same abi compares abis) E
          (minimum_size abi abis) (fixed-below same abi abis) (eligible ws text) (method_entry ws) (λ m. refl))
          (sym (adds-by ms (relays (methods_same same) (fixed_of same abi abis) (distance_of same abi abis) E
          (replicate (minimum_size abi abis) empty) E)) ∙ (rw loop_is at r)))
