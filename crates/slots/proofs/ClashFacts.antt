-- Under an orderly ABI sheet no two inherited signatures have one fixed index: one index has one signature. Assumes nothing.
use mathlib.Core.Path.{◌≡◌, refl, sym, ap, ◌∙◌}
use mathlib.Core.Bool.{Bool, true, false}
use mathlib.Core.List.{List, [], ◌∷◌, Memᴰ}
use mathlib.Core.Logic.{inl, inr}
use Prim.Native.Nat.{ℕ, zero, suc, ◌≤◌, ◌<◌}
use native.Mathlib.Omega.{arith}
use lib.Dec.{eqb}
use borrow.Author.Tests.{eqb-true, eqb-false}
use Rattle.words.specs.Lists.{some}
use Rattle.std.specs.Prelude.{Some}
use Rattle.words.proofs.Bools.{by}
use Rattle.words.proofs.ListLaws.{by-found}
use Rattle.text.proofs.Laws.{same_refl}
use Rattle.class_sheet.specs.ClassSheet.{method_name, method_descriptor}
use Rattle.linking.specs.Signature.{methods_same, place_name, place_descriptor, by_bytes}
use Rattle.linking.specs.Chain.{parent_of, chain}
use Rattle.linking.specs.Abi.{chain_abi}
use Rattle.linking.specs.Vtable.{Entry, fixed_of}
use Rattle.linking.specs.Before.{rivals, clash}
use Rattle.linking.proofs.ChainLaws.{parent_below, chain-none}
use Rattle.slots.specs.Slots.{Orderly}
use Rattle.slots.specs.Made.{inherited_from, Calm}
use Rattle.slots.proofs.ListFacts.{in_none}
use Rattle.slots.proofs.ChainFacts.{chain-cases, slot-up}
use Rattle.slots.proofs.PlaceFacts.{Signature, same_parts}
use Rattle.slots.proofs.FixedFacts.{method_signature, slot_signature, Fixes, fixed-some}

no_pair : (p : Entry → Bool) (es : List Entry) → ((e : Entry) → p e ≡ false) → some p es ≡ false
unfolding some
no_pair p [] h = refl
no_pair p (e ∷ es) h = rw (h e) (no_pair p es h)

module _ (ws text abi labels : List ℕ) where
  pub signature-method : (m k : ℕ) → method_signature ws text m ≡ method_signature ws text k → methods_same (by_bytes ws text abi labels) m k ≡ true
  unfolding method_signature methods_same by_bytes place_name place_descriptor
  signature-method m k e =
      let n : method_name ws text m ≡ method_name ws text k = ap (λ (s : Signature). s.name) e in
      let d : method_descriptor ws text m ≡ method_descriptor ws text k = ap (λ (s : Signature). s.descriptor) e in
      rw (n, d, same_refl (method_name ws text k)) (same_refl (method_descriptor ws text k))

  module _ (c : ℕ) (within : c ≤ 64) (o : Orderly ws text abi labels c) where
    one_signature_lem : (s z : Signature) (i : ℕ) → Fixes ws text abi labels c s i → Fixes ws text abi labels c z i → s ≡ z
    unfolding slot_signature
    one_signature_lem s z i f g =
        let e = f.index ∙ sym g.index in
        sym f.is
        ∙ same_parts (o.one_name f.slot g.slot f.along g.along e) (o.one_descriptor f.slot g.slot f.along g.along e)
        ∙ g.is

    index_same : (m k i : ℕ) → fixed_of (by_bytes ws text abi labels) abi (chain_abi ws text abi labels c) m ≡ Some i
        → fixed_of (by_bytes ws text abi labels) abi (chain_abi ws text abi labels c) k ≡ Some i → methods_same (by_bytes ws text abi labels) m k ≡ true
    index_same m k i q r =
        signature-method m k
        (one_signature_lem (method_signature ws text m) (method_signature ws text k) i (fixed-some ws text abi labels c within m i q)
        (fixed-some ws text abi labels c within k i r))

    no_rivals : (e f : Entry)
        → rivals (methods_same (by_bytes ws text abi labels)) (fixed_of (by_bytes ws text abi labels) abi (chain_abi ws text abi labels c)) e f ≡ false
    unfolding rivals
    no_rivals e f =
        by-found e.method
        (λ m q.
        by-found f.method
        (λ k r.
        by-found (fixed_of (by_bytes ws text abi labels) abi (chain_abi ws text abi labels c) m)
        (λ i s.
        by-found (fixed_of (by_bytes ws text abi labels) abi (chain_abi ws text abi labels c) k)
        (λ j t.
        by (eqb i j)
        (λ b. let z = eqb-true i j b in rw (q, r, s, t, b, index_same m k j (s ∙ ap Some z) t) refl)
        (λ b. rw (q, r, s, t, b) refl))
        (λ t. rw (q, r, s, t) refl))
        (λ s. rw (q, r, s) refl))
        (λ r. rw (q, r) refl))
        (λ q. rw q refl)

    pub orderly_no_clash : (E : List Entry)
        → clash (methods_same (by_bytes ws text abi labels)) (fixed_of (by_bytes ws text abi labels) abi (chain_abi ws text abi labels c)) E ≡ false
    unfolding clash
    orderly_no_clash E =
        no_pair
        (λ e. some (rivals (methods_same (by_bytes ws text abi labels)) (fixed_of (by_bytes ws text abi labels) abi (chain_abi ws text abi labels c)) e) E) E
        (λ e. no_pair (rivals (methods_same (by_bytes ws text abi labels)) (fixed_of (by_bytes ws text abi labels) abi (chain_abi ws text abi labels c)) e) E
        (no_rivals e))

  -- ---- so of each class of the chain

  orderly-up : (c : ℕ) → 0 < c → Orderly ws text abi labels c → Orderly ws text abi labels (parent_of ws c)
  orderly-up c h o = record {
    one_index = λ s z i j. o.one_index s z (slot-up ws text abi labels c h i) (slot-up ws text abi labels c h j);
    one_name = λ s z i j. o.one_name s z (slot-up ws text abi labels c h i) (slot-up ws text abi labels c h j);
    one_descriptor = λ s z i j. o.one_descriptor s z (slot-up ws text abi labels c h i) (slot-up ws text abi labels c h j);
  }

  pub orderly-calm : (tables : ℕ → List ℕ) (bound c : ℕ) → c ≤ bound → c ≤ 64 → Orderly ws text abi labels c
      → (d : ℕ) → Memᴰ d (chain ws c) → Calm ws text abi labels tables d
  orderly-calm tables zero c b within o d i = in_none (chain-none ws c (omega arith)) i
  orderly-calm tables (suc bound) c b within o d i =
      by (eqb c 0)
      (λ z. in_none (chain-none ws c (eqb-true c 0 z)) i)
      (λ n.
      let z = eqb-false c 0 n in
      let h : 0 < c = omega arith in
      let f = parent_below ws c h in
      elim (chain-cases ws c h i) [
        | inl e ↦ rw e (orderly_no_clash c within o (inherited_from ws text abi labels tables c))
        | inr j ↦ orderly-calm tables bound (parent_of ws c) (omega arith) (omega arith) (orderly-up c h o) d j
      ])
