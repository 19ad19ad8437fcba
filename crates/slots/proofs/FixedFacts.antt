-- Signatures of methods and of slot records, what a chain's ABI classes fix, and Reading's second rule. What a class with methods fixes
-- is kept apart from what an array class fixes, which takes its parent's entries as they are. Assumes nothing.
use Rattle.std.proofs.Common.{rules, ◌≡◌, refl, sym, ap, ◌∙◌, ◌⊎◌, inl, inr, ◌≢◌, Bool, true, false, List, [], ℕ, ◌+◌, ◌-◌, ◌≤◌, ◌<◌, min, arith, eqb, Some, None}
use mathlib.Core.List.{Memᴰ}
use Rattle.words.specs.Lists.{find}
use Rattle.words.proofs.ListLaws.{by-found, find-member, find-passes, largest_member, not_found}
use Rattle.text.proofs.Laws.{same_refl}
use Rattle.class_sheet.specs.ClassSheet.{class_kind, method_name, method_descriptor}
use Rattle.abi_sheet.specs.AbiSheet.{abi_slot_name, abi_slot_descriptor, abi_class_table_size_plus_one}
use Rattle.linking.specs.Signature.{of_method, of_abi_slot, place_name, place_descriptor, by_bytes}
use Rattle.linking.specs.Chain.{own_methods, parent_of, chain, SameSignature, own_method}
use Rattle.linking.specs.Abi.{abi_slots, slot_index, vtable_index, slot_at, class_size, class_abi, chain_abi, fixed_index, minimum_size}
use Rattle.linking.specs.Vtable.{own_fixed, find_by_index, fixed_of}
use Rattle.linking.proofs.Comparing.{parts}
use Rattle.linking.proofs.ChainLaws.{along-up, own-method-member, own-method-is}
use Rattle.linking.proofs.AbiLaws.{chain-abi-whole, slot-at-is, minimum_size-member}
use Rattle.slots.specs.Slots.{ChainSlot}
use Rattle.slots.specs.Made.{OneSlotIndex}
use Rattle.slots.proofs.ListFacts.{FoundBy, found-same, in_none, find-misses, found_in, found-misses, all_found_lem, found-of-all}
use Rattle.slots.proofs.ChainFacts.{chain-cases}
use Rattle.slots.proofs.PlaceFacts.{Signature, same_parts, OneIndex}

-- ---- signatures

unfoldable pub method_signature : List ℕ → List ℕ → ℕ → Signature
method_signature ws text m = record { name = method_name ws text m; descriptor = method_descriptor ws text m }

unfoldable pub slot_signature : List ℕ → List ℕ → ℕ → Signature
slot_signature abi labels s = record { name = abi_slot_name abi labels s; descriptor = abi_slot_descriptor abi labels s }

module _ (ws text : List ℕ) where
  pub same_signature_lem : {m k : ℕ} → SameSignature ws text m k → method_signature ws text m ≡ method_signature ws text k
  unfolding method_signature
  same_signature_lem h = cc

  pub signature-same : {m k : ℕ} → method_signature ws text m ≡ method_signature ws text k → SameSignature ws text m k
  unfolding method_signature
  signature-same e = record { name = ap (λ (s : Signature). s.name) e; descriptor = ap (λ (s : Signature). s.descriptor) e }

module _ (ws text abi labels : List ℕ) where
  -- by the bytes of their parts
  pub method-same : (m k : ℕ) → by_bytes ws text abi labels (of_method m) (of_method k) ≡ true
      → method_signature ws text m ≡ method_signature ws text k
  unfolding place_name place_descriptor method_signature
  method-same m k h = let p = parts ws text abi labels (of_method m) (of_method k) h in same_parts p.0 p.1

  pub method-other : (m k : ℕ) → by_bytes ws text abi labels (of_method m) (of_method k) ≡ false
      → method_signature ws text m ≡ method_signature ws text k → ⊥
  unfolding by_bytes place_name place_descriptor method_signature
  method-other m k h e = search (rules, same_refl)

  method-slot : (m s : ℕ) → by_bytes ws text abi labels (of_method m) (of_abi_slot s) ≡ true
      → method_signature ws text m ≡ slot_signature abi labels s
  unfolding place_name place_descriptor slot_signature method_signature
  method-slot m s h = let p = parts ws text abi labels (of_method m) (of_abi_slot s) h in same_parts p.0 p.1

  slot_same : (s k : ℕ) → by_bytes ws text abi labels (of_abi_slot s) (of_method k) ≡ true
      → slot_signature abi labels s ≡ method_signature ws text k
  unfolding place_name place_descriptor slot_signature method_signature
  slot_same s k h = let p = parts ws text abi labels (of_abi_slot s) (of_method k) h in same_parts p.0 p.1

  slot-other : (s k : ℕ) → by_bytes ws text abi labels (of_abi_slot s) (of_method k) ≡ false
      → slot_signature abi labels s ≡ method_signature ws text k → ⊥
  unfolding by_bytes place_name place_descriptor slot_signature method_signature
  slot-other s k h e = search (rules, same_refl)

  -- ---- what the chain of class c fixes, and what its classes with methods fix

  pub record Fixes (c : ℕ) (s : Signature) (i : ℕ) : Type 0 where
    pub slot : ℕ
    pub along : ChainSlot ws text abi labels c slot
    pub is : slot_signature abi labels slot ≡ s
    pub index : slot_index abi slot ≡ i

  pub record Live (c : ℕ) (s : Signature) (i : ℕ) : Type 0 where
    pub fixes : Fixes c s i
    pub methods : class_kind ws fixes.along.class ≢ 2

  pub live_fixes : (c : ℕ) (s : Signature) (i : ℕ) → Live c s i → Fixes c s i
  live_fixes c s i l = l.fixes

  -- "each signature (name and descriptor) has one index"
  pub fixes-once : {c : ℕ} → OneSlotIndex ws text abi labels c → OneIndex (Fixes c)
  unfolding slot_signature
  fixes-once o s i j f g =
      let e = f.is ∙ sym g.is in
      sym f.index ∙ o f.slot g.slot f.along g.along (ap (λ (z : Signature). z.name) e) (ap (λ (z : Signature). z.descriptor) e)
      ∙ g.index

  -- a class that is an array, or has no ABI entry, adds nothing
  pub live_up : (c : ℕ) → 0 < c → (class_kind ws c ≡ 2) ⊎ (class_abi ws text abi labels c ≡ None)
      → (s : Signature) (i : ℕ) → Live c s i → Live (parent_of ws c) s i
  live_up c h idle s i l = go l.fixes.along.class refl (chain-cases ws c h l.fixes.along.along)
    where
      none : (d : ℕ) → l.fixes.along.class ≡ d → d ≡ c → (class_kind ws c ≡ 2) ⊎ (class_abi ws text abi labels c ≡ None) → ⊥
      none d e f (inl k) = l.methods (rw (e, f) k)
      none d e f (inr k) = not_found (sym k ∙ (rw (e, f) at l.fixes.along.named))

      go : (d : ℕ) → l.fixes.along.class ≡ d → (d ≡ c) ⊎ Memᴰ d (chain ws (parent_of ws c)) → Live (parent_of ws c) s i
      go d e (inl f) = absurd (none d e f idle)
      go d e (inr j) = record {
        fixes = record {
          slot = l.fixes.slot;
          along = record {
            class = l.fixes.along.class;
            along = rw e j;
            entry = l.fixes.along.entry;
            named = l.fixes.along.named;
            own = l.fixes.along.own;
          };
          is = l.fixes.is;
          index = l.fixes.index;
        };
        methods = l.methods;
      }

  -- ---- a signature's fixed index, along a chain that is not cut

  module _ (c : ℕ) (h : c ≤ 64) where
    entry-along : {a : ℕ} → Memᴰ a (chain_abi ws text abi labels c) → FoundBy (class_abi ws text abi labels) (chain ws c) a
    entry-along i = found-of-all (class_abi ws text abi labels) (chain ws c) (rw (chain-abi-whole ws text abi labels c h) at i)

    along-entry : {d a : ℕ} → Memᴰ d (chain ws c) → class_abi ws text abi labels d ≡ Some a → Memᴰ a (chain_abi ws text abi labels c)
    along-entry i e = rw (chain-abi-whole ws text abi labels c h) (all_found_lem (class_abi ws text abi labels) i e)

    pub fixed-some : (m i : ℕ) → fixed_of (by_bytes ws text abi labels) abi (chain_abi ws text abi labels c) m ≡ Some i → Fixes c (method_signature ws text m) i
    unfolding fixed_of fixed_index vtable_index
    fixed-some m i e =
        let r = found_in (vtable_index (by_bytes ws text abi labels) abi (of_method m)) (chain_abi ws text abi labels c) i e in
        let k = entry-along r.along in
        let test : ℕ → Bool = λ s. by_bytes ws text abi labels (of_abi_slot s) (of_method m) in
        by-found (find test (abi_slots abi r.element))
        (λ s q. record {
          slot = s;
          along = record {
            class = k.element;
            along = k.along;
            entry = r.element;
            named = k.finds;
            own = find-member test (abi_slots abi r.element) s q;
          };
          is = slot_same s m (find-passes test (abi_slots abi r.element) s q);
          index = found-same (rw q at r.finds);
        })
        (λ q. not_found (rw q at r.finds))

    pub fixed-none : (m i : ℕ) → fixed_of (by_bytes ws text abi labels) abi (chain_abi ws text abi labels c) m ≡ None → Fixes c (method_signature ws text m) i
        → ⊥
    unfolding fixed_of fixed_index vtable_index
    fixed-none m i e f =
        let a = f.along.entry in
        let test : ℕ → Bool = λ s. by_bytes ws text abi labels (of_abi_slot s) (of_method m) in
        let q =
        found-misses (vtable_index (by_bytes ws text abi labels) abi (of_method m)) (along-entry f.along.along f.along.named) e in
        by-found (find test (abi_slots abi a))
        (λ s r. not_found {m = slot_index abi s} (sym q ∙ rw r refl))
        (λ r. slot-other f.slot m (find-misses test f.along.own r) f.is)

    -- the least size has room for it
    pub fixed-room : (s : Signature) (i : ℕ) → Fixes c s i → i < minimum_size abi (chain_abi ws text abi labels c)
    unfolding class_size
    fixed-room s i f =
        let a = f.along.entry in
        let l =
        largest_member (λ (k : ℕ). slot_index abi k + 1) (abi_slots abi a) (min (abi_class_table_size_plus_one abi a) 1025 - 1) f.slot
        f.along.own in
        let r =
        minimum_size-member abi (chain_abi ws text abi labels c) a (along-entry f.along.along f.along.named) in
        let e = f.index in
        omega arith

  -- ---- Reading's second rule: "the first chain class whose ABI entry fixes that index and which itself has a method of that signature"

  own_fixed_live : {c d i m : ℕ} → Memᴰ d (chain ws c) → (class_kind ws d ≡ 2 → own_methods ws d ≡ [])
      → own_fixed (by_bytes ws text abi labels) ws text abi labels i d ≡ Some m
      → Live c (method_signature ws text m) i
  unfolding own_fixed
  own_fixed_live {c} {d} {i} {m} along bare e =
      by-found (class_abi ws text abi labels d)
      (λ a q.
      by-found (slot_at abi i a)
      (λ s r. fixed a s q r (rw (q, r) at e))
      (λ r. not_found (rw (q, r) at e)))
      (λ q. not_found (rw q at e))
    where
      fixed : (a s : ℕ) → class_abi ws text abi labels d ≡ Some a → slot_at abi i a ≡ Some s
          → own_method (by_bytes ws text abi labels) ws (of_abi_slot s) d ≡ Some m → Live c (method_signature ws text m) i
      fixed a s q r f = record {
        fixes = record {
          slot = s;
          along = record {
            class = d;
            along = along;
            entry = a;
            named = q;
            own = find-member (λ k. eqb (slot_index abi k) i) (abi_slots abi a) s (unfold slot_at in r);
          };
          is = sym (method-slot m s (own-method-is (by_bytes ws text abi labels) ws (of_abi_slot s) d m f));
          index = slot-at-is abi a i s r;
        };
        methods = λ k. in_none (bare k) (own-method-member (by_bytes ws text abi labels) ws (of_abi_slot s) d m f);
      }

  pub index_live : (c i m : ℕ) → ((d : ℕ) → Memᴰ d (chain ws c) → class_kind ws d ≡ 2 → own_methods ws d ≡ [])
      → find_by_index (by_bytes ws text abi labels) ws text abi labels c i ≡ Some m
      → Live c (method_signature ws text m) i
  unfolding find_by_index
  index_live c i m bare e =
      let r =
      found_in (own_fixed (by_bytes ws text abi labels) ws text abi labels i) (chain ws c) m e in own_fixed_live r.along (bare r.element r.along) r.finds

  -- a class without an ABI entry reads what its parent does
  pub index-parent : (c i : ℕ) → 0 < c → class_abi ws text abi labels c ≡ None
      → find_by_index (by_bytes ws text abi labels) ws text abi labels c i ≡ find_by_index (by_bytes ws text abi labels) ws text abi labels (parent_of ws c) i
  unfolding find_by_index own_fixed
  index-parent c i h e = search (rules, along-up)
