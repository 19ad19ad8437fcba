-- `relayed` is what the loop makes that goes entry by entry (`relays`), where the comparison of signatures is an equivalence: the minimum size has room for
-- every fixed index, and each index comes from one of the chain's ABI classes. Assumes nothing.
use mathlib.Core.Path.{◌≡◌, refl, sym, ap, ◌∙◌, fun_ext}
use mathlib.Core.Bool.{Bool}
use mathlib.Core.List.{List, [], ◌∷◌, Memᴰ}
use Prim.Native.Nat.{ℕ, ◌+◌, ◌-◌, ◌≤◌, ◌<◌, min}
use native.Mathlib.Omega.{arith}
use lib.ListN.{length, replicate, length-replicate}
use Rattle.words.specs.Lists.{find, first_found}
use Rattle.std.specs.Prelude.{Option, Some}
use Rattle.words.proofs.ListLaws.{by-found, find-member, largest_member}
use Rattle.abi_sheet.specs.AbiSheet.{abi_class_table_size_plus_one}
use Rattle.linking.specs.Signature.{Same, of_method, of_abi_slot, methods_same}
use Rattle.linking.specs.Abi.{abi_slots, slot_index, vtable_index, class_size, fixed_index, fixer_distance, minimum_size}
use Rattle.linking.specs.Vtable.{Entry, empty, last_of, laid_out, fixed_of, distance_of, staying_of, relayed}
use Rattle.linking.specs.Relays.{Signatures, holder, relays}
use Rattle.linking.proofs.AbiLaws.{minimum_size-member}
use Rattle.linking.proofs.Comparing.{Compares, fixed-alike, distance-alike}
use Rattle.linking.proofs.Relaying.{Among, found-same, not_found}
use Rattle.linking.proofs.Relayed.{relays-laid_out, nothing_lost, relays-length}
use Rattle.linking.proofs.Nearest.{holder-nearest}

-- the element that found it
found_in : (f : ℕ → Option ℕ) (xs : List ℕ) (n : ℕ) → first_found f xs ≡ Some n → (x : ℕ) × (Memᴰ x xs × (f x ≡ Some n))
unfolding first_found
found_in f [] n e = not_found e
found_in f (x ∷ xs) n e =
    by-found (f x) (λ k q. (x, (Memᴰ.head refl, q ∙ (rw q at e))))
    (λ q. let r = found_in f xs n (rw q at e) in (r.0, (Memᴰ.tail r.1.0, r.1.1)))

module _ (same : Same) (abi : List ℕ) where
  -- ---- indices: the minimum size has room for each, and it comes from one of the ABI classes

  pub fixed-below : (abis : List ℕ) (m i : ℕ) → fixed_of same abi abis m ≡ Some i → i < minimum_size abi abis
  unfolding fixed_of fixed_index vtable_index class_size
  fixed-below abis m i q =
      let r = found_in (vtable_index same abi (of_method m)) abis i q in
      let test : ℕ → Bool = λ z. same (of_abi_slot z) (of_method m) in
      by-found (find test (abi_slots abi r.0))
      (λ z e.
      let x : slot_index abi z ≡ i = found-same (rw e at r.1.1) in
      let l =
      largest_member (λ (k : ℕ). slot_index abi k + 1) (abi_slots abi r.0) (min (abi_class_table_size_plus_one abi r.0) 1025 - 1) z
      (find-member test (abi_slots abi r.0) z e) in
      let g = minimum_size-member abi abis r.0 r.1.0 in
      omega arith)
      (λ e. not_found (rw e at r.1.1))

  near : (abis : List ℕ) (m i : ℕ) → fixed_of same abi abis m ≡ Some i → distance_of same abi abis m < length abis
  unfolding fixed_of fixed_index first_found distance_of fixer_distance
  near [] m i q = not_found q
  near (b ∷ abis) m i q =
      by-found (vtable_index same abi (of_method m) b)
      (λ k r. rw r (omega arith))
      (λ r. let l = near abis m i (rw r at q) in rw r (omega arith))

  -- the method that holds an index is of the signature that stays
  pub holder-stays : (abis : List ℕ) (E : List Entry) → holder (fixed_of same abi abis) (distance_of same abi abis) E ≡ staying_of same abi abis E
  unfolding staying_of
  holder-stays abis E =
      fun_ext (λ i. holder-nearest (fixed_of same abi abis) (distance_of same abi abis) (length abis) (near abis) i E)

-- ---- the loop

module _ (same : Same) (abi : List ℕ) (compares : Compares same) where
  pub signatures : (abis : List ℕ) → Signatures (methods_same same) (fixed_of same abi abis) (distance_of same abi abis)
  unfolding methods_same fixed_of distance_of
  signatures abis = record {
    same_self = λ m. compares.self (of_method m);
    same_sym = λ m k t. compares.sym (of_method m) (of_method k) t;
    same_trans = λ m k l t u. compares.trans (of_method m) (of_method k) (of_method l) t u;
    same_index = λ m k t. fixed-alike same compares (of_method m) (of_method k) t abi abis;
    same_distance = λ m k t. distance-alike same compares (of_method m) (of_method k) t abi abis;
  }

  module _ (abis : List ℕ) (E : List Entry) where
    pub relayed_loop : relayed same abi abis E
        ≡ relays (methods_same same) (fixed_of same abi abis) (distance_of same abi abis) E (replicate (minimum_size abi abis) empty) E
    unfolding relayed
    relayed_loop =
        ap (λ (staying : ℕ → Option ℕ). laid_out (methods_same same) (fixed_of same abi abis) staying E (minimum_size abi abis))
        (sym (holder-stays same abi abis E))
        ∙ sym (relays-laid_out (methods_same same) (fixed_of same abi abis) (distance_of same abi abis) E (signatures abis)
        (minimum_size abi abis) (fixed-below same abi abis))

    -- of each known inherited entry's signature the last entry is in the table
    pub relayed-keeps : {e : Entry} (m : ℕ) → Among e E → e.method ≡ Some m
        → Among (last_of (methods_same same) m empty E) (relayed same abi abis E)
    relayed-keeps m a q =
        rw relayed_loop
        (nothing_lost (methods_same same) (fixed_of same abi abis) (distance_of same abi abis) E (signatures abis)
        (minimum_size abi abis) (fixed-below same abi abis) m a q)

    pub relayed-length : length (relayed same abi abis E) ≤ minimum_size abi abis + length E
    relayed-length =
        let a =
        relays-length (methods_same same) (fixed_of same abi abis) (distance_of same abi abis) E E
        (replicate (minimum_size abi abis) empty) in
        rw (relayed_loop) (rw (length-replicate (minimum_size abi abis) empty) at a)
