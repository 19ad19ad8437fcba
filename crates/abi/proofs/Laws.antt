-- Laws of the ABI lookups as the code makes them: a chain of ABI classes that grows, and what indices and sizes are at most.
-- Assumes nothing.
use mathlib.Core.Path.{◌≡◌, refl, sym, ap, ◌∙◌}
use mathlib.Core.Bool.{Bool, true, false, true≢false}
use mathlib.Core.List.{List, [], ◌∷◌, ◌++◌, Memᴰ, append_assoc, append-nil}
use Prim.Native.Nat.{ℕ, zero, suc, ◌+◌, ◌-◌, ◌≤◌, ◌<◌, min}
use native.Mathlib.Omega.{arith}
use native.Mathlib.Numerals.{add-one}
use lib.ListN.{length, get_or, take, drop, length-take, drop_of_length-le}
use lib.Seq.{take_all, drop-cons}
use lib.Dec.{eqb}
use Rattle.class_sheet.specs.ClassSheet.{class_limit}
use Rattle.words.specs.Lists.{cons_found, all_found}
use Rattle.std.specs.Prelude.{Option, Some, None}
use Rattle.std.specs.Option.{is_some}
use Rattle.abi_sheet.specs.AbiSheet.{abi_class_table_size_plus_one, abi_class_first_slot, abi_class_slot_count, abi_slot_limit}
use Rattle.linking.specs.Signature.{Same, Place}
use Rattle.linking.specs.Chain.{list_count, parent_of, chain}
use Rattle.linking.specs.Abi.{abi_slots, slot_index, slot_at, vtable_index, class_size, fixer_distance, minimum_size}
use Rattle.words.proofs.ListLaws.{by-found, numbers-within, find-member, largest_room}
use Rattle.linking.proofs.ChainLaws.{chain_more, all_none}

-- ---- a list that is cut

-- cut before more is put after it, or only at the end
take-cut {ℓ} : {A : Type ℓ} (k : ℕ) (l r : List A) → take k (take k l ++ r) ≡ take k (l ++ r)
take-cut zero l r = refl
take-cut (suc k) [] r = refl
take-cut {A = A} (suc k) (x ∷ l) r = ap (λ (t : List A). x ∷ t) (take-cut k l r)

-- at most 64 are not cut
pub push_none : {xs : List ℕ} → length xs ≤ class_limit → xs ≡ take class_limit (xs ++ [])
push_none {xs = xs} h = rw (append-nil xs) (sym (take_all class_limit xs h))

pub pushed-few : (xs : List ℕ) {ys : List ℕ} → ys ≡ take class_limit xs → length ys ≤ class_limit
pushed-few xs e = rw e (omega (arith, length-take class_limit xs))

-- the ABI classes of a chain after those so far: a class's turn, and the chain's end
module _ (f : ℕ → Option ℕ) (ws : List ℕ) (c : ℕ) where
  pub push_turn : (x : List ℕ) {p : List ℕ} {q : ℕ} {o : Option ℕ} → 0 < c → o ≡ f c → q ≡ parent_of ws c → p ≡ take class_limit (x ++ cons_found o [])
      → take class_limit (p ++ all_found f (chain ws q)) ≡ take class_limit (x ++ all_found f (chain ws c))
  unfolding all_found
  push_turn x {q = q} {o = o} h e g k =
      let y : List ℕ = all_found f (chain ws q) in
      rw (k, chain_more ws c h, ← e, ← g)
      (take-cut class_limit (x ++ cons_found o []) y
      ∙ ap (take class_limit) (append_assoc x (cons_found o []) y ∙ ap (λ (l : List ℕ). x ++ l) (found-then o y)))
    where
      found-then : (o : Option ℕ) (y : List ℕ) → cons_found o [] ++ y ≡ cons_found o y
      found-then (Some a) y = refl
      found-then None y = refl

  pub push_end : {xs : List ℕ} → length xs ≤ class_limit → c ≡ 0 → xs ≡ take class_limit (xs ++ all_found f (chain ws c))
  push_end h z = rw (all_none f ws c z) (push_none h)

-- ---- what is found

module _ (abi : List ℕ) (a : ℕ) where
  abi-slot-room : (s : ℕ) → Memᴰ s (abi_slots abi a) → s < abi_slot_limit
  unfolding abi_slots
  abi-slot-room s h =
      omega (arith, numbers-within (abi_class_first_slot abi a) (list_count (abi_class_first_slot abi a) (abi_class_slot_count abi a) abi_slot_limit) s h)

  pub slot-at-room : (i s : ℕ) → slot_at abi i a ≡ Some s → s < abi_slot_limit
  unfolding slot_at
  slot-at-room i s e = abi-slot-room s (find-member (λ k. eqb (slot_index abi k) i) (abi_slots abi a) s e)

-- ---- what indices and sizes are at most

slot-index-room : (abi : List ℕ) (s : ℕ) → slot_index abi s ≤ 1023
unfolding slot_index
slot-index-room abi s = omega arith

class-size-room : (abi : List ℕ) (a : ℕ) → class_size abi a ≤ 1024
unfolding class_size
class-size-room abi a =
    largest_room (λ s. slot_index abi s + 1) (abi_slots abi a) (min (abi_class_table_size_plus_one abi a) 1025 - 1) 1024 (omega arith)
    (λ s. omega (arith, slot-index-room abi s))

pub minimum_size-room : (abi abis : List ℕ) → minimum_size abi abis ≤ 1024
unfolding minimum_size
minimum_size-room abi abis = largest_room (class_size abi) abis 0 1024 (omega arith) (class-size-room abi)

-- ---- how far up the chain an index comes from, counted from the i-th ABI class on

module _ (same : Same) (abi : List ℕ) (p : Place) (abis : List ℕ) where
  unfoldable pub distance_from : ℕ → ℕ
  distance_from i = i + fixer_distance same abi (drop i abis) p

  pub distance-start : distance_from 0 ≡ fixer_distance same abi abis p
  unfolding distance_from
  distance-start = omega arith

  module _ (i : ℕ) {r : Option ℕ} (within : i < length abis) (finds : r ≡ vtable_index same abi p (get_or abis i 0)) where
    pub distance-hit : {b : Bool} → b ≡ is_some r → b ≡ true → i ≡ distance_from i
    unfolding distance_from fixer_distance
    distance-hit s t =
        by-found r (λ k e. rw (drop-cons abis i 0 within, ← finds, e) (omega arith)) (λ e. absurd (true≢false (sym t ∙ s ∙ ap is_some e)))

    pub distance-miss : {b : Bool} → b ≡ is_some r → b ≡ false → distance_from (i + 1) ≡ distance_from i
    unfolding distance_from fixer_distance
    distance-miss s t =
        by-found r (λ k e. absurd (true≢false (sym (ap is_some e) ∙ sym s ∙ t))) (λ e. rw (drop-cons abis i 0 within, ← finds, e, add-one) (omega arith))

  pub distance-end : (i : ℕ) → i ≤ length abis → length abis ≤ i → length abis ≡ distance_from i
  unfolding distance_from fixer_distance
  distance-end i h l = rw (drop_of_length-le abis l) (omega arith)
