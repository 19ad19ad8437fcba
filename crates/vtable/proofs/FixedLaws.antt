-- Laws of the view: what ABI slots and classes add to it, one after the other, and that it has each signature's fixed index. Assumes nothing.
use mathlib.Core.Path.{◌≡◌, refl, sym, ap, ap₂, ◌∙◌}
use mathlib.Core.Bool.{Bool, true, false, not, cond, true≢false}
use mathlib.Core.List.{List, [], ◌∷◌}
use Prim.Native.Nat.{ℕ, ◌+◌, ◌<◌}
use native.Mathlib.Omega.{arith}
use native.Mathlib.Numerals.{add-one}
use lib.ListN.{length, get_or, set, drop, replicate}
use lib.Seq.{get_or-set_same, get_or-set_other, drop-cons}
use lib.Dec.{eqb}
use borrow.Author.Tests.{eqb-true, eqb-false, eq-eqb}
use Rattle.std.specs.Prelude.{Option, Some, None}
use Rattle.std.specs.Option.{option_or, option_map, is_some}
use Rattle.words.specs.Lists.{find, first_found}
use Rattle.words.proofs.Bools.{by}
use Rattle.words.proofs.Lists.{zeros}
use Rattle.words.proofs.ListLaws.{by-found}
use Rattle.class_sheet.specs.ClassSheet.{method_limit}
use Rattle.abi_sheet.specs.AbiSheet.{abi_class_first_slot, abi_class_slot_count, abi_slot_limit}
use Rattle.linking.specs.Signature.{place_number, by_numbers}
use Rattle.linking.specs.Chain.{list_count}
use Rattle.linking.specs.Abi.{abi_slots, slot_index, vtable_index, fixed_index}
use Rattle.linking.specs.Vtable.{fixed_of}
use Rattle.reading.specs.Arrays.{mark_of, method_of}
use Rattle.reading.proofs.ArrayLaws.{method-back, no_method}
use Rattle.vtable.specs.Relay.{found_at}
use Rattle.vtable.specs.Fixed.{slot_fixes, chain_fixes, Adds}
use Rattle.vtable.proofs.AddLaws.{left, left_start}

or_none : (o : Option ℕ) → option_or o None ≡ o
or_none (Some k) = refl
or_none None = refl

or_then : (a b c : Option ℕ) → option_or (option_or a b) c ≡ option_or a (option_or b c)
or_then (Some k) b c = refl
or_then None b c = refl

-- ---- one ABI slot

module _ (ns abi : List ℕ) (s : ℕ) (v : List ℕ) {n g : ℕ} {o : Option ℕ} {b : Bool} (number : n ≡ get_or ns (method_limit + s) 0) (got : g ≡ get_or v n 0)
    (held : o ≡ method_of g) (none : is_some o ≡ not b) where
  pub slot_kept : b ≡ false → Adds (slot_fixes ns abi s) v v
  unfolding slot_fixes
  slot_kept q = record {
    each = λ x l.
        by (eqb n x)
        (λ t. let z = eqb-true n x t in
        by-found o (λ k e. rw (← z, ← got, ← held, e) refl) (λ e. absurd (true≢false (sym (none ∙ ap not q) ∙ ap is_some e))))
        (λ t. rw (← number, t) (sym (or_none (found_at v x))));
  }

  pub slot_added : {i k : ℕ} {w : List ℕ} → length v ≡ 1024 → b ≡ true → i ≡ slot_index abi s → k ≡ mark_of (Some i) → w ≡ set v n k → Adds (slot_fixes ns abi s) v w
  unfolding slot_fixes slot_index
  slot_added {i = i} {k = k} h q e m u = record {
    each = λ x l.
        by (eqb n x)
        (λ t. let z = eqb-true n x t in
        by-found o (λ j y. absurd (true≢false (sym (ap is_some y) ∙ none ∙ ap not q)))
        (λ y. rw (u, ← z, get_or-set_same v n k 0 (omega arith), m, method-back i (omega arith), ← got, ← held, y, ← number, eq-eqb n n refl, e) refl))
        (λ t. let z = eqb-false n x t in
        rw (u, get_or-set_other v n x k 0 (λ y. z (sym y)), ← number, t) (sym (or_none (found_at v x))));
  }

-- ---- one element after the other: the rest adds to the view so far what all of them add to the first one

module _ (f : ℕ → ℕ → Option ℕ) (all u : List ℕ) where
  pub record Still (rest v : List ℕ) : Type 0 where
    pub each : (x : ℕ) → x < 1024 → option_or (found_at v x) (first_found (λ a. f a x) rest) ≡ option_or (found_at u x) (first_found (λ a. f a x) all)

  pub still_start : {rest : List ℕ} → rest ≡ all → Still rest u
  still_start e = record { each = λ x l. rw e refl }

  pub still_turn : {rest xs v w : List ℕ} {a : ℕ} → rest ≡ a ∷ xs → Adds (f a) v w → Still rest v → Still xs w
  unfolding first_found
  still_turn {xs = xs} {v = v} {a = a} e d s = record {
    each = λ x l. rw (d.each x l, or_then (found_at v x) (f a x) (first_found (λ b. f b x) xs)) (rw e at (s.each x l));
  }

  pub still_end : {rest v : List ℕ} → rest ≡ [] → Still rest v → Adds (λ x. first_found (λ a. f a x) all) u v
  unfolding first_found
  still_end {v = v} e s = record { each = λ x l. sym (or_none (found_at v x)) ∙ rw e at (s.each x l) }

-- the slots of an ABI class, and the ABI classes from the i-th on

pub slots_left : (abi : List ℕ) (a : ℕ) {first count : ℕ} → first ≡ abi_class_first_slot abi a
    → count ≡ list_count (abi_class_first_slot abi a) (abi_class_slot_count abi a) abi_slot_limit → left first count first ≡ abi_slots abi a
unfolding abi_slots
slots_left abi a {first = first} {count = count} e f = rw (left_start first count, e, f) refl

pub classes_left : (abis : List ℕ) (i : ℕ) → i < length abis → drop i abis ≡ get_or abis i 0 ∷ drop (i + 1) abis
classes_left abis i l = rw (add-one, drop-cons abis i 0 l) refl

-- ---- the view's indices are those that a search finds

slots_found : (f : ℕ → ℕ) (p : ℕ → Bool) (xs : List ℕ) → option_map f (find p xs) ≡ first_found (λ s. cond (p s) (Some (f s)) None) xs
unfolding find first_found
slots_found f p [] = refl
slots_found f p (x ∷ xs) = by (p x) (λ t. rw t refl) (λ t. rw t (slots_found f p xs))

pub by_number : (ns abi abis : List ℕ) (m : ℕ) → fixed_of (by_numbers ns) abi abis m ≡ chain_fixes ns abi abis (get_or ns m 0)
unfolding fixed_of fixed_index vtable_index by_numbers place_number slot_fixes first_found
by_number ns abi [] m = refl
by_number ns abi (a ∷ abis) m =
    ap₂ option_or (slots_found (slot_index abi) (λ s. eqb (get_or ns (method_limit + s) 0) (get_or ns m 0)) (abi_slots abi a)) (by_number ns abi abis m)

pub index_viewed : (ns abi abis : List ℕ) (m : ℕ) {x : ℕ} {v : List ℕ} → x ≡ get_or ns m 0 → x < 1024
    → Adds (chain_fixes ns abi abis) (replicate 1024 0) v → found_at v x ≡ fixed_of (by_numbers ns) abi abis m
index_viewed ns abi abis m {x = x} e l d =
    d.each x l ∙ rw (zeros 1024 x, no_method, e) (sym (by_number ns abi abis m))
