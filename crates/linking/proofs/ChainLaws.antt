-- Laws of a class's own lists and of its chain: what each holds, how long it is, and searches along the chain, class by class.
-- Assumes nothing.
use mathlib.Core.Path.{◌≡◌, refl, ap, ◌∙◌}
use mathlib.Core.Logic.{⊎_elim}
use mathlib.Core.Bool.{true}
use mathlib.Core.List.Memᴰ
use mathlib.Core.List.{List, [], ◌∷◌, Memᴰ}
use Prim.Native.Nat.{ℕ, zero, suc, ◌+◌, ◌≤◌, ◌<◌}
use native.Mathlib.Omega.{arith}
use lib.ListN.{length, get_or}
use lib.Dec.{eqb, ltb}
use borrow.Author.Tests.{lt-ltb, ltb-true}
use Rattle.words.specs.Lists.{numbers, first_found, all_found}
use Rattle.std.specs.Prelude.{Option, Some, None}
use Rattle.std.specs.Option.{option_and_then}
use Rattle.words.proofs.Bools.{by}
use Rattle.class_sheet.specs.ClassSheet.{method_limit, field_limit, interface_limit, class_parent, class_first_field, class_field_count, class_first_interface, class_interface_count, method_target}
use Rattle.linking.specs.Signature.{Same, Place, of_method, of_abi_slot}
use Rattle.linking.specs.Chain.{list_count, own_methods, own_fields, own_interfaces, parent_of, chain_of, chain, own_target, find_by_target, own_method}
use Rattle.linking.specs.Abi.{slot_at, class_abi}
use Rattle.linking.specs.Vtable.{own_fixed, find_by_index, read_entry}
use Rattle.words.proofs.ListLaws.{length-list-from, get_d_list_from, numbers-within, find-member, find-passes, found-by, by-found, not_found}

-- ---- parents

pub parent_below : (ws : List ℕ) (c : ℕ) → 0 < c → parent_of ws c < c
unfolding parent_of
parent_below ws c h = by (ltb (class_parent ws c) c) (λ t. rw t (ltb-true _ _ t)) (λ f. rw f h)

pub parent-within : (ws : List ℕ) (c : ℕ) → parent_of ws c ≤ c
unfolding parent_of
parent-within ws c =
    by (ltb (class_parent ws c) c) (λ t. let l = ltb-true (class_parent ws c) c t in rw t (omega arith)) (λ f. rw f (omega arith))

-- where row 4 holds, the parent is the record's
pub parent_is : (ws : List ℕ) (c : ℕ) → class_parent ws c < c → parent_of ws c ≡ class_parent ws c
unfolding parent_of
parent_is ws c h = rw (lt-ltb _ _ h)

-- ---- the chain

-- the bound that `chain_of` recurses on does not matter where it is at least the class's number
chain-bound : (ws : List ℕ) (k j c : ℕ) → c ≤ k → c ≤ j → chain_of ws k c ≡ chain_of ws j c
unfolding chain_of
chain-bound ws zero zero c h g = refl
chain-bound ws zero (suc j) zero h g = refl
chain-bound ws zero (suc j) (suc c) h g = absurd (omega arith)
chain-bound ws (suc k) zero zero h g = refl
chain-bound ws (suc k) zero (suc c) h g = absurd (omega arith)
chain-bound ws (suc k) (suc j) zero h g = refl
chain-bound ws (suc k) (suc j) (suc c) h g =
    let b : parent_of ws (suc c) < suc c = parent_below ws (suc c) (omega arith) in
    ap (λ (l : List ℕ). suc c ∷ l) (chain-bound ws k j (parent_of ws (suc c)) (omega arith) (omega arith))

pub chain-none : (ws : List ℕ) (c : ℕ) → c ≡ 0 → chain ws c ≡ []
unfolding chain chain_of
chain-none ws zero e = refl
chain-none ws (suc c) e = absurd (omega arith)

pub chain_more : (ws : List ℕ) (c : ℕ) → 0 < c → chain ws c ≡ c ∷ chain ws (parent_of ws c)
unfolding chain chain_of
chain_more ws zero h = absurd (omega arith)
chain_more ws (suc c) h =
    let b : parent_of ws (suc c) < suc c = parent_below ws (suc c) h in
    ap (λ (l : List ℕ). suc c ∷ l) (chain-bound ws c (parent_of ws (suc c)) (parent_of ws (suc c)) (omega arith) (omega arith))

length-chain-of : (ws : List ℕ) (k c : ℕ) → length (chain_of ws k c) ≤ k
unfolding chain_of
length-chain-of ws zero c = omega arith
length-chain-of ws (suc k) zero = omega arith
length-chain-of ws (suc k) (suc c) = omega (arith, length-chain-of ws k (parent_of ws (suc c)))

pub chain_length : (ws : List ℕ) (c : ℕ) → length (chain ws c) ≤ c
unfolding chain
chain_length ws c = length-chain-of ws c c

within-chain-of : (ws : List ℕ) (k c d : ℕ) → Memᴰ d (chain_of ws k c) → (0 < d) × (d ≤ c)
unfolding chain_of
within-chain-of ws zero c d h = absurd (Memᴰ.not-nil h)
within-chain-of ws (suc k) zero d h = absurd (Memᴰ.not-nil h)
within-chain-of ws (suc k) (suc c) d h =
    ⊎_elim (λ (e : d ≡ suc c). (omega arith, omega arith))
    (λ t.
    let r = within-chain-of ws k (parent_of ws (suc c)) d t in
    let b = parent-within ws (suc c) in
    (omega arith, omega arith))
    (Memᴰ.cases_cons h)

pub chain-within : (ws : List ℕ) (c d : ℕ) → Memᴰ d (chain ws c) → (0 < d) × (d ≤ c)
unfolding chain
chain-within ws c d h = within-chain-of ws c c d h

-- ---- searches along the chain

module _ (f : ℕ → Option ℕ) (ws : List ℕ) (c : ℕ) where
  pub along-none : c ≡ 0 → first_found f (chain ws c) ≡ None
  unfolding first_found
  along-none e = rw (chain-none ws c e)

  pub along-hit : (m : ℕ) → 0 < c → f c ≡ Some m → first_found f (chain ws c) ≡ Some m
  unfolding first_found
  along-hit m h e = rw (chain_more ws c h, e)

  pub along-up : 0 < c → f c ≡ None → first_found f (chain ws c) ≡ first_found f (chain ws (parent_of ws c))
  unfolding first_found
  along-up h e = rw (chain_more ws c h, e)

  pub all_none : c ≡ 0 → all_found f (chain ws c) ≡ []
  unfolding all_found
  all_none e = rw (chain-none ws c e)

  pub all-hit : (m : ℕ) → 0 < c → f c ≡ Some m → all_found f (chain ws c) ≡ m ∷ all_found f (chain ws (parent_of ws c))
  unfolding all_found
  all-hit m h e = rw (chain_more ws c h, e)

  pub all_up : 0 < c → f c ≡ None → all_found f (chain ws c) ≡ all_found f (chain ws (parent_of ws c))
  unfolding all_found
  all_up h e = rw (chain_more ws c h, e)

module _ (ws : List ℕ) (c t : ℕ) where
  pub target_none : c ≡ 0 → find_by_target ws c t ≡ None
  unfolding find_by_target
  target_none e = along-none (own_target ws t) ws c e

-- ---- a list that is cut at its section's limit: how long it is, its elements, and that each is below the limit

module _ (first count limit : ℕ) where
  pub list_length : length (numbers first (list_count first count limit)) ≡ list_count first count limit
  list_length = length-list-from (λ k. k) first (list_count first count limit)

  pub list_at : (i : ℕ) → i < length (numbers first (list_count first count limit)) → get_or (numbers first (list_count first count limit)) i 0 ≡ first + i
  list_at i h = let e = list_length in get_d_list_from (λ k. k) first (list_count first count limit) i 0 (omega arith)

  pub list-room : (m : ℕ) → Memᴰ m (numbers first (list_count first count limit)) → m < limit
  list-room m h = omega (arith, numbers-within first (list_count first count limit) m h)

-- a class's own lists

module _ (ws : List ℕ) (c : ℕ) where
  pub own-fields-length : length (own_fields ws c) ≡ list_count (class_first_field ws c) (class_field_count ws c) field_limit
  unfolding own_fields
  own-fields-length = list_length _ _ _

  pub own-interfaces-length : length (own_interfaces ws c) ≡ list_count (class_first_interface ws c) (class_interface_count ws c) interface_limit
  unfolding own_interfaces
  own-interfaces-length = list_length _ _ _

  pub own-field-at : (i : ℕ) → i < length (own_fields ws c) → get_or (own_fields ws c) i 0 ≡ class_first_field ws c + i
  unfolding own_fields
  own-field-at = list_at _ _ _

  pub own-interface-at : (i : ℕ) → i < length (own_interfaces ws c) → get_or (own_interfaces ws c) i 0 ≡ class_first_interface ws c + i
  unfolding own_interfaces
  own-interface-at = list_at _ _ _

  pub own-method-room : (m : ℕ) → Memᴰ m (own_methods ws c) → m < method_limit
  unfolding own_methods
  own-method-room = list-room _ _ _

-- ---- what is found

module _ (ws : List ℕ) (t c m : ℕ) where
  pub own-target-member : own_target ws t c ≡ Some m → Memᴰ m (own_methods ws c)
  unfolding own_target
  own-target-member e = find-member (λ k. eqb (method_target ws k) t) (own_methods ws c) m e

  pub own-target-room : own_target ws t c ≡ Some m → m < method_limit
  own-target-room e = own-method-room ws c m (own-target-member e)

pub target_room : (ws : List ℕ) (c t m : ℕ) → find_by_target ws c t ≡ Some m → m < method_limit
unfolding find_by_target
target_room ws c t m e = found-by (own_target ws t) (chain ws c) m (λ d k q. own-target-room ws t d m q) e

module _ (same : Same) (ws : List ℕ) (p : Place) (c m : ℕ) where
  pub own-method-member : own_method same ws p c ≡ Some m → Memᴰ m (own_methods ws c)
  unfolding own_method
  own-method-member e = find-member (λ k. same (of_method k) p) (own_methods ws c) m e

  -- it has the signature
  pub own-method-is : own_method same ws p c ≡ Some m → same (of_method m) p ≡ true
  unfolding own_method
  own-method-is e = find-passes (λ k. same (of_method k) p) (own_methods ws c) m e

  pub found-method-room : own_method same ws p c ≡ Some m → m < method_limit
  found-method-room e = own-method-room ws c m (own-method-member e)

-- ---- what Reading finds is one of the sheet's methods

module _ (same : Same) (ws text abi labels : List ℕ) where
  pub own-fixed-room : (i c m : ℕ) → own_fixed same ws text abi labels i c ≡ Some m → m < method_limit
  unfolding own_fixed
  own-fixed-room i c m e =
      by-found (option_and_then (slot_at abi i) (class_abi ws text abi labels c))
      (λ s q. found-method-room same ws (of_abi_slot s) c m (rw q at e))
      (λ q. not_found (rw q at e))

  pub entry-room : (c i w m : ℕ) → (read_entry same ws text abi labels c i w).method ≡ Some m → m < method_limit
  unfolding read_entry find_by_index
  entry-room c i w m e =
      by-found (find_by_target ws c w) (λ k q. target_room ws c w m (q ∙ (rw q at e)))
      (λ q. found-by (own_fixed same ws text abi labels i) (chain ws c) m (λ d t r. own-fixed-room i d m r) (rw q at e))
