-- The terms of demand 3 that speak of one class's table: known slots, signatures, chains, orderly ABI sheets. A table is a list of slot words;
-- methods, chains and Reading go by one sheet. The library's `List.Memᴰ x xs` says that x is an element of xs. Assumes nothing.
use Rattle.std.specs.Prelude.{ℕ, ◌<◌, ◌≡◌, ◌⊎◌, true, length, get_or, List, Some}
use mathlib.Core.List.{Memᴰ}
use Rattle.class_sheet.specs.ClassSheet.{class_kind, method_target}
use Rattle.abi_sheet.specs.AbiSheet.{abi_slot_name, abi_slot_descriptor}
use Rattle.linking.specs.Signature.{by_bytes}
use Rattle.linking.specs.Chain.{own_methods, parent_of, chain, eligible, SameSignature}
use Rattle.linking.specs.Abi.{abi_slots, slot_index, class_abi}
use Rattle.linking.specs.Vtable.{read_entry}

-- ---- by which rule a class's chain, itself included, is linked

-- "the old rule": only classes of kinds 0 and 2
abbrev pub OldRule : List ℕ → ℕ → Type 0
OldRule ws c = (d : ℕ) → Memᴰ d (chain ws c) → (class_kind ws d ≡ 0) ⊎ (class_kind ws d ≡ 2)

-- only classes of kind 3
abbrev pub PackageRule : List ℕ → ℕ → Type 0
PackageRule ws c = (d : ℕ) → Memᴰ d (chain ws c) → class_kind ws d ≡ 3

-- m is a method of the chain of class c, of any flags
pub record ChainMethod (ws : List ℕ) (c m : ℕ) : Type 0 where
  pub owner : ℕ
  pub along : Memᴰ owner (chain ws c)
  pub own : Memᴰ m (own_methods ws owner)

-- "an eligible method of that signature which the child declares", and its target
pub record Redeclares (ws text : List ℕ) (c m target : ℕ) : Type 0 where
  pub method : ℕ
  pub own : Memᴰ method (own_methods ws c)
  pub eligible : eligible ws text method ≡ true
  pub signature : SameSignature ws text method m
  pub target_is : method_target ws method ≡ target

module _ (ws text abi labels : List ℕ) where
  -- ---- slots of a class's table, by Reading

  -- "a slot is known where Reading finds a method": slot i of class c's table holds method m
  pub record Known (c : ℕ) (t : List ℕ) (i m : ℕ) : Type 0 where
    pub slot : i < length t
    pub reads : (read_entry (by_bytes ws text abi labels) ws text abi labels c i (get_or t i 0)).method ≡ Some m

  -- "and has its signature": "no two known slots in a class's table have one signature"
  abbrev pub Unique : ℕ → List ℕ → Type 0
  Unique c t = (i j m k : ℕ) → Known c t i m → Known c t j k → SameSignature ws text m k → i ≡ j

  -- "each known slot of its parent's table is known at the same index with the same signature, and the child's target there is the
  -- parent's or that of an eligible method of that signature which the child declares"
  pub record Keeps (c : ℕ) (t p : List ℕ) (i m : ℕ) : Type 0 where
    pub method : ℕ
    pub known : Known c t i method
    pub signature : SameSignature ws text method m
    pub target : (get_or t i 0 ≡ get_or p i 0) ⊎ Redeclares ws text c m (get_or t i 0)

  abbrev pub Kept : ℕ → List ℕ → List ℕ → Type 0
  Kept c t p = (i m : ℕ) → Known (parent_of ws c) p i m → Keeps c t p i m

  -- ---- the conditions on a chain

  -- s is a slot record of an ABI class that the chain of class c names
  pub record ChainSlot (c s : ℕ) : Type 0 where
    pub class : ℕ
    pub along : Memᴰ class (chain ws c)
    pub entry : ℕ
    pub named : class_abi ws text abi labels class ≡ Some entry
    pub own : Memᴰ s (abi_slots abi entry)

  -- "An ABI sheet is orderly for a chain if, over the ABI classes the chain names, each signature (name and descriptor) has one index and
  -- each index one signature."
  pub record Orderly (c : ℕ) : Type 0 where
    pub one_index : (s z : ℕ) → ChainSlot c s → ChainSlot c z → abi_slot_name abi labels s ≡ abi_slot_name abi labels z
        → abi_slot_descriptor abi labels s ≡ abi_slot_descriptor abi labels z → slot_index abi s ≡ slot_index abi z
    pub one_name : (s z : ℕ) → ChainSlot c s → ChainSlot c z → slot_index abi s ≡ slot_index abi z
        → abi_slot_name abi labels s ≡ abi_slot_name abi labels z
    pub one_descriptor : (s z : ℕ) → ChainSlot c s → ChainSlot c z → slot_index abi s ≡ slot_index abi z
        → abi_slot_descriptor abi labels s ≡ abi_slot_descriptor abi labels z
