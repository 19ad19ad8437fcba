-- DEMAND 3: `Demand3`, at the end, is its statement; proofs/Theorem.antt proves it. "Chains, methods and Reading above go by the sheet at the
-- list's start": `ws` is that sheet. The terms of a list (linked in the list, its table, stubs lent) are in Calls.antt; those of one table (known
-- slots, signatures, chains, orderly) in slots/specs/Slots.antt. Assumes nothing.
use Rattle.std.specs.Prelude.{ℕ, ◌≡◌, ◌≢◌, ◌⊎◌, false, length, List, None}
use mathlib.Core.List.{Memᴰ}
use Rattle.class_sheet.specs.ClassSheet.{text_of, class_kind, class_flags, method_target}
use Rattle.abi_sheet.specs.AbiSheet.{abi_text_of}
use Rattle.linking.specs.Chain.{parent_of, chain, is_interface}
use Rattle.linking.specs.Abi.{class_abi}
use Rattle.slots.specs.Slots.{OldRule, Unique, Kept, ChainMethod, Orderly}
use Rattle.calls.specs.Calls.{Call, Way, ByNumbers, start, left, Unlinked, LinkedIn, table_at, Lent}

-- class d is built, of kind 0 or 3, or an array class
abbrev pub BuiltOrArray : List ℕ → ℕ → Type 0
BuiltOrArray ws d = (class_kind ws d ≡ 0) ⊎ ((class_kind ws d ≡ 2) ⊎ (class_kind ws d ≡ 3))

-- ---- the conditions: "This is claimed for every class linked in the list"

pub record Conditions (ws abi : List ℕ) (calls : List Call) (c : ℕ) : Type 0 where
  -- "whose parent chain, itself included, has only built and array classes, none of them an interface,"
  pub kinds : (d : ℕ) → Memᴰ d (chain ws c) → BuiltOrArray ws d
  pub no_interface : (d : ℕ) → Memᴰ d (chain ws c) → is_interface (class_flags ws d) ≡ false
  -- "under an orderly ABI sheet,"
  pub orderly : Orderly ws (text_of ws) abi (abi_text_of abi) c
  -- "where the chain's method targets and all stubs lent are nonzero,"
  pub nonzero_targets : (m : ℕ) → ChainMethod ws c m → method_target ws m ≢ 0
  pub nonzero_stubs : (x : ℕ) → Lent x calls → x ≢ 0
  -- "the targets all different"
  pub different_targets : (m k : ℕ) → ChainMethod ws c m → ChainMethod ws c k → method_target ws m ≡ method_target ws k → m ≡ k
  -- "and none of them a stub"
  pub no_stub : (x m : ℕ) → Lent x calls → ChainMethod ws c m → method_target ws m ≢ x

-- ---- the claim

module _ (way : Way) (ws abi area missing : List ℕ) (calls : List Call) where
  -- "after it": the table of a class whose accepted link answered this place and so many slots
  abbrev pub table : ℕ → ℕ → List ℕ
  table place slots = table_at (left way ws abi area missing calls).area place slots

  -- a link of class c in the list was accepted, and answered so
  abbrev pub Linked : ℕ → ℕ → ℕ → Type 0
  Linked c place slots = LinkedIn abi c place slots way (start ws area missing) calls

  -- "In a child without an ABI entry": its parent is linked in the list, and whatever link of it was accepted, the child's table keeps the known
  -- slots of the parent's
  pub record KeepsParent (c place slots : ℕ) : Type 0 where
    pub parent_place : ℕ
    pub parent_slots : ℕ
    pub parent_linked : Linked (parent_of ws c) parent_place parent_slots
    -- "each known slot of its parent's table is known at the same index with the same signature, and the child's target there is the parent's
    -- or that of an eligible method of that signature which the child declares"
    pub kept : (p n : ℕ) → Linked (parent_of ws c) p n → Kept ws (text_of ws) abi (abi_text_of abi) c (table place slots) (table p n)

  pub record Claim (c place slots : ℕ) : Type 0 where
    -- "no two known slots in a class's table have one signature": "made only for the old rule"
    pub unique : OldRule ws c → Unique ws (text_of ws) abi (abi_text_of abi) c (table place slots)
    pub keeps_parent : parent_of ws c ≢ 0 → class_abi ws (text_of ws) abi (abi_text_of abi) c ≡ None → KeepsParent c place slots
    -- "as many as the slots it answered": the table lies inside the area
    pub whole : length (table place slots) ≡ slots
    -- "the place that this link answered" is one place: no second link of a class is accepted
    pub one_table : (p n : ℕ) → Linked c p n → (p ≡ place) × (n ≡ slots)

-- "For every list of links and interface asks, accepted or refused, of whatever class numbers and stub lists, from an unlinked sheet, with one
-- ABI sheet and whatever the area holds", and whatever the list of missing slots holds: for every class linked in the list that meets the conditions, the
-- claim
abbrev pub Claimed : Way → List ℕ → List ℕ → List ℕ → List ℕ → Type 0
Claimed way ws abi area missing =
    Unlinked ws → (calls : List Call) (c place slots : ℕ) → Linked way ws abi area missing calls c place slots → Conditions ws abi calls c
    → Claim way ws abi area missing calls c place slots

-- of calls by the numbers of a list that "is filled from the very set and ABI sheet that are then linked, and no one else writes it"
abbrev pub Demand3 : Type 0
Demand3 = ByNumbers Claimed
