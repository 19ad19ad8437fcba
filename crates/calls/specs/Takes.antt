-- THE TABLE OF A CLASS OF KIND 3: `TakenSlots`, at the end, is the statement; proofs/Takes.antt proves it. "An eligible method takes every inherited
-- slot whose introducing method it overrides by that section, and a new last slot if there is none." The section is the type `Overrides` of
-- linking/specs/Packages.antt; "inherited" is the parent's table as Reading finds it. Assumes nothing.
use Rattle.std.specs.Prelude.{ℕ, ◌+◌, ◌≤◌, ◌<◌, ◌≡◌, true, length, get_or, drop, List, [], ◌∷◌, Some}
use mathlib.Core.List.{Memᴰ}
use Rattle.class_sheet.specs.ClassSheet.{text_of, class_kind}
use Rattle.abi_sheet.specs.AbiSheet.{abi_text_of}
use Rattle.linking.specs.Signature.{by_sheets}
use Rattle.linking.specs.Chain.{own_methods, parent_of, eligible}
use Rattle.linking.specs.Vtable.{Entry, empty, parent_entries, method_entry, method_entries}
use Rattle.linking.specs.Packages.{introducing, Overrides}
use Rattle.linking.specs.Link.{linked_area, Outcome}
use Rattle.linking.specs.Numbered.{link_numbered}
use Rattle.matching.specs.Filling.{Faithful}

-- the elements of a list of which P holds, in order
pub data Picked (P : ℕ → Type 0) : List ℕ → List ℕ → Type 0 where
  none : Picked P [] []
  pick : {x : ℕ} {xs ys : List ℕ} → P x → Picked P xs ys → Picked P (x ∷ xs) (x ∷ ys)
  skip : {x : ℕ} {xs ys : List ℕ} → (P x → ⊥) → Picked P xs ys → Picked P (x ∷ xs) ys

module _ (ws abi area : List ℕ) (c : ℕ) where
  abbrev pub inherited : List Entry
  inherited = parent_entries (by_sheets ws abi) ws (text_of ws) abi (abi_text_of abi) area c

  -- the class's own method m takes inherited slot i: it is eligible, and overrides the method that introduced the slot
  pub record TakesSlot (m i : ℕ) : Type 0 where
    pub own : Memᴰ m (own_methods ws c)
    pub it_is_eligible : eligible ws (text_of ws) m ≡ true
    pub slot : i < length inherited
    pub introducer : ℕ
    pub introduced : introducing (by_sheets ws abi) ws (text_of ws) abi (abi_text_of abi) area (parent_of ws c) i ≡ Some introducer
    pub owner : ℕ
    pub overrides : Overrides ws (text_of ws) c m owner introducer

  -- in inherited slot i stands the last method that takes it; where none does, what the parent has there
  pub data Stands (T : List Entry) (i : ℕ) : Type 0 where
    taken : (m : ℕ) → TakesSlot m i → ((n : ℕ) → TakesSlot n i → n ≤ m) → get_or T i empty ≡ method_entry ws m → Stands T i
    left : ((n : ℕ) → TakesSlot n i → ⊥) → get_or T i empty ≡ get_or inherited i empty → Stands T i

  -- a method that gets a new slot
  pub record IsNew (m : ℕ) : Type 0 where
    pub it_is_eligible : eligible ws (text_of ws) m ≡ true
    pub takes_none : (i : ℕ) → TakesSlot m i → ⊥

  -- the table: the inherited slots, then the new ones in the order of the methods
  pub record Takes (T : List Entry) : Type 0 where
    pub stands : (i : ℕ) → i < length inherited → Stands T i
    pub new : List ℕ
    pub methods_added : Picked IsNew (own_methods ws c) new
    pub last_slots : drop (length inherited) T ≡ method_entries ws new
    pub slots : length T ≡ length inherited + length new

-- what a link of the class answers and writes is such a table
pub record LinkTakes (ws abi : List ℕ) (c : ℕ) (area stubs : List ℕ) (o : Outcome) : Type 0 where
  pub table : List Entry
  pub takes : Takes ws abi area c table
  pub answered : o.second ≡ length table
  pub written : o.area ≡ linked_area area c table stubs

-- so it is of an accepted one, by numbers that tell the signatures of these sheets apart
abbrev pub TakenSlots : Type 0
TakenSlots =
    (ws abi numbers : List ℕ) (c : ℕ) (area stubs missing : List ℕ) → Faithful ws abi numbers → class_kind ws c ≡ 3
    → (link_numbered ws abi numbers c area stubs missing).outcome.refusal ≡ 0
    → LinkTakes ws abi c area stubs (link_numbered ws abi numbers c area stubs missing).outcome
