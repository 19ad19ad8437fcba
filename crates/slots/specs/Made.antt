-- What a table that the linker made is made of: the local equation that the runs keep, and the conditions under which tables so made have
-- demand 3's properties. Signatures are compared by their bytes. Tables are lists of slot words, one for each class number. Assumes nothing.
use Rattle.std.specs.Prelude.{ℕ, ◌<◌, ◌≤◌, ◌≡◌, ◌≢◌, false, cond, List, [], length, get_or, eqb, ltb, Option}
use Rattle.words.specs.Lists.{list_from}
use Rattle.std.specs.Option.{option_and_then}
use Rattle.class_sheet.specs.ClassSheet.{class_kind, is_array, is_packaged, method_target}
use Rattle.abi_sheet.specs.AbiSheet.{abi_slot_name, abi_slot_descriptor}
use Rattle.linking.specs.Signature.{methods_same, by_bytes}
use Rattle.linking.specs.Chain.{on_found, own_methods, parent_of, chain}
use Rattle.linking.specs.Abi.{slot_index, class_abi, chain_abi}
use Rattle.linking.specs.Vtable.{Entry, Built, built, read_entry, fixed_of, relayed, extended, add_methods, slot_words}
use Rattle.linking.specs.Before.{clash}
use Rattle.linking.specs.Packages.{topmost, packages_over}
use Rattle.slots.specs.Slots.{ChainMethod, ChainSlot}

module _ (ws text abi labels : List ℕ) where
  -- the entries of a table of these words, read along class c's chain
  unfoldable pub read_words : ℕ → List ℕ → List Entry
  read_words c t = list_from (λ i. read_entry (by_bytes ws text abi labels) ws text abi labels c i (get_or t i 0)) 0 (length t)

  -- ---- what the linker made: the table of a class of kind 0 or 2 from its parent's entries

  unfoldable pub start_from : ℕ → List Entry → List Entry
  start_from c P =
      on_found (class_abi ws text abi labels c) (λ a. relayed (by_bytes ws text abi labels) abi (chain_abi ws text abi labels c) P)
      (extended abi (chain_abi ws text abi labels c) P)

  -- "Array: the parent's entries."
  unfoldable pub table_from : ℕ → List Entry → Built
  table_from c P =
      cond (is_array ws c) (built P)
      (add_methods (by_bytes ws text abi labels) ws text abi (chain_abi ws text abi labels c) (own_methods ws c) (start_from c P))

  -- the parent's entries, where each class d has the table `tables d`
  unfoldable pub inherited_from : (ℕ → List ℕ) → ℕ → List Entry
  inherited_from tables c = cond (eqb (parent_of ws c) 0) [] (read_words (parent_of ws c) (tables (parent_of ws c)))

  -- no two known inherited signatures of class c have one fixed index
  abbrev pub Calm : (ℕ → List ℕ) → ℕ → Type 0
  Calm tables c =
      clash (methods_same (by_bytes ws text abi labels)) (fixed_of (by_bytes ws text abi labels) abi (chain_abi ws text abi labels c))
      (inherited_from tables c) ≡ false

  -- ---- and of a class of kind 3, from the tables of its parent's chain

  -- "what Reading finds there in the topmost chain class whose table has it", of slot i in the table of class p
  unfoldable pub introduced_from : (ℕ → List ℕ) → ℕ → ℕ → Option ℕ
  introduced_from tables p i =
      option_and_then (λ d. (read_entry (by_bytes ws text abi labels) ws text abi labels d i (get_or (tables d) i 0)).method)
      (topmost (λ d. ltb i (length (tables d))) (chain ws p))

  unfoldable pub packages_from : (ℕ → List ℕ) → ℕ → List Entry
  packages_from tables c =
      packages_over (methods_same (by_bytes ws text abi labels)) ws text (introduced_from tables (parent_of ws c)) c (inherited_from tables c)

  unfoldable pub made_from : (ℕ → List ℕ) → ℕ → Built
  made_from tables c = cond (is_packaged ws c) (built (packages_from tables c)) (table_from c (inherited_from tables c))

  -- class c's table is what a link makes of the tables of its parent's chain, with some list of stubs that P holds of
  pub record Made (tables : ℕ → List ℕ) (P : ℕ → Type 0) (c : ℕ) : Type 0 where
    pub entries : List Entry
    pub stubs : List ℕ
    pub enough : length entries ≤ length stubs
    pub lent : (i : ℕ) → i < length stubs → P (get_or stubs i 0)
    pub bare : class_kind ws c ≡ 2 → own_methods ws c ≡ []
    pub from : made_from tables c ≡ built entries
    pub words : tables c ≡ slot_words stubs 0 entries

  -- "over the ABI classes the chain names, each signature (name and descriptor) has one index": of orderly, the half that the claims rest on
  abbrev pub OneSlotIndex : ℕ → Type 0
  OneSlotIndex c =
      (s z : ℕ) → ChainSlot ws text abi labels c s → ChainSlot ws text abi labels c z → abi_slot_name abi labels s ≡ abi_slot_name abi labels z
      → abi_slot_descriptor abi labels s ≡ abi_slot_descriptor abi labels z → slot_index abi s ≡ slot_index abi z

  -- so ordered, and "where the chain's method targets and all stubs lent are nonzero, the targets all different and none of them a stub"
  pub record Conditions (P : ℕ → Type 0) (c : ℕ) : Type 0 where
    pub one_index : OneSlotIndex c
    pub nonzero_targets : (m : ℕ) → ChainMethod ws c m → method_target ws m ≢ 0
    pub different_targets : (m k : ℕ) → ChainMethod ws c m → ChainMethod ws c k → method_target ws m ≡ method_target ws k → m ≡ k
    pub nonzero_stubs : (x : ℕ) → P x → x ≢ 0
    pub no_stub : (x m : ℕ) → P x → ChainMethod ws c m → method_target ws m ≢ x
