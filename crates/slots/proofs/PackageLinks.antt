-- A link of a class of kind 3 in this crate's words: where the chain of its parent is linked, the table that it builds from the area is what
-- `packages_from` makes of the chain's tables. Assumes nothing.
use Rattle.std.proofs.lemmas.Grind.{common_steps}
use Rattle.std.proofs.Common.{rules, ◌≡◌, refl, sym, ◌≢◌, List, ℕ, ◌+◌, ◌≤◌, ◌<◌, arith, length, get_or, take, drop, eqb, ltb}
use mathlib.Core.List.{Memᴰ}
use borrow.Author.Tests.{eqb-false}
use Rattle.words.proofs.Bools.{by}
use Rattle.class_sheet.specs.ClassSheet.{class_limit, class_table_place, class_slot_count}
use Rattle.linking.specs.Signature.{by_bytes}
use Rattle.linking.specs.Chain.{parent_of, chain}
use Rattle.linking.specs.Vtable.{read_entry, read_slot, parent_entries}
use Rattle.linking.specs.Packages.{table_has, introducing, build_packages}
use Rattle.linking.proofs.ChainLaws.{chain_more}
use Rattle.linking.proofs.Plans.{packages-within}
use Rattle.linking.proofs.RenumberedPackages.{last-ext, last_of}
use Rattle.slots.specs.Made.{inherited_from, introduced_from, packages_from}
use Rattle.slots.proofs.LinkFacts.{read-area}

module _ (ws text abi labels area : List ℕ) (tables : ℕ → List ℕ) where
  -- class d is linked, and its table lies in the area
  pub record Lies (d : ℕ) : Type 0 where
    pub linked : class_table_place ws d ≢ 0
    pub slots : class_slot_count ws d ≤ 1024
    pub inside : class_table_place ws d + 1 + class_slot_count ws d ≤ length area
    pub table : tables d ≡ take (class_slot_count ws d) (drop (class_table_place ws d + 1) area)

  has-index : (i d : ℕ) → Lies d → table_has ws i d ≡ ltb i (length (tables d))
  unfolding table_has
  has-index i d l = grind (arith, common_steps)

  read_table : (i d : ℕ) → Lies d → i < length (tables d)
      → read_slot (by_bytes ws text abi labels) ws text abi labels area d i
      ≡ read_entry (by_bytes ws text abi labels) ws text abi labels d i (get_or (tables d) i 0)
  unfolding read_slot
  read_table i d l h = grind (arith, common_steps)

  -- the introducing methods
  introducing-is : (p : ℕ) → ((d : ℕ) → Memᴰ d (chain ws p) → Lies d) → (i : ℕ)
      → introducing (by_bytes ws text abi labels) ws text abi labels area p i ≡ introduced_from ws text abi labels tables p i
  unfolding introducing introduced_from
  introducing-is p lies i = search (rules, last-ext, has-index, last_of, read_table)

  parent_is : (c : ℕ) → ((d : ℕ) → Memᴰ d (chain ws (parent_of ws c)) → Lies d)
      → parent_entries (by_bytes ws text abi labels) ws text abi labels area c ≡ inherited_from ws text abi labels tables c
  unfolding parent_entries inherited_from
  parent_is c lies =
      by (eqb (parent_of ws c) 0) (λ q. rw q refl)
      (λ q.
      let n = eqb-false (parent_of ws c) 0 q in
      let l = lies (parent_of ws c)
      (rw (chain_more ws (parent_of ws c) (omega arith)) (Memᴰ.head refl)) in
      rw (q, l.table)
      (sym
      (read-area ws text abi labels area (parent_of ws c) (class_slot_count ws (parent_of ws c)) (omega (arith, l.slots)) l.inside)))

  pub packages-from : (c : ℕ) → c ≤ class_limit → ((d : ℕ) → Memᴰ d (chain ws (parent_of ws c)) → Lies d)
      → build_packages (by_bytes ws text abi labels) ws text abi labels area c ≡ packages_from ws text abi labels tables c
  unfolding packages_from
  packages-from c room lies = search (rules, introducing-is, packages-within, parent_is)
