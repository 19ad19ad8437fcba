-- The definitions of a link in this crate's words: the entries that it reads off the area are those of the table's words, and what a built class or an
-- array class comes to over its parent's entries is `table_from` of them. Assumes nothing.
use Rattle.std.proofs.Common.{rules, ◌≡◌, ap, ◌∙◌, ◌≢◌, ◌⊎◌, inl, inr, false, List, ℕ, ◌+◌, ◌≤◌, min, length, take, drop}
use Rattle.words.proofs.Ext.{list_ext}
use Rattle.words.proofs.Lists.{part_at, length_part}
use Rattle.class_sheet.specs.ClassSheet.{class_flags, class_kind, class_table_place, class_slot_count}
use Rattle.linking.specs.Signature.{by_bytes}
use Rattle.linking.specs.Chain.{is_interface}
use Rattle.linking.specs.Vtable.{built, read_slot, table_entries, parent_entries, inherited_table, build_methods}
use Rattle.linking.specs.Link.{Plan}
use Rattle.linking.proofs.Plans.{Plans}
use Rattle.slots.specs.Made.{read_words, start_from, table_from}

module _ (ws text abi labels area : List ℕ) (c : ℕ) where
  -- "its table is the words after the place", where they lie in the area
  pub read-area : (n : ℕ) → n ≡ min (class_slot_count ws c) 1024 → class_table_place ws c + 1 + n ≤ length area
      → read_words ws text abi labels c (take n (drop (class_table_place ws c + 1) area))
      ≡ table_entries (by_bytes ws text abi labels) ws text abi labels area c
  unfolding read_words table_entries read_slot
  read-area n e h = search (rules, length_part, list_ext, part_at)

  built-from : class_kind ws c ≢ 2
      → table_from ws text abi labels c (parent_entries (by_bytes ws text abi labels) ws text abi labels area c)
      ≡ build_methods (by_bytes ws text abi labels) ws text abi labels area c
  unfolding table_from start_from build_methods inherited_table
  built-from n = search rules

  -- "Array: the parent's entries."
  array-from : class_kind ws c ≡ 2
      → table_from ws text abi labels c (parent_entries (by_bytes ws text abi labels) ws text abi labels area c)
      ≡ built (parent_entries (by_bytes ws text abi labels) ws text abi labels area c)
  unfolding table_from
  array-from e = cc

  -- the table that a link plans for a class that is built, and no interface, or an array: what is made of its parent's entries
  pub plan-table : (p : Plan) → Plans (by_bytes ws text abi labels) ws text abi labels area c p → (class_kind ws c ≡ 0) ⊎ (class_kind ws c ≡ 2)
      → is_interface (class_flags ws c) ≡ false
      → table_from ws text abi labels c (parent_entries (by_bytes ws text abi labels) ws text abi labels area c) ≡ built p.table
  plan-table p h (inl k) f = search (rules, built-from)
  plan-table p h (inr k) f = array-from k ∙ ap built (h.array k)
