-- Laws of Reading, as the code goes through it. Assumes nothing.
use mathlib.Core.Path.{◌≡◌, refl, ◌∙◌}
use mathlib.Core.List.{List, []}
use Prim.Native.Nat.{ℕ, ◌+◌, min}
use lib.ListN.{get_or}
use lib.Dec.{eqb}
use borrow.Author.Tests.{eq-eqb, ne_eqb}
use Rattle.words.specs.Lists.{list_from, find}
use Rattle.std.specs.Prelude.{Option, Some, None}
use Rattle.class_sheet.specs.ClassSheet.{class_table_place, class_slot_count, method_limit}
use Rattle.linking.specs.Signature.{Same, of_abi_slot, place_number, by_numbers}
use Rattle.linking.specs.Chain.{own_methods, parent_of, own_method}
use Rattle.linking.specs.Abi.{class_abi}
use Rattle.linking.specs.Vtable.{Entry, own_fixed, read_entry, read_slot, table_entries, parent_entries}
use Rattle.linking.proofs.ChainLaws.{entry-room}
use Rattle.reading.specs.Arrays.{mark_of, method_of, slot_read}
use Rattle.reading.proofs.ArrayLaws.{found_back}

-- a class's own method of the signature of an ABI slot
pub own_slot : (ns ws : List ℕ) (s c : ℕ) {n : ℕ} {r : Option ℕ} → n ≡ get_or ns (method_limit + s) 0
    → r ≡ find (λ m. eqb (get_or ns m 0) n) (own_methods ws c) → r ≡ own_method (by_numbers ns) ws (of_abi_slot s) c
unfolding own_method by_numbers place_number
own_slot ns ws s c n e = e ∙ rw n refl

module _ (same : Same) (ws text abi labels : List ℕ) where
  -- ---- a class's own method of the signature that its ABI entry fixes

  module _ (i c : ℕ) {r : Option ℕ} (entry : r ≡ class_abi ws text abi labels c) where
    pub fixed-none : r ≡ None → None ≡ own_fixed same ws text abi labels i c
    unfolding own_fixed
    fixed-none e = rw (← entry, e)

  entry_eta : (c i w : ℕ)
      → ◌≡◌ {A = Entry} (record { word = w; method = (read_entry same ws text abi labels c i w).method; source = Some i })
      (read_entry same ws text abi labels c i w)
  unfolding read_entry
  entry_eta c i w = refl

  -- an entry comes back from its word and mark
  pub read_back : (c i w : ℕ)
      → ◌≡◌ {A = Entry} (record { word = w; method = method_of (mark_of (read_entry same ws text abi labels c i w).method); source = Some i })
      (read_entry same ws text abi labels c i w)
  read_back c i w = read_is (found_back (read_entry same ws text abi labels c i w).method (entry-room same ws text abi labels c i w))
    where
      read_is : method_of (mark_of (read_entry same ws text abi labels c i w).method) ≡ (read_entry same ws text abi labels c i w).method
          → ◌≡◌ {A = Entry} (record { word = w; method = method_of (mark_of (read_entry same ws text abi labels c i w).method); source = Some i })
          (read_entry same ws text abi labels c i w)
      read_is e = rw e (entry_eta c i w)

  module _ (area : List ℕ) (c : ℕ) where
    -- what is read at class c's place is its table
    pub table_is : {p n : ℕ} {T : List Entry} → p ≡ class_table_place ws c → n ≡ min (class_slot_count ws c) 1024
        → T ≡ list_from (slot_read same ws text abi labels area p c) 0 n → T ≡ table_entries same ws text abi labels area c
    unfolding table_entries read_slot slot_read
    table_is e f t = t ∙ rw (e, f)

    -- ---- the parent's entries

    pub parent-none : {p : ℕ} → p ≡ parent_of ws c → p ≡ 0 → ◌≡◌ {A = List Entry} [] (parent_entries same ws text abi labels area c)
    unfolding parent_entries
    parent-none {p = p} e z = rw (← e) (simp (eq-eqb p 0 z))

    pub parent-some : (p : ℕ) → p ≡ parent_of ws c → (p ≡ 0 → ⊥) → table_entries same ws text abi labels area p ≡ parent_entries same ws text abi labels area c
    unfolding parent_entries
    parent-some p e n = rw (← e) (simp (ne_eqb p 0 n))
