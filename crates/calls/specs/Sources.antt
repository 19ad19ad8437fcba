-- WHAT IS A COPY: `Sources`, at the end, is the statement; proofs/Sources.antt, SameIndex.antt, RelayedCopies.antt and CompilerSlots.antt prove it. Of
-- each slot of a class's table it says, by the entry and not by how the table is built, whether the slot is "copied from parent entries", and from which;
-- then, by the slot's index, which it is. Assumes nothing.
use Rattle.std.specs.Prelude.{ℕ, suc, ◌≤◌, ◌<◌, ◌≡◌, ◌≢◌, Bool, true, false, length, get_or, drop, List, Option, Some, None}
use mathlib.Core.List.{Memᴰ}
use Rattle.class_sheet.specs.ClassSheet.{is_generated, class_compiler_table, method_target}
use Rattle.linking.specs.Signature.{Same, methods_same, by_bytes, by_numbers}
use Rattle.linking.specs.Chain.{own_methods}
use Rattle.linking.specs.Abi.{class_abi, chain_abi, minimum_size}
use Rattle.linking.specs.Vtable.{Entry, empty, built, parent_entries, method_entry, occurs, stays, follows, fixed_of, staying_of}
use Rattle.linking.specs.Before.{relays_class}
use Rattle.linking.specs.Compiler.{Taken, none_taken, native_view, compiler_targets, added_methods, class_methods, compiler_table}
use Rattle.linking.specs.Link.{generated_methods}
use Rattle.linking.specs.Missing.{table_by}

-- class c is linked by its compiler table; of a class of another kind the words of one are ignored
pub record HasCompiler (ws : List ℕ) (c : ℕ) : Type 0 where
  pub generated : is_generated ws c ≡ true
  pub table : class_compiler_table ws c ≢ 0

-- a slot of class c's table, where `new` are the methods that the link adds, and `P` the parent's entries
pub data Slot (ws : List ℕ) (new : List Taken) (c : ℕ) (P : List Entry) (e : Entry) : Type 0 where
  -- "copied from parent entries": one of them, whole
  whole : (j : ℕ) → j < length P → e ≡ get_or P j empty → e.source ≡ Some j → Slot ws new c P e
  -- "an appended parent method is": the method of one of them, with its own target
  appended : (j m : ℕ) → j < length P → (get_or P j empty).method ≡ Some m → e ≡ record { word = method_target ws m; method = Some m; source = Some j }
      → Slot ws new c P e
  -- and no copies: an empty slot, a method that the class declares, and
  hole : e ≡ empty → Slot ws new c P e
  declared : (m : ℕ) → Memᴰ m (own_methods ws c) → e ≡ method_entry ws m → Slot ws new c P e
  -- of a class with a compiler table, which a generated one alone has: a method that the link adds, and "a nonzero compiler slot is no copy"
  added : HasCompiler ws c → (j : ℕ) → j < length new → e.word ≡ (get_or new j none_taken).member.last → e.source ≡ None → Slot ws new c P e
  compiled : HasCompiler ws c → Memᴰ e.word (compiler_targets ws c) → e.word ≢ 0 → e.source ≡ None → Slot ws new c P e

-- slot i is a copy of entry j of the parent's, P, where a class lays these out anew: `same`, `fixed` and `staying` are as in `laid_out`, n is the minimum size
pub data Relayed (same : ℕ → ℕ → Bool) (fixed staying : ℕ → Option ℕ) (P : List Entry) (n i j : ℕ) : Type 0 where
  -- "later known entries of one signature still overwrite earlier ones at a fixed index": the last one of the signature that stays at i
  at_index : (m : ℕ) → (get_or P j empty).method ≡ Some m → fixed m ≡ Some i → stays same staying i m ≡ true → occurs same m (drop (suc j) P) ≡ false
      → Relayed same fixed staying P n i j
  -- "The last entry of each other follows after the minimum size, .. with the entries without a fixed index"
  behind : n ≤ i → follows same fixed staying (get_or P j empty) (drop (suc j) P) ≡ true → Relayed same fixed staying P n i j

-- what is said of class c's table, whichever way signatures are compared
module _ (same : Same) (ws text abi labels area : List ℕ) (c : ℕ) where
  abbrev pub IsRelayed : ℕ → ℕ → Type 0
  IsRelayed i j =
      Relayed (methods_same same) (fixed_of same abi (chain_abi ws text abi labels c))
      (staying_of same abi (chain_abi ws text abi labels c) (parent_entries same ws text abi labels area c))
      (parent_entries same ws text abi labels area c) (minimum_size abi (chain_abi ws text abi labels c)) i j

  pub record Copies : Type 0 where
    pub slots : (T : List Entry) → table_by same ws text abi labels area c ≡ built T → (i : ℕ) → i < length T
        → Slot ws (generated_methods same ws text abi labels area c) c (parent_entries same ws text abi labels area c) (get_or T i empty)
    -- without an ABI entry of its own and a compiler table: a copy of the entry of its index
    pub same_index : (T : List Entry) → table_by same ws text abi labels area c ≡ built T → class_abi ws text abi labels c ≡ None
        → (is_generated ws c ≡ true → class_compiler_table ws c ≡ 0) → (i j : ℕ) → (get_or T i empty).source ≡ Some j → j ≡ i
    -- with an ABI entry of its own, where it builds its methods: a whole entry, at its fixed index or behind the minimum size, there "in inherited order"
    pub relayed : (T : List Entry) → relays_class ws text abi labels c ≡ true → table_by same ws text abi labels area c ≡ built T
        → (i j : ℕ) → (get_or T i empty).source ≡ Some j
        → (get_or T i empty ≡ get_or (parent_entries same ws text abi labels area c) j empty) × IsRelayed i j
    pub in_order : (T : List Entry) → relays_class ws text abi labels c ≡ true → table_by same ws text abi labels area c ≡ built T
        → (i k j l : ℕ) → minimum_size abi (chain_abi ws text abi labels c) ≤ i → i < k
        → (get_or T i empty).source ≡ Some j → (get_or T k empty).source ≡ Some l → j < l
    -- "a nonzero compiler slot is no copy"; a zero one is the native view's of its index
    pub nonzero : (i : ℕ) → i < length (compiler_targets ws c) → get_or (compiler_targets ws c) i 0 ≢ 0
        → (get_or (compiler_table same ws text abi labels area c) i empty).source ≡ None
    pub zero : (i : ℕ) → i < length (compiler_targets ws c) → get_or (compiler_targets ws c) i 0 ≡ 0
        → get_or (compiler_table same ws text abi labels area c) i empty ≡ get_or (native_view same ws text abi labels area c) i empty
    -- "an appended parent method is": what is appended as no copy is a method that the class declares or the link adds
    pub own : (i m : ℕ) → length (compiler_targets ws c) ≤ i
        → (get_or (compiler_table same ws text abi labels area c) i empty).source ≡ None
        → (get_or (compiler_table same ws text abi labels area c) i empty).method ≡ Some m
        → Memᴰ m (class_methods ws (added_methods same ws text abi labels area c) c)
    -- and a copy is one of the first entry of its method
    pub first : (i j m k : ℕ) → length (compiler_targets ws c) ≤ i
        → (get_or (compiler_table same ws text abi labels area c) i empty).source ≡ Some j
        → (get_or (compiler_table same ws text abi labels area c) i empty).method ≡ Some m
        → k < j → (get_or (parent_entries same ws text abi labels area c) k empty).method ≢ Some m

-- of every class: where they are compared by their bytes, and where by the numbers of a list, whatever it holds
pub record Sources : Type 0 where
  pub bytewise : (ws text abi labels area : List ℕ) (c : ℕ) → Copies (by_bytes ws text abi labels) ws text abi labels area c
  pub numbered : (ns ws text abi labels area : List ℕ) (c : ℕ) → Copies (by_numbers ns) ws text abi labels area c
