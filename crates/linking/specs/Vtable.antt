-- Virtual tables (vtable.rs): Reading, `build_methods`, `build_interface_methods`, and the words written. A known entry's method is a
-- number of the class sheet's method section. Assumes nothing.
use Rattle.std.specs.Prelude.{ℕ, ◌+◌, ◌-◌, min, Bool, false, cond, not, List, [], ◌∷◌, ◌++◌, length, get_or, set, replicate, eqb, Option, Some, None, true, ◌&&◌}
use Rattle.words.specs.Lists.{list_from, first_found, position, fold, keep, numbers, some}
use Rattle.std.specs.Option.{option_or, option_and_then}
use Rattle.class_sheet.specs.ClassSheet.{class_table_place, class_slot_count, method_target}
use Rattle.linking.specs.Signature.{Same, Place, of_method, of_abi_slot, methods_same}
use Rattle.linking.specs.Chain.{on_found, own_methods, parent_of, chain, eligible, own_method, find_by_target}
use Rattle.linking.specs.Abi.{slot_at, class_abi, chain_abi, fixed_index, fixer_distance, minimum_size}

-- a slot: its word, 0 where it is empty, and its method where it is known
pub record Entry : Type 0 where
  pub word : ℕ
  pub method : Option ℕ
  -- its own index in an entry that was read, and carried along: in a table that is built, the parent's slot that it is a copy of. None: no copy
  pub source : Option ℕ

abbrev pub empty : Entry
empty = record { word = 0; method = None; source = None }

-- a table, or the row that refuses it
pub data Built : Type 0 where
  built : List Entry → Built
  refused : ℕ → Built

abbrev pub on_built : Built → (List Entry → Built) → Built
on_built (built T) f = f T
on_built (refused n) f = refused n

module _ (same : Same) (ws text abi labels : List ℕ) where
  -- ---- "Reading: a slot's method is the first with that target, class first, then ancestors. Failing that, the first chain class whose
  -- ABI entry fixes that index and which itself has a method of that signature, of any flags. Else unknown. In each case the entry's
  -- target is the slot's word."

  unfoldable pub own_fixed : ℕ → ℕ → Option ℕ
  own_fixed i c =
      option_and_then (λ s. own_method same ws (of_abi_slot s) c) (option_and_then (slot_at abi i) (class_abi ws text abi labels c))

  unfoldable pub find_by_index : ℕ → ℕ → Option ℕ
  find_by_index c i = first_found (own_fixed i) (chain ws c)

  unfoldable pub read_entry : ℕ → ℕ → ℕ → Entry
  read_entry c i w = record { word = w; method = option_or (find_by_target ws c w) (find_by_index c i); source = Some i }

  -- "its table is the words after the place": slot i of class c, as the area holds it
  unfoldable pub read_slot : List ℕ → ℕ → ℕ → Entry
  read_slot area c i = read_entry c i (get_or area (class_table_place ws c + 1 + i) 0)

  unfoldable pub table_entries : List ℕ → ℕ → List Entry
  table_entries area c = list_from (read_slot area c) 0 (min (class_slot_count ws c) 1024)

  -- the parent's entries, read along the parent's own chain; none without a parent
  unfoldable pub parent_entries : List ℕ → ℕ → List Entry
  parent_entries area c = cond (eqb (parent_of ws c) 0) [] (table_entries area (parent_of ws c))

-- ---- signatures in a table

module _ (same : Same) where
  -- a known entry of the signature of place p
  unfoldable pub entry_is : Place → Entry → Bool
  entry_is p e = on_found e.method (λ m. same (of_method m) p) false

  -- the first slot of the signature
  unfoldable pub slot_of : Place → List Entry → Option ℕ
  slot_of p T = position (entry_is p) 0 T

  -- a known entry of another signature
  unfoldable pub entry_is_other : Place → Entry → Bool
  entry_is_other p e = on_found e.method (λ m. not (same (of_method m) p)) false

abbrev pub method_entry : List ℕ → ℕ → Entry
method_entry ws m = record { word = method_target ws m; method = Some m; source = None }

-- ---- "`build_methods`: parent entries, extended with empty ones to the largest fixed index + 1 or table size among the chain's ABI
-- classes. A class with its own ABI entry first puts each known inherited entry at its fixed index, later ones overwriting; known
-- entries without one follow after the minimum size; unknown ones go. Then each eligible method takes its fixed slot, else the slot of
-- its signature, else a new last one."

unfoldable pub extended : List ℕ → List ℕ → List Entry → List Entry
extended abi abis inherited = inherited ++ replicate (minimum_size abi abis - length inherited) empty

-- "A class with its own ABI entry" lays out what it inherits, E, anew; of "later ones overwriting" a later request says: "later known entries of one
-- signature still overwrite earlier ones at a fixed index. Of several signatures, the one whose index comes from the ABI class nearest on the chain stays;
-- from the same ABI class, the one whose first entry is earlier. The last entry of each other follows after the minimum size, in inherited order with the
-- entries without a fixed index." Here `same` compares the signatures of methods, `fixed m` is the index of m's, and `distance m` how many of the chain's
-- ABI classes are nearer than the one that it comes from.

module _ (same : ℕ → ℕ → Bool) where
  -- e is known, and of m's signature
  unfoldable pub is_of : ℕ → Entry → Bool
  is_of m e = on_found e.method (λ k. same k m) false

  -- a known entry of m's signature is among es
  unfoldable pub occurs : ℕ → List Entry → Bool
  occurs m es = some (is_of m) es

  -- the last entry of m's signature among es, and e if there is none
  unfoldable pub last_of : ℕ → Entry → List Entry → Entry
  last_of m e es = fold (λ l f. cond (is_of m f) f l) e es

module _ (fixed : ℕ → Option ℕ) (distance : ℕ → ℕ) where
  -- e's method, if its index is i and comes from the ABI class d up the chain
  unfoldable pub comes_from : ℕ → ℕ → Entry → Option ℕ
  comes_from i d e = on_found e.method (λ m. cond (on_found (fixed m) (λ j. eqb j i) false && eqb (distance m) d) (Some m) None) None

  -- "the one whose index comes from the ABI class nearest on the chain stays; from the same ABI class, the one whose first entry is earlier": along n ABI
  -- classes, nearest first, the first entry whose index i comes from there
  unfoldable pub nearest_first : ℕ → List Entry → ℕ → Option ℕ
  nearest_first n E i = first_found (λ d. first_found (comes_from i d) E) (numbers 0 n)

-- `staying i` is a method of the signature that stays at index i
module _ (same : ℕ → ℕ → Bool) (staying : ℕ → Option ℕ) where
  -- m's signature stays at index i
  unfoldable pub stays : ℕ → ℕ → Bool
  stays i m = on_found (staying i) (λ k. same k m) false

  -- what stands at index i: the last entry of the signature that stays there; empty where no known entry has the index
  unfoldable pub standing : List Entry → ℕ → Entry
  standing E i = on_found (staying i) (λ h. last_of same h empty E) empty

module _ (same : ℕ → ℕ → Bool) (fixed : ℕ → Option ℕ) (staying : ℕ → Option ℕ) where
  -- e, with es still to come, is known and follows: it has no fixed index, or is the last of a signature that gives way
  unfoldable pub follows : Entry → List Entry → Bool
  follows e es = on_found e.method (λ m. on_found (fixed m) (λ i. not (stays same staying i m) && not (occurs same m es)) true) false

  unfoldable pub following : List Entry → List Entry
  following [] = []
  following (e ∷ es) = cond (follows e es) (e ∷ following es) (following es)

  -- n slots, and what follows after them
  unfoldable pub laid_out : List Entry → ℕ → List Entry
  laid_out E n = list_from (standing same staying E) 0 n ++ following E

module _ (same : Same) (abi : List ℕ) where
  unfoldable pub fixed_of : List ℕ → ℕ → Option ℕ
  fixed_of abis m = fixed_index same abi abis (of_method m)

  unfoldable pub distance_of : List ℕ → ℕ → ℕ
  distance_of abis m = fixer_distance same abi abis (of_method m)

  -- the signatures that stay, of what a class inherits whose chain's ABI classes are abis
  unfoldable pub staying_of : List ℕ → List Entry → ℕ → Option ℕ
  staying_of abis E i = nearest_first (fixed_of abis) (distance_of abis) (length abis) E i

  unfoldable pub relayed : List ℕ → List Entry → List Entry
  relayed abis E = laid_out (methods_same same) (fixed_of abis) (staying_of abis E) E (minimum_size abi abis)

module _ (same : Same) (ws text abi labels : List ℕ) where
  -- the table before the class's own methods, by a way of relaying
  abbrev pub inherited_by : (List ℕ → List Entry → List Entry) → List ℕ → ℕ → List Entry
  inherited_by relaying area c =
      on_found (class_abi ws text abi labels c) (λ a. relaying (chain_abi ws text abi labels c) (parent_entries same ws text abi labels area c))
      (extended abi (chain_abi ws text abi labels c) (parent_entries same ws text abi labels area c))

  unfoldable pub inherited_table : List ℕ → ℕ → List Entry
  inherited_table area c = inherited_by (relayed same abi) area c

-- "Rows 11 and 12 go method by method, 11 first": "a fixed index differs from the inherited one", "the fixed slot holds another
-- signature"
unfoldable pub put_method : Same → List ℕ → Option ℕ → Option ℕ → ℕ → List Entry → Built
put_method same ws (Some i) slot m T =
    cond (on_found slot (λ j. not (eqb j i)) false)
    (refused 11)
    (cond (entry_is_other same (of_method m) (get_or T i empty)) (refused 12) (built (set T i (method_entry ws m))))
put_method same ws None (Some j) m T = built (set T j (method_entry ws m))
put_method same ws None None m T = built (T ++ (method_entry ws m ∷ []))

module _ (same : Same) (ws text abi : List ℕ) where
  unfoldable pub add_method : List ℕ → ℕ → List Entry → Built
  add_method abis m T = cond (eligible ws text m) (put_method same ws (fixed_of same abi abis m) (slot_of same (of_method m) T) m T) (built T)

  unfoldable pub add_methods : List ℕ → List ℕ → List Entry → Built
  add_methods abis [] T = built T
  add_methods abis (m ∷ ms) T = on_built (add_method abis m T) (add_methods abis ms)

unfoldable pub build_methods : Same → List ℕ → List ℕ → List ℕ → List ℕ → List ℕ → ℕ → Built
build_methods same ws text abi labels area c =
    add_methods same ws text abi (chain_abi ws text abi labels c) (own_methods ws c) (inherited_table same ws text abi labels area c)

-- ---- "Interface flag (0x0200), built class: the eligible methods in order."

unfoldable pub method_entries : List ℕ → List ℕ → List Entry
method_entries ws [] = []
method_entries ws (m ∷ ms) = method_entry ws m ∷ method_entries ws ms

unfoldable pub build_interface_methods : List ℕ → List ℕ → ℕ → List Entry
build_interface_methods ws text c = method_entries ws (keep (eligible ws text) (own_methods ws c))

-- ---- "A slot that is empty or of target 0 takes the stub word at its index."

abbrev pub takes_stub : ℕ → Bool
takes_stub w = eqb w 0

abbrev pub slot_word : ℕ → ℕ → ℕ
slot_word w stub = cond (takes_stub w) stub w

-- the words of a table's slots from index i on
unfoldable pub slot_words : List ℕ → ℕ → List Entry → List ℕ
slot_words stubs i [] = []
slot_words stubs i (e ∷ T) = slot_word e.word (get_or stubs i 0) ∷ slot_words stubs (i + 1) T
