-- A generated class with a compiler table (`prepare_generated`, `build_from_compiler_vtable`). Methods are numbered on: below 512 those of
-- the sheet, 512 + j the j-th that is added. Assumes nothing.
use Rattle.std.specs.Prelude.{ℕ, ◌+◌, ◌-◌, min, Bool, false, cond, not, ◌&&◌, ◌||◌, List, [], ◌∷◌, ◌++◌, length, get_or, eqb, leb, ltb, Option, Some, None}
use Rattle.words.specs.Lists.{list_from, numbers, find, first_found, cons_found, all_found, fold, some}
use Rattle.std.specs.Option.{option_or}
use Rattle.class_sheet.specs.ClassSheet.{class_count, class_first_method, class_method_count, class_link_state, class_compiler_table, class_compiler_slots, compiler_word, interface_word, method_name, method_descriptor, method_flags, method_target, method_limit}
use Rattle.abi_sheet.specs.AbiSheet.{abi_slot_name, abi_slot_descriptor}
use Rattle.linking.specs.Signature.{Same, Place, of_method, of_abi_slot}
use Rattle.linking.specs.Chain.{on_found, own_methods, own_interfaces, parent_of, is_abstract, is_eligible}
use Rattle.linking.specs.Abi.{slot_at, class_abi, chain_abi}
use Rattle.linking.specs.Vtable.{Entry, empty, parent_entries, fixed_of}

-- a member to be added to the sheet: a method with its target, or a field with its index
pub record New : Type 0 where
  pub name : List ℕ
  pub descriptor : List ℕ
  pub flags : ℕ
  pub last : ℕ

abbrev pub no_new : New
no_new = record { name = []; descriptor = []; flags = 0; last = 0 }

-- a method to be added, and the place whose signature it takes
pub record Taken : Type 0 where
  pub from : Place
  pub member : New

abbrev pub none_taken : Taken
none_taken = record { from = of_method 0; member = no_new }

unfoldable pub members : List Taken → List New
members [] = []
members (x ∷ xs) = x.member ∷ members xs

abbrev pub without_abstract : ℕ → ℕ
without_abstract flags = cond (is_abstract flags) (flags - 1024) flags

-- ---- (a) "a known parent entry whose owner's link state is not 3 and whose slot is not its fixed index (parent chain's ABI) is emptied:
-- the native view."

-- "A method belongs to the class whose list holds it"
unfoldable pub holds : List ℕ → ℕ → ℕ → Bool
holds ws m c = leb (class_first_method ws c) m && ltb m (class_first_method ws c + class_method_count ws c)

unfoldable pub owner_state : List ℕ → ℕ → ℕ
owner_state ws m = on_found (find (holds ws m) (numbers 1 (class_count ws))) (class_link_state ws) 0

module _ (same : Same) (ws abi : List ℕ) where
  unfoldable pub is_emptied : List ℕ → ℕ → Entry → Bool
  is_emptied abis i e =
      on_found e.method (λ m. not (eqb (owner_state ws m) 3) && not (on_found (fixed_of same abi abis m) (eqb i) false)) false

  unfoldable pub view_from : List ℕ → ℕ → List Entry → List Entry
  view_from abis i [] = []
  view_from abis i (e ∷ es) = cond (is_emptied abis i e) empty e ∷ view_from abis (i + 1) es

unfoldable pub native_view : Same → List ℕ → List ℕ → List ℕ → List ℕ → List ℕ → ℕ → List Entry
native_view same ws text abi labels area c =
    view_from same ws abi (chain_abi ws text abi labels (parent_of ws c)) 0 (parent_entries same ws text abi labels area c)

-- ---- the compiler table: "0 none, else first word counted from 1"

unfoldable pub compiler_targets : List ℕ → ℕ → List ℕ
compiler_targets ws c = list_from (λ i. compiler_word ws (class_compiler_table ws c - 1 + i)) 0 (min (class_compiler_slots ws c) 1024)

-- ---- (b) "Each nonzero compiler target differing from the native view there takes its signature from that view's method (flags without
-- 0x0400), else from the fixed entry at that index of the class's own ABI entry, then its interfaces' (flags 1). It is added as a method
-- unless originally declared or nameless."

-- a method that takes its signature from one of the sheet, or from an ABI slot
abbrev pub from_method : List ℕ → List ℕ → ℕ → ℕ → Taken
from_method ws text m target =
    record {
      from = of_method m;
      member = record {
        name = method_name ws text m;
        descriptor = method_descriptor ws text m;
        flags = without_abstract (method_flags ws m);
        last = target;
      };
    }

abbrev pub from_slot : List ℕ → List ℕ → ℕ → ℕ → Taken
from_slot abi labels s target =
    record {
      from = of_abi_slot s;
      member = record { name = abi_slot_name abi labels s; descriptor = abi_slot_descriptor abi labels s; flags = 1; last = target };
    }

module _ (same : Same) (ws : List ℕ) where
  unfoldable pub is_declared : ℕ → Taken → Bool
  is_declared c x = some (λ m. same (of_method m) x.from) (own_methods ws c)

  -- the method added for a target, if any, in front of the rest
  unfoldable pub add_named : ℕ → Taken → List Taken → List Taken
  add_named c x xs = cond (is_declared c x) xs (x ∷ xs)

-- the class's own ABI entry, then its interfaces'
unfoldable pub signature_sources : List ℕ → List ℕ → List ℕ → List ℕ → ℕ → List ℕ
signature_sources ws text abi labels c =
    cons_found (class_abi ws text abi labels c) (all_found (λ i. class_abi ws text abi labels (interface_word ws i)) (own_interfaces ws c))

module _ (same : Same) (ws text abi labels : List ℕ) where
  -- of a target at index i
  abbrev pub add_from : ℕ → ℕ → ℕ → Option ℕ → List Taken → List Taken
  add_from c i target method xs =
      on_found method (λ m. add_named same ws c (from_method ws text m target) xs)
      (on_found (first_found (slot_at abi i) (signature_sources ws text abi labels c)) (λ s. add_named same ws c (from_slot abi labels s target) xs) xs)

  unfoldable pub added_from : ℕ → List Entry → ℕ → List ℕ → List Taken
  added_from c view i [] = []
  added_from c view i (t ∷ ts) =
      cond (eqb t 0 || eqb t (get_or view i empty).word)
      (added_from c view (i + 1) ts)
      (add_from c i t (get_or view i empty).method (added_from c view (i + 1) ts))

  unfoldable pub added_methods : List ℕ → ℕ → List Taken
  added_methods area c = added_from c (native_view same ws text abi labels area c) 0 (compiler_targets ws c)

-- ---- methods of the sheet, and those added to it

abbrev pub new_at : List Taken → ℕ → Taken
new_at new m = get_or new (m - method_limit) none_taken

-- the place of its signature: an added method's is the one that it took
unfoldable pub place_of : List Taken → ℕ → Place
place_of new m = cond (ltb m method_limit) (of_method m) (new_at new m).from

unfoldable pub name_of : List ℕ → List ℕ → List Taken → ℕ → List ℕ
name_of ws text new m = cond (ltb m method_limit) (method_name ws text m) (new_at new m).member.name

module _ (ws : List ℕ) (new : List Taken) where
  unfoldable pub flags_of : ℕ → ℕ
  flags_of m = cond (ltb m method_limit) (method_flags ws m) (new_at new m).member.flags

  unfoldable pub target_of : ℕ → ℕ
  target_of m = cond (ltb m method_limit) (method_target ws m) (new_at new m).member.last

  -- declared and added, in order
  unfoldable pub class_methods : ℕ → List ℕ
  class_methods c = own_methods ws c ++ numbers method_limit (length new)

  -- ---- (c) "A zero slot is the native view's; another is matched by target in declared and added, then native methods."

  unfoldable pub entry_target : ℕ → Entry → Option ℕ
  entry_target t e = on_found e.method (λ m. cond (eqb (target_of m) t) (Some m) None) None

  unfoldable pub match_target : ℕ → List Entry → ℕ → Option ℕ
  match_target c view t = option_or (find (λ m. eqb (target_of m) t) (class_methods c)) (first_found (entry_target t) view)

  unfoldable pub compiler_entry : ℕ → List Entry → ℕ → ℕ → Entry
  compiler_entry c view i t = cond (eqb t 0) (get_or view i empty) (record { word = t; method = match_target c view t; source = None })

  unfoldable pub compiler_entries : ℕ → List Entry → ℕ → List ℕ → List Entry
  compiler_entries c view i [] = []
  compiler_entries c view i (t ∷ ts) = compiler_entry c view i t ∷ compiler_entries c view (i + 1) ts

-- ---- (d) "Eligible declared, added and parent methods whose signature has no slot are appended with their own targets."

module _ (same : Same) (new : List Taken) where
  unfoldable pub same_signature : ℕ → ℕ → Bool
  same_signature m k = same (place_of new m) (place_of new k)

  unfoldable pub has_slot : ℕ → List Entry → Bool
  has_slot m T = some (λ e. on_found e.method (same_signature m) false) T

module _ (same : Same) (ws text : List ℕ) (new : List Taken) where
  -- appended as a copy of that slot of the parent's table, or as none
  unfoldable pub append_from : Option ℕ → List Entry → ℕ → List Entry
  append_from source T m =
      cond (is_eligible (flags_of ws new m) (name_of ws text new m) && not (has_slot same new m T))
      (T ++ (record { word = target_of ws new m; method = Some m; source = source } ∷ []))
      T

  -- "an appended parent method is" a copy
  unfoldable pub append_entry : List Entry → Entry → List Entry
  append_entry T e = on_found e.method (append_from e.source T) T

unfoldable pub compiler_table : Same → List ℕ → List ℕ → List ℕ → List ℕ → List ℕ → ℕ → List Entry
compiler_table same ws text abi labels area c =
    let new : List Taken = added_methods same ws text abi labels area c in
    let view : List Entry = native_view same ws text abi labels area c in
    fold (append_entry same ws text new)
    (fold (append_from same ws text new None) (compiler_entries ws new c view 0 (compiler_targets ws c)) (class_methods ws new c))
    (parent_entries same ws text abi labels area c)
