-- What the definitions say of words that row 4 refuses, and so no call shows: an index above the limit counts as the limit. Assumes nothing.
use mathlib.Core.Path.{◌≡◌, refl}
use mathlib.Core.List.{List, [], ◌∷◌}
use Prim.Native.Nat.{ℕ}
use Rattle.words.specs.Lists.{list_from, find, first_found, fold}
use Rattle.std.specs.Prelude.{Some}
use Rattle.text.specs.Text.{name_at, same_bytes}
use Rattle.abi_sheet.specs.AbiSheet.{abi_count_at, abi_slots_at, abi_class_word, abi_slot_word}
use Rattle.linking.specs.Signature.{of_abi_slot, place_name, place_descriptor, by_bytes}
use Rattle.linking.specs.Abi.{abi_slots, slot_index, vtable_index, class_size}

-- the text `a()V`
abbrev labels : List ℕ
labels = 97 ∷ 40 ∷ 41 ∷ 86 ∷ []

-- an ABI class a with one slot, a ()V at 2,000
abbrev abi : List ℕ
abi = 1 ∷ 1 ∷ 0 ∷ 4 ∷ 0 ∷ 1 ∷ 0 ∷ 0 ∷ 0 ∷ 1 ∷ 0 ∷ 0 ∷ 0 ∷ 1 ∷ 1 ∷ 3 ∷ 2000 ∷ []

pub record Rows : Type 0 where
  pub cut-index : vtable_index (by_bytes [] [] abi labels) abi (of_abi_slot 0) 0 ≡ Some 1023
  pub cut-size : class_size abi 0 ≡ 1024

pub rows : Rows
unfolding by_bytes place_name place_descriptor abi_slots slot_index vtable_index class_size abi_count_at abi_slots_at abi_class_word abi_slot_word name_at
    same_bytes list_from find first_found fold
rows = record { cut-index = refl; cut-size = refl }
