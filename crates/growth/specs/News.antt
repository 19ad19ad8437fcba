-- New members as the code has them. What names a member is a method of the class sheet, or a slot or a field of the ABI sheet; a new method takes
-- its signature from a method or a slot. Assumes nothing.
use Rattle.std.specs.Prelude.{ℕ, List, [], ◌∷◌, get_or}
use Rattle.class_sheet.specs.ClassSheet.{method_name, method_descriptor}
use Rattle.abi_sheet.specs.AbiSheet.{abi_slot_name, abi_slot_descriptor, abi_field_name, abi_field_descriptor}
use Rattle.linking.specs.Signature.{Place, of_method, of_abi_slot, place_number}
use Rattle.linking.specs.Compiler.{New, Taken}
use Rattle.growth.specs.declared.news.Member.{Member}
use Rattle.growth.specs.declared.news.Named.{Named}
use Rattle.growth.specs.declared.news.Named.TheVariants.{Method, Slot, Field}

-- the place whose signature names it; there is none of a field, for which method 0 stands
unfoldable pub ref_place : Named → Place
ref_place (Method m) = of_method m
ref_place (Slot s) = of_abi_slot s
ref_place (Field f) = of_method 0

-- the number at that place, and those of several members
unfoldable pub ref_number : List ℕ → Named → ℕ
ref_number numbers r = get_or numbers (place_number (ref_place r)) 0

unfoldable pub news_numbers : List ℕ → List Member → List ℕ
news_numbers numbers [] = []
news_numbers numbers (m ∷ ms) = ref_number numbers m.names ∷ news_numbers numbers ms

module _ (ws text abi labels : List ℕ) where
  -- a part of the class text, or of the ABI text, whichever names it
  unfoldable pub ref_name : Named → List ℕ
  ref_name (Method m) = method_name ws text m
  ref_name (Slot s) = abi_slot_name abi labels s
  ref_name (Field f) = abi_field_name abi labels f

  unfoldable pub ref_descriptor : Named → List ℕ
  ref_descriptor (Method m) = method_descriptor ws text m
  ref_descriptor (Slot s) = abi_slot_descriptor abi labels s
  ref_descriptor (Field f) = abi_field_descriptor abi labels f

  -- the member that the code's one stands for, and those that a list of them does
  unfoldable pub new_of : Member → New
  new_of m = record { name = ref_name m.names; descriptor = ref_descriptor m.names; flags = m.flags; last = m.last }

  unfoldable pub news_of : List Member → List New
  news_of [] = []
  news_of (m ∷ ms) = new_of m ∷ news_of ms

  -- the same of methods, each with the place that it takes its signature from
  unfoldable pub taken_of : Member → Taken
  taken_of m = record { from = ref_place m.names; member = new_of m }

  unfoldable pub added_of : List Member → List Taken
  added_of [] = []
  added_of (m ∷ ms) = taken_of m ∷ added_of ms
