-- Where the code reads member records, and a class's slot at an index. Assumes nothing.
use Rattle.std.specs.Prelude.{ℕ, List, Option, drop}
use Rattle.std.specs.Option.{option_and_then}
use Rattle.abi_sheet.specs.AbiSheet.{abi_slots_at, abi_fields_at}
use Rattle.linking.specs.Abi.{slot_at, class_abi}

-- the words from the first slot record on, and from the first field record on
unfoldable pub slot_records : List ℕ → List ℕ
slot_records abi = drop (abi_slots_at abi) abi

unfoldable pub field_records : List ℕ → List ℕ
field_records abi = drop (abi_fields_at abi) abi

-- the slot record that a class's ABI entry has for index i
unfoldable pub class_slot : List ℕ → List ℕ → List ℕ → List ℕ → ℕ → ℕ → Option ℕ
class_slot ws text abi labels i c = option_and_then (slot_at abi i) (class_abi ws text abi labels c)
