-- The method that one compiler target adds, as the code makes it: what names its signature is a method or an ABI slot, as in `growth`. Assumes nothing.
use Rattle.std.specs.Prelude.{ℕ, cond, ◌||◌, List, [], eqb, Option}
use Rattle.words.specs.Lists.{first_found}
use Rattle.std.specs.Option.{option_or, option_and_then, option_map}
use Rattle.class_sheet.specs.ClassSheet.{method_flags, interface_word}
use Rattle.linking.specs.Signature.{Same}
use Rattle.linking.specs.Abi.{slot_at, class_abi}
use Rattle.linking.specs.Vtable.{Entry}
use Rattle.linking.specs.Compiler.{Taken, without_abstract, signature_sources, add_from}
use Rattle.growth.specs.declared.news.Member.{Member}
use Rattle.growth.specs.declared.news.Named.{Named}
use Rattle.growth.specs.declared.news.Named.TheVariants.{Method, Slot, Field}

-- "flags without 0x0400" of a method, flags 1 of a slot
unfoldable pub ref_flags : List ℕ → Named → ℕ
ref_flags ws (Method m) = without_abstract (method_flags ws m)
ref_flags ws (Slot s) = 1
ref_flags ws (Field f) = 1

-- the member of target t that takes its signature from r
abbrev pub member_of : List ℕ → Named → ℕ → Member
member_of ws r t = record { names = r; flags = ref_flags ws r; last = t }

module _ (ws text abi labels : List ℕ) where
  -- the slot at index i of the ABI entry of the class that interface word k names
  unfoldable pub interface_slot : ℕ → ℕ → Option ℕ
  interface_slot i k = option_and_then (slot_at abi i) (class_abi ws text abi labels (interface_word ws k))

  -- what a target at index i takes its signature from: the view's method there, else an ABI slot
  unfoldable pub source_ref : ℕ → ℕ → Option ℕ → Option Named
  source_ref c i method = option_or (option_map Method method) (option_map Slot (first_found (slot_at abi i) (signature_sources ws text abi labels c)))

-- what target t at index i adds, where the native view has entry e
module _ (same : Same) (ws text abi labels : List ℕ) where
  unfoldable pub added_at : ℕ → ℕ → ℕ → Entry → List Taken
  added_at c i t e = cond (eqb t 0 || eqb t e.word) [] (add_from same ws text abi labels c i t e.method [])
