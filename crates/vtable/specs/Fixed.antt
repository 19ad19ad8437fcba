-- The fixed indices of a chain's ABI classes by the numbers of signatures, which the code looks up in an array of marks. Assumes nothing.
use Rattle.std.specs.Prelude.{ℕ, ◌+◌, ◌<◌, ◌≡◌, cond, List, get_or, eqb, replicate, Option, Some, None}
use Rattle.std.specs.Option.{option_or}
use Rattle.words.specs.Lists.{first_found}
use Rattle.class_sheet.specs.ClassSheet.{method_limit}
use Rattle.linking.specs.declared.Sheets.{Sheets}
use Rattle.linking.specs.Abi.{abi_slots, slot_index}
use Rattle.vtable.specs.Relay.{found_at}

-- the index that ABI slot s fixes for the signature with number x
unfoldable pub slot_fixes : List ℕ → List ℕ → ℕ → ℕ → Option ℕ
slot_fixes ns abi s x = cond (eqb (get_or ns (method_limit + s) 0) x) (Some (slot_index abi s)) None

-- the first that the slots of ABI class a fix for it, and the first that the ABI classes fix
abbrev pub class_fixes : List ℕ → List ℕ → ℕ → ℕ → Option ℕ
class_fixes ns abi a x = first_found (λ s. slot_fixes ns abi s x) (abi_slots abi a)

abbrev pub chain_fixes : List ℕ → List ℕ → List ℕ → ℕ → Option ℕ
chain_fixes ns abi abis x = first_found (λ a. class_fixes ns abi a x) abis

-- for each number of a list that is filled the marks w have what the marks v have, or where these have nothing what f gives
pub record Adds (f : ℕ → Option ℕ) (v w : List ℕ) : Type 0 where
  pub each : (x : ℕ) → x < 1024 → found_at w x ≡ option_or (found_at v x) (f x)

-- the marks have what the ABI classes fix
abbrev pub View : Sheets → List ℕ → List ℕ → Type 0
View sheets abis view = Adds (chain_fixes sheets.numbers.now sheets.abi.now abis) (replicate 1024 0) view
