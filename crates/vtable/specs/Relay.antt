-- Relaying as the code does it, over two arrays of marks: the fixed indices of the inherited entries, and the methods that hold the indices. Assumes nothing.
use Rattle.std.specs.Prelude.{ℕ, ◌<◌, ◌≡◌, Bool, cond, List, [], ◌∷◌, ◌++◌, length, get_or, set, Option}
use Rattle.std.specs.Option.{option_and_then}
use Rattle.linking.specs.Signature.{Same, methods_same, by_numbers}
use Rattle.linking.specs.declared.Sheets.{Sheets}
use Rattle.linking.specs.Chain.{on_found}
use Rattle.linking.specs.Vtable.{Entry, empty, occurs, stays, fixed_of, distance_of}
use Rattle.linking.specs.Relays.{hold_entry, holder, relays}
use Rattle.reading.specs.Arrays.{method_of}
use Rattle.vtable.specs.declared.Place.{Place}
use Rattle.vtable.specs.declared.Place.TheVariants.{At, Last, Away}

-- the fixed index of a method among these ABI classes, and how far up the one stands that it comes from
abbrev pub fixed_in : Sheets → List ℕ → ℕ → Option ℕ
fixed_in sheets abis = fixed_of (by_numbers sheets.numbers.now) sheets.abi.now abis

abbrev pub distance_in : Sheets → List ℕ → ℕ → ℕ
distance_in sheets abis = distance_of (by_numbers sheets.numbers.now) sheets.abi.now abis

-- what the i-th mark of an array stands for
abbrev pub found_at : List ℕ → ℕ → Option ℕ
found_at marks i = method_of (get_or marks i 0)

-- the array has the fixed index of each entry
pub record Indices (fixed : ℕ → Option ℕ) (E : List Entry) (at : List ℕ) : Type 0 where
  pub each : (k : ℕ) → k < length E → found_at at k ≡ option_and_then fixed (get_or E k empty).method

-- the array has the methods that hold the 1,024 indices
pub record Holders (fixed : ℕ → Option ℕ) (distance : ℕ → ℕ) (E : List Entry) (hs : List ℕ) : Type 0 where
  pub each : (j : ℕ) → j < 1024 → found_at hs j ≡ holder fixed distance E j

-- what the entry e makes of them
pub record Held (fixed : ℕ → Option ℕ) (distance : ℕ → ℕ) (e : Entry) (hs gs : List ℕ) : Type 0 where
  pub each : (j : ℕ) → j < 1024 → found_at gs j ≡ hold_entry fixed distance j (found_at hs j) e

-- where an entry goes whose method is o and whose index is f, with es still to come: to its index, if its signature stays there; away, if it is
-- unknown or its signature gives way and comes again; else after the last slot
unfoldable pub place_of : (ℕ → ℕ → Bool) → (ℕ → Option ℕ) → Option ℕ → Option ℕ → List Entry → Place
place_of same staying f o es =
    on_found o (λ m. on_found f (λ i. cond (stays same staying i m) (At i) (cond (occurs same m es) Away Last)) Last) Away

unfoldable pub put_place : Place → Entry → List Entry → List Entry
put_place (At i) e T = set T i e
put_place Last e T = T ++ (e ∷ [])
put_place Away e T = T

-- what relaying all of the entries E entry by entry makes of the table T
abbrev pub relays_of : Same → List ℕ → List ℕ → List Entry → List Entry → List Entry
relays_of same abi abis E T = relays (methods_same same) (fixed_of same abi abis) (distance_of same abi abis) E T E
