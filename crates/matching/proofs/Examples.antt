-- The numbers of small sheets, by computation. Assumes nothing.
use mathlib.Core.Path.{◌≡◌, refl}
use mathlib.Core.List.{List, [], ◌∷◌}
use Prim.Native.Nat.{ℕ, ◌+◌}
use lib.ListN.{set, take, drop, replicate}
use Rattle.class_sheet.specs.ClassSheet.{methods_at}
use Rattle.linking.specs.Signature.{place_name, place_descriptor, by_bytes, place_at}
use Rattle.linking.specs.Numbers.{is_used, is_twin, number_at, numbers_of, numbers_short, fill_def}
use Rattle.linking.proofs.Assemble.{Lent, method, built, slot, abi, lent}
use Rattle.linking.proofs.Opened.{opened}

-- n of a filling's numbers, from place p on
abbrev numbers_in : Lent → ℕ → ℕ → List ℕ
numbers_in x p n = take n (drop p (numbers_of x.set x.abi))

-- methods a, b, a and ABI slots b, c
abbrev twins : Lent
twins = lent (built "P" 0 (method "a" 5 ∷ method "b" 6 ∷ method "a" 7 ∷ []) [] ∷ []) (abi "Q" (slot "b" 0 ∷ slot "c" 1 ∷ []) [] ∷ [])

-- each part for itself: these two have the same bytes in a row
abbrev joined : Lent
joined =
    lent
    (built "P" 0
    (record { name = "f"; descriptor = "()La(B)Lb;"; flags = 1; last = 5 } ∷ record { name = "f()La"; descriptor = "(B)Lb;"; flags = 1; last = 6 } ∷ [])
    [] ∷ [])
    []

-- with a first method whose name has no byte
abbrev nameless : List ℕ → List ℕ
nameless ws = set ws (methods_at ws + 1) 0

pub record Fillings : Type 0 where
  pub methods : numbers_in twins 0 4 ≡ 0 ∷ 1 ∷ 0 ∷ 0 ∷ []
  pub slots : numbers_in twins 512 3 ≡ 1 ∷ 513 ∷ 0 ∷ []
  pub parts : numbers_in joined 0 2 ≡ 0 ∷ 1 ∷ []
  -- a longer list keeps its rest
  pub rest : drop 1024 (fill_def twins.set twins.abi (replicate 1026 7)).numbers ≡ 7 ∷ 7 ∷ []
  -- a shorter one goes before row 4
  pub short : (fill_def (nameless twins.set) twins.abi (replicate 1023 7)).refusal ≡ 3
  pub record_refused : (fill_def (nameless twins.set) twins.abi (replicate 1024 7)).refusal ≡ 4

pub fillings : Fillings
unfolding opened place_name place_descriptor by_bytes place_at is_used is_twin number_at numbers_of numbers_short fill_def
fillings = record { methods = refl; slots = refl; parts = refl; rest = refl; short = refl; record_refused = refl }
