-- The two sheets where their four lists are asked for, and the comparison by their bytes beside them. Assumes nothing.
use Rattle.std.specs.Prelude.{ℕ, List}
use Rattle.linking.specs.Signature.{Same, by_bytes, by_numbers}
use Rattle.linking.specs.declared.Sheets.{Sheets}
use Rattle.linking.specs.declared.Lent.{Lent}

-- what f says of class words, their text, ABI words and theirs
abbrev pub of_sheets {ℓ} : {A : Type ℓ} → (List ℕ → List ℕ → List ℕ → List ℕ → A) → Sheets → A
of_sheets f sheets = f sheets.set.now sheets.text.now sheets.abi.now sheets.labels.now

-- and of class words beside what is lent with them
abbrev pub of_lent {ℓ} : {A : Type ℓ} → (List ℕ → List ℕ → List ℕ → List ℕ → A) → List ℕ → Lent → A
of_lent f ws lent = f ws lent.text.now lent.abi.now lent.labels.now

-- what f says of them where signatures are compared by their bytes
abbrev pub of_bytes {ℓ} : {A : Type ℓ} → (Same → List ℕ → List ℕ → List ℕ → List ℕ → A) → Sheets → A
of_bytes f sheets = of_sheets (f (of_sheets by_bytes sheets)) sheets

-- and where they are compared by the numbers of the list beside them
abbrev pub of_numbers {ℓ} : {A : Type ℓ} → (Same → List ℕ → List ℕ → List ℕ → List ℕ → A) → Sheets → A
of_numbers f sheets = of_sheets (f (by_numbers sheets.numbers.now)) sheets

abbrev pub of_bytes_lent {ℓ} : {A : Type ℓ} → (Same → List ℕ → List ℕ → List ℕ → List ℕ → A) → List ℕ → Lent → A
of_bytes_lent f ws lent = of_lent (f (of_lent by_bytes ws lent)) ws lent
