-- What the words of the listing's functions are beside their contents, and the list of numbers beside them. Assumes nothing.
use Rattle.std.specs.Prelude.{ℕ, ◌<◌, ◌^◌, ◌≡◌, List, get_or}
use Rattle.set_rules.specs.SetRules.{set_refusal}
use Rattle.sheet.specs.Sheet.{read_class_sheet}
use Rattle.matching.specs.Filling.{Faithful}

-- each word is below 2^32
unfoldable pub Small : List ℕ → Type 0
Small ws = (i : ℕ) → get_or ws i 0 < 2 ^ 32

-- ABI words that a link accepts beside any class words that are read
unfoldable pub Accepts : List ℕ → Type 0
Accepts abi = (bs out : List ℕ) → (read_class_sheet bs out).refusal ≡ 0 → set_refusal (read_class_sheet bs out).memory abi ≡ 0

-- rows 3 to 5 accept the sheets, and the list tells their signatures apart
pub record Matched (ws abi numbers : List ℕ) : Type 0 where
  pub accepted : set_refusal ws abi ≡ 0
  pub faithful : Faithful ws abi numbers
