-- DEMAND 1, "the call still finishes within its memory", of the stack: a search along a chain recurses from class to parent, once for each class of `chain`.
-- Rows 3 and 6 stand before the first such search, so that no link and no ask goes deeper than 64 classes. `shallow` of proofs/Depth.antt proves it.
-- Assumes nothing.
use Rattle.std.specs.Prelude.{ℕ, ◌≤◌, ◌≡◌, ◌⊎◌, false, List, length}
use Rattle.class_sheet.specs.ClassSheet.{class_count}
use Rattle.linking.specs.Chain.{chain}
use Rattle.linking.specs.Link.{no_class}
use Rattle.linking.specs.Numbered.{link_numbered, ask_numbered}

-- none of rows 3 to 6 gave this number
abbrev pub Passed : ℕ → Type 0
Passed row = (row ≡ 0) ⊎ (7 ≤ row)

-- no chain from class c on has more than 64 classes, nor one from a smaller number, as its parent's
abbrev pub Short : List ℕ → ℕ → Type 0
Short ws c = (d : ℕ) → d ≤ c → length (chain ws d) ≤ 64

pub record Shallow : Type 0 where
  pub link : (ws abi numbers : List ℕ) (c : ℕ) (area stubs missing : List ℕ) → Passed (link_numbered ws abi numbers c area stubs missing).outcome.refusal
      → Short ws c
  pub ask : (ws abi numbers : List ℕ) (c i : ℕ) (area stubs : List ℕ) → Passed (ask_numbered ws abi numbers c i area stubs).refusal
      → Short ws c × Short ws i
  -- what of the two rows it takes: "classes ≤ 64", and not "number 0 or above the count". A class that has lines in the listing has passed both
  pub class : (ws : List ℕ) (c : ℕ) → class_count ws ≤ 64 → no_class ws c ≡ false → Short ws c
