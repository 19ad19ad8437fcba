-- What the definitions say of words that row 4 refuses, and so no call shows: a parent that is not below its child counts as none, and a list
-- is cut at the section's limit. Assumes nothing.
use mathlib.Core.Path.{◌≡◌, refl}
use mathlib.Core.List.{List, [], ◌∷◌, ◌++◌}
use Prim.Native.Nat.{ℕ}
use Rattle.words.specs.Lists.{list_from}
use Rattle.class_sheet.specs.ClassSheet.{class_word}
use Rattle.linking.specs.Chain.{own_methods, parent_of, chain_of, chain}

-- a class with the parent and the method list
abbrev class : ℕ → ℕ → ℕ → List ℕ
class parent first count = 0 ∷ 1 ∷ parent ∷ 1 ∷ 0 ∷ first ∷ count ∷ 0 ∷ 0 ∷ 0 ∷ 0 ∷ 0 ∷ 0 ∷ 0 ∷ 0 ∷ 0 ∷ 0 ∷ 0 ∷ []

-- class 1, class 2 whose parent is said to be itself, class 3 below 1 with a list that runs past method 511
abbrev set : List ℕ
set = 3 ∷ 6 ∷ 0 ∷ 0 ∷ 0 ∷ 6 ∷ class 0 0 2 ++ (class 2 5 1 ++ class 1 510 9)

pub record Rows : Type 0 where
  pub own-parent : chain set 2 ≡ 2 ∷ []
  pub cut : own_methods set 3 ≡ 510 ∷ 511 ∷ []

pub rows : Rows
unfolding chain chain_of parent_of own_methods list_from class_word
rows = record { own-parent = refl; cut = refl }
