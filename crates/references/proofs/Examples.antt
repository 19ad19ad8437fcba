-- The request's bitmap, read by computation through both entries: the list with its count, and the count alone. `judge` runs this and more.
-- Assumes nothing.
use Prim.Native.Nat.{ℕ}
use mathlib.Core.Path.{◌≡◌, refl}
use mathlib.Core.List.{List, [], ◌∷◌}
use lib.Count.{ones}
use Rattle.words.specs.Folds.{sum_of}
use Rattle.words.specs.Lists.{list_from, keep}
use Rattle.references.specs.References.{is_marked, marked_words, bytes_for, kept_bits, masked, masked_ones, too_few, Outcome, written_over, read_references, count_references}

-- both answers for a bitmap and n words, where a list is lent
abbrev both : List ℕ → ℕ → List ℕ → Outcome × Outcome
both bitmap n list = (read_references bitmap n list, count_references bitmap n)

-- the list is left so, and both tell the count
abbrev told : ℕ → List ℕ → Outcome × Outcome
told n list = (record { refusal = 0; count = n; memory = list }, record { refusal = 0; count = n; memory = [] })

pub record Rows : Type 0 where
  -- "Byte 0xA1 with 8 words gives 0, 2, 7 and the count 3"
  pub marked : both (0xA1 ∷ []) 8 (9 ∷ 9 ∷ 9 ∷ []) ≡ told 3 (0 ∷ 2 ∷ 7 ∷ [])

pub rows : Rows
unfolding is_marked marked_words bytes_for kept_bits masked masked_ones too_few written_over read_references count_references sum_of list_from keep ones
rows = record { marked = refl }
