-- How many slots are missing: asking, and the count made anew along the chain. Assumes nothing.
use Rattle.std.specs.Prelude.{ℕ, Bool, false, cond, not, ◌||◌, List, [], ◌∷◌, get_or, eqb}
use Rattle.class_sheet.specs.ClassSheet.{class_kind, is_built_kind, is_generated}
use Rattle.set_rules.specs.SetRules.{set_refusal}
use Rattle.linking.specs.Signature.{Same}
use Rattle.linking.specs.Chain.{chain}
use Rattle.linking.specs.Vtable.{Entry, Built, built, refused, parent_entries}
use Rattle.linking.specs.Counts.{bits_of, missing_at, missing_short}
use Rattle.linking.specs.Link.{built_table, generated_table, no_class, is_linked}

-- ---- asking

pub record Missing : Type 0 where
  pub refusal : ℕ
  pub count : ℕ

abbrev pub turned_away : ℕ → Missing
turned_away n = record { refusal = n; count = 0 }

-- "Asking reads that one number .. Turned away: asking, 3 to 5 as for a link, 6 for no linked class; row 15 also takes a shorter list."
unfoldable pub missing_def : List ℕ → List ℕ → List ℕ → ℕ → Missing
missing_def ws abi list c =
    cond (not (eqb (set_refusal ws abi) 0))
    (turned_away (set_refusal ws abi))
    (cond (no_class ws c || not (is_linked ws c))
    (turned_away 6)
    (cond (missing_short ws list) (turned_away 15) (record { refusal = 0; count = get_or list (missing_at c) 0 })))

-- ---- "counting by the same rule over the chain"

abbrev pub entries_built : Built → List Entry
entries_built (built T) = T
entries_built (refused n) = []

module _ (same : Same) (ws text abi labels area : List ℕ) where
  -- a class's table, kind by kind: what `plan` makes of it (a law of proofs/Plans.antt)
  unfoldable pub table_by : ℕ → Built
  table_by c =
      cond (is_built_kind (class_kind ws c)) (built_table same ws text abi labels area c)
      (cond (is_generated ws c) (generated_table same ws text abi labels area c) (built (parent_entries same ws text abi labels area c)))

  -- from the root down, each class's table built anew, its slots counted by the bits of its parent's
  unfoldable pub recounted_along : List ℕ → List Bool
  recounted_along [] = []
  recounted_along (c ∷ cs) = bits_of (λ j. get_or (recounted_along cs) j false) (entries_built (table_by c))

  unfoldable pub recounted : ℕ → List Bool
  recounted c = recounted_along (chain ws c)
