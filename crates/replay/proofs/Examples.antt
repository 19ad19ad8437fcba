-- The definitions, computed. Assumes nothing.
use mathlib.Core.Path.{◌≡◌, refl}
use mathlib.Core.List.{[], ◌∷◌}
use Rattle.words.specs.Lists.{list_from}
use Rattle.calls.specs.Calls.{link, ask}
use Rattle.replay.specs.Replay.{call_of, call_at, calls_of, over, over_at}

pub record Rows : Type 0 where
  -- a link of class 7 with two stubs, an ask of class 7 for interface 9 whose stub list is cut at the lent stubs' end, and two words that are no call
  pub told : calls_of (0 ∷ 7 ∷ 0 ∷ 1 ∷ 2 ∷ 1 ∷ 7 ∷ 9 ∷ 2 ∷ 5 ∷ 0 ∷ 7 ∷ []) (40 ∷ 41 ∷ 42 ∷ [])
      ≡ link 7 (41 ∷ 42 ∷ []) ∷ ask 7 9 (42 ∷ []) ∷ []
  -- the answers that there is room for
  pub laid : over (1 ∷ 2 ∷ 3 ∷ []) (7 ∷ 8 ∷ []) ∷ over (1 ∷ []) (7 ∷ 8 ∷ []) ∷ over_at 1 (1 ∷ []) (7 ∷ 8 ∷ []) ∷ []
      ≡ (1 ∷ 2 ∷ []) ∷ (1 ∷ 8 ∷ []) ∷ (7 ∷ 1 ∷ []) ∷ []

pub rows : Rows
unfolding call_of call_at calls_of list_from over over_at
rows = record { told = refl; laid = refl }
