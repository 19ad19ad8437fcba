-- The slice has the class just where the list does. Assumes nothing.
use Rattle.std.proofs.Common.{◌∙◌}
use Rattle.renumber.proofs.Placing.{placed_found}
use Rattle.renumber.proofs.is_placed.Goals as goal

pub returns : goal.returns
returns c = c.contains.ensures.value ∙ placed_found _ _
