-- The sum for a built class, and 0 for any other. Assumes nothing.
use Rattle.link.proofs.StoreLaws.{statics-built, statics-other}
use Rattle.link.proofs.new_statics.Goals as goal

pub returns-then-is_built : goal.returns-then-is_built
returns-then-is_built c = search statics-built

pub returns : goal.returns
returns c = search statics-other
