-- Each turn replaces one word. Assumes nothing.
use Rattle.std.proofs.Common.{refl, arith}
use Rattle.renumber.proofs.Writing.{map-start, map-turn, map-end}
use Rattle.renumber.proofs.Order.map_numbers.Goals as goal

pub loop-x-init : goal.loop-x-init
loop-x-init c = map-start _ _

pub loop-x-preserved : goal.loop-x-preserved
loop-x-preserved c = map-turn _ _ _ (omega arith) c.loop-x.invariant refl c.new_number.ensures refl

pub returns : goal.returns
returns c = map-end _ _ _ (omega arith) c.loop-x.invariant
