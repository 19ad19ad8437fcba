-- A search along the ABI classes: each is asked, and the first that fixes an index ends it. Assumes nothing.
use Rattle.std.proofs.Common.{◌∙◌}
use Rattle.linking.specs.Vtable.{distance_of}
use Rattle.abi.proofs.Laws.{distance-start, distance-hit, distance-miss, distance-end}
use Rattle.abi.proofs.distance_of.Goals as goal

pub loop-i-init : goal.loop-i-init
unfolding distance_of
loop-i-init c = distance-start _ _ _ _

pub loop-i-preserved : goal.loop-i-preserved
loop-i-preserved c =
    distance-miss _ _ _ _ _ c.loop-i-test.true c.vtable_index.ensures c.is_some.ensures c.if-is_some.false ∙ c.loop-i.invariant

pub returns-then-is_some : goal.returns-then-is_some
returns-then-is_some c =
    distance-hit _ _ _ _ _ c.loop-i-test.true c.vtable_index.ensures c.is_some.ensures c.if-is_some.true ∙ c.loop-i.invariant

pub returns : goal.returns
returns c = distance-end _ _ _ _ _ c.loop-i.auto.i-end c.loop-i-test.false ∙ c.loop-i.invariant
