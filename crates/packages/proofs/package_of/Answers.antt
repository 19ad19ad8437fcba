-- The first slash from the far end is the last one. Assumes nothing.
use Rattle.std.proofs.Common.{arith}
use Rattle.packages.proofs.NameLaws.{slash-end, slash-next, package_here, package_none}
use Rattle.packages.proofs.package_of.Goals as goal

pub loop-i-init : goal.loop-i-init
loop-i-init c = slash-end _ _ (omega arith)

pub returns-then-name-i-eq47 : goal.returns-then-name-i-eq47
returns-then-name-i-eq47 c = package_here _ _ c.loop-i-test.true c.loop-i.auto.i c.loop-i.invariant c.if-name-i-eq47.true

pub loop-i-preserved : goal.loop-i-preserved
loop-i-preserved c = slash-next _ _ c.loop-i-test.true c.loop-i.auto.i c.loop-i.invariant c.if-name-i-eq47.false

pub returns : goal.returns
returns c = package_none _ _ c.loop-i-test.false c.loop-i.invariant
