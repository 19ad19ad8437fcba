-- A slot's turn stores its class, or the one that claims it. Assumes nothing.
use Rattle.std.proofs.Common.{◌≡◌, refl, length, arith}
use Rattle.reading.proofs.ClassLaws.{claims-start, claims-turn}
use Rattle.reading.proofs.claim.Goals as goal

pub loop-i-init : goal.loop-i-init
loop-i-init c = claims-start _ _ _

pub loop-i-preserved : goal.loop-i-preserved
loop-i-preserved c = claims-turn _ _ _ _ c.loop-i.invariant c.class_if.ensures refl

pub returns : goal.returns
returns c = let e : c.loop-i.i ≡ length c.args.marks.now = omega arith in rw e at c.loop-i.invariant
