-- A slot's turn stores the mark of a copy of it. Assumes nothing.
use Rattle.std.proofs.Common.{◌≡◌, refl, length, arith}
use Rattle.reading.proofs.MarkLaws.{sources-start, sources-turn}
use Rattle.reading.proofs.give_sources.Goals as goal

pub loop-i-init : goal.loop-i-init
loop-i-init c = sources-start _

pub loop-i-preserved : goal.loop-i-preserved
loop-i-preserved c = sources-turn _ _ c.loop-i.invariant refl refl refl refl

pub returns : goal.returns
returns c = let e : c.loop-i.i ≡ length c.args.marks.now = omega arith in rw e at c.loop-i.invariant
