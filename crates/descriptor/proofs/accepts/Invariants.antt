-- The state after all bytes is that of reading the rest from state q; the rest gets shorter, also where bytes of an identifier are passed
-- over. Assumes nothing.
use mathlib.Core.Path.{◌≡◌}
use lib.ListN.{length}
use Rattle.descriptor.specs.Machine.{method_next}
use Rattle.words.specs.Lists.{fold}
use Rattle.descriptor.proofs.accepts.Given as goal

abbrev pub invariant-loop-b : goal.invariant-loop-b
invariant-loop-b l = fold method_next l.q l.rest ≡ fold method_next l.fn.from l.s

abbrev pub decreases-loop-b : goal.decreases-loop-b
decreases-loop-b l = length l.rest
