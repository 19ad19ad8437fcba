-- Counting on from n in state q behind the bytes read gives what counting all bytes gives. Assumes nothing.
use mathlib.Core.Path.{◌≡◌}
use lib.ListN.{drop}
use Rattle.descriptor.specs.Words.{capped_from}
use Rattle.descriptor.specs.declared.MethodState.TheVariants.{Begin}
use Rattle.descriptor.proofs.parameter_words.Given as goal

abbrev pub invariant-loop-b : goal.invariant-loop-b
invariant-loop-b l = capped_from l.n l.q (drop l.b-index l.s) ≡ capped_from 0 Begin l.s
