-- The state after all bytes is that of reading the rest from state q; the rest gets shorter, also where bytes of an identifier are passed
-- over. Assumes nothing.
use mathlib.Core.Path.{◌≡◌}
use lib.ListN.{length}
use Rattle.descriptor.specs.Machine.{field_next}
use Rattle.descriptor.specs.declared.FieldState.TheVariants.{Open}
use Rattle.words.specs.Lists.{fold}
use Rattle.descriptor.proofs.is_field_descriptor.Given as goal

abbrev pub invariant-loop-b : goal.invariant-loop-b
invariant-loop-b l = fold field_next l.q l.rest ≡ fold field_next Open l.s

abbrev pub decreases-loop-b : goal.decreases-loop-b
decreases-loop-b l = length l.rest
