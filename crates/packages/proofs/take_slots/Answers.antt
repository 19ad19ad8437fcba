-- An eligible method takes the slots of the methods that it overrides. Assumes nothing.
use mathlib.Core.Path.{ap}
use mathlib.Core.Bool.{not}
use Rattle.packages.proofs.TakeLaws.{take_none, take_yes}
use Rattle.packages.proofs.take_slots.Goals as goal

pub returns-then-not-eligible-clause-is : goal.returns-then-not-eligible-clause-is
returns-then-not-eligible-clause-is c = take_none _ _ _ _ _ _ _ _ c.eligible.ensures (ap not c.if-not-eligible.true)

pub returns-clause-is : goal.returns-clause-is
returns-clause-is c = take_yes _ _ _ _ _ _ _ _ c.eligible.ensures (ap not c.if-not-eligible.false) c.mark_overridden.ensures c.put_taken.ensures.is
