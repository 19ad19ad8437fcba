-- By cases: with an own ABI entry the parent's entries are relayed, without one they are extended. Assumes nothing.
use Rattle.vtable.proofs.BuildLaws.{inherited_own, inherited_none}
use Rattle.vtable.proofs.inherited_table.Goals as goal

pub returns-in-Some-clause-is : goal.returns-in-Some-clause-is
returns-in-Some-clause-is c = search inherited_own

pub returns-in-None-clause-is : goal.returns-in-None-clause-is
returns-in-None-clause-is c = search inherited_none
