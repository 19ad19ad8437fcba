-- A method's turn puts its entry, if it has one, behind the last one. Assumes nothing.
use Rattle.std.proofs.Common.{arith}
use mathlib.Core.Path.{◌∙◌}
use Rattle.vtable.proofs.TableLaws.{eligibles_start, eligibles_turn, eligibles_end}
use Rattle.vtable.proofs.build_interface_methods.Goals as goal

pub loop-m-init : goal.loop-m-init
loop-m-init c = record { slots = omega arith; rest = search eligibles_start }

pub loop-m-preserved : goal.loop-m-preserved
loop-m-preserved c = record {
  slots = omega arith;
  rest = eligibles_turn _ _ _ _ c.loop-m.m _ _ (omega arith) (omega arith) c.add_eligible.ensures.is ∙ c.loop-m.invariant.rest;
}

pub returns-clause-is : goal.returns-clause-is
returns-clause-is c = eligibles_end _ _ _ _ c.loop-m.m _ (omega arith) ∙ c.loop-m.invariant.rest
