-- A method's turn is a step of the definition, and its refusal is that of all. Assumes nothing.
use native.Mathlib.Omega.{arith}
use mathlib.Core.Path.{◌∙◌}
use Rattle.std.proofs.lemmas.Result.{err_from_is_err_and}
use Rattle.vtable.proofs.AddLaws.{adds-start, adds-turn, adds-stop, adds-end}
use Rattle.vtable.proofs.add_methods.Goals as goal

pub loop-m-init : goal.loop-m-init
loop-m-init c = record { slots = omega arith; rest = search adds-start }

pub loop-m-preserved : goal.loop-m-preserved
loop-m-preserved c = record {
  slots = omega arith;
  rest = adds-turn _ _ _ _ _ _ _ c.loop-m.m _ _ (omega arith) (omega arith) c.in_ok-add_method.was c.add_method.ensures.is ∙ c.loop-m.invariant.rest;
}

pub returns-in_err-add_method : goal.returns-in_err-add_method
returns-in_err-add_method c =
    let p = err_from_is_err_and c.from_residual.result c.from_residual.ensures.1 in record {
      is = rw (p.1, p.2)
          (adds-stop _ _ _ _ _ _ _ c.loop-m.m _ _ _ (omega arith) (omega arith) c.in_err-add_method.was c.add_method.ensures.is ∙ c.loop-m.invariant.rest);
      count = omega arith;
    }

pub returns-clause-is : goal.returns-clause-is
returns-clause-is c = adds-end _ _ _ _ _ _ _ c.loop-m.m _ (omega arith) ∙ c.loop-m.invariant.rest
