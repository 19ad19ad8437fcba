-- A method's turn is a step of the fold. Assumes nothing.
use Rattle.std.proofs.Common.{arith}
use Rattle.packages.proofs.TakeLaws.{takes-start, takes-turn, takes-end}
use Rattle.packages.proofs.take_all.Goals as goal

pub loop-m-init : goal.loop-m-init
loop-m-init c =
    let a = c.args in record {
      slots = omega arith;
      rest = takes-start a.sheets.set.now a.sheets.text.now a.c _ _ _ _ c.class_first_method-first.ensures c.method_count-count.ensures;
    }

pub loop-m-preserved : goal.loop-m-preserved
loop-m-preserved c =
    let a = c.args in record {
      slots = omega arith;
      rest = takes-turn a.sheets.set.now a.sheets.text.now a.c _ _ _ c.loop-m.m (omega arith) (omega arith) c.take_slots.ensures.is c.loop-m.invariant.rest;
    }

pub returns-clause-is : goal.returns-clause-is
returns-clause-is c = takes-end c.args.sheets.set.now c.args.sheets.text.now c.args.c _ _ _ c.loop-m.m (omega arith) c.loop-m.invariant.rest
