-- Each turn puts an empty slot behind the last one. Assumes nothing.
use Rattle.std.proofs.Common.{refl, arith}
use Rattle.vtable.proofs.BuildLaws.{extend_start, extend_turn, extend_end}
use Rattle.vtable.proofs.extend.Goals as goal

pub loop-init : goal.loop-init
loop-init c = record { within = omega arith; len = refl; so_far = extend_start _ _ }

pub loop-preserved : goal.loop-preserved
loop-preserved c =
    record {
      within = omega arith;
      len = omega arith;
      so_far = extend_turn _ c.args.table.now.len c.loop.counter (omega arith) c.loop.invariant.so_far c.empty.ensures (c.push.ensures.is (omega arith));
    }

pub returns-clause-is : goal.returns-clause-is
returns-clause-is c = extend_end _ _ _ c.loop.counter c.args.size (omega arith) (omega arith) (omega arith) c.loop.invariant.so_far
