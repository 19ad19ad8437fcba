-- Each target's turn adds what it adds behind those so far. Assumes nothing.
use Rattle.std.proofs.Common.{arith}
use Rattle.growth.proofs.NewsLaws.{added_none}
use Rattle.native_view.proofs.AddLaws.{rest_begin, rest-turned, rest-none}
use Rattle.native_view.proofs.add_methods.Goals as goal

pub loop-i-init : goal.loop-i-init
loop-i-init c = record {
  few = rw c.clear.ensures (omega arith);
  count = c.compiler_count-count.ensures;
  rest = rest_begin _ _ _ _ _ _ _ _ (rw c.clear.ensures (added_none _ _ _ _)) c.compiler_count-count.ensures;
}

pub add-requires : goal.add-requires
add-requires c = omega arith

pub loop-i-preserved : goal.loop-i-preserved
loop-i-preserved c =
    let v = c.loop-i.invariant in record {
      few = omega arith;
      count = v.count;
      rest = rest-turned _ _ _ _ _ _ _ _ _ _ _ c.loop-i-test.true c.compiler_target-t.ensures c.slot.ensures c.add.ensures.is v.rest;
    }

pub returns : goal.returns
returns c = record { is = rest-none _ _ _ _ _ _ _ _ _ _ c.loop-i-test.false c.loop-i.invariant.rest; count = omega arith }
