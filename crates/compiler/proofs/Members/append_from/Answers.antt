-- Each method's turn is a step of the fold. Assumes nothing.
use Rattle.std.proofs.Common.{◌∙◌, arith}
use Rattle.compiler.proofs.AppendLaws.{append_own, range-start, range-turn, range_end}
use Rattle.compiler.proofs.Members.append_from.Goals as goal

pub loop-m-init : goal.loop-m-init
loop-m-init c = record { end = omega arith; table = range-start _ _ _ _ }

pub loop-m-preserved : goal.loop-m-preserved
loop-m-preserved c = record {
  end = omega arith;
  table = range-turn _ _ _ c.loop-m.m (omega arith) (omega arith) (append_own _ _ _ _ _ _ _ (omega arith) c.mark_of-mark.ensures c.append.ensures.is)
      ∙ c.loop-m.invariant.table;
}

pub returns : goal.returns
returns c = record {
  is = range_end _ _ _ c.loop-m.m _ (omega arith) ∙ c.loop-m.invariant.table;
  count = omega arith;
}
