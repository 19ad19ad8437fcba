-- The first pair that differs, from the far end, ends the comparison: the pairs after it were read, and so was it. Assumes nothing.
use Rattle.std.proofs.Common.{◌≡◌, ◌-◌, sym, arith}
use Rattle.text.proofs.Laws.{same_lengths}
use Rattle.text.proofs.CompareLaws.{pairs-unequal, differ_same, differ-pairs, all_same, all-pairs, same-before, nothing-after}
use Rattle.text.proofs.compare.Goals as goal

pub returns-then-a-b : goal.returns-then-a-b
returns-then-a-b c = record { same = sym (same_lengths _ _ c.if-a-b.true); pairs = pairs-unequal _ _ c.if-a-b.true }

pub loop-i-init : goal.loop-i-init
loop-i-init c = search nothing-after

pub returns-then-a-i : goal.returns-then-a-i
returns-then-a-i c = record {
  same = differ_same _ _ _ (omega arith) (omega arith) c.if-a-i.true;
  pairs = differ-pairs _ _ _ (omega arith) (omega arith) c.if-a-i.true c.loop-i.i c.loop-i.invariant (omega arith) (omega arith);
}

pub loop-i-preserved : goal.loop-i-preserved
loop-i-preserved c = same-before _ _ (c.loop-i.i - 1) c.loop-i.i c.loop-i.invariant c.if-a-i.false (omega arith) (omega arith) (omega arith)

pub returns : goal.returns
returns c =
    let e : c.loop-i.i ≡ 0 = omega arith in
    let t = rw e at c.loop-i.invariant in record { same = all_same _ _ t; pairs = all-pairs _ _ t (omega arith) }
