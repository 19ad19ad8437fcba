-- A method's turn marks the slots that hold its target and have no mark yet. Assumes nothing.
use Rattle.std.proofs.Common.{◌≡◌, length, arith}
use Rattle.reading.proofs.MarkLaws.{targets-start, targets-turn, targets-end}
use Rattle.reading.proofs.mark_targets.Goals as goal

pub loop-m-init : goal.loop-m-init
loop-m-init c = targets-start c.args.records.now c.args.words.now c.args.first (length c.args.marks.now) _

pub loop-m-preserved : goal.loop-m-preserved
loop-m-preserved c =
    let n : length c.loop-m.marks ≡ length c.args.marks.now = omega arith in
    targets-turn c.args.records.now c.args.words.now c.args.first (length c.args.marks.now) _ c.loop-m.m (omega arith) c.loop-m.invariant
    c.record_target.ensures (rw n at c.mark_target.ensures) (omega arith) (omega arith)

pub returns : goal.returns
returns c = targets-end c.args.records.now c.args.words.now c.args.first (length c.args.marks.now) _ c.args.count c.loop-m.invariant (omega arith)
