-- Each byte goes before those that are left, and after the last none are.
use Rattle.std.proofs.Common.{drop-cons, add-one, drop_of_length-le}
use Rattle.lines.proofs.OutLaws.{then, puts-none}
use Rattle.lines.proofs.Out.put.Goals as goal

pub loop-b-preserved : goal.loop-b-preserved
loop-b-preserved c = λ q e.
    let s = c.args.bytes.now in
    let i = c.loop-b.b-index in
    c.loop-b.invariant q (rw (drop-cons s i 0 c.loop-b-test.true, ← add-one i) (then c.put_byte.ensures e))

pub returns : goal.returns
returns c = c.loop-b.invariant _ (rw (drop_of_length-le c.args.bytes.now c.loop-b-test.false) (puts-none _))
