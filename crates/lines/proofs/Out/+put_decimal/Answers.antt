-- A number's one digit, or the digits before the last one and then that.
use Rattle.lines.proofs.OutLaws.{digit-put, digits-put}
use Rattle.lines.proofs.Out.+put_decimal.Goals.{then-n-ge10, else-n-ge10}
use Rattle.lines.proofs.Out.+put_decimal.Goals as goal

pub returns : goal.returns
returns t c =
    elim c.if-n-ge10.branch [
      | then-n-ge10 w ↦ digits-put _ w.if-n-ge10.true w.put_decimal.ensures (rw w.self-is at c.put_byte.ensures)
      | else-n-ge10 w ↦ digit-put _ w.if-n-ge10.false (rw w.self-is at c.put_byte.ensures)
    ]
