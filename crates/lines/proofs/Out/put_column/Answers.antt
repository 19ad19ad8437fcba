-- The blank, and then the part.
use Rattle.lines.specs.Lines.{column}
use Rattle.lines.proofs.OutLaws.{then}
use Rattle.lines.proofs.Out.put_column.Goals as goal

pub returns : goal.returns
unfolding column
returns c = then c.put.ensures (rw c.shown.ensures at c.put-2.ensures)
