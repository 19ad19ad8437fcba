-- The pieces in order are the line.
use Rattle.lines.specs.Lines.{class_line, numbered}
use Rattle.lines.proofs.OutLaws.{then}
use Rattle.lines.proofs.Out.put_class_line.Goals as goal

pub returns : goal.returns
unfolding class_line numbered
returns c = search then
