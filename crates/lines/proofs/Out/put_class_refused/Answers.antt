-- The pieces in order are the line.
use Rattle.lines.specs.Lines.{class_refused, numbered}
use Rattle.lines.proofs.OutLaws.{then}
use Rattle.lines.proofs.Out.put_class_refused.Goals as goal

pub returns : goal.returns
unfolding class_refused numbered
returns c = search then
