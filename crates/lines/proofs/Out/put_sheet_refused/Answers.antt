-- The pieces in order are the line.
use Rattle.lines.specs.Lines.{sheet_refused, numbered}
use Rattle.lines.proofs.OutLaws.{then}
use Rattle.lines.proofs.Out.put_sheet_refused.Goals as goal

pub returns : goal.returns
unfolding sheet_refused numbered
returns c = search then
