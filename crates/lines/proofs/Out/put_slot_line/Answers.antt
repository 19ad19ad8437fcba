-- The pieces in order are the line.
use Rattle.lines.specs.Lines.{slot_line, numbered}
use Rattle.lines.proofs.OutLaws.{then}
use Rattle.lines.proofs.Out.put_slot_line.Goals as goal

pub returns : goal.returns
unfolding slot_line numbered
returns c = search then
