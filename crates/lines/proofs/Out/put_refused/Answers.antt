-- The word and the row, and then the line's end.
use Rattle.lines.specs.Lines.{numbered}
use Rattle.lines.proofs.OutLaws.{then}
use Rattle.lines.proofs.Out.put_refused.Goals as goal

pub returns : goal.returns
unfolding numbered
returns c = search then
