-- The word, and then the number.
use Rattle.lines.proofs.OutLaws.{then}
use Rattle.lines.proofs.Out.put_numbered.Goals as goal

pub returns : goal.returns
returns c = search then
