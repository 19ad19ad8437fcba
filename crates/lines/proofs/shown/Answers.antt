-- By whether there are bytes.
use Rattle.lines.proofs.LineLaws.{shown-dash, shown-part}
use Rattle.lines.proofs.shown.Goals as goal

pub returns-then-is_empty : goal.returns-then-is_empty
returns-then-is_empty c = shown-dash _ c.is_empty.ensures c.if-is_empty.true

pub returns-else-is_empty : goal.returns-else-is_empty
returns-else-is_empty c = shown-part _ c.is_empty.ensures c.if-is_empty.false
