-- A class that is listed has texts within their limits, as `list_unpacked` asks.
use Rattle.lines.specs.Lines.{class_lines_by}
use Rattle.lines.proofs.OutLaws.{puts-none}
use Rattle.lines.proofs.SlotLaws.{texts-short}
use Rattle.lines.proofs.list_class.Goals as goal

pub list_unpacked-requires : goal.list_unpacked-requires
list_unpacked-requires c = texts-short _ _ _ c.is_unlisted.ensures c.if-not-is_unlisted.true

pub returns-then-not-is_unlisted : goal.returns-then-not-is_unlisted
unfolding class_lines_by
returns-then-not-is_unlisted c = rw (← c.is_unlisted.ensures, c.if-not-is_unlisted.true) c.list_unpacked.ensures

pub returns-else-not-is_unlisted : goal.returns-else-not-is_unlisted
unfolding class_lines_by
returns-else-not-is_unlisted c = rw (← c.is_unlisted.ensures, c.if-not-is_unlisted.false) (puts-none _)
