-- Nothing, or the word and then the parent. Assumes nothing.
use mathlib.Core.Path.{sym, ◌∙◌}
use Rattle.lines.proofs.OutLaws.{then, puts-none}
use Rattle.member_text.proofs.TextLaws.{extends_none, extends_some}
use Rattle.member_text.proofs.put_extends.Goals as goal

pub returns-then-not-is_empty : goal.returns-then-not-is_empty
returns-then-not-is_empty c =
    rw (extends_some _ (sym c.is_empty.ensures ∙ c.if-not-is_empty.true)) (then c.put.ensures c.put-then-not-is_empty.ensures)

pub returns-else-not-is_empty : goal.returns-else-not-is_empty
returns-else-not-is_empty c = rw (extends_none _ (sym c.is_empty.ensures ∙ c.if-not-is_empty.false)) (puts-none _)
