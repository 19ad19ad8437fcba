-- Without a parent there are no entries; else they are the parent's table, read along the parent's own chain. Assumes nothing.
use Rattle.std.proofs.Common.{◌∙◌}
use Rattle.reading.proofs.ReadLaws.{parent-none, parent-some}
use Rattle.reading.proofs.parent_entries.Goals as goal

pub returns-then-parent-eq0-clause-is : goal.returns-then-parent-eq0-clause-is
returns-then-parent-eq0-clause-is g c = c.clear.ensures.is ∙ parent-none _ _ _ _ _ _ _ c.parent_of-parent.ensures c.if-parent-eq0.true

pub returns-clause-is : goal.returns-clause-is
returns-clause-is g c = c.table_entries.ensures.is ∙ parent-some _ _ _ _ _ _ _ _ c.parent_of-parent.ensures c.if-parent-eq0.false
