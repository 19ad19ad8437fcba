-- The table is the parent's entries, of which there are at most 1,024; nothing else is planned. Assumes nothing.
use Rattle.plan.proofs.KindLaws.{array_plan}
use Rattle.plan.proofs.plan_array.Goals as goal

pub returns : goal.returns
returns c =
    let p = c.parent_entries.ensures in
    rw c.clear.ensures (array_plan _ _ _ _ _ _ _ _ _ _ c.requires p.count p.is c.clear-2.ensures)
