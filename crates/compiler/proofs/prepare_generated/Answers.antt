-- The native view and the added methods are made first, and the table by them. Assumes nothing.
use Rattle.compiler.proofs.EntryLaws.{prepared_is}
use Rattle.compiler.proofs.prepare_generated.Goals as goal

pub returns-clause-table : goal.returns-clause-table
returns-clause-table c =
    let v = c.native_view.ensures in prepared_is _ _ _ _ _ _ _ v.parent v.view v.members c.compiler_table.ensures
