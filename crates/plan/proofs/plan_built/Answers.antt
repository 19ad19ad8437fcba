-- Row 10 refuses, or a row of the table, or row 13, or the fields and the table make the plan, with the added fields. Assumes nothing.
use Rattle.std.proofs.lemmas.Result.{err_from_is_err_and}
use Rattle.plan.proofs.KindLaws.{row_first, built-row, built-stops, built-done}
use Rattle.plan.proofs.plan_built.Goals as goal

pub returns-in_err-built_fields : goal.returns-in_err-built_fields
returns-in_err-built_fields c =
    let p = err_from_is_err_and c.from_residual.result c.from_residual.ensures.1 in
    rw (p.1, p.2) (built-row _ _ _ _ _ _ _ _ _ _ _ c.in_err-built_fields.ensures.is)

pub returns-in_err-built_table : goal.returns-in_err-built_table
returns-in_err-built_table c =
    let p = err_from_is_err_and c.from_residual-in_err-built_table.result c.from_residual-in_err-built_table.ensures.1 in
    rw (p.1, p.2) (built-stops _ _ _ _ _ _ _ _ c.in_ok-built_fields.ensures.is _ _ _ _ (row_first c.in_err-built_table.ensures))

pub returns : goal.returns
returns c =
    let f = c.in_ok-built_fields.ensures in
    built-done _ _ _ _ _ _ _ _ f.is _ c.few_slots.result c.in_ok-built_table.ensures c.few_slots.ensures c.requires f.news
