-- Rows 8 and 9 refuse, or a row of the table, or row 13, or the fields and the table make the plan, with the added methods. Assumes nothing.
use Rattle.std.proofs.lemmas.Result.{err_from_is_err_and}
use Rattle.plan.proofs.KindLaws.{row_first, generated-row, generated-stops, generated-done}
use Rattle.plan.proofs.plan_generated.Goals as goal

pub returns-in_err-generated_fields : goal.returns-in_err-generated_fields
returns-in_err-generated_fields c =
    let p = err_from_is_err_and c.from_residual.result c.from_residual.ensures.1 in
    rw (p.1, p.2) (generated-row _ _ _ _ _ _ _ _ _ _ _ c.in_err-generated_fields.ensures.is)

pub returns-in_err-generated_table : goal.returns-in_err-generated_table
returns-in_err-generated_table c =
    let p = err_from_is_err_and c.from_residual-in_err-generated_table.result c.from_residual-in_err-generated_table.ensures.1 in
    rw (p.1, p.2) (generated-stops _ _ _ _ _ _ _ _ c.in_ok-generated_fields.ensures.is _ _ _ _ (row_first c.in_err-generated_table.ensures.is))

pub returns : goal.returns
returns c =
    let t = c.in_ok-generated_table.ensures in
    generated-done _ _ _ _ _ _ _ _ c.in_ok-generated_fields.ensures.is _ c.few_slots.result t.is c.few_slots.ensures c.requires t.members
