-- Rows 8 to 15 refuse, or the effect is of the plan, its table and its new members. Assumes nothing.
use Rattle.std.proofs.Common.{refl, arith, ◌∙◌}
use Rattle.std.proofs.lemmas.Result.{err_from_is_err_and}
use Rattle.refusal.proofs.Rows.{row_above}
use Rattle.link.proofs.NumberLaws.{stored-after, long_refused, long-done}
use Rattle.link.proofs.PlannedLaws.{link-finished, numbers-planned, stores}
use Rattle.link.proofs.link_planned.Goals as goal

pub returns-in_err-judge : goal.returns-in_err-judge
returns-in_err-judge c =
    let r = err_from_is_err_and c.from_residual.result c.from_residual.ensures.1 in
    let above = row_above c.in_err-judge.field-0.0 in
    rw (r.1, r.2) (long_refused _ _ _ _ _ _ _ _ (λ z. omega arith) c.in_err-judge.ensures)

pub store_numbers-requires : goal.store_numbers-requires
store_numbers-requires c = stores _ _ _ _ _ _ c.requires.0 _ _ _ _ _ c.requires.1 c.in_ok-judge.ensures

pub returns : goal.returns
returns c =
    let e = c.in_ok-judge.ensures in
    let a = c.args in
    long-done _ _ _ _ _ _ _
    (link-finished _ _ _ _ _ _ _ _ _ c.requires.0 _ _ _ _ _ e.planned e.room
    c.as_slice-indices.ensures.is c.parent_of-parent.ensures c.count_class.ensures c.get_or.ensures c.write_table.ensures
    c.new_statics.ensures c.store_link.ensures)
    refl
    (numbers-planned _ _ _ _ _ a.stubs.now a.missing.now _ _ c.requires.0 _ _ _ _ _ e.planned _ (c.store_numbers.ensures ∙ stored-after _ _ _ _ _ _ _))
