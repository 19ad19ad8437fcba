-- A row of the plan refuses, or rows 14 and 15 of its new members, or the plan stands. Assumes nothing.
use Rattle.std.proofs.lemmas.Result.{err_from_is_err_and}
use Rattle.link.proofs.PlannedLaws.{link-refused, judged}
use Rattle.link.proofs.judge.Goals as goal

pub returns-in_err-plan_link : goal.returns-in_err-plan_link
returns-in_err-plan_link c =
    let r = err_from_is_err_and c.from_residual.result c.from_residual.ensures.1 in
    rw (r.1, r.2) (link-refused _ _ _ _ _ _ _ _ _ c.requires _ _ _ c.in_err-plan_link.ensures.is)

pub returns : goal.returns
returns c = judged _ _ _ _ _ _ _ _ _ c.requires _ c.room_row.result c.in_ok-plan_link.ensures.is c.room_row.ensures
