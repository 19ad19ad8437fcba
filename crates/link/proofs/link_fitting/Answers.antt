-- Rows 4 and 5 refuse, or the rest is `link_read`'s. Assumes nothing.
use Rattle.std.proofs.Common.{arith, refl}
use Rattle.std.proofs.lemmas.Result.{err_from_is_err_and}
use Rattle.refusal.proofs.Rows.{row_above}
use Rattle.link.proofs.NumberLaws.{long_refused}
use Rattle.link.proofs.PlannedLaws.{link-records, link-texts}
use Rattle.link.proofs.link_fitting.Goals as goal

pub returns-in_err-records_refusal : goal.returns-in_err-records_refusal
returns-in_err-records_refusal c =
    let p = err_from_is_err_and c.from_residual.result c.from_residual.ensures.1 in
    let above = row_above c.in_err-records_refusal.field-0.0 in
    rw (p.1, p.2)
    (long_refused _ _ _ _ _ _ _ _ (λ z. omega arith)
    (link-records _ _ _ _ _ _ _ _ _ c.requires.0 c.in_err-records_refusal.ensures (λ z. omega arith)))

pub link_read-requires : goal.link_read-requires
link_read-requires c = (link-texts _ _ _ _ c.requires.0 c.in_ok-records_refusal.ensures refl, c.requires.1)
