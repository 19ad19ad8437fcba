-- By what refuses: the form, a row after it, or none. Assumes nothing.
use mathlib.Core.Path.{refl}
use Rattle.std.proofs.lemmas.Result.{err_from_is_err_and}
use Rattle.class_file.proofs.ReadLaws.{form_told}
use Rattle.class_file.proofs.JudgeLaws.{head_told}
use Rattle.member_text.proofs.put_accepted.Goals as goal

pub returns-in_err-file : goal.returns-in_err-file
returns-in_err-file c =
    let p = err_from_is_err_and c.from_residual.result c.from_residual.ensures.1 in
    rw (p.1, p.2) (record { accepted = tt; refused = (form_told _ c.in_err-file.ensures.refused, refl) })

pub returns-in_err-file_head : goal.returns-in_err-file_head
returns-in_err-file_head c =
    let p = err_from_is_err_and c.from_residual-in_err-file_head.result c.from_residual-in_err-file_head.ensures.1 in
    let h = rw c.in_err-file_head.was at (head_told _ _ c.in_ok-file.file.parted c.file_head.ensures) in
    rw (p.1, p.2) (record { accepted = tt; refused = (rw c.in_ok-file.ensures.accepted.bytes_are at h, refl) })

pub returns : goal.returns
returns c =
    let h = rw c.in_ok-file_head.was at (head_told _ _ c.in_ok-file.file.parted c.file_head.ensures) in
    let same = c.in_ok-file.ensures.accepted.bytes_are in
    record { accepted = (rw same at h.0, rw same at c.put_file.ensures); refused = tt }
