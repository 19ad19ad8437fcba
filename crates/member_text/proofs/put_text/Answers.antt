-- The text of a file that no row refuses, or the refusal. Assumes nothing.
use Rattle.member_text.proofs.Longest.{text_refused, text_accepted}
use Rattle.member_text.proofs.put_text.Goals as goal

pub returns-in-Err : goal.returns-in-Err
returns-in-Err c = let e = c.in-Err.ensures.refused in rw (text_refused _ _ _ _ e.0) (rw e.1 at c.put_refused.ensures)

pub returns-in_default : goal.returns-in_default
returns-in_default c = let e = c.in_default.ensures.accepted in rw (text_accepted _ _ _ e.0) e.1
