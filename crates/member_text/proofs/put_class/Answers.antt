-- The pieces in order are the line. Assumes nothing.
use Rattle.lines.proofs.OutLaws.{then}
use Rattle.member_text.specs.MemberText.{class_text}
use Rattle.member_text.proofs.put_class.Goals as goal

pub returns : goal.returns
unfolding class_text
returns c = search then
