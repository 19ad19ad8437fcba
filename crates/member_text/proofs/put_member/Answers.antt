-- The pieces in order are the line. Assumes nothing.
use Rattle.lines.specs.Lines.{numbered}
use Rattle.lines.proofs.OutLaws.{then}
use Rattle.member_text.specs.MemberText.{member_text}
use Rattle.member_text.proofs.put_member.Goals as goal

pub returns : goal.returns
unfolding member_text numbered
returns c = search then depth 9
