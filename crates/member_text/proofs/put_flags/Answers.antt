-- The pieces in order are the line. Assumes nothing.
use Rattle.lines.specs.Lines.{numbered}
use Rattle.lines.proofs.OutLaws.{then}
use Rattle.member_text.specs.MemberText.{flags_text}
use Rattle.member_text.proofs.put_flags.Goals as goal

pub returns : goal.returns
unfolding flags_text numbered
returns c = search then
