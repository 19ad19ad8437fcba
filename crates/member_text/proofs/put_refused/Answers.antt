-- The refusal's number is its row. Assumes nothing.
use Rattle.lines.specs.Lines.{numbered}
use Rattle.lines.proofs.OutLaws.{then}
use Rattle.member_text.specs.MemberText.{refused_text}
use Rattle.member_text.proofs.put_refused.Goals as goal

pub returns : goal.returns
unfolding refused_text numbered
returns c = then (rw c.from.ensures at c.put_numbered.ensures) c.put.ensures
