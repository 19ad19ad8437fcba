-- The text is shorter than the bytes lent for it. Assumes nothing.
use native.Mathlib.Omega.{arith}
use Rattle.lines.proofs.Whole.{shorter}
use Rattle.members.proofs.put_members.Goals as goal

pub returns : goal.returns
returns c =
    shorter _ _ c.members_text.ensures.lines (omega (arith, c.members_text.ensures.longest))
