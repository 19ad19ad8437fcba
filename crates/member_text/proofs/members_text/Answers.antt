-- The text is shorter than the bytes that hold it. Assumes nothing.
use Rattle.std.proofs.Common.{arith}
use Rattle.member_text.proofs.Longest.{text_few}
use Rattle.member_text.proofs.members_text.Goals as goal

pub returns-clause-longest : goal.returns-clause-longest
returns-clause-longest c = text_few _ _ _ (λ j. omega (arith, c.type_inv.bytes j))
