-- By whether there is room.
use mathlib.Core.Path.{refl}
use Rattle.lines.proofs.OutLaws.{byte-put, byte-full}
use Rattle.lines.proofs.Out.put_byte.Goals as goal

pub returns-then-self : goal.returns-then-self
returns-then-self c = byte-put _ _ _ c.if-self.true refl refl refl

pub returns-else-self : goal.returns-else-self
returns-else-self c = byte-full _ _ c.if-self.false
