-- A class without an ABI entry finds nothing, so its slots stay. Assumes nothing.
use mathlib.Core.Path.{sym}
use Rattle.reading.proofs.ReadLaws.{fixed-none}
use Rattle.reading.proofs.MarkLaws.{marks_none}
use Rattle.reading.proofs.mark_own.Goals as goal

pub returns-in_default : goal.returns-in_default
returns-in_default c = marks_none _ _ _ (λ i. sym (fixed-none _ _ _ _ _ i _ c.class_abi.ensures c.in_default.is))
