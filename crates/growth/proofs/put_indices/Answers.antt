-- Each index is stored at its own place; where that lies past the end, however it is reckoned, so do those after it. Assumes nothing.
use Rattle.growth.proofs.Indices.{from_start, from-turn, from_past, from_end}
use Rattle.std.proofs.Common.{refl}
use native.Mathlib.Omega.{arith}
use Rattle.growth.proofs.put_indices.Goals as goal

pub loop-j-init : goal.loop-j-init
loop-j-init c = search from_start

pub loop-j-preserved : goal.loop-j-preserved
loop-j-preserved c =
    from-turn _ _ _ c.loop-j.j c.loop-j.set (omega arith) (omega arith) c.saturating_add-place.ensures refl c.put.ensures c.loop-j.invariant

-- the next index would be stored past the end
pub returns-then-set-place : goal.returns-then-set-place
returns-then-set-place c = from_past _ _ _ c.loop-j.j c.loop-j.set c.saturating_add-place.ensures (omega arith) c.loop-j.invariant

-- all are stored
pub returns : goal.returns
returns c = search from_end
