-- What is left to walk at the place, with the index that stands there, is the whole walk: the invariant. The measure is how far the index is.
-- Assumes nothing.
use mathlib.Core.Path.{◌≡◌}
use Prim.Native.Nat.{◌-◌}
use Rattle.class_form.proofs.WalkLaws.{look_at}
use Rattle.class_form.proofs.constant_from.Given as goal

abbrev pub invariant-loop-at : goal.invariant-loop-at
invariant-loop-at l = look_at l.bytes l.i l.at l.place ≡ look_at l.bytes l.i l.j l.p

abbrev pub decreases-loop-at : goal.decreases-loop-at
decreases-loop-at l = l.i - l.at
