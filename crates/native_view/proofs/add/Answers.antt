-- Target 0 and the view's own word add nothing; any other target adds the method that its source names, if there is one. Assumes nothing.
use native.Mathlib.Omega.{arith}
use Rattle.native_view.proofs.AddLaws.{add_skip, add_at, add_none}
use Rattle.native_view.proofs.add.Goals as goal

pub returns-then-t-slot : goal.returns-then-t-slot
returns-then-t-slot c = record { is = search add_skip; count = omega arith }

pub returns-in-Some : goal.returns-in-Some
returns-in-Some c = record {
  is = add_at _ _ _ _ _ _ _ _ _ _ c.if-t-slot.false c.source_ref.ensures _ c.in-Some.is c.add_named.ensures.is;
  count = c.add_named.ensures.count;
}

pub returns-in_default : goal.returns-in_default
returns-in_default c = record {
  is = add_none _ _ _ _ _ _ _ _ _ _ c.if-t-slot.false c.source_ref.ensures c.in_default.is;
  count = omega arith;
}
