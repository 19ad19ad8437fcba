-- Each slot's turn is a step of the fold. Assumes nothing.
use Rattle.std.proofs.Common.{◌∙◌, ap, arith, length}
use mathlib.Core.Path.{refl}
use Rattle.reading.specs.Tables.{entries_left}
use Rattle.reading.proofs.ArrayLaws.{length-entries}
use Rattle.reading.proofs.SlotLaws.{fold_more, fold_none}
use Rattle.compiler.proofs.Members.append_parent.Goals as goal

pub loop-slot-init : goal.loop-slot-init
loop-slot-init c =
    let e = ap entries_left c.into_iter-slot-iterator.ensures.into_iter_gives ∙ c.slots-slot-items.ensures in
    let n = ap length e ∙ length-entries _ _ _ in record { end = omega arith; table = rw e refl }

pub append-requires : goal.append-requires
append-requires c = let n = ap length c.in-Some.ensures.steps in omega arith

pub loop-slot-preserved : goal.loop-slot-preserved
loop-slot-preserved c =
    let v = c.loop-slot.invariant in
    let n = ap length c.in-Some.ensures.steps in record { end = omega arith; table = fold_more _ c.in-Some.ensures.steps c.append.ensures.is v.table }

pub returns : goal.returns
returns c = fold_none _ c.in-None.ensures.steps.0 c.loop-slot.invariant.table
