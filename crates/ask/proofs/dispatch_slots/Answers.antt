-- A turn adds a slot, or row 16 refuses the table as it refuses the slot. Assumes nothing.
use Rattle.std.proofs.Common.{sym, arith, ap, length, ◌∙◌}
use Rattle.std.proofs.lemmas.Result.{err_from_is_err_and}
use Rattle.reading.specs.Tables.{entries_left}
use Rattle.reading.proofs.ArrayLaws.{length-entries}
use Rattle.ask.proofs.DispatchLaws.{was-some, was-none, dispatch_start, dispatch_stop, dispatch_turn, dispatch_end}
use Rattle.ask.proofs.dispatch_slots.Goals as goal

pub loop-slot-init : goal.loop-slot-init
loop-slot-init c =
    let e = ap entries_left c.into_iter-slot-iterator.ensures.into_iter_gives ∙ c.slots-slot-items.ensures in
    let n = ap length e ∙ length-entries _ _ _ in
    let z = c.clear.ensures.len in record { count = omega arith; slots = rw (c.clear.ensures.is, e) (dispatch_start _ _ _ _) }

-- no class of the chain implements the slot's method
pub returns-in_err-ok_or : goal.returns-in_err-ok_or
returns-in_err-ok_or c =
    let p = err_from_is_err_and c.from_residual.result c.from_residual.ensures.1 in
    let o = was-none c.dispatch_slot.result _ (sym c.ok_or.ensures.value ∙ c.in_err-ok_or.was) in
    rw (p.1, p.2, o.1) (dispatch_stop _ _ _ _ _ c.in-Some.ensures.steps c.dispatch_slot.ensures o.0 ∙ c.loop-slot.invariant.slots)

-- a slot more
pub loop-slot-preserved : goal.loop-slot-preserved
loop-slot-preserved c =
    let v = c.loop-slot.invariant in
    let n = ap length c.in-Some.ensures.steps in
    let o = was-some c.dispatch_slot.result _ (sym c.ok_or.ensures.value ∙ c.in_ok-ok_or.was) in
    let k = c.push.ensures.count in record {
      count = omega arith;
      slots = dispatch_turn _ _ _ _ _ c.in-Some.ensures.steps c.dispatch_slot.ensures o (c.push.ensures.is (omega arith)) ∙ v.slots;
    }

-- all slots are there
pub returns : goal.returns
returns c = dispatch_end _ _ _ _ c.in-None.ensures.steps.0 ∙ c.loop-slot.invariant.slots
