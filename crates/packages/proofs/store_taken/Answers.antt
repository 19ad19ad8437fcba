-- A slot's turn stores the slot, if it is taken. Assumes nothing.
use Rattle.std.proofs.Common.{◌∙◌, refl, sym, ap, true, false}
use Rattle.reading.specs.Tables.{entries}
use Rattle.packages.proofs.TakeLaws.{stored_start, stored_turn, stored_end, some-start, some_turn, some_end}
use Rattle.packages.proofs.store_taken.Goals as goal
use Rattle.packages.proofs.store_taken.Goals.{then-is_taken, else-is_taken}

pub loop-i-init : goal.loop-i-init
loop-i-init c = record { slots = stored_start _ _ _ _ _; len = refl; is = some-start _ _ _ }

pub loop-i-preserved : goal.loop-i-preserved
loop-i-preserved c =
    let h = c.loop-i-test.true in
    let v = c.get_or.ensures in
    let before = c.loop-i.invariant in
    elim c.if-is_taken.branch [
      | then-is_taken w ↦
          let e = sym w.if-is_taken.true ∙ c.is_taken.ensures in record {
            slots = stored_turn _ _ _ c.loop-i.i true _ _ h refl v e (ap entries w.table-is ∙ w.put.ensures.is) before.slots;
            len = ap (λ t. t.len) w.table-is ∙ w.put.ensures.len ∙ before.len;
            is = some_turn _ _ _ c.loop-i.i c.loop-i.taken true h refl v e w.taken-is before.is;
          }
      | else-is_taken w ↦
          let e = sym w.if-is_taken.false ∙ c.is_taken.ensures in record {
            slots = stored_turn _ _ _ c.loop-i.i false _ _ h refl v e (ap entries w.table-is) before.slots;
            len = ap (λ t. t.len) w.table-is ∙ before.len;
            is = some_turn _ _ _ c.loop-i.i c.loop-i.taken false h refl v e w.taken-is before.is;
          }
    ]

pub returns-clause-slots : goal.returns-clause-slots
returns-clause-slots c = stored_end _ _ _ c.loop-i.i _ _ c.loop-i-test.false c.loop-i.invariant.slots

pub returns-clause-is : goal.returns-clause-is
returns-clause-is c = some_end _ _ _ c.loop-i.i c.loop-i.taken c.loop-i-test.false c.loop-i.invariant.is
