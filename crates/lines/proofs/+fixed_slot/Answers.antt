-- The end of the chain has none; a class has its own slot record, or its parent's, whose number is smaller.
use native.Mathlib.Omega.{arith}
use native.Mathlib.Nat.{pos_of_ne-zero}
use mathlib.Core.Path.{sym, ◌∙◌}
use Rattle.linking.proofs.ChainLaws.{parent_below}
use Rattle.lines.proofs.NameLaws.{slot-none, slot-hit, slot-up}
use Rattle.lines.proofs.+fixed_slot.Goals as goal

-- the chain's end
pub returns-then-c-eq0 : goal.returns-then-c-eq0
returns-then-c-eq0 t c = sym (slot-none _ _ _ _ _ _ c.if-c-eq0.true)

-- the parent's number is smaller
pub fixed_slot-requires : goal.fixed_slot-requires
fixed_slot-requires t c =
    let a = c.args in
    (omega (arith, parent_below a.sheets.set.now a.c (pos_of_ne-zero c.if-c-eq0.false)), tt)

-- the class's own record
pub returns-in-Some : goal.returns-in-Some
returns-in-Some t c =
    sym (slot-hit _ _ _ _ _ _ _ (pos_of_ne-zero c.if-c-eq0.false) (sym c.own_slot.ensures ∙ c.in-Some.is))

-- its parent's
pub returns-in-None : goal.returns-in-None
returns-in-None t c =
    let h = pos_of_ne-zero c.if-c-eq0.false in
    cc (slot-up _ _ _ _ _ _ h (sym c.own_slot.ensures ∙ c.in-None.is))
