-- A method that is not eligible is left out; any other one goes to its fixed slot, or to the slot of its signature, or behind the last
-- one. Assumes nothing.
use mathlib.Core.Path.{◌∙◌}
use Rattle.linking.specs.Signature.{by_numbers}
use Rattle.vtable.proofs.AddLaws.{add_none, add-put}
use Rattle.vtable.proofs.add_method.Goals as goal

pub returns-then-not-eligible-clause-is : goal.returns-then-not-eligible-clause-is
returns-then-not-eligible-clause-is c = search add_none

pub returns-in-Some-clause-is : goal.returns-in-Some-clause-is
returns-in-Some-clause-is c =
    add-put _ _ _ _ _ _ _ c.eligible.ensures _ c.if-not-eligible.false c.fixed_of.ensures c.find_slot-slot.ensures
    (c.put_fixed.ensures.is ∙ rw c.in-Some.is)

pub returns-in-None-clause-is : goal.returns-in-None-clause-is
returns-in-None-clause-is c =
    add-put _ _ _ _ _ _ _ c.eligible.ensures _ c.if-not-eligible.false c.fixed_of.ensures c.find_slot-slot.ensures
    (c.put_found.ensures.is (by_numbers c.args.sheets.numbers.now) ∙ rw c.in-None.is)
