-- None of a method that is static or private; else those of the parent's chain, once the class itself is reached. Assumes nothing.
use Rattle.std.proofs.Common.{arith, not, ap, refl, ◌∙◌}
use Rattle.packages.proofs.OverLaws.{marks_none, marks_virtual, parent-room}
use Rattle.packages.proofs.mark_overridden.Goals as goal

pub returns-then-not-is_virtual : goal.returns-then-not-is_virtual
returns-then-not-is_virtual c = marks_none _ _ _ _ _ c.args.marks.now c.method_flags.ensures c.is_virtual.ensures (ap not c.if-not-is_virtual.true)

pub mark_above-requires : goal.mark_above-requires
mark_above-requires c = rw (c.push.ensures, c.new-reached.ensures) (omega (arith, parent-room _ _ c.parent_of.ensures (omega arith)))

pub returns : goal.returns
returns c =
    marks_virtual _ _ _ _ _ _ c.method_flags.ensures c.is_virtual.ensures (ap not c.if-not-is_virtual.false)
    (c.push.ensures ∙ rw c.new-reached.ensures refl) c.parent_of.ensures c.mark_above.ensures
