-- Each turn reads a byte, and inside an identifier passes over bytes that leave the state as it is. Assumes nothing.
use Rattle.std.proofs.Common.{sym, ap, ◌∙◌, ◌-◌, arith, length, drop, length-drop}
use lib.Seq.{take_all}
use Rattle.descriptor.specs.Machine.{method_next, method_done}
use Rattle.descriptor.proofs.Names.{read-turn, method-over, read-end}
use Rattle.descriptor.proofs.accepts.Goals as goal

pub loop-b-preserved-then-is_inside : goal.loop-b-preserved-then-is_inside
loop-b-preserved-then-is_inside c =
    let n = c.name_run.result in
    let after = c.in-Some.after.now in
    rw (take_all (length after - n) (drop n after) (omega (arith, length-drop n after)))
    (method-over _ c.name_run.ensures.is c.in-Some.ensures.cases.0 _ _ (sym c.if-is_inside.ensures) c.next-q.ensures c.loop-b.invariant)

pub loop-b-preserved : goal.loop-b-preserved
loop-b-preserved c = read-turn method_next _ _ _ c.in-Some.ensures.cases.0 c.next-q.ensures c.loop-b.invariant

pub returns : goal.returns
returns c = c.is_done.ensures ∙ ap method_done (read-end method_next _ _ c.in_default.ensures.cases c.loop-b.invariant)
