-- Each interface's turn is a step of the search. Assumes nothing.
use Rattle.std.proofs.Common.{◌≡◌, ◌+◌, ◌-◌, ◌∙◌, arith}
use Rattle.words.proofs.ListLaws.{found-hit, found-miss, found-end}
use Rattle.native_view.proofs.AddLaws.{interface-at, interface-end, interface-start}
use Rattle.abi.specs.Abis.{class_slot}
use Rattle.native_view.proofs.interface_slot.Goals as goal

pub loop-j-init : goal.loop-j-init
loop-j-init c = record { count = search; first = search; rest = interface-start _ _ _ }

pub returns-in-Some : goal.returns-in-Some
unfolding class_slot
returns-in-Some c =
    let v = c.loop-j.invariant in
    let t = interface-at _ _ _ _ _ _ c.loop-j.j (omega arith) (omega arith) v.count v.first c.interface_word-d.ensures c.class_slot.ensures in
    found-hit _ _ _ 0 _ t.0 t.1 c.in-Some.is ∙ v.rest

pub loop-j-preserved : goal.loop-j-preserved
unfolding class_slot
loop-j-preserved c =
    let v = c.loop-j.invariant in
    let f = c.class_first_interface-first.result in
    let t = interface-at _ _ _ _ _ _ c.loop-j.j (omega arith) (omega arith) v.count v.first c.interface_word-d.ensures c.class_slot.ensures in
    let next : c.loop-j.j + 1 - f ≡ c.loop-j.j - f + 1 = omega arith in
    record { count = v.count; first = v.first; rest = rw next (found-miss _ _ _ 0 t.0 t.1 c.in_default.is ∙ v.rest) }

pub returns : goal.returns
returns c =
    found-end _ _ _ (interface-end _ _ (c.loop-j.j - c.class_first_interface-first.result) (omega arith) c.loop-j.invariant.count) ∙ c.loop-j.invariant.rest
