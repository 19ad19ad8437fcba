-- A refused call writes nothing; else the list is the order of all classes, and the set and the lent list follow it. Assumes nothing.
use Rattle.std.proofs.Common.{ap, length, arith, rules}
use Rattle.renumber.specs.Steps.{Complete}
use Rattle.renumber.proofs.Writing.{records-over, moved-fits, both-moved, list_put, call_refused, order-room, call-made}
use Rattle.renumber.proofs.renumber_classes.Goals as goal

pub returns-in_err-ordered : goal.returns-in_err-ordered
returns-in_err-ordered c = call_refused _ _ _ (search rules) c.in_err-ordered.ensures.is

pub map_interfaces-requires : goal.map_interfaces-requires
map_interfaces-requires c =
    let e = c.in_ok-ordered.ensures.set in
    let o : Complete c.args.set.now _ = rw e at c.in_ok-ordered.ordered.complete in
    moved-fits _ _ o (records-over _ _ o _ (omega arith) (rw e at c.put_records.ensures) (rw c.as_slice-list.ensures.is at c.copy.ensures))

pub returns : goal.returns
returns c =
    let e = c.in_ok-ordered.ensures.set in
    let l = c.as_slice-list.ensures.is in
    let o : Complete c.args.set.now _ = rw e at c.in_ok-ordered.ordered.complete in
    let moved = records-over _ _ o _ (omega arith) (rw e at c.put_records.ensures) (rw l at c.copy.ensures) in
    let is = c.in_ok-ordered.ensures.is in
    call-made _ _ is o (ap length l) (both-moved _ _ o moved c.map_interfaces.ensures)
    (list_put _ _ (order-room _ _ is o) (rw l at c.copy-2.ensures))
