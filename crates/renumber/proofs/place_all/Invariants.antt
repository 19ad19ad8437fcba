-- The list has a class a turn, and from there the other searches make the order. Assumes nothing.
use Rattle.std.proofs.Common.{◌≡◌, length}
use Rattle.renumber.specs.Renumber.{order_of}
use Rattle.renumber.proofs.Placing.{order_left}
use Rattle.renumber.proofs.place_all.Given as goal

abbrev pub invariant-loop : goal.invariant-loop
invariant-loop l = record {
  left : order_left l.ws l.counter l.list ≡ order_of l.ws;
  count : length l.list ≡ l.counter;
}
