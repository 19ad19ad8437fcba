-- What is counted and what is left to count make the whole. Assumes nothing.
use Rattle.std.proofs.Common.{◌≡◌, ◌+◌, ◌≤◌, drop}
use Rattle.linking.specs.Counts.{bit_count}
use Rattle.missing.specs.Lists.{slot_bits}
use Rattle.missing.proofs.Slots.count_slots.Given as goal

abbrev pub invariant-loop-i : goal.invariant-loop-i
invariant-loop-i l = record {
  small : l.count ≤ l.i;
  whole : l.count + bit_count (drop l.i (slot_bits l.self)) ≡ bit_count (slot_bits l.self);
}
