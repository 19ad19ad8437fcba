-- The words before word j are packed. Assumes nothing.
use Rattle.std.proofs.Common.{◌≡◌, take}
use Rattle.linking.specs.Set.{write_at}
use Rattle.linking.specs.Counts.{pack_bits}
use Rattle.missing.specs.Lists.{slot_bits}
use Rattle.missing.proofs.Slots.pack.Given as goal

abbrev pub invariant-loop-j : goal.invariant-loop-j
invariant-loop-j l = l.out ≡ write_at l.initial.out 0 (take l.j (pack_bits (slot_bits l.self)))
