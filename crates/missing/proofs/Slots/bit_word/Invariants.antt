-- The bits from the last one down to bit i are in the word; the bits left grow fewer. Assumes nothing.
use mathlib.Core.Path.{◌≡◌}
use Prim.Native.Nat.{◌+◌, ◌*◌, ◌-◌}
use Rattle.linking.specs.Counts.{bits_from}
use Rattle.missing.specs.Lists.{slot_bits}
use Rattle.missing.proofs.Slots.bit_word.Given as goal

abbrev pub invariant-loop-i : goal.invariant-loop-i
invariant-loop-i l = l.w ≡ bits_from (slot_bits l.self) (32 * l.k + l.i) (32 - l.i)
