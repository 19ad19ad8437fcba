-- What the parent's entries from i on make of the methods that hold the indices so far is what all of them make. Assumes nothing.
use Rattle.reading.specs.Tables.{entries}
use Rattle.vtable.specs.Relay.{fixed_in, distance_in}
use Rattle.vtable.proofs.RelayLaws.{Holding}
use Rattle.vtable.proofs.hold_entries.Given as goal

abbrev pub invariant-loop-i : goal.invariant-loop-i
invariant-loop-i l = Holding (fixed_in l.sheets l.abis) (distance_in l.sheets l.abis) (entries l.parent) l.holders l.i
