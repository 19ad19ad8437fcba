-- The fixed indices of the parent's entries before the i-th are there. Assumes nothing.
use Rattle.linking.specs.Signature.{by_numbers}
use Rattle.reading.specs.Tables.{entries}
use Rattle.vtable.proofs.RelayLaws.{Indexed}
use Rattle.vtable.proofs.fixed.fixed_marks.Given as goal

abbrev pub invariant-loop-i : goal.invariant-loop-i
invariant-loop-i l = Indexed (by_numbers l.sheets.numbers.now) l.sheets.abi.now l.abis (entries l.parent) l.at l.i
