-- The ABI classes whose turn is to come add to the view so far what all of them add to the first one. Assumes nothing.
use Rattle.std.proofs.Common.{drop}
use Rattle.vtable.specs.Fixed.{class_fixes}
use Rattle.vtable.proofs.FixedLaws.{Still}
use Rattle.vtable.proofs.fixed.add_classes.Given as goal

abbrev pub invariant-loop-a : goal.invariant-loop-a
invariant-loop-a l = Still (class_fixes l.sheets.numbers.now l.sheets.abi.now) l.abis l.initial.view (drop l.a-index l.abis) l.view
