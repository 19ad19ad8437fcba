-- The slots from the s-th on add to the view so far what all of the class's add to the first one. Assumes nothing.
use Rattle.linking.specs.Abi.{abi_slots}
use Rattle.vtable.specs.Fixed.{slot_fixes}
use Rattle.vtable.proofs.AddLaws.{left}
use Rattle.vtable.proofs.FixedLaws.{Still}
use Rattle.vtable.proofs.fixed.add_class.Given as goal

abbrev pub invariant-loop-s : goal.invariant-loop-s
invariant-loop-s l = Still (slot_fixes l.numbers l.abi) (abi_slots l.abi l.a) l.initial.view (left l.first l.count l.s) l.view
