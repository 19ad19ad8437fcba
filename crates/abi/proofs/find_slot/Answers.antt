-- The numbers that are searched are those of the class's slots. Assumes nothing.
use Rattle.std.proofs.Common.{arith}
use Rattle.linking.specs.Abi.{abi_slots}
use Rattle.abi.proofs.find_slot.Goals as goal

pub returns : goal.returns
unfolding abi_slots
returns g c p h =
    rw (← c.slot_count.ensures, ← c.class_first_slot-first.ensures) (c.find_in.ensures _ _ (omega arith) (λ i r l post. h i r post))
