-- Both definitions are the lookup in the class's ABI entry.
use Rattle.abi.specs.Abis.{class_slot}
use Rattle.lines.specs.Lines.{own_slot}
use Rattle.lines.proofs.own_slot.Goals as goal

pub returns : goal.returns
unfolding own_slot class_slot
returns c = c.class_slot.ensures
