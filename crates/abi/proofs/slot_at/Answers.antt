-- Each index that is read is the slot's. Assumes nothing.
use Rattle.std.proofs.Common.{rules}
use Rattle.linking.specs.Abi.{slot_at}
use Rattle.abi.proofs.RecordLaws.{record_index}
use Rattle.abi.proofs.slot_at.Goals as goal

pub returns : goal.returns
unfolding slot_at
returns c = c.find_slot.ensures _ (λ i r post. search (rules, record_index))
