-- Each number that is read is the slot's. Assumes nothing.
use Rattle.std.proofs.Common.{rules}
use Rattle.linking.specs.Signature.{place_number, by_numbers}
use Rattle.abi.proofs.slot_of.Goals as goal

pub returns : goal.returns
unfolding by_numbers place_number
returns c = c.find_slot.ensures _ (λ i r post. search rules)
