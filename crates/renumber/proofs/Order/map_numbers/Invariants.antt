-- The first words, as many as had their turn, are mapped, the others are as they were. Assumes nothing.
use Rattle.std.proofs.Common.{◌≡◌}
use Rattle.renumber.specs.Renumber.{new_number}
use Rattle.renumber.proofs.Writing.{mapped_to}
use Rattle.renumber.proofs.Order.map_numbers.Given as goal

abbrev pub invariant-loop-x : goal.invariant-loop-x
invariant-loop-x l = l.part ≡ mapped_to (new_number l.self.list.now) l.initial.part l.x-index
