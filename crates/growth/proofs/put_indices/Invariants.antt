-- The invariant: what is left to store from index j on gives what the whole does. Assumes nothing.
use Rattle.linking.specs.Set.{put_indices}
use Rattle.growth.proofs.Indices.{indices_from}
use mathlib.Core.Path.{◌≡◌}
use Rattle.growth.proofs.put_indices.Given as goal

abbrev pub invariant-loop-j : goal.invariant-loop-j
invariant-loop-j l = indices_from l.at l.first l.indices l.j l.set ≡ put_indices l.at l.first l.indices l.initial.set
