-- The invariant: what is left to walk at the node, when so many have been read, is the whole walk from the head. Assumes nothing.
use mathlib.Core.Path.{◌≡◌}
use Rattle.linking.specs.Ask.{walk}
use Rattle.area.proofs.WalkLaws.{walk_at}
use Rattle.area.proofs.walk.Given as goal

abbrev pub invariant-loop-read : goal.invariant-loop-read
invariant-loop-read l = walk_at l.area l.i l.read l.n ≡ walk l.area l.i 64 0 l.head
