-- The marked ones of the words before word i, k of them, stand over the list's front. Assumes nothing.
use Rattle.std.proofs.Common.{◌≤◌}
use Rattle.references.proofs.Laws.{Filled}
use Rattle.references.proofs.put_marked.Given as goal

abbrev pub invariant-loop-i : goal.invariant-loop-i
invariant-loop-i l = record { filled : Filled l.bitmap l.initial.list l.i l.k l.list; few : l.k ≤ l.i }
