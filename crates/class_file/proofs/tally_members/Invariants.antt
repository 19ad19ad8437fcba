-- What was seen of the members so far, with the tally of those that are left, is the tally of all. Assumes nothing.
use Rattle.std.proofs.Common.{◌≡◌, ℕ, ◌+◌, ◌*◌, ◌≤◌, true, List, []}
use Rattle.std.specs.Prelude.{Bool}
use Rattle.class_file.proofs.Laws.{left, tally_from}
use Rattle.class_file.proofs.tally_members.Given as goal

pub record Seen (method : Bool) (bs : List ℕ) (n p i next : ℕ) (typed : Bool) (text : ℕ) : Type 0 where
  pub is : tally_from method n typed text (left bs [] n i next) ≡ tally_from method n true 0 (left bs [] n 0 p)
  pub small : text ≤ 131070 * i

abbrev pub invariant-loop : goal.invariant-loop
invariant-loop l = Seen l.method l.pool.bytes.now l.members (l.p + 2) l.counter l.next l.typed l.text
