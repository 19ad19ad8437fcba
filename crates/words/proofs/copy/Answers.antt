-- Where the elements are all there and fit, they stand in dst from `at` on; else dst stays. Assumes nothing.
use Rattle.std.proofs.Common.{◌+◌, ◌-◌, arith}
use Rattle.words.proofs.Laws.{no_source, no_room_lem, copied}
use Rattle.words.proofs.copy.Goals as goal
use Rattle.words.proofs.copy.Goals.{
  then-src-n-via-then-src-n,
  then-src-n-via-else-src-n+then-src-n-2,
  then-src-n-via-else-src-n+else-src-n-2+then-dst-n,
  then-src-n-via-else-src-n+else-src-n-2+else-dst-n+then-dst-n-2,
}

pub returns-then-src-n : goal.returns-then-src-n
returns-then-src-n g c = elim c.then-src-n.branch [
  | then-src-n-via-then-src-n w ↦ no_source _ _ _ _ _ (omega arith)
  | then-src-n-via-else-src-n+then-src-n-2 w ↦ no_source _ _ _ _ _ (omega arith)
  | then-src-n-via-else-src-n+else-src-n-2+then-dst-n w ↦ no_room_lem _ _ _ _ _ (omega arith)
  | then-src-n-via-else-src-n+else-src-n-2+else-dst-n+then-dst-n-2 w ↦ no_room_lem _ _ _ _ _ (omega arith)
]

pub returns : goal.returns
returns g c =
    copied _ _ _ _ _ {k = c.args.from + c.args.n - c.args.from} c.copy_from_slice.ensures.after (omega arith) (omega arith) (omega arith) (omega arith)
