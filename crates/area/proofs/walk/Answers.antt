-- Each test of a turn is one of the definition's, and the count follows from the walk. Assumes nothing.
use Rattle.area.proofs.WalkLaws.{counted, walk_start, walk-missed, walk-broken, walk-hit, walk_turn, walk-last, walk_out}
use mathlib.Core.Path.{◌≡◌}
use native.Mathlib.Omega.{arith}
use Rattle.area.proofs.walk.Goals as goal

pub loop-read-init : goal.loop-read-init
loop-read-init c = search walk_start

-- the list ends
pub returns-then-n-eq0 : goal.returns-then-n-eq0
returns-then-n-eq0 c = search (walk-missed, counted)

-- a link is not below word 0
pub returns-then-next-link : goal.returns-then-next-link
returns-then-next-link c = search (walk-broken, counted)

-- the interface's node
pub returns-then-get_or-i : goal.returns-then-get_or-i
returns-then-get_or-i c = search (walk-hit, counted)

pub loop-read-preserved : goal.loop-read-preserved
loop-read-preserved c = search walk_turn

-- after 64 nodes: the list ends, or there is one more
pub returns-then-n-eq0-2 : goal.returns-then-n-eq0-2
returns-then-n-eq0-2 c = let e : c.loop-read.read ≡ 64 = omega arith in search (walk-last, counted)

pub returns-else-n-eq0-2 : goal.returns-else-n-eq0-2
returns-else-n-eq0-2 c = search (walk_out, counted)
