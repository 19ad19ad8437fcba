-- The bytes stay as many, and each is a byte; those that were read have room. The room that is left goes down. Assumes nothing.
use Rattle.std.proofs.Common.{length, ℕ, get_or, ◌-◌, ◌≡◌, ◌≤◌, ◌<◌}
use Rattle.files.proofs.read_open.Given as goal

abbrev pub invariant-loop-n : goal.invariant-loop-n
invariant-loop-n g l =
    (l.n ≤ length l.bytes) × (length l.bytes ≡ length l.initial.bytes) × ((i : ℕ) → get_or l.bytes i 0 < 256)

abbrev pub decreases-loop-n : goal.decreases-loop-n
decreases-loop-n g l = length l.initial.bytes - l.n
