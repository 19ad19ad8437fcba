-- The j bytes in front and the run behind them are the run. Assumes nothing.
use Rattle.std.proofs.Common.{◌≡◌, ◌+◌, drop}
use Rattle.descriptor.specs.Names.{name_run}
use Rattle.descriptor.proofs.name_run.Given as goal

abbrev pub invariant-loop-j : goal.invariant-loop-j
invariant-loop-j l = l.j + name_run (drop l.j l.s) ≡ name_run l.s
