-- What puts the bytes that are left, puts all of them from where it began.
use Rattle.std.proofs.Common.{drop}
use Rattle.lines.specs.Out.{Puts}
use Rattle.lines.specs.declared.Out.{Out}
use Rattle.lines.proofs.Out.put.Given as goal

abbrev pub invariant-loop-b : goal.invariant-loop-b
invariant-loop-b l = (q : Out) → Puts l.self q (drop l.b-index l.bytes) → Puts l.initial.self q l.bytes
