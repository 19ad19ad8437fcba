-- Names of unequal lengths are told apart by these. Of others the invariant: the bytes from i on are the same; i falls.
use Rattle.std.proofs.Common.{◌≡◌, drop}
use Rattle.text.proofs.compare.Given as goal

abbrev pub invariant-loop-i : goal.invariant-loop-i
invariant-loop-i l = drop l.i l.a ≡ drop l.i l.b
