-- From the far end: no byte from i on is a slash. Assumes nothing.
use Rattle.std.proofs.Common.{◌≡◌, false}
use Rattle.packages.proofs.NameLaws.{slash_from}
use Rattle.packages.proofs.package_of.Given as goal

abbrev pub invariant-loop-i : goal.invariant-loop-i
invariant-loop-i l = slash_from l.name l.i ≡ false
