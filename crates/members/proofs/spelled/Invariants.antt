-- The digits before byte i spell n, and the word's number is n with the bytes from i on. Assumes nothing.
use Rattle.std.proofs.Common.{◌≡◌, drop}
use Rattle.members.specs.Number.{number_from, number_of}
use Rattle.members.proofs.spelled.Given as goal

abbrev pub invariant-loop-b : goal.invariant-loop-b
invariant-loop-b l = number_of l.word ≡ number_from l.n (drop l.b-index l.word)
