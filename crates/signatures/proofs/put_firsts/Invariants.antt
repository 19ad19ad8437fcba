-- The places from p on are stored, and no key that one of them has falls into a bucket that keeps a later place. Assumes nothing.
use Rattle.signatures.proofs.KeyLaws.{LeastFrom}
use Rattle.signatures.proofs.put_firsts.Given as goal

abbrev pub invariant-loop-p : goal.invariant-loop-p
invariant-loop-p l = LeastFrom l.keys l.firsts l.p
