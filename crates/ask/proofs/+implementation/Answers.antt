-- A class has its own method, or its parent's, whose number is smaller: the recursion ends at class 0. Assumes nothing.
use Rattle.linking.proofs.ChainLaws.{parent_below}
use native.Mathlib.Nat.{pos_of_ne-zero}
use native.Mathlib.Omega.{arith}
use Rattle.ask.proofs.DispatchLaws.{implementation-none, implementation-hit, implementation-up}
use Rattle.ask.proofs.+implementation.Goals as goal

-- the chain's end
pub returns-then-c-eq0 : goal.returns-then-c-eq0
returns-then-c-eq0 t c = implementation-none _ _ _ _ c.if-c-eq0.true

-- the parent's number is smaller
pub implementation-requires : goal.implementation-requires
implementation-requires t c =
    let a = c.args in
    (omega (arith, parent_below a.sheets.set.now a.c (pos_of_ne-zero c.if-c-eq0.false)), tt)

-- the class's own method
pub returns-in-Some : goal.returns-in-Some
returns-in-Some t c = implementation-hit _ _ _ _ (pos_of_ne-zero c.if-c-eq0.false) c.own_implementation.ensures _ c.in-Some.is

-- its parent's
pub returns-in-None : goal.returns-in-None
returns-in-None t c = cc (implementation-up _ _ c.args.c c.args.m (pos_of_ne-zero c.if-c-eq0.false) c.own_implementation.ensures c.in-None.is)
