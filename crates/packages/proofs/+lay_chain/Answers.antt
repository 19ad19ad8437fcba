-- The class's own table, and over it those of its parent's chain, whose number is smaller. Assumes nothing.
use native.Mathlib.Omega.{arith}
use native.Mathlib.Nat.{pos_of_ne-zero}
use Rattle.packages.proofs.OverLaws.{parent_less}
use Rattle.packages.proofs.TopLaws.{laid_none, laid-up}
use Rattle.packages.proofs.+lay_chain.Goals as goal

pub returns-then-d-eq0 : goal.returns-then-d-eq0
returns-then-d-eq0 t c = laid_none _ _ _ _ _ _ _ _ c.if-d-eq0.true

pub lay_chain-requires : goal.lay_chain-requires
lay_chain-requires t c = (omega (arith, parent_less _ _ c.parent_of-e.ensures (pos_of_ne-zero c.if-d-eq0.false)), tt)

pub returns : goal.returns
returns t c =
    laid-up _ _ _ _ _ _ _ _ _ _ (pos_of_ne-zero c.if-d-eq0.false) c.parent_of-e.ensures c.lay_class.ensures c.lay_chain.ensures
