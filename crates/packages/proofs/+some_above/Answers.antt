-- The class passes, or the rest of its chain decides. Assumes nothing.
use Rattle.std.proofs.Common.{arith, refl, ◌∙◌}
use native.Mathlib.Nat.{pos_of_ne-zero}
use Rattle.packages.proofs.OverLaws.{seek_none, seek_found, seek_up, parent_less}
use Rattle.packages.proofs.+some_above.Goals as goal

pub returns-then-test : goal.returns-then-test
returns-then-test g t c = λ p gives.
    c.if-test.true ∙ seek_found _ p _ (pos_of_ne-zero c.if-c-ne0.true) (gives _ _ c.test.ensures) c.if-test.true

pub some_above-requires : goal.some_above-requires
some_above-requires g t c = search (parent_less, pos_of_ne-zero, arith)

pub returns-else-test : goal.returns-else-test
returns-else-test g t c = λ p gives.
    seek_up _ p _ (pos_of_ne-zero c.if-c-ne0.true) c.parent_of.ensures (gives _ _ c.test.ensures) c.if-test.false (c.some_above.ensures p gives)

pub returns-else-c-ne0 : goal.returns-else-c-ne0
returns-else-c-ne0 g t c = λ p gives. rw c.if-c-ne0.false (seek_none c.args.ws.now p 0 refl)
