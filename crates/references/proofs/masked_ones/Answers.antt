-- The sum is at most the number of words, so it is the same modulo 2^32. Assumes nothing.
use Rattle.std.proofs.Common.{◌∙◌, arith, rules}
use Rattle.std.specs.Int.Count.{ones}
use Rattle.references.specs.References.{masked_byte}
use Rattle.references.proofs.Laws.{masked_sum}
use Rattle.references.proofs.masked_ones.Goals as goal

pub returns : goal.returns
returns c =
    let a = c.args in
    rw c.bytes_for.ensures at (c.sum_of.ensures (λ j. ones (masked_byte a.bitmap.now a.n j)) (λ j r l post. search rules))
    ∙ masked_sum _ _ (λ j. omega (arith, c.type_inv.bitmap j)) (omega arith)
