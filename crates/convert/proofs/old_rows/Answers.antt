-- The new form without static words is stored word by word, and is what rows and sums are taken of. Assumes nothing.
use Rattle.std.proofs.Common.{sym, ◌∙◌, arith}
use Rattle.words.proofs.Lists.{zeros}
use Rattle.convert.proofs.Calls.{part-text, rows-rest, sums_rest}
use Rattle.convert.proofs.old_rows.Goals as goal

pub returns : goal.returns
returns c =
    let f = sym c.old_fits.ensures ∙ c.if-not-old_fits.false in
    let t = part-text _ f _ _ (zeros 64) (omega arith) c.content_end.ensures.is c.widen.ensures c.part.ensures in
    record {
      value = rows-rest _ f _ _ (zeros 64) (omega arith) c.content_end.ensures.is c.widen.ensures c.part.ensures (c.forward_rows.ensures.value t);
      sums = λ z. sums_rest _ f _ _ (zeros 64) (omega arith) c.content_end.ensures.is c.widen.ensures c.part.ensures _ (c.forward_rows.ensures.sums t);
    }
