-- The library's fold sums what the numbers give. Assumes nothing.
use Rattle.std.proofs.Common.{refl, rules, arith}
use Rattle.std.proofs.lemmas.Iterator.{YieldsList-from_range}
use Rattle.words.proofs.Ranges.{sum_is}
use Rattle.words.proofs.sum_of.Goals as goal

pub returns : goal.returns
returns g c = λ f h.
    sum_is f c.args.n c.fold.result c.fold.ensures.ran (YieldsList-from_range 0 c.args.n c.args.n refl (omega arith))
    (λ s x t d l k. (search rules, let w = h x in search (rules, w)))
