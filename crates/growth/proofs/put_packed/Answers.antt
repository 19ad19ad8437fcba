-- The words are stored into a part that is as long as they. Assumes nothing.
use Rattle.std.proofs.Common.{◌*◌, arith, rules}
use Rattle.words.specs.Words.{le_word}
use Rattle.growth.proofs.GrowthLaws.{packed-stored}
use Rattle.growth.proofs.put_packed.Goals as goal

pub returns : goal.returns
returns c =
    packed-stored _ _ _ (omega arith) (omega arith) (omega arith)
    (c.store_each.ensures (λ i. le_word c.args.bytes.now (4 * i)) (λ i r l post. search rules))
