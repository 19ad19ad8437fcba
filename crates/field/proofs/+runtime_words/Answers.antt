-- A parent's number is below its child's. Assumes nothing.
use Rattle.linking.proofs.ChainLaws.{parent_below}
use Rattle.std.proofs.Common.{pos_of_ne-zero, arith}
use Rattle.field.proofs.+runtime_words.Goals as goal

pub runtime_words-requires : goal.runtime_words-requires
runtime_words-requires t c =
    (omega (arith, parent_below c.args.ws.now c.args.c (pos_of_ne-zero c.if-c-eq0.false), c.parent_of.ensures), tt)
