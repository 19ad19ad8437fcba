-- A turn puts one bit more below those that are there. Assumes nothing.
use Rattle.std.proofs.Common.{arith}
use Rattle.missing.proofs.BitLaws.{word_room, word-start, word-turn, word_end}
use Rattle.missing.proofs.Slots.bit_word.Goals as goal

pub loop-i-init : goal.loop-i-init
loop-i-init c = word-start _ _

pub overflow_mul-w : goal.overflow_mul-w
overflow_mul-w c = omega (arith, word_room _ _ c.loop-i.i (omega arith) c.loop-i.invariant)

pub overflow_add-w : goal.overflow_add-w
overflow_add-w c = omega (arith, c.bit_at.ensures.small, word_room _ _ c.loop-i.i (omega arith) c.loop-i.invariant)

pub loop-i-preserved : goal.loop-i-preserved
loop-i-preserved c = word-turn _ _ c.loop-i.i (omega arith) (omega arith) c.bit_at.ensures.is c.loop-i.invariant

pub returns : goal.returns
returns c = word_end _ _ c.loop-i.i (omega arith) c.loop-i.invariant
