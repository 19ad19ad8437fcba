-- A turn packs one more word. Assumes nothing.
use Rattle.std.proofs.Common.{refl, arith, rules}
use Rattle.missing.proofs.ListLaws.{pack_start, pack_turn, pack_end}
use Rattle.missing.proofs.Slots.pack.Goals as goal

pub loop-j-init : goal.loop-j-init
loop-j-init c = pack_start _

pub loop-j-preserved : goal.loop-j-preserved
loop-j-preserved c = pack_turn _ _ c.loop-j.j (search rules) (omega arith) c.loop-j.invariant c.packed_word.ensures refl

pub returns : goal.returns
returns c = pack_end _ _ c.loop-j.j (search rules) (omega arith) c.loop-j.invariant
