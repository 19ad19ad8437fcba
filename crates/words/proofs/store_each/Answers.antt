-- A turn stores one value more, and the part at the front has all that there is room for. Assumes nothing.
use Rattle.std.proofs.Common.{refl, length-take-le, arith}
use Rattle.words.proofs.FoldLaws.{stores-none, stores-turn, stores-front}
use Rattle.words.proofs.store_each.Goals as goal

pub loop-i-init : goal.loop-i-init
loop-i-init g c = λ f h. stores-none f _

pub loop-i-preserved : goal.loop-i-preserved
loop-i-preserved g c = λ f h.
    let below = length-take-le c.min-end.result c.args.out.now (omega arith) in
    stores-turn _ f _ refl (c.loop-i.invariant f h) (h _ _ (omega (arith, below)) c.value.ensures)

pub returns : goal.returns
returns g c = λ f h. stores-front c.args.n f c.args.out.now c.min-end.ensures (c.loop-i.invariant f h) (omega arith) (omega arith)
