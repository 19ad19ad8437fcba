-- A marked word is put behind those before it, and any other is passed over. Assumes nothing.
use Rattle.std.proofs.Common.{◌≡◌, arith}
use Rattle.references.proofs.Laws.{fill_start, fill_skip, fill_take, fill_end}
use Rattle.references.proofs.put_marked.Goals as goal
use Rattle.references.proofs.put_marked.Goals.{then-is_marked, else-is_marked}

pub loop-i-init : goal.loop-i-init
loop-i-init c = record { filled = fill_start _ _; few = omega arith }

pub loop-i-preserved : goal.loop-i-preserved
loop-i-preserved c =
    let v = c.loop-i.invariant in
    elim c.if-is_marked.branch [
      | then-is_marked w ↦ record {
        filled = rw (w.list-is, w.put.ensures, w.k-is) (fill_take _ _ _ _ _ c.is_marked.ensures _ w.if-is_marked.true (omega arith) c.requires v.filled);
        few = omega arith;
      }
      | else-is_marked w ↦ record {
        filled = rw (w.list-is, w.k-is) (fill_skip _ _ _ _ _ c.is_marked.ensures w.if-is_marked.false v.filled);
        few = omega arith;
      }
    ]

pub returns : goal.returns
returns c =
    let e : c.loop-i.i ≡ c.args.n = omega arith in fill_end _ _ _ _ _ (rw e at c.loop-i.invariant.filled)
