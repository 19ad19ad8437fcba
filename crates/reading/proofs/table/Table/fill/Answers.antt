-- A turn adds one slot more. Assumes nothing.
use Rattle.std.proofs.Common.{◌≡◌, min, arith, sym, ◌∙◌}
use Rattle.words.specs.Lists.{list_from}
use Rattle.words.proofs.Ext.{list-more}
use Rattle.reading.proofs.table.Table.fill.Goals as goal

pub loop-i-init : goal.loop-i-init
unfolding list_from
loop-i-init g c = record { len = c.clear.ensures.len; is = λ f h. c.clear.ensures.is }

pub loop-i-preserved : goal.loop-i-preserved
loop-i-preserved g c =
    let v = c.loop-i.invariant in record {
      len = omega (arith, c.push.ensures.len (omega arith));
      is = λ f h. c.push.ensures.is (omega arith) ∙ rw (v.is f h, h _ _ c.slot.ensures) (sym (list-more f c.loop-i.i));
    }

pub returns-clause-is : goal.returns-clause-is
returns-clause-is g c = λ f h. let e : c.loop-i.i ≡ min c.args.n g.row.N = omega (arith, c.min-i-end.ensures) in rw (← e) (c.loop-i.invariant.is f h)
