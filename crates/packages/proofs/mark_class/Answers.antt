-- A method's turn marks it, if it is overridden, and tests whether it is then private. Assumes nothing.
use Rattle.std.proofs.Common.{not, arith, ap, sym, refl, ◌∙◌, true, false}
use Rattle.words.specs.Lists.{fold, some}
use Rattle.class_sheet.specs.ClassSheet.{method_flags}
use Rattle.linking.specs.Chain.{is_private}
use Rattle.packages.specs.Marks.{mark}
use Rattle.packages.proofs.OverLaws.{left-fold-turn, left-fold-end, left-some-turn, left-some-end, overridden-left}
use Rattle.packages.proofs.mark_class.Goals as goal
use Rattle.packages.proofs.mark_class.Goals.{then-is_overridden, else-is_overridden}

pub loop-k-init : goal.loop-k-init
loop-k-init c =
    let a = c.args in
    let s = a.sheets in
    let e = overridden-left _ s.set.now s.text.now a.reached.now a.m a.a _ _ c.class_first_method-first.ensures c.method_count-count.ensures in record {
      marked = ap (fold mark a.marks.now) e;
      is = ap (some (λ k. not (is_private (method_flags a.sheets.set.now k)))) e;
    }

pub loop-k-preserved : goal.loop-k-preserved
unfolding mark
loop-k-preserved c =
    let before = c.loop-k.invariant in
    elim c.if-is_overridden.branch [
      | then-is_overridden w ↦
          let e = sym w.if-is_overridden.true ∙ c.is_overridden.ensures in record {
            marked = left-fold-turn _ _ _ mark c.loop-k.k c.loop-k.marks true (omega arith) (omega arith) e (w.marks-is ∙ w.put.ensures) before.marked;
            is = left-some-turn _ _ _ _ c.loop-k.k c.loop-k.open true (omega arith) (omega arith) e
                (ap not (w.is_private.ensures ∙ ap is_private w.method_flags.ensures)) w.open-is before.is;
          }
      | else-is_overridden w ↦
          let e = sym w.if-is_overridden.false ∙ c.is_overridden.ensures in record {
            marked = left-fold-turn _ _ _ mark c.loop-k.k c.loop-k.marks false (omega arith) (omega arith) e w.marks-is before.marked;
            is = left-some-turn _ _ _ _ c.loop-k.k c.loop-k.open false (omega arith) (omega arith) e refl w.open-is before.is;
          }
    ]

pub returns : goal.returns
returns c = record {
  marked = left-fold-end _ _ _ mark c.loop-k.k _ (omega arith) c.loop-k.invariant.marked;
  is = left-some-end _ _ _ _ c.loop-k.k _ (omega arith) c.loop-k.invariant.is;
}
