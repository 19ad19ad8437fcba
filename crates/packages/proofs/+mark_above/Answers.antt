-- The class's own methods, and then its parent's chain's, whose number is smaller. Assumes nothing.
use Rattle.std.proofs.Common.{arith, ◌∙◌}
use native.Mathlib.Nat.{pos_of_ne-zero}
use Rattle.class_sheet.specs.ClassSheet.{class_limit}
use Rattle.words.proofs.ListLaws.{push_room}
use Rattle.packages.proofs.OverLaws.{along-none, along-up, reached_yes, reached_no, reached_length, parent_less}
use Rattle.packages.proofs.+mark_above.Goals as goal
use Rattle.packages.proofs.+mark_above.Goals.{then-mark_class, else-mark_class}

pub returns-then-a-eq0 : goal.returns-then-a-eq0
returns-then-a-eq0 t c = along-none _ _ _ _ _ _ _ c.if-a-eq0.true

pub mark_above-requires : goal.mark_above-requires
mark_above-requires t c =
    let some = pos_of_ne-zero c.if-a-eq0.false in
    let less = parent_less _ _ c.parent_of.ensures some in
    elim c.if-mark_class.branch [
      | then-mark_class w ↦
          let one = reached_length _ _ (w.push.ensures ∙ push_room class_limit _ _ (omega (arith, c.requires, some))) in
          (omega (arith, less), rw w.reached-is (omega (arith, less, one, c.requires)))
      | else-mark_class w ↦ (omega (arith, less), rw w.reached-is (omega (arith, less, c.requires)))
    ]

pub returns : goal.returns
returns t c =
    let some = pos_of_ne-zero c.if-a-eq0.false in
    let own = c.mark_class.ensures in
    elim c.if-mark_class.branch [
      | then-mark_class w ↦
          along-up _ _ _ _ _ c.mark_class.result _ _ some c.parent_of.ensures c.as_slice.ensures.is own.marked own.is
          (rw w.reached-is (reached_yes _ _ w.if-mark_class.true (w.push.ensures ∙ push_room class_limit _ _ (omega (arith, c.requires, some)))))
          c.mark_above.ensures
      | else-mark_class w ↦
          along-up _ _ _ _ _ c.mark_class.result _ _ some c.parent_of.ensures c.as_slice.ensures.is own.marked own.is
          (rw w.reached-is (reached_no _ _ w.if-mark_class.false)) c.mark_above.ensures
    ]
