-- The class marks by its own methods and claims what it marked, and then its parent's chain takes the slots that are left. Assumes nothing.
use Rattle.std.proofs.Common.{◌≡◌, length, arith}
use native.Mathlib.Nat.{pos_of_ne-zero}
use Rattle.linking.proofs.ChainLaws.{parent_below}
use Rattle.reading.proofs.MarkLaws.{targets-none, targets-all}
use Rattle.reading.proofs.ClassLaws.{targets-nobody, targets_paired, targets-declared}
use Rattle.reading.proofs.+mark_by_target.Goals as goal

-- the chain's end
pub returns-then-c-eq0-clause-marks : goal.returns-then-c-eq0-clause-marks
returns-then-c-eq0-clause-marks t c =
    let a = c.args in targets-none a.ws.now a.words.now a.c (length a.marks.now) _ c.if-c-eq0.true

pub returns-then-c-eq0-clause-classes : goal.returns-then-c-eq0-clause-classes
returns-then-c-eq0-clause-classes t c =
    let a = c.args in targets-nobody a.ws.now a.words.now a.c (length a.marks.now) a.marks.now _ c.if-c-eq0.true

-- the parent's number is smaller, and what the class marked it claimed
pub mark_by_target-requires : goal.mark_by_target-requires
mark_by_target-requires t c =
    let a = c.args in
    let n : length c.mark_targets.new.marks ≡ length a.marks.now = omega arith in
    let claimed = rw n at c.claim.ensures in (
      omega (arith, parent_below a.ws.now a.c (pos_of_ne-zero c.if-c-eq0.false)),
      (
        omega arith,
        omega arith,
        rw n
            (targets_paired a.ws.now a.words.now a.c (length a.marks.now) _ _ c.method_records.ensures c.class_first_method-first.ensures
            c.class_method_count-count.ensures c.mark_targets.ensures claimed (pos_of_ne-zero c.if-c-eq0.false) (omega arith) (omega arith) c.requires.2),
      ),
    )

-- the class's own targets, and then its parent's
pub returns-clause-marks : goal.returns-clause-marks
returns-clause-marks t c =
    let a = c.args in
    let n : length c.mark_targets.new.marks ≡ length a.marks.now = omega arith in
    targets-all a.ws.now a.words.now a.c (length a.marks.now) _ c.method_records.ensures c.class_first_method-first.ensures c.class_method_count-count.ensures
    c.mark_targets.ensures c.parent_of.ensures (rw n at c.mark_by_target.ensures.marks) (pos_of_ne-zero c.if-c-eq0.false) (omega arith)

pub returns-clause-classes : goal.returns-clause-classes
returns-clause-classes t c =
    let a = c.args in
    let n : length c.mark_targets.new.marks ≡ length a.marks.now = omega arith in
    targets-declared a.ws.now a.words.now a.c (length a.marks.now) _ _ c.method_records.ensures c.class_first_method-first.ensures
    c.class_method_count-count.ensures c.mark_targets.ensures (rw n at c.claim.ensures) (pos_of_ne-zero c.if-c-eq0.false) (omega arith) (omega arith)
    c.requires.2 c.parent_of.ensures (rw n at c.mark_by_target.ensures.classes)
