-- The class marks by its own entry and claims what it marked, and then its parent's chain takes the slots that are left. Assumes nothing.
use Rattle.std.proofs.Common.{◌≡◌, length, arith}
use native.Mathlib.Nat.{pos_of_ne-zero}
use Rattle.linking.proofs.ChainLaws.{parent_below}
use Rattle.reading.proofs.MarkLaws.{indices-none, indices-all}
use Rattle.reading.proofs.ClassLaws.{indices-nobody, indices_paired, indices-declared}
use Rattle.reading.proofs.+mark_by_index.Goals as goal

-- the chain's end
pub returns-then-c-eq0-clause-marks : goal.returns-then-c-eq0-clause-marks
returns-then-c-eq0-clause-marks t c = indices-none _ _ _ _ _ _ _ _ c.if-c-eq0.true

pub returns-then-c-eq0-clause-classes : goal.returns-then-c-eq0-clause-classes
returns-then-c-eq0-clause-classes t c = indices-nobody _ _ _ _ _ _ _ c.args.marks.now _ c.if-c-eq0.true

-- the parent's number is smaller, and what the class marked it claimed
pub mark_by_index-requires : goal.mark_by_index-requires
mark_by_index-requires t c =
    let n : length c.mark_own.new.marks ≡ length c.args.marks.now = omega arith in
    let claimed = rw n at c.claim.ensures in (
      omega (arith, parent_below c.args.sheets.set.now c.args.c (pos_of_ne-zero c.if-c-eq0.false)),
      (
        omega arith,
        omega arith,
        rw n (indices_paired _ _ _ _ _ _ _ _ _ c.mark_own.ensures claimed (pos_of_ne-zero c.if-c-eq0.false) (omega arith) (omega arith) c.requires.2),
      ),
    )

-- the class's own entry, and then its parent's
pub returns-clause-marks : goal.returns-clause-marks
returns-clause-marks t c =
    let n : length c.mark_own.new.marks ≡ length c.args.marks.now = omega arith in
    indices-all _ _ _ _ _ _ _ _ c.mark_own.ensures c.parent_of.ensures (rw n at c.mark_by_index.ensures.marks) (pos_of_ne-zero c.if-c-eq0.false) (omega arith)

pub returns-clause-classes : goal.returns-clause-classes
returns-clause-classes t c =
    let n : length c.mark_own.new.marks ≡ length c.args.marks.now = omega arith in
    indices-declared _ _ _ _ _ _ _ _ _ c.mark_own.ensures (rw n at c.claim.ensures) (pos_of_ne-zero c.if-c-eq0.false) (omega arith) (omega arith) c.requires.2
    c.parent_of.ensures (rw n at c.mark_by_index.ensures.classes)
