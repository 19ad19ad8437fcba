-- Words copied, then marked by target and, where that finds nothing, by index: each slot is then as Reading finds it, with the class that
-- declares its method. Assumes nothing.
use Rattle.std.proofs.Common.{◌≡◌, length, arith, ◌∙◌, sym}
use Rattle.std.proofs.lemmas.List.{take_all}
use Rattle.linking.specs.Signature.{by_numbers}
use Rattle.reading.proofs.ReadLaws.{table_is}
use Rattle.reading.proofs.MarkLaws.{all_read}
use Rattle.reading.proofs.ClassLaws.{paired_start, read_paired, read_classes}
use Rattle.reading.proofs.read_slots.Goals as goal
use Rattle.reading.proofs.read_slots.Goals.{After-mark_by_target}

-- there are as many marks as slots, after the copy and after the marking by target
marks : (c : After-mark_by_target)
    → (length c.copy_slots.new.marks ≡ length c.args.words.now) × (length c.mark_by_target.new.marks ≡ length c.args.words.now)
marks c = (omega arith, omega arith)

pub mark_by_target-requires : goal.mark_by_target-requires
mark_by_target-requires c =
    let copied = c.copy_slots.ensures in
    let n : length c.copy_slots.new.marks ≡ length c.args.words.now = omega arith in
    (omega arith, omega arith, rw n (paired_start _ _ _ copied.marks copied.classes (omega arith) (omega arith)))

pub mark_by_index-requires : goal.mark_by_index-requires
mark_by_index-requires c =
    let copied = c.copy_slots.ensures in
    let target = c.mark_by_target.ensures in
    let m = marks (goal.at.mark_by_index-requires c).After-mark_by_target in (
      omega arith,
      omega arith,
      rw m.1
          (read_paired c.args.sheets.set.now c.args.area.now c.class_table_place-place.result c.args.c (length c.args.words.now) _ _ _ copied.words copied.marks
          copied.classes (rw m.0 at target.marks) (rw m.0 at target.classes) (omega arith) (omega arith) (omega arith)),
    )

pub returns-clause-is : goal.returns-clause-is
returns-clause-is c =
    let s = c.args.sheets in
    let place = c.class_table_place-place in
    let m = marks (goal.at.returns-clause-is c).After-mark_by_target in
    let k : length c.mark_by_index.new.marks ≡ length c.args.words.now = omega arith in
    let r = all_read (by_numbers s.numbers.now) s.set.now s.text.now s.abi.now s.labels.now c.args.area.now place.result c.args.c (length c.args.words.now) _ _
    c.copy_slots.ensures.words c.copy_slots.ensures.marks (rw m.0 at c.mark_by_target.ensures.marks) (rw m.1 at c.mark_by_index.ensures.marks)
    (rw k at c.give_sources.ensures) (omega arith) (omega arith) in
    table_is _ _ _ _ _ _ _ place.ensures c.requires.0 r.0

pub returns-clause-classes : goal.returns-clause-classes
returns-clause-classes c =
    let s = c.args.sheets in
    let place = c.class_table_place-place in
    let copied = c.copy_slots.ensures in
    let target = c.mark_by_target.ensures in
    let m = marks (goal.at.returns-clause-classes c).After-mark_by_target in
    let all = take_all (length c.args.words.now) c.mark_by_index.new.classes (omega arith) in
    let d = read_classes s.set.now c.args.area.now place.result c.args.c (length c.args.words.now) _ _ _ copied.words copied.marks copied.classes
    (rw m.0 at target.marks) (rw m.0 at target.classes) (omega arith) (omega arith) (omega arith) (by_numbers s.numbers.now) s.text.now s.abi.now s.labels.now
    (rw m.1 at c.mark_by_index.ensures.classes) place.ensures in
    sym all ∙ d.0
