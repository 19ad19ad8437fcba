-- A list past the marks, or with a marked element, is not free; else each element is marked in its turn. Assumes nothing.
use Rattle.std.proofs.Common.{◌≡◌, ◌+◌, ◌-◌, arith}
use mathlib.Core.Bool.{false≢true}
use Rattle.words.proofs.FoldLaws.{all_none}
use Rattle.words.proofs.Lists.{length_part}
use Rattle.apart.proofs.Laws.{marked-none, marked_turn, free-turn, free-past, list-stop, list-marked, list-free}
use Rattle.apart.proofs.mark_list.Goals as goal

pub returns-then-marks-start : goal.returns-then-marks-start
returns-then-marks-start c = record { is = free-past _ _ _ c.if-marks-start.true; marks = λ e. absurd (false≢true e) }

pub loop-mark-init : goal.loop-mark-init
loop-mark-init c = record { marks = marked-none _ _; free = all_none _ }

pub returns-then-mark : goal.returns-then-mark
returns-then-mark c =
    let a = c.args in
    let m : a.first + a.n - a.first ≡ a.n = omega arith in
    let k = rw (m, length_part a.marks.now a.first a.n c.if-marks-start.false) at c.loop-mark-test.true in
    record { is = list-stop _ _ _ c.if-marks-start.false m c.loop-mark.invariant.marks k c.if-mark.true; marks = λ e. absurd (false≢true e) }

pub loop-mark-preserved : goal.loop-mark-preserved
loop-mark-preserved c =
    let i = c.loop-mark.invariant in
    let k = c.loop-mark.mark-index in
    let z : 0 + k ≡ k = omega arith in
    record { marks = rw z at (marked_turn _ 0 k i.marks); free = free-turn _ 0 k i.marks (rw z c.if-mark.false) i.free }

pub returns : goal.returns
returns c =
    let a = c.args in
    let i = c.loop-mark.invariant in
    let m : a.first + a.n - a.first ≡ a.n = omega arith in
    let long = length_part a.marks.now a.first a.n c.if-marks-start.false in
    let end = rw (m, long) at c.loop-mark-test.false in
    let far = rw (m, long) at c.loop-mark.auto.mark-index-end in
    let k : c.loop-mark.mark-index ≡ a.n = omega arith in
    record { is = list-free _ _ _ c.if-marks-start.false m i.marks k i.free; marks = λ _. list-marked _ _ _ c.if-marks-start.false m i.marks k }
