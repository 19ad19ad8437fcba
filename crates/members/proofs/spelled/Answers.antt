-- Times ten, and then with the digit, the number stays below 2^32, or there is none. Assumes nothing.
use mathlib.Core.Path.{◌≡◌, sym, ◌∙◌}
use lib.ListN.{get_or}
use Rattle.members.specs.Number.{with_digit}
use native.Mathlib.Omega.{arith}
use Rattle.members.proofs.NumberLaws.{number_large, number_turn}
use Rattle.members.proofs.spelled.Goals as goal

pub returns-in_err-checked_mul : goal.returns-in_err-checked_mul
returns-in_err-checked_mul c =
    let a = rw c.in_err-checked_mul.was at c.checked_mul.ensures in
    rw c.from_residual.ensures (sym (c.loop-b.invariant ∙ number_large _ _ c.loop-b.b-index c.loop-b-test.true (omega arith)))

pub returns-in_err-n : goal.returns-in_err-n
returns-in_err-n c =
    let m = rw c.in_ok-checked_mul.was at c.checked_mul.ensures in
    let a = rw c.in_err-n.was at c.checked_add.ensures in
    rw c.from_residual-in_err-n.ensures (sym (c.loop-b.invariant ∙ number_large _ _ c.loop-b.b-index c.loop-b-test.true (omega (arith, m.1))))

pub loop-b-preserved : goal.loop-b-preserved
loop-b-preserved c =
    let m = rw c.in_ok-checked_mul.was at c.checked_mul.ensures in
    let a = rw c.in_ok-n.was at c.checked_add.ensures in
    let e : c.in_ok-n.n ≡ with_digit c.loop-b.n (get_or c.args.word.now c.loop-b.b-index 0) = omega (arith, a.1, m.1) in
    c.loop-b.invariant
    ∙ rw e
    (number_turn _ _ c.loop-b.b-index c.loop-b-test.true (sym c.is_ascii_digit.ensures.value ∙ c.if-not-is_ascii_digit.false) (omega (arith, a.0, e, a.1)))
