-- The library's search for a number that passes is the definition's. Assumes nothing.
use Rattle.std.proofs.Common.{◌≡◌, ◌<◌, true, false, refl, of_calls, arith}
use Rattle.std.proofs.lemmas.Iterator.{cases_from_any, YieldsList-from_range}
use Rattle.words.proofs.Ranges.{some_along}
use Rattle.words.proofs.some_in.Goals as goal

pub returns : goal.returns
returns g c = λ p n e h.
    let a = c.args in
    some_along a.first n p a.end c.any.result (λ k l. omega arith)
    (cases_from_any _ _ c.any.result (λ y. y < a.end → true ≡ p y) (λ y. y < a.end → false ≡ p y) c.any.ensures.ran
    (YieldsList-from_range a.first a.end n refl (omega arith)) (λ x q k l. h x true l (search of_calls))
    (λ x q k. (g.met.F.Fn.1.step_stays _ _ _ _ (record { met = k.met }), λ l. h x false l (search of_calls))))
