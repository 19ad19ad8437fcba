-- The library's test of each number is the definition's. Assumes nothing.
use Rattle.std.proofs.Common.{◌≡◌, ◌<◌, true, false, refl, ap, of_calls, arith}
use Rattle.std.proofs.lemmas.Iterator.{cases_from_all, YieldsList-from_range}
use Rattle.words.proofs.Ranges.{all_along}
use Rattle.words.proofs.all_of.Goals as goal

pub returns : goal.returns
returns g c = λ p h.
    all_along 0 c.args.n p p c.args.n c.all.result (omega arith) (λ k. ap p (omega arith))
    (cases_from_all _ _ c.all.result (λ y. y < c.args.n → true ≡ p y) (λ y. y < c.args.n → false ≡ p y) c.all.ensures.ran
    (YieldsList-from_range 0 c.args.n c.args.n refl (omega arith))
    (λ x q k. (g.met.F.Fn.1.step_stays _ _ _ _ (record { met = k.met }), λ l. h x true l (search of_calls)))
    (λ x q k l. h x false l (search of_calls)))
