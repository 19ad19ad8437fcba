-- The library's test of each number from 1 on is the definition's. Assumes nothing.
use Rattle.std.proofs.Common.{◌≡◌, ◌+◌, ◌<◌, true, false, ap, of_calls, arith}
use Rattle.std.proofs.lemmas.Iterator.{cases_from_all}
use Rattle.words.proofs.Ranges.{all_along, YieldsList-from_inclusive}
use Rattle.words.proofs.all_up_to.Goals as goal

pub returns : goal.returns
returns g c = λ p h.
    let n = c.args.n in
    all_along 1 n p (λ i. p (i + 1)) (n + 1) c.all.result (omega arith) (λ k. ap p (omega arith))
    (cases_from_all _ _ c.all.result (λ y. y < n + 1 → true ≡ p y) (λ y. y < n + 1 → false ≡ p y) c.all.ensures.ran
    (YieldsList-from_inclusive _ n c.new.ensures.start c.new.ensures.end c.new.ensures.exhausted)
    (λ x q k. (g.met.F.Fn.1.step_stays _ _ _ _ (record { met = k.met }), λ l. h x true l (search of_calls)))
    (λ x q k l. h x false l (search of_calls)))
