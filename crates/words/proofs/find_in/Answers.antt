-- The first number that the library's search passes is the definition's. Assumes nothing.
use Rattle.std.proofs.Common.{◌≡◌, ◌<◌, true, false, refl, rules, arith}
use Rattle.std.proofs.lemmas.Iterator.{first_from_find, YieldsList-from_range}
use Rattle.words.proofs.Ranges.{find_along}
use Rattle.words.proofs.find_in.Goals as goal

pub returns : goal.returns
returns g c = λ p n e h.
    let a = c.args in
    find_along a.first n p a.end c.find.result (λ k l. omega arith)
    (first_from_find _ _ c.find.result (λ y. y < a.end → true ≡ p y) (λ y. y < a.end → false ≡ p y) c.find.ensures.ran
    (YieldsList-from_range a.first a.end n refl (omega arith))
    (λ x q k l. h x true l (search rules)) (λ x q k. (search rules, λ l. h x false l (search rules))))
