-- The first number that the library's search passes is the definition's. Assumes nothing.
use Rattle.std.proofs.Common.{◌≡◌, ◌<◌, ◌+◌, true, false, rules, arith}
use Rattle.std.proofs.lemmas.Iterator.{first_from_find}
use Rattle.words.proofs.Ranges.{find_along, YieldsList-from_inclusive}
use Rattle.words.proofs.find_up_to.Goals as goal

pub returns : goal.returns
returns g c = λ p h.
    let n = c.args.n in
    find_along 1 n p (n + 1) c.find.result (λ k l. omega arith)
    (first_from_find _ _ c.find.result (λ y. y < n + 1 → true ≡ p y) (λ y. y < n + 1 → false ≡ p y) c.find.ensures.ran
    (YieldsList-from_inclusive _ n c.new.ensures.start c.new.ensures.end c.new.ensures.exhausted)
    (λ x q k l. h x true l (search rules)) (λ x q k. (search rules, λ l. h x false l (search rules))))
