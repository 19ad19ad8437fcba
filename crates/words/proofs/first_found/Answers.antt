-- The library's search along the elements is the definition's. Assumes nothing.
use Rattle.std.proofs.Common.{rules, ap, subst, ◌∙◌}
use Rattle.std.specs.Iterator.Runs.{ItemsMapTo}
use Rattle.words.proofs.Ranges.{found_along}
use Rattle.words.proofs.first_found.Goals as goal

pub returns : goal.returns
returns g c = λ f h.
    let r = c.find_map.ensures.runs in
    let all = subst (λ l. ItemsMapTo r.0 (λ y. y.now) l) (ap (λ s. s.rest.now) r.1 ∙ search rules) (c.iter.ensures.runs r.0 r.0.seen) in
    found_along f c.args.s.now r.0 c.find_map.result all r.2 (λ x o d k. (search rules, h _ _ (search rules)))
