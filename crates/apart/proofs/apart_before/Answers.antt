-- The test of each class number is the definition's. Assumes nothing.
use Rattle.std.proofs.Common.{rules}
use Rattle.apart.specs.Apart.{classes_apart, apart_before}
use Rattle.apart.proofs.apart_before.Goals as goal

pub returns : goal.returns
unfolding apart_before
returns c =
    let a = c.args in rw (← c.saturating_sub.ensures) (c.all_up_to.ensures (λ i. classes_apart a.ws.now a.text.now i a.d) (λ i r l post. search rules))
