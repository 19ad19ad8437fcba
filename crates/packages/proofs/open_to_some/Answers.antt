-- What `any` answers is the definition's test of the list. Assumes nothing.
use Rattle.std.proofs.Common.{◌∙◌, sym, rules, tests}
use Rattle.std.proofs.lemmas.Iterator.{YieldsList-from_slice}
use Rattle.std.proofs.lemmas.Iterator.Search.{any_from_yields_List}
use Rattle.linking.specs.Packages.{open_to}
use Rattle.reading.proofs.SlotLaws.{some_any}
use Rattle.packages.proofs.open_to_some.Goals as goal

pub returns : goal.returns
returns c =
    let a = c.args in
    any_from_yields_List (open_to a.ws.now a.text.now a.k a.a) _ _ _ c.any.ensures.ran (YieldsList-from_slice a.classes.now cc)
    (λ x b q k. search (rules, tests))
    ∙ sym (some_any (open_to a.ws.now a.text.now a.k a.a) a.classes.now)
