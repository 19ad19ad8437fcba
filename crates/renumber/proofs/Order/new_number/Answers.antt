-- The library finds the first place that has the class, or none. Assumes nothing.
use Rattle.std.proofs.Common.{rules, sym, ◌∙◌}
use Rattle.std.specs.Prelude.{eqb}
use Rattle.std.proofs.lemmas.Iterator.Search.{position_from_yields_List}
use Rattle.std.proofs.lemmas.Iterator.{YieldsList-from_slice}
use Rattle.renumber.proofs.Placing.{number_counted}
use Rattle.renumber.proofs.Order.new_number.Goals as goal

pub returns-in-Some : goal.returns-in-Some
returns-in-Some c =
    number_counted _ _
    (sym c.in-Some.is ∙ position_from_yields_List (λ x. eqb x c.args.c) _ _ c.position.result c.position.ensures.ran
    (YieldsList-from_slice c.args.self.list.now cc) (λ x b q k. search rules))

pub returns-in-None : goal.returns-in-None
returns-in-None c =
    number_counted _ _
    (sym c.in-None.is ∙ position_from_yields_List (λ x. eqb x c.args.c) _ _ c.position.result c.position.ensures.ran
    (YieldsList-from_slice c.args.self.list.now cc) (λ x b q k. search rules))
