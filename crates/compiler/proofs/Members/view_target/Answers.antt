-- The first slot whose method has the target, if there is one. Assumes nothing.
use Rattle.std.proofs.Common.{rules, ◌≡◌, ◌∙◌}
use Rattle.std.proofs.lemmas.Iterator.Consumers.{YieldsList-from_first}
use Rattle.std.proofs.lemmas.Iterator.Search.{find_from_yields_List}
use Rattle.std.specs.Option.{option_map}
use Rattle.std.specs.Prelude.{find}
use Rattle.reading.specs.Tables.{entry, entries, entries_left}
use Rattle.compiler.specs.Methods.{of_methods, has_target}
use Rattle.reading.proofs.ArrayLaws.{none-back}
use Rattle.compiler.proofs.EntryLaws.{view_hit, view_none}
use Rattle.compiler.proofs.Members.view_target.Goals as goal
use Rattle.compiler.proofs.Members.view_target.Goals.{After-find}

-- what the search answers
seen : (c : After-find) → let a = c.args in
    option_map entry c.find.result ≡ find (of_methods has_target a.self a.t) (entries a.view.now)
seen c =
    let a = c.args in
    find_from_yields_List (of_methods has_target a.self a.t) c.find.new.self _ c.find.result c.find.ensures.ran
    (YieldsList-from_first entry entries_left (entries a.view.now) c.slots.ensures) (λ x b q k. search rules)

pub returns : goal.returns
returns c =
    let p = view_hit _ _ _ _ (seen (goal.at.returns c).After-find) c.in_ok-find.was c.method.ensures in record { is = p.0; marked = p.1 }

pub returns-in_err-find : goal.returns-in_err-find
returns-in_err-find c =
    let e = c.from_residual.ensures in
    record { is = e ∙ view_none _ _ _ _ (seen (goal.at.returns-in_err-find c).After-find) c.in_err-find.was; marked = rw e none-back }
