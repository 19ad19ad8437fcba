-- Row 11 first, then row 12; else the method is stored at its fixed index. Assumes nothing.
use native.Mathlib.Omega.{arith}
use Rattle.std.proofs.Common.{◌≡◌, not, false, eqb}
use Rattle.std.proofs.lemmas.Grind.{common_steps}
use Rattle.linking.specs.Chain.{on_found}
use Rattle.vtable.proofs.AddLaws.{put-moved, put-taken, put-there}
use Rattle.vtable.proofs.put_fixed.Goals as goal
use Rattle.vtable.proofs.put_fixed.Goals.{After-is_some_and}

moved : (c : After-is_some_and) → c.is_some_and.result ≡ on_found c.args.slot (λ j. not (eqb j c.args.i)) false
moved c = grind (arith, common_steps)

pub returns-then-is_some_and-clause-is : goal.returns-then-is_some_and-clause-is
returns-then-is_some_and-clause-is c =
    let moves = moved (goal.at.returns-then-is_some_and-clause-is c).After-is_some_and in search put-moved

pub returns-then-holds_other-clause-is : goal.returns-then-holds_other-clause-is
returns-then-holds_other-clause-is c =
    let moves = moved (goal.at.returns-then-holds_other-clause-is c).After-is_some_and in search put-taken

pub returns-clause-is : goal.returns-clause-is
returns-clause-is c =
    let moves = moved (goal.at.returns-clause-is c).After-is_some_and in
    let own = c.of_method.ensures.is c.requires in search put-there
