-- The bytes are the first of the lent ones, and the library's test of those after them is the definition's. Assumes nothing.
use mathlib.Core.Path.{sym, ap, ◌∙◌}
use mathlib.Core.Bool.{◌&&◌}
use Prim.Native.Nat.{ℕ, ◌-◌}
use native.Mathlib.Omega.{arith}
use lib.ListN.{length, drop, length-drop}
use lib.Seq.{take_all}
use lib.Dec.{eqb}
use Rattle.std.specs.List.{list_all}
use Rattle.std.proofs.Common.{rules}
use Rattle.std.proofs.lemmas.Iterator.Search.{all_from_yields_List}
use Rattle.std.proofs.lemmas.Iterator.{YieldsList-from_slice}
use Rattle.files.proofs.holds_only.Goals as goal

pub returns-then-starts_with : goal.returns-then-starts_with
returns-then-starts_with c =
    let lent = c.args.lent.now in
    let n = length c.args.bytes.now in
    let rest = drop n lent in
    let is_seven = λ (b : ℕ). eqb b 7 in
    let after = c.iter.ensures.rest ∙ take_all (length lent - n) rest (omega (arith, length-drop n lent)) in
    all_from_yields_List is_seven _ _ c.all.result c.all.ensures.ran (YieldsList-from_slice rest after) (λ x b q k. search rules)
    ∙ ap (λ b. b && list_all is_seven rest) (sym c.if-starts_with.true ∙ c.starts_with.ensures.value)
