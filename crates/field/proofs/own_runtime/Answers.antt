-- The library's fold over the fields' numbers is the definition's. Assumes nothing.
use Rattle.std.proofs.Common.{rules, arith, max, ◌∙◌, ap, refl, ℕ}
use Rattle.std.proofs.lemmas.Iterator.Consumers.{fold_from_yields_List}
use Rattle.std.proofs.lemmas.Iterator.{YieldsList-from_range}
use Rattle.words.specs.Lists.{fold}
use Rattle.words.proofs.ListLaws.{fold_is, range_is}
use Rattle.linking.specs.Chain.{own_fields}
use Rattle.linking.specs.Fields.{runtime_end, own_runtime}
use Rattle.field.proofs.own_runtime.Goals as goal

pub returns : goal.returns
unfolding own_runtime own_fields
returns c =
    let step = λ (k f : ℕ). max k (runtime_end c.args.ws.now c.args.text.now f) in
    rw (← c.field_count.ensures, ← c.class_first_field-first.ensures)
    (fold_from_yields_List _ step _ c.fold.result c.fold.ensures.ran (YieldsList-from_range _ _ c.field_count.result refl (omega arith))
    (λ a x b q k. search rules)
    ∙ fold_is step _ _ ∙ ap (fold step _) (range_is _ _))
