-- The library's fold over the fields' numbers is the definition's: so few words do not wrap. Assumes nothing.
use Rattle.std.proofs.Common.{rules, arith, ◌%◌, ◌^◌, ◌∙◌, ap, refl, ℕ}
use Rattle.std.proofs.lemmas.Iterator.Consumers.{fold_from_yields_List}
use Rattle.std.proofs.lemmas.Iterator.{YieldsList-from_range}
use Rattle.words.specs.Lists.{fold}
use Rattle.words.proofs.ListLaws.{length-list-from, fold_is, range_is}
use Rattle.field.proofs.MovedLaws.{fold-wraps}
use Rattle.field.specs.Numbers.{add_words}
use Rattle.linking.specs.Chain.{own_fields}
use Rattle.field.proofs.own_words.Goals as goal

pub returns : goal.returns
unfolding own_fields
returns c =
    let step = λ (k f : ℕ). add_words c.args.ws.now c.args.text.now c.args.statics k f % 2 ^ 32 in
    rw (← c.field_count.ensures, ← c.class_first_field-first.ensures)
    (fold_from_yields_List _ step _ c.fold.result c.fold.ensures.ran (YieldsList-from_range _ _ c.field_count.result refl (omega arith))
    (λ a x b q k. search rules)
    ∙ fold_is step _ _ ∙ ap (fold step _) (range_is _ _)
    ∙ fold-wraps _ _ _ 0 _ (omega (arith, length-list-from (λ (j : ℕ). j) c.class_first_field-first.result c.field_count.result)))
