-- The library's fold over the slots' numbers is the definition's. Assumes nothing.
use Rattle.std.proofs.Common.{rules, arith, ℕ, max, ◌+◌, ◌∙◌, ap, refl}
use Rattle.std.proofs.lemmas.Iterator.Consumers.{fold_from_yields_List}
use Rattle.std.proofs.lemmas.Iterator.{YieldsList-from_range}
use Rattle.words.specs.Lists.{fold}
use Rattle.words.proofs.ListLaws.{fold_is, range_is}
use Rattle.linking.specs.Abi.{abi_slots, slot_index, class_size}
use Rattle.abi.proofs.class_size.Goals as goal

pub returns : goal.returns
unfolding class_size abi_slots
returns c =
    let step : ℕ → ℕ → ℕ = λ n s. max n (slot_index c.args.abi.now s + 1) in
    rw (← c.slot_count.ensures, ← c.class_first_slot-first.ensures, ← c.class_table_size_plus_one.ensures, ← c.min.ensures, ← c.saturating_sub-size.ensures)
    (fold_from_yields_List _ step _ c.fold.result c.fold.ensures.ran (YieldsList-from_range _ _ c.slot_count.result refl (omega arith))
    (λ a x b q k. search rules)
    ∙ fold_is step _ _ ∙ ap (fold step _) (range_is _ _))
