-- The fold is that of all bytes, and so is the definition. Assumes nothing.
use Rattle.std.proofs.Common.{rules, true, ◌∙◌}
use Rattle.std.proofs.lemmas.Iterator.Consumers.{fold_from_yields_List}
use Rattle.std.proofs.lemmas.Iterator.{YieldsList-from_slice}
use Rattle.text.proofs.Laws.{print_step, print_fold}
use Rattle.text.proofs.is_printable.Goals as goal

pub returns : goal.returns
returns c =
    fold_from_yields_List _ print_step true c.fold.result c.fold.ensures.ran (YieldsList-from_slice c.args.s.now cc) (λ a x b q k. search rules)
    ∙ print_fold true c.args.s.now
