-- The library's fold is the definition's. Assumes nothing.
use Rattle.std.proofs.Common.{rules, ◌∙◌}
use Rattle.std.proofs.lemmas.Iterator.Consumers.{fold_from_yields_List}
use Rattle.std.proofs.lemmas.Iterator.{YieldsList-from_slice}
use Rattle.words.proofs.ListLaws.{fold_is}
use Rattle.apart.specs.Seen.{key_step, name_key}
use Rattle.apart.proofs.name_key.Goals as goal

pub returns : goal.returns
unfolding name_key
returns c =
    fold_from_yields_List _ key_step 0 c.fold.result c.fold.ensures.ran (YieldsList-from_slice c.args.name.now cc) (λ a x b q k. search rules)
    ∙ fold_is key_step 0 c.args.name.now
