-- The library's fold is the definition's. Assumes nothing.
use Rattle.std.proofs.Common.{rules, ℕ, max, ◌∙◌}
use Rattle.std.proofs.lemmas.Iterator.Consumers.{fold_from_yields_List}
use Rattle.std.proofs.lemmas.Iterator.{YieldsList-from_slice}
use Rattle.words.proofs.ListLaws.{fold_is}
use Rattle.linking.specs.Abi.{class_size, minimum_size}
use Rattle.abi.proofs.largest_size.Goals as goal

pub returns : goal.returns
unfolding minimum_size
returns c =
    let step : ℕ → ℕ → ℕ = λ n a. max n (class_size c.args.abi.now a) in
    fold_from_yields_List _ step 0 c.fold.result c.fold.ensures.ran (YieldsList-from_slice c.args.abis.now cc) (λ a x b q k. search rules)
    ∙ fold_is step 0 c.args.abis.now
