-- A refusal of an item is the whole's; an item that ends is one less. Assumes nothing.
use Rattle.std.proofs.Common.{arith}
use Rattle.std.proofs.lemmas.Grind.{common_steps}
use Rattle.class_form.specs.Form.{after_counted}
use Rattle.class_form.proofs.Laws.{each_turn}
use Rattle.class_form.proofs.after_counted.Goals as goal

pub returns-in_err-at-2 : goal.returns-in_err-at-2
unfolding after_counted
returns-in_err-at-2 g c = λ item post.
    grind (arith, common_steps, each_turn, c.loop.invariant item post, post c.loop.at c.after_item.result c.after_item.ensures)

pub loop-preserved : goal.loop-preserved
loop-preserved g c = λ item post.
    grind (arith, common_steps, each_turn, c.loop.invariant item post, post c.loop.at c.after_item.result c.after_item.ensures)
