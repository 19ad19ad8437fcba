-- The tests in the definition's order.
use Rattle.linking.specs.Link.{no_class}
use Rattle.lines.specs.Lines.{is_unlisted}
use Rattle.lines.proofs.is_unlisted.Goals as goal

pub returns : goal.returns
unfolding is_unlisted no_class
returns c = cc
