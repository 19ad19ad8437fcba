-- What follows the constant's tag and its length. Assumes nothing.
use Rattle.text.specs.Text.{name_at}
use Rattle.class_file.proofs.Laws.{after_three}
use Rattle.class_file.proofs.string_at.Goals as goal

pub returns-in-Ok-clause-is : goal.returns-in-Ok-clause-is
unfolding name_at
returns-in-Ok-clause-is c =
    rw (c.part.ensures, c.part-constant.ensures, after_three, c.in-Ok.is, c.u2_after-n.ensures.is)
