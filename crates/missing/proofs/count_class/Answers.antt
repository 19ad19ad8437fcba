-- The 33 words are packed by the list as it is lent, and then copied to the class's place in it. Assumes nothing.
use Rattle.missing.proofs.ListLaws.{class_put}
use Rattle.missing.proofs.count_class.Goals as goal

pub returns : goal.returns
returns c = class_put _ _ _ _ c.pack.ensures c.place_of.ensures.is c.copy.ensures
