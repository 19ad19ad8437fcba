-- The record is copied to the front of the part, and then its parent's word is stored. Assumes nothing.
use Rattle.renumber.proofs.Writing.{record_put}
use Rattle.renumber.proofs.Ordered.put_record.Goals as goal

pub returns : goal.returns
returns c =
    record_put _ _ _ c.requires.0 c.args.self.complete.fits _ c.requires.1 c.saturating_sub.ensures c.copy.ensures
    c.class_parent-p.ensures c.new_number.ensures c.put.ensures
