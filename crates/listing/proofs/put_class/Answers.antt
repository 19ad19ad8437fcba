-- The lines, or the refusal's line.
use Rattle.listing.specs.Listing.{class_text}
use Rattle.listing.proofs.ListingLaws.{class-refused}
use Rattle.listing.proofs.NumberLaws.{lines-bytes}
use Rattle.listing.proofs.put_class.Goals as goal

pub returns-in-None : goal.returns-in-None
unfolding class_text
returns-in-None c = rw (c.in-None.is, ← lines-bytes _ _ _ c.requires) c.list_class.ensures

pub returns-in-Some : goal.returns-in-Some
returns-in-Some c = rw (c.in-Some.is, class-refused _ _ _ _ c.in-Some.refusal) (rw c.from.ensures at c.put_class_refused.ensures)
