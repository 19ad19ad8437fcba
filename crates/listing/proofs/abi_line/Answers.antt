-- By what the reading answers.
use Rattle.lines.proofs.OutLaws.{puts-none}
use Rattle.listing.proofs.ListingLaws.{abi-good, abi-bad}
use Rattle.listing.proofs.abi_line.Goals as goal

pub returns-in-Err : goal.returns-in-Err
returns-in-Err c = rw (abi-bad _ _ c.in-Err.refusal c.in-Err.ensures) (rw c.from.ensures at c.put_sheet_refused.ensures)

pub returns-in_default : goal.returns-in_default
returns-in_default c = rw (abi-good _ _ _ c.in_default.ensures) (puts-none _)
