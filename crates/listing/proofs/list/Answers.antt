-- By what the reading of the ABI sheet answers.
use Rattle.std.proofs.Common.{arith}
use Rattle.listing.proofs.ListingLaws.{listing-good, listing-bad}
use Rattle.listing.proofs.Longest.{abi-good, abi-few}
use Rattle.listing.proofs.list.Goals as goal

pub list_classes-requires : goal.list_classes-requires
list_classes-requires c = abi-good _ _ _ _ c.in-Ok.ensures

pub returns-in-Ok : goal.returns-in-Ok
returns-in-Ok c =
    let e = listing-good _ _ _ c.in-Ok.ensures c.args.classes.now in
    let h = c.list_classes.ensures.longest in
    record { lines = rw e c.list_classes.ensures.lines; longest = rw e (omega arith) }

pub returns-in-Err : goal.returns-in-Err
returns-in-Err c =
    let e = listing-bad _ _ c.in-Err.refusal c.in-Err.ensures c.args.classes.now in
    let h = abi-few c.in-Err.refusal in
    record { lines = rw e (rw c.from.ensures at c.put_sheet_refused.ensures); longest = rw e (omega arith) }
