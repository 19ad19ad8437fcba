-- A sheet that is read goes with the ABI words, as `list_set` asks.
use Rattle.listing.proofs.ListingLaws.{classes-good, classes-bad}
use Rattle.listing.proofs.Longest.{read-good, classes-few}
use Rattle.listing.proofs.list_classes.Goals as goal

pub list_set-requires : goal.list_set-requires
list_set-requires c = read-good _ _ _ _ _ c.requires c.in-Ok.ensures

pub returns-in-Ok : goal.returns-in-Ok
returns-in-Ok c =
    let e = classes-good c.args.abi.now _ _ _ c.in-Ok.ensures in record { lines = rw e c.list_set.ensures.lines; longest = rw e c.list_set.ensures.longest }

pub returns-in-Err : goal.returns-in-Err
returns-in-Err c =
    let e = classes-bad c.args.abi.now _ _ c.in-Err.refusal c.in-Err.ensures in
    record { lines = rw e (rw c.from.ensures at c.put_sheet_refused.ensures); longest = rw e (classes-few c.in-Err.refusal) }
