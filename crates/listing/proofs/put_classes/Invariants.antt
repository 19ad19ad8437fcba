-- What puts the texts that are left, puts all of them from where it began.
use Rattle.std.proofs.Common.{map}
use Rattle.lines.specs.Out.{Puts}
use Rattle.lines.specs.declared.Out.{Out}
use Rattle.listing.specs.Listing.{link_row, class_texts}
use Rattle.listing.proofs.ListingLaws.{texts_from}
use Rattle.listing.proofs.put_classes.Given as goal

abbrev pub invariant-loop-i : goal.invariant-loop-i
invariant-loop-i l =
    (q : Out) → Puts l.out q (texts_from l.set l.abi l.area l.refusals l.i)
    → Puts l.initial.out q (class_texts l.set l.abi l.area 1 (map link_row l.refusals))
