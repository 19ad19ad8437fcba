-- The rows of the classes before, and what the links left come to, are what all links come to; and the list of numbers still tells signatures apart.
use Rattle.std.proofs.Common.{◌≡◌, map, length}
use Rattle.listing.specs.Listing.{link_row, link_all}
use Rattle.listing.specs.Small.{Matched}
use Rattle.listing.proofs.ListingLaws.{links_from}
use Rattle.listing.proofs.link_classes.Given as goal

abbrev pub invariant-loop-i : goal.invariant-loop-i
invariant-loop-i l = record {
  linked : links_from l.abi l.stubs (length l.initial.refusals) l.i (map link_row l.refusals) l.memory.set l.memory.area l.memory.missing
      ≡ link_all l.abi l.stubs (length l.initial.refusals) 1 l.initial.memory.set l.initial.memory.area l.initial.memory.missing;
  matched : Matched l.memory.set l.abi l.memory.numbers;
}
