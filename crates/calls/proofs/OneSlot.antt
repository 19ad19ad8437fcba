-- ONE FIXED SLOT: the statement's parts, each from where it is proved. Assumes nothing.
use Rattle.class_sheet.specs.ClassSheet.{text_of}
use Rattle.abi_sheet.specs.AbiSheet.{abi_text_of}
use Rattle.linking.proofs.Before.{link_as_before}
use Rattle.slots.proofs.ClashFacts.{orderly_no_clash}
use Rattle.calls.specs.OneSlot.{OneFixedSlot}
use Rattle.calls.proofs.MovedLinks.{none_lost, eleven-is-moved, twelve-is-old, redeclared-refused, descendant-refused}
use Rattle.calls.proofs.ElsewhereByNumbers.{run_as_before, elsewhere}

pub one-fixed-slot : OneFixedSlot
one-fixed-slot = record {
  nothing_lost = none_lost;
  link_as_before = link_as_before;
  run_as_before = run_as_before;
  elsewhere = elsewhere;
  orderly = λ ws abi c within o E. orderly_no_clash ws (text_of ws) abi (abi_text_of abi) c within o E;
  eleven = eleven-is-moved;
  twelve = twelve-is-old;
  redeclared = redeclared-refused;
  descendant = descendant-refused;
}
