-- An entry's turn gives its index to its method, if it takes it. Assumes nothing.
use Rattle.std.proofs.Common.{◌∙◌, sym, ap}
use Rattle.std.specs.Option.{option_and_then}
use Rattle.linking.specs.Vtable.{Entry}
use Rattle.reading.proofs.ArrayLaws.{length-entries}
use Rattle.vtable.specs.Relay.{fixed_in}
use Rattle.vtable.proofs.RelayLaws.{holding_start, holding_turn, holding_end}
use Rattle.vtable.proofs.hold_entries.Goals as goal

pub loop-i-init : goal.loop-i-init
loop-i-init c = holding_start _ _ _ _ c.requires.none

pub hold_entry-requires : goal.hold_entry-requires
hold_entry-requires c =
    c.requires.indices.each _ (rw (length-entries _ _ _) c.loop-i-test.true)
    ∙ ap (λ (x : Entry). option_and_then (fixed_in c.args.sheets c.args.abis.now) x.method) (sym c.slot.ensures)

pub loop-i-preserved : goal.loop-i-preserved
loop-i-preserved c =
    holding_turn _ _ _ _ _ _ (rw (length-entries _ _ _) c.loop-i-test.true) c.slot.ensures c.hold_entry.ensures c.loop-i.invariant

pub returns : goal.returns
returns c = holding_end _ _ _ _ _ (rw (length-entries _ _ _) c.loop-i-test.false) c.loop-i.invariant
