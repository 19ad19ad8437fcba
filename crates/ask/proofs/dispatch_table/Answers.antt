-- The class's slots for those that were read. Assumes nothing.
use Rattle.std.proofs.Common.{ap, ◌∙◌}
use Rattle.linking.specs.Signature.{by_numbers}
use Rattle.linking.specs.Ask.{dispatch_entries}
use Rattle.ask.proofs.dispatch_table.Goals as goal

pub returns : goal.returns
returns c =
    let s = c.args.sheets in c.dispatch_slots.ensures ∙ ap (dispatch_entries (by_numbers s.numbers.now) s.set.now c.args.c) c.table_entries.ensures.is
