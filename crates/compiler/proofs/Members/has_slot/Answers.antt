-- The library's test of the slots is the definition's of their entries. Assumes nothing.
use Rattle.std.proofs.Common.{rules, ◌∙◌, sym}
use Rattle.std.proofs.lemmas.Iterator.Consumers.{YieldsList-from_first}
use Rattle.std.proofs.lemmas.Iterator.Search.{any_from_yields_List}
use Rattle.reading.specs.Tables.{entry, entries, entries_left}
use Rattle.reading.proofs.SlotLaws.{some_any}
use Rattle.compiler.specs.Methods.{of_added, has_number}
use Rattle.compiler.proofs.MethodLaws.{has_is}
use Rattle.compiler.proofs.Members.has_slot.Goals as goal

pub returns : goal.returns
returns c =
    let a = c.args in
    let n = c.number_of-number in
    let has = of_added (has_number a.self.sheets.numbers.now) a.self n.result in
    has_is _ _ _ _ n.ensures
    (any_from_yields_List has c.any.new.self _ _ c.any.ensures.ran (YieldsList-from_first entry entries_left (entries a.table.now) c.slots.ensures)
    (λ x b q k. search rules) ∙ sym (some_any has (entries a.table.now)))
