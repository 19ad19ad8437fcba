-- The slots are searched in order. Assumes nothing.
use Rattle.std.proofs.Common.{◌∙◌, rules, arith}
use Rattle.std.specs.Prelude.{get_or}
use Rattle.linking.specs.Signature.{of_method, by_numbers}
use Rattle.linking.specs.Vtable.{empty, entry_is}
use Rattle.reading.specs.Tables.{entries}
use Rattle.vtable.proofs.RelayLaws.{slot_number}
use Rattle.vtable.proofs.SlotLaws.{slot_found}
use Rattle.vtable.proofs.find_slot.Goals as goal

pub returns : goal.returns
returns c =
    let a = c.args in
    c.find_in.ensures (λ i. entry_is (by_numbers a.numbers.now) (of_method a.m) (get_or (entries a.table.now) i empty)) _ (omega arith)
    (λ i r l post. search (rules, slot_number))
    ∙ slot_found _ _ _ _ _
