-- The slots from the first on are asked in order. Assumes nothing.
use Rattle.std.proofs.Common.{◌∙◌, refl, rules, arith, ◌-◌}
use Rattle.std.specs.Prelude.{get_or}
use Rattle.linking.specs.Signature.{methods_same, by_numbers}
use Rattle.linking.specs.Vtable.{empty, is_of}
use Rattle.reading.specs.Tables.{entries}
use Rattle.reading.proofs.ArrayLaws.{length-entries}
use Rattle.vtable.proofs.RelayLaws.{entry_number, occurs-rest}
use Rattle.vtable.proofs.occurs.Goals as goal

pub returns : goal.returns
returns c =
    let a = c.args in
    c.some_in.ensures (λ i. is_of (methods_same (by_numbers a.numbers.now)) a.m (get_or (entries a.parent.now) i empty))
    (a.parent.now.len - a.first) (omega arith)
    (λ i r l post. search (rules, entry_number))
    ∙ occurs-rest (methods_same (by_numbers a.numbers.now)) a.m (entries a.parent.now) a.first _ (rw (length-entries _ _ _) refl)
