-- Each case has its own names, and each part is no longer than a word can say. Assumes nothing.
use native.Mathlib.Omega.{arith}
use Rattle.words.specs.Words.{AreWords}
use Rattle.class_sheet.specs.ClassSheet.{method_word}
use Rattle.abi_sheet.specs.AbiSheet.{abi_slot_word, abi_field_word}
use Rattle.growth.proofs.NewsLaws.{part_small}
use Rattle.growth.proofs.signature_of.Goals as goal

pub returns-in-Method-clause-small : goal.returns-in-Method-clause-small
unfolding method_word
returns-in-Method-clause-small c =
    let s = c.method_signature.ensures in
    let w : AreWords c.args.set.now = λ i. omega (arith, c.type_inv.set i) in (part_small _ _ _ s.name (w _), part_small _ _ _ s.descriptor (w _))

pub returns-in-Slot-clause-small : goal.returns-in-Slot-clause-small
unfolding abi_slot_word
returns-in-Slot-clause-small c =
    let s = c.slot_signature.ensures in
    let w : AreWords c.args.abi.now = λ i. omega (arith, c.type_inv.abi i) in (part_small _ _ _ s.name (w _), part_small _ _ _ s.descriptor (w _))

pub returns-in-Field-clause-small : goal.returns-in-Field-clause-small
unfolding abi_field_word
returns-in-Field-clause-small c =
    let w : AreWords c.args.abi.now = λ i. omega (arith, c.type_inv.abi i) in
    (part_small _ _ _ c.field_name.ensures (w _), part_small _ _ _ c.field_descriptor.ensures (w _))
