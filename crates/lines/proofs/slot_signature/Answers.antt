-- By the slot's method, and else by the fixed slot.
use Rattle.std.proofs.Common.{refl}
use Rattle.lines.specs.Lines.{slot_name, slot_descriptor}
use Rattle.lines.proofs.slot_signature.Goals as goal

pub returns-in-Some : goal.returns-in-Some
unfolding slot_name slot_descriptor
returns-in-Some c =
    let e = c.method_signature.ensures in
    record { name = rw (← c.method.ensures, c.in-Some.is) e.name; descriptor = rw (← c.method.ensures, c.in-Some.is) e.descriptor }

pub returns-in-Some-fixed_slot : goal.returns-in-Some-fixed_slot
unfolding slot_name slot_descriptor
returns-in-Some-fixed_slot c =
    let e = c.slot_signature.ensures in
    record {
      name = rw (← c.method.ensures, c.in-None.is, ← c.fixed_slot.ensures, c.in-Some-fixed_slot.is) e.name;
      descriptor = rw (← c.method.ensures, c.in-None.is, ← c.fixed_slot.ensures, c.in-Some-fixed_slot.is) e.descriptor;
    }

pub returns-in-None-fixed_slot : goal.returns-in-None-fixed_slot
unfolding slot_name slot_descriptor
returns-in-None-fixed_slot c = record {
  name = rw (← c.method.ensures, c.in-None.is, ← c.fixed_slot.ensures, c.in-None-fixed_slot.is) refl;
  descriptor = rw (← c.method.ensures, c.in-None.is, ← c.fixed_slot.ensures, c.in-None-fixed_slot.is) refl;
}
