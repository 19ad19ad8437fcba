-- The numbers that are searched are those of the class's fields. Assumes nothing.
use Rattle.std.proofs.Common.{rules, arith}
use Rattle.linking.specs.Abi.{fixed_field, abi_fields}
use Rattle.abi.proofs.fixed_field.Goals as goal

pub returns : goal.returns
unfolding fixed_field abi_fields
returns c =
    rw (← c.field_count.ensures, ← c.class_first_field-first.ensures)
    (c.find_in.ensures _ _ (omega arith) (λ i r l post. search rules))
