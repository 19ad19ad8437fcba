-- The numbers that are searched are those of the class's fields. Assumes nothing.
use Rattle.std.proofs.Common.{rules, arith}
use Rattle.linking.specs.Chain.{own_fields}
use Rattle.linking.specs.Fields.{declares_field}
use Rattle.field.specs.Numbers.{declared_by}
use Rattle.field.proofs.declares_field.Goals as goal

pub returns : goal.returns
unfolding declares_field own_fields declared_by
returns c =
    rw (← c.field_count.ensures, ← c.class_first_field-first.ensures)
    (c.some_in.ensures _ _ (omega arith) (λ i r l post. search rules))
