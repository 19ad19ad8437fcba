-- The list is put at its section's end, the new indices into it, and then the counts say so; where there is no room, nothing changes. Assumes
-- nothing.
use Rattle.growth.proofs.GrowthLaws.{appended-some, counts-fit, fields-placed, fields-none, fields-done, copied-fit}
use mathlib.Core.Path.{refl}
use native.Mathlib.Omega.{arith}
use Rattle.growth.proofs.grow_fields.Goals as goal

pub append-requires : goal.append-requires
append-requires c = search fields-placed

pub overflow_add-copied : goal.overflow_add-copied
overflow_add-copied c = omega (arith, copied-fit _ c.args.c _ (fields-placed _ _ c.fields_of-list.ensures) c.in-Some.ensures)

pub slice_bounds-put_indices-end : goal.slice_bounds-put_indices-end
slice_bounds-put_indices-end c = omega (arith, copied-fit _ c.args.c _ (fields-placed _ _ c.fields_of-list.ensures) c.in-Some.ensures)

pub offset_bounds-set-list : goal.offset_bounds-set-list
offset_bounds-set-list c = omega (arith, copied-fit _ c.args.c _ (fields-placed _ _ c.fields_of-list.ensures) c.in-Some.ensures)

pub put_field_counts-requires : goal.put_field_counts-requires
put_field_counts-requires c = counts-fit _ _ _ (appended-some _ _ _ c.in-Some.ensures)

pub returns-in-Some : goal.returns-in-Some
returns-in-Some c =
    fields-done _ _ _ _ c.fields_of-list.ensures c.in-Some.ensures refl c.put_indices.ensures c.put_field_counts.ensures

pub returns-in_default : goal.returns-in_default
returns-in_default c = fields-none _ _ _ _ c.fields_of-list.ensures c.in_default.ensures
