-- The list is put at its section's end, and then the counts say so; where there is no room, nothing changes. Assumes nothing.
use Rattle.growth.proofs.GrowthLaws.{appended-some, counts-fit, methods-placed, methods-none, methods-done}
use Rattle.growth.proofs.grow_methods.Goals as goal

pub append-requires : goal.append-requires
append-requires c = search methods-placed

pub put_method_counts-requires : goal.put_method_counts-requires
put_method_counts-requires c = counts-fit _ _ _ (appended-some _ _ _ c.in-Some.ensures)

pub returns-in-Some : goal.returns-in-Some
returns-in-Some c = methods-done _ _ _ c.methods_of-list.ensures c.in-Some.ensures c.put_method_counts.ensures

pub returns-in_default : goal.returns-in_default
returns-in_default c = methods-none _ _ _ c.methods_of-list.ensures c.in_default.ensures
