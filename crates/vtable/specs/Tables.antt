-- What a step leaves of a table that is built. Assumes nothing.
use Rattle.std.specs.Prelude.{List, Result, Ok, Err}
use Rattle.linking.specs.Vtable.{Entry, Built, built, refused}
use Rattle.refusal.specs.declared.Refusal.{Refusal}
use Rattle.refusal.specs.Rows.{row}

-- the table that a step leaves, or the row that refuses the method
abbrev pub step_of : Result Unit Refusal → List Entry → Built
step_of (Ok x) T = built T
step_of (Err r) T = refused (row r)
