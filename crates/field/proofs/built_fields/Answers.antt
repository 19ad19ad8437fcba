-- The indices, and the running word raised by the added fields, give the instance words, and row 10 asks for these and the runtime words.
-- Assumes nothing.
use Rattle.field.proofs.NumberLaws.{class_row_10, class_built}
use Rattle.field.proofs.built_fields.Goals as goal

pub returns-then-fields-k-clause-is : goal.returns-then-fields-k-clause-is
returns-then-fields-k-clause-is c = search class_row_10

pub returns-clause-is : goal.returns-clause-is
returns-clause-is c = search class_built
