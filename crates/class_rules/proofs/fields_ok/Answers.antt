-- The field records are member records of their section, which the code reads from its beginning on. Assumes nothing.
use Rattle.class_rules.proofs.Laws.{fields_are}
use Rattle.class_rules.proofs.fields_ok.Goals as goal

pub returns : goal.returns
returns c = search fields_are
