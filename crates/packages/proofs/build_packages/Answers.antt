-- No table above the limit; else the parent's entries, the introducing methods, and the class's own methods over them. Assumes nothing.
use Rattle.std.proofs.Common.{arith}
use Rattle.packages.proofs.TakeLaws.{no_table, packages_are}
use Rattle.packages.proofs.build_packages.Goals as goal

pub returns-then-c-gt-CLASS_LIMIT-clause-is : goal.returns-then-c-gt-CLASS_LIMIT-clause-is
returns-then-c-gt-CLASS_LIMIT-clause-is c = no_table _ _ _ _ _ _ _ (omega arith) c.clear.ensures.is

pub returns-clause-is : goal.returns-clause-is
returns-clause-is c =
    packages_are _ _ _ _ _ _ _ _ _ _ _ _ c.parent_entries.ensures.is (omega arith) c.parent_of.ensures
    c.introducing_marks.ensures c.take_all.ensures.is (omega arith)
