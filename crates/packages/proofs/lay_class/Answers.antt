-- The marks of a linked class's table are stored over the first, and those of any other class's stay. Assumes nothing.
use Rattle.std.proofs.Common.{rules, arith}
use Rattle.packages.proofs.TopLaws.{laid-unlinked, laid-linked}
use Rattle.packages.proofs.lay_class.Goals as goal

pub returns-then-class_table_place-eq0 : goal.returns-then-class_table_place-eq0
returns-then-class_table_place-eq0 c =
    laid-unlinked _ _ _ _ _ _ _ c.args.tops.now c.class_table_place.ensures c.if-class_table_place-eq0.true

pub returns : goal.returns
returns c =
    let read = c.table_entries.new.table in
    laid-linked _ _ _ _ _ _ _ read.words read.marks c.args.tops.now read.len c.class_table_place.ensures
    c.if-class_table_place-eq0.false c.table_entries.ensures.is (omega arith) (search rules) (c.store_each.ensures _ (λ i r l post. search rules))
