-- Row 8 by the two counts, then absolute and relative indices in this order, else row 9. Assumes nothing.
use Rattle.std.proofs.Common.{◌-◌, arith}
use Rattle.field.proofs.MovedLaws.{stand_movable, row_8, all_absolute, all-relative, row_9}
use Rattle.field.proofs.generated_fields.Goals as goal

pub returns-then-total-own : goal.returns-then-total-own
returns-then-total-own c = search row_8

pub put_moved-requires : goal.put_moved-requires
put_moved-requires c =
    stand_movable _ _ _ (c.instance_words-total.result - c.own_words-own.result) 0 c.stand_from.ensures c.if-stand_from.true (omega arith) (omega arith)

pub returns-then-stand_from : goal.returns-then-stand_from
returns-then-stand_from c = search all_absolute

pub put_moved-requires-then-stand_from-2 : goal.put_moved-requires-then-stand_from-2
put_moved-requires-then-stand_from-2 c =
    stand_movable _ _ _ 0 (c.instance_words-total.result - c.own_words-own.result) c.stand_from-2.ensures c.if-stand_from-2.true (omega arith) (omega arith)

pub returns-then-stand_from-2 : goal.returns-then-stand_from-2
returns-then-stand_from-2 c = search all-relative

pub returns : goal.returns
returns c = search row_9
