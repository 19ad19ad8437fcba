-- The three tests are those of the rows. Assumes nothing.
use Rattle.link.proofs.FinishLaws.{room-full, room-short, room-left}
use Rattle.link.proofs.Growing.room_row.Goals as goal

pub returns-then-lists_full : goal.returns-then-lists_full
returns-then-lists_full c = search room-full

pub returns-then-no_room-short : goal.returns-then-no_room-short
returns-then-no_room-short c =
    room-short _ _ _ _ _ _ _ c.lists_full.ensures c.if-lists_full.false c.set_short-short.ensures c.no_room.ensures c.is_short.ensures
    c.if-no_room-short.true

pub returns : goal.returns
returns c =
    room-left _ _ _ _ _ _ _ c.lists_full.ensures c.if-lists_full.false c.set_short-short.ensures c.no_room.ensures c.is_short.ensures
    c.if-no_room-short.false
