-- A refused set is answered before any byte is written; of an accepted one the blocks of its content are packed, for which there is room. Assumes
-- nothing.
use Rattle.writer.proofs.Laws.{write-done}
use Rattle.writer.proofs.write_class_sheet.Goals as goal

-- written
pub returns : goal.returns
returns c =
    write-done _ _ c.in_ok-write_refusal.ensures c.content_end-end.ensures.is c.blocks_for-n.ensures c.part.ensures c.pack.ensures
