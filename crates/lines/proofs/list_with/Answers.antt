-- The class's line, and then those of its slots.
use Rattle.lines.specs.Lines.{lines_of}
use Rattle.lines.proofs.OutLaws.{then}
use Rattle.lines.proofs.list_with.Goals as goal

pub returns : goal.returns
unfolding lines_of
returns c =
    rw (← c.class_name-name.ensures, ← c.class_instance_words-words.ensures, ← c.class_slot_count-slots.ensures)
    (then c.put_class_line.ensures c.list_slots.ensures)
