-- By cases: an empty slot, or the slot as it is. Assumes nothing.
use Rattle.native_view.proofs.view_slot.Goals as goal

pub returns-then-is_emptied : goal.returns-then-is_emptied
returns-then-is_emptied c = rw (← c.is_emptied.ensures, c.if-is_emptied.true) c.empty.ensures

pub returns : goal.returns
returns c = rw (← c.is_emptied.ensures, c.if-is_emptied.false)
