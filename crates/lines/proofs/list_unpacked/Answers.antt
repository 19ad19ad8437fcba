-- The texts handed on are the sheets'. Assumes nothing.
use Rattle.lines.proofs.list_unpacked.Goals as goal

pub returns : goal.returns
returns c =
    let s = c.unpack-sheets.ensures in
    rw (← s.text c.requires.0, ← s.labels c.requires.1, ← s.words.0, ← s.words.1, ← s.numbers) c.list_with.ensures
