-- The texts handed on are the sheets'. Assumes nothing.
use Rattle.std.proofs.Common.{◌∙◌}
use Rattle.ask.proofs.dispatch_unpacked.Goals as goal

pub returns : goal.returns
returns c =
    let s = c.unpack-sheets.ensures in
    c.dispatch_table.ensures ∙ rw (s.words.0, s.words.1, s.numbers, s.text c.requires.0, s.labels c.requires.1)
