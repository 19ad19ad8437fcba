-- The compiler table's slots, and then all that is appended. Assumes nothing.
use Rattle.std.proofs.Common.{◌∙◌}
use Rattle.compiler.proofs.Members.compiler_table.Goals as goal

pub returns : goal.returns
returns c = c.append_parent.ensures ∙ rw (c.append_methods.ensures.is, c.compiler_entries.ensures.is)
