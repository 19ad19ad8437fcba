-- The lists hold what no row refuses. Assumes nothing.
use mathlib.Core.Path.{sym, ◌∙◌}
use Rattle.class_file.proofs.ReadLaws.{read_fits}
use Rattle.class_file.proofs.read_class_file.Goals as goal

pub write_lists-requires : goal.write_lists-requires
write_lists-requires c =
    read_fits _ _ _ _ _ _ c.marked-file.result.parted (sym c.file_head.ensures ∙ c.in_ok-head.was) (sym c.lists_hold.ensures ∙ c.if-not-lists_hold.false)
