-- Each row refuses where those before it do not: 3 to 5, then 17, then 18. Assumes nothing.
use Rattle.std.proofs.Common.{sym, ◌∙◌, arith}
use Rattle.writer.proofs.Laws.{link-passed, counted, write-accepts}
use Rattle.writer.proofs.write_refusal.Goals as goal

-- none
pub returns : goal.returns
returns c =
    let p = link-passed _ (sym c.in_ok-link_rows.ensures) in
    let n = counted _ p.0 c.content_end.ensures.is c.blocks_for-n.ensures in
    let s = sym c.is_storable.ensures ∙ c.if-not-is_storable.false in
    sym (write-accepts _ _ record { fits = p.0; rows = p.1; store = s; space = omega arith })
