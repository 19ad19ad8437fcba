-- The class's line, its flags, the methods and then the fields, each read at the place of its part. Assumes nothing.
use Rattle.lines.proofs.OutLaws.{then}
use Rattle.member_text.specs.MemberText.{class_lines}
use Rattle.member_text.proofs.TextLaws.{methods_here, fields_here}
use Rattle.member_text.proofs.put_file.Goals as goal

pub returns : goal.returns
unfolding class_lines
returns c =
    let bs = c.args.file.pool.bytes.now in
    let at = c.args.file.places in
    let parted = c.args.file.parted in
    rw (← (methods_here bs at parted c.args.first c.args.step), ← (fields_here bs at parted))
    (rw (← c.name.ensures.is, ← c.parent.ensures.is, ← c.flags.ensures)
    (then c.put_class.ensures (then c.put_flags.ensures (then c.put_members.ensures c.put_members-2.ensures))))
