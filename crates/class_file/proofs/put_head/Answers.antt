-- The two names end where the fields' strings begin. Assumes nothing.
use Rattle.std.proofs.Common.{◌≡◌, ◌+◌, ◌≤◌, ◌∙◌, length, arith}
use Rattle.class_members.specs.Members.{fields_start}
use Rattle.growth.proofs.GrowthLaws.{strings_next}
use Rattle.class_file.proofs.ReadLaws.{fields_start_is}
use Rattle.class_file.proofs.put_head.Goals as goal

pub returns-clause-end : goal.returns-clause-end
returns-clause-end c =
    let e : fields_start c.args.file.pool.bytes.now ≡ length c.name.result.now + length c.parent.result.now =
    rw (c.name.ensures.is, c.parent.ensures.is) (fields_start_is c.args.file.pool.bytes.now) in
    let r : fields_start c.args.file.pool.bytes.now ≤ length c.args.text.now = c.requires.0 in
    let h : 0 + (length c.name.result.now + length c.parent.result.now) ≤ length c.args.text.now = omega arith in
    let z : 0 + (length c.name.result.now + length c.parent.result.now) ≡ length c.name.result.now + length c.parent.result.now = omega arith in
    c.put_strings.ensures.end ∙ rw (e, strings_next _ _ _ 0 h) z
