-- Each line goes before those that are left, and after the last none are. Assumes nothing.
use Rattle.std.proofs.Common.{refl, rules}
use Rattle.lines.proofs.OutLaws.{then, puts-none}
use Rattle.member_text.proofs.TextLaws.{target_first, target_next, lines_all, lines_turn, lines_end}
use Rattle.member_text.proofs.put_members.Goals as goal

pub loop-i-init : goal.loop-i-init
loop-i-init c = record { target = target_first _ _ (search rules); rest = λ q e. e }

pub loop-i-preserved : goal.loop-i-preserved
loop-i-preserved c =
    let i = c.loop-i.invariant in
    let m = c.member_at-m.ensures in
    record {
      target = target_next _ _ _ _ i.target refl;
      rest =
          λ q e.
          i.rest q
          (rw (lines_turn _ _ _ _ _ c.loop-i.i _ c.loop-i-test.true, ← m.name, ← m.descriptor, ← m.flags, ← m.next, ← i.target)
          (then c.put_member.ensures e));
    }

pub returns : goal.returns
returns c =
    rw (lines_all, ← c.u2-i-end.ensures.is)
    (c.loop-i.invariant.rest _ (rw (lines_end _ _ _ _ _ c.loop-i.i _ c.loop-i-test.false) (puts-none _)))
