-- Where there is room the tail is made apart and then copied over the content from the section's end on, and else nothing changes. Assumes
-- nothing.
use mathlib.Core.Path.{◌≡◌, refl}
use mathlib.Core.Bool.{true}
use Prim.Native.Nat.{◌+◌, ◌*◌}
use native.Mathlib.Omega.{arith}
use Rattle.class_sheet.specs.ClassSheet.{member_width}
use Rattle.growth.specs.News.{news_of}
use Rattle.growth.specs.Growth.{Room}
use Rattle.growth.proofs.GrowthLaws.{Grows, code-grows, list-room, members-fit, end-within, end-fits, insert_is, appended-none, appended-done}
use Rattle.growth.proofs.append.Goals as goal
use Rattle.growth.proofs.append.Goals.{After-can_grow}

pub returns-then-not-can_grow : goal.returns-then-not-can_grow
returns-then-not-can_grow c = appended-none _ _ _ _ _ _ c.can_grow.ensures c.if-not-can_grow.true

-- what the test says, and what room there is then
grown : (c : After-can_grow) → c.can_grow.result ≡ true
    → Grows c.args.set.now c.args.list.count c.args.list.first c.args.list.own
    (news_of c.args.set.now c.args.lent.text.now c.args.lent.abi.now c.args.lent.labels.now c.args.news.now)
grown c t = code-grows _ _ _ _ _ c.can_grow.ensures t

fits : (c : After-can_grow) → c.can_grow.result ≡ true
    → Room c.args.set.now c.args.list.end (c.args.list.at + member_width * c.args.list.first) c.args.list.own
    (news_of c.args.set.now c.args.lent.text.now c.args.lent.abi.now c.args.lent.labels.now c.args.news.now)
fits c t = list-room _ _ _ c.requires (grown c t)

pub overflow_add-members : goal.overflow_add-members
overflow_add-members c =
    let g = grown (goal.at.overflow_add-members c).After-can_grow c.if-not-can_grow.false in
    omega (arith, members-fit _ _ _ _ _ _ _ _ g c.len.ensures.is)

pub overflow_cast-bytes : goal.overflow_cast-bytes
overflow_cast-bytes c =
    let g = grown (goal.at.overflow_cast-bytes c).After-can_grow c.if-not-can_grow.false in omega (arith, g.bytes, c.grown_text-bytes.ensures.is)

pub overflow_add-from : goal.overflow_add-from
overflow_add-from c =
    let r = fits (goal.at.overflow_add-from c).After-can_grow c.if-not-can_grow.false in omega (arith, r.before, c.requires, end-fits r)

pub overflow_sub-n : goal.overflow_sub-n
overflow_sub-n c = end-within _ _ _ _ _ _ _ _ (fits (goal.at.overflow_sub-n c).After-can_grow c.if-not-can_grow.false) c.grown_end.ensures

pub put_tail-requires : goal.put_tail-requires
put_tail-requires c = (fits (goal.at.put_tail-requires c).After-can_grow c.if-not-can_grow.false, omega arith)

pub returns : goal.returns
returns c =
    appended-done _ _ _ _ _ _ c.can_grow.ensures c.if-not-can_grow.false c.len.ensures.is c.grown_text-bytes.ensures.is
    (insert_is _ _ _ _ _ _ _ _ (fits (goal.at.returns c).After-can_grow c.if-not-can_grow.false) _ c.grown_end.ensures refl c.put_tail.ensures (omega arith)
    c.copy.ensures)
