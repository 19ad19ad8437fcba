-- The copied records, the new ones and the sections after are written one behind the other, and the text behind them. Assumes nothing.
use Rattle.std.proofs.Common.{refl}
use Rattle.class_sheet.specs.ClassSheet.{member_width}
use Rattle.linking.specs.Set.{write_at}
use Rattle.growth.specs.News.{news_of}
use Rattle.growth.proofs.GrowthLaws.{room-is, front_of, front_length, front-is, text_room, tail-is, packed_laid}
use mathlib.Core.Path.{◌≡◌, ◌∙◌}
use lib.ListN.{length}
use Prim.Native.Nat.{◌+◌, ◌*◌, ◌-◌}
use native.Mathlib.Omega.{arith}
use Rattle.growth.proofs.put_tail.Goals as goal
use Rattle.growth.proofs.put_tail.Goals.{After-copy-2, After-text_at}

-- how long the three parts before the text are, so where the text is put
place : (c : After-text_at)
    → let a = c.args in
    member_width * a.own + member_width * c.len.result + (c.text_at.result - a.end)
    ≡ length (front_of a.sheets.set.now a.end a.from a.own (news_of a.sheets.set.now a.sheets.text.now a.sheets.abi.now a.sheets.labels.now a.news.now))
place c = search front_length

-- they are written: what the second copy leaves
written : (c : After-copy-2)
    → let a = c.args in
    c.copy-2.new.dst
    ≡ write_at a.out.now 0
    (front_of a.sheets.set.now a.end a.from a.own (news_of a.sheets.set.now a.sheets.text.now a.sheets.abi.now a.sheets.labels.now a.news.now))
written c =
    front-is _ _ _ _ _ _ _ _ c.requires.0 _ c.requires.1 refl
    refl c.len.ensures.is c.text_at.ensures.is
    c.text_length-start.ensures c.copy.ensures c.put_records.ensures c.copy-2.ensures

-- the new records fit behind the copied ones, and their names into the text
pub put_records-requires : goal.put_records-requires
put_records-requires c =
    let room = c.requires.0 in
    (omega (arith, room-is _ _ _ _ _ _ _ _ room, room.most, c.requires.1), omega (arith, room.bytes))

pub put_text-requires : goal.put_text-requires
put_text-requires c =
    omega (arith, c.requires.0.bytes)

pub overflow_add-grown-2 : goal.overflow_add-grown-2
overflow_add-grown-2 c =
    let room = c.requires.0 in
    omega (arith, room-is _ _ _ _ _ _ _ _ room, room.most, c.text_at.ensures.is)

-- the text fits behind the three parts, and makes the tail whole
pub returns : goal.returns
returns c =
    let w = written (goal.at.returns c).After-copy-2 in
    let p = place (goal.at.returns c).After-text_at in
    let room = text_room _ _ _ _ _ _ _ _ c.requires.0 _ _ c.requires.1 w p c.grown_text.ensures.is c.put_text.ensures c.part.ensures in
    tail-is _ _ _ _ _ _ _ _ c.requires.0 _ _ c.requires.1 w p
    c.grown_text.ensures.is
    c.put_text.ensures c.part.ensures (c.put_packed.ensures ∙ packed_laid _ _ _ room.0)
