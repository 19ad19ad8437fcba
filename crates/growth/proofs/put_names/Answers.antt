-- Each member's text is written where the one before it ends, and all of it has room. Assumes nothing.
use Rattle.growth.proofs.NewsLaws.{names-none, names-turn, names-done, next-none, parts-turn, parts_within}
use Rattle.growth.proofs.GrowthLaws.{strings_put, strings_next}
use mathlib.Core.Path.{refl, ◌∙◌}
use lib.ListN.{length}
use Prim.Native.Nat.{◌+◌, ◌≤◌}
use native.Mathlib.Omega.{arith}
use Rattle.growth.proofs.put_names.Goals as goal
use Rattle.growth.proofs.put_names.Goals.{After-put_strings-next}

pub loop-new-init : goal.loop-new-init
loop-new-init c = record { next = search next-none; bytes = search names-none }

-- its strings have room
room : (c : After-put_strings-next)
    → c.loop-new.next + (length c.ref_signature-own.result.name.now + length c.ref_signature-own.result.descriptor.now) ≤ length c.loop-new.bytes
room c =
    let s = c.ref_signature-own.ensures in
    let w = parts_within _ _ _ _ _ _ _ _ c.as_slice-new-items.ensures.is c.loop-new-test.true refl s.name s.descriptor _ c.loop-new.invariant.next c.requires in
    omega arith

-- one more member's text is written
pub loop-new-preserved : goal.loop-new-preserved
loop-new-preserved c =
    let all = c.as_slice-new-items.ensures.is in
    let s = c.ref_signature-own.ensures in
    let turn = c.loop-new.invariant in
    let r = room (goal.at.loop-new-preserved c).After-put_strings-next in record {
      next = c.put_strings-next.ensures.end ∙ strings_next _ _ _ _ r ∙ parts-turn _ _ _ _ _ _ _ _ all c.loop-new-test.true refl s.name s.descriptor _ turn.next;
      bytes = names-turn _ _ _ _ _ _ _ _ all c.loop-new-test.true refl s.name s.descriptor _ turn.next _ _ c.requires turn.bytes
          (c.put_strings-next.ensures.is ∙ strings_put _ _ _ _ r);
    }

pub returns : goal.returns
returns c = names-done _ _ _ _ _ _ _ _ c.as_slice-new-items.ensures.is c.loop-new-test.false c.loop-new.invariant.bytes
