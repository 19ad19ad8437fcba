-- Each of the first n places is stored once, with its slot's word. Assumes nothing.
use lib.ListN.{get_or}
use borrow.Author.Rules.{rules}
use Rattle.linking.specs.Vtable.{slot_word}
use Rattle.area.proofs.AreaLaws.{slots-stored}
use Rattle.area.proofs.put_slots.Goals as goal

pub returns : goal.returns
returns c =
    let stubs = c.args.stubs.now in
    slots-stored _ c.args.ts.now stubs c.args.n c.requires
    (c.store_each.ensures (λ i. slot_word (get_or c.args.ts.now i 0) (get_or stubs i 0)) (λ i r l post. search rules))
