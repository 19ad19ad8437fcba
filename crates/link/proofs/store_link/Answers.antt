-- A built class with new fields grows them; every other one its methods, if there are new ones. Assumes nothing.
use mathlib.Core.Path.{◌∙◌}
use borrow.Author.Tests.{not-true}
use Rattle.words.proofs.Bools.{and_both}
use Rattle.growth.proofs.NewsLaws.{members-added}
use Rattle.link.proofs.StoreLaws.{news-is, stored-fields, stored-methods}
use Rattle.link.proofs.store_link.Goals as goal

pub returns-then-is_built-len : goal.returns-then-is_built-len
returns-then-is_built-len c =
    let t = and_both _ _ c.if-is_built-len.true in
    stored-fields _ _ _ _ _ _ _ _ (members-added _ _ _ _ _) c.is_built.ensures t.0
    (news-is _ _ _ _ _ c.len.ensures.is ∙ not-true _ t.1) c.grow_fields.ensures c.record_link.ensures

pub returns : goal.returns
returns c = search (members-added, news-is, stored-methods)
