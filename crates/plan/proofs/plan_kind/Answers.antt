-- By the class's kind, the plan of its own function. Assumes nothing.
use Rattle.plan.proofs.KindLaws.{kind_built, kind_generated, kind_array}
use Rattle.plan.proofs.plan_kind.Goals as goal

pub returns-then-is_built : goal.returns-then-is_built
returns-then-is_built c = kind_built _ _ _ _ _ _ _ c.is_built.ensures c.if-is_built.true c.plan_built.ensures

pub returns-then-has_kind : goal.returns-then-has_kind
returns-then-has_kind c =
    kind_generated _ _ _ _ _ _ _ c.is_built.ensures c.if-is_built.false c.has_kind.ensures c.if-has_kind.true c.plan_generated.ensures

pub returns : goal.returns
returns c = kind_array _ _ _ _ _ _ _ c.is_built.ensures c.if-is_built.false c.has_kind.ensures c.if-has_kind.false c.plan_array.ensures
