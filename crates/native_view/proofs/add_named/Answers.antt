-- A declared method is not added; any other one goes behind the last. Assumes nothing.
use native.Mathlib.Omega.{arith}
use Rattle.growth.proofs.NewsLaws.{added_push}
use Rattle.native_view.proofs.AddLaws.{named-old, named_new, pushed_count}
use Rattle.native_view.proofs.add_named.Goals as goal

pub returns-then-is_declared : goal.returns-then-is_declared
returns-then-is_declared c = record { is = search named-old; count = omega arith }

pub returns : goal.returns
returns c = record {
  is = named_new _ _ _ _ _ _ _ _ _ c.is_declared.ensures c.if-is_declared.false c.ref_flags.ensures (added_push _ _ _ _ _ _ c.requires c.push.ensures);
  count = pushed_count _ _ c.push.ensures;
}
