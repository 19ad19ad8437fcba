-- Each member's text has its name's bytes and its descriptor's. Assumes nothing.
use Rattle.growth.proofs.NewsLaws.{length_none, length-turn, length-done}
use mathlib.Core.Path.{refl}
use native.Mathlib.Omega.{arith}
use Rattle.growth.proofs.new_text_length.Goals as goal

pub loop-new-init : goal.loop-new-init
loop-new-init c = record { small = omega arith; sum = search length_none }

pub loop-new-preserved : goal.loop-new-preserved
loop-new-preserved c =
    let s = c.ref_signature-own.ensures in record {
      small = omega (arith, s.small);
      sum = length-turn _ _ _ _ _ _ _ _ c.as_slice-new-items.ensures.is c.loop-new-test.true refl s.name s.descriptor c.loop-new.invariant.sum;
    }

pub returns-clause-is : goal.returns-clause-is
returns-clause-is c = length-done _ _ _ _ _ _ c.as_slice-new-items.ensures.is c.loop-new-test.false c.loop-new.invariant.sum
