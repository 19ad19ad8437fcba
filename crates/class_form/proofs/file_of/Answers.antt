-- The marks of a pool that has been taken are near. Assumes nothing.
use native.Mathlib.Omega.{arith}
use Rattle.class_form.proofs.MarkLaws.{walked_near}
use Rattle.class_form.proofs.file_of.Goals as goal

pub invariant_of-class_of : goal.invariant_of-class_of
invariant_of-class_of c =
    record {
      near =
          walked_near _ (λ j. omega (arith, c.type_inv.bytes j)) c.after_constants.ensures.is c.in_ok-head.was c.after_constants.ensures.marks;
    }
