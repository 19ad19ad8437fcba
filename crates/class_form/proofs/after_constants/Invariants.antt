-- What is left to walk and to mark at the place, with the index that stands there, is the whole: the invariant. The measure is how far the count is.
-- Assumes nothing.
use mathlib.Core.Path.{◌≡◌}
use mathlib.Core.List.{List}
use Prim.Native.Nat.{ℕ, ◌-◌}
use Rattle.class_form.specs.declared.Mark.{Mark}
use Rattle.class_form.proofs.WalkLaws.{constants_at, marks_at}
use Rattle.class_form.proofs.after_constants.Given as goal

pub record Walked (bs : List ℕ) (count i p : ℕ) (ms ms₀ : List Mark) : Type 0 where
  pub is : constants_at bs count i p ≡ constants_at bs count 1 10
  pub marks : marks_at bs count i p ms ≡ marks_at bs count 1 10 ms₀

abbrev pub invariant-loop-i : goal.invariant-loop-i
invariant-loop-i l = Walked l.bytes l.count l.i l.p l.marks l.initial.marks

abbrev pub decreases-loop-i : goal.decreases-loop-i
decreases-loop-i l = l.count - l.i
