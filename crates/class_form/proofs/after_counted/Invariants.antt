-- What is left of the items at the place is the whole of them. Assumes nothing.
use Rattle.std.proofs.Common.{◌≡◌, ℕ, ◌-◌}
use Rattle.class_form.specs.Form.{Step, after_each}
use Rattle.class_form.proofs.after_counted.Given as goal

abbrev pub invariant-loop : goal.invariant-loop
invariant-loop g l =
    (item : ℕ → Step) → ((q : ℕ) (r : Step) → goal.F-post g l.after_item q r → r ≡ item q)
    → after_each item (l.end - l.counter) l.at ≡ after_each item l.end l.initial.at
