-- What is stored for the slots from i on, over what is stored so far, is what is stored for all of them. Assumes nothing.
use Rattle.std.proofs.Common.{◌≡◌, ◌||◌, set}
use Rattle.words.specs.Lists.{fold}
use Rattle.reading.specs.Tables.{entry, entries}
use Rattle.packages.specs.Marks.{taken_in, is_some}
use Rattle.packages.proofs.OverLaws.{left}
use Rattle.packages.proofs.TakeLaws.{is_taken}
use Rattle.packages.proofs.store_taken.Given as goal

abbrev pub invariant-loop-i : goal.invariant-loop-i
invariant-loop-i l = record {
  slots : fold (λ s j. set s j (entry l.slot)) (entries l.table) (left (is_taken l.tops l.marks) 0 l.n l.i)
      ≡ fold (λ s j. set s j (entry l.slot)) (entries l.initial.table) (taken_in l.tops l.marks l.n);
  len : l.table.len ≡ l.initial.table.len;
  is : (l.taken || is_some (left (is_taken l.tops l.marks) 0 l.n l.i)) ≡ is_some (taken_in l.tops l.marks l.n);
}
