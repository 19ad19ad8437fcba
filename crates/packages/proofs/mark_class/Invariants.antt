-- Marks and test of the methods from k on, over those so far, are those of all. Assumes nothing.
use Rattle.std.proofs.Common.{◌≡◌, not, ◌||◌}
use Rattle.words.specs.Lists.{fold, some}
use Rattle.class_sheet.specs.ClassSheet.{method_flags}
use Rattle.linking.specs.Chain.{is_private}
use Rattle.linking.specs.Packages.{is_overridden, overridden_in}
use Rattle.packages.specs.Marks.{of_walk, mark}
use Rattle.packages.proofs.OverLaws.{left}
use Rattle.packages.proofs.mark_class.Given as goal

abbrev pub invariant-loop-k : goal.invariant-loop-k
invariant-loop-k l = record {
  marked : fold mark l.marks (left (of_walk is_overridden l.sheets l.m l.reached l.a) l.first l.count l.k)
      ≡ fold mark l.initial.marks (of_walk overridden_in l.sheets l.m l.reached l.a);
  is : (l.open
      || some (λ k. not (is_private (method_flags l.sheets.set.now k)))
      (left (of_walk is_overridden l.sheets l.m l.reached l.a) l.first l.count l.k))
      ≡ some (λ k. not (is_private (method_flags l.sheets.set.now k))) (of_walk overridden_in l.sheets l.m l.reached l.a);
}
