-- The slots that the methods from m on take, over the table so far, make what all of them make. Assumes nothing.
use Rattle.std.proofs.Common.{◌≡◌, ◌+◌, ◌-◌, ◌≤◌}
use Rattle.words.specs.Lists.{fold}
use Rattle.linking.specs.Chain.{own_methods}
use Rattle.linking.specs.Packages.{take_slots}
use Rattle.reading.specs.Tables.{entries}
use Rattle.packages.specs.Marks.{of_walk, top_of}
use Rattle.packages.proofs.TakeLaws.{takes}
use Rattle.packages.proofs.take_all.Given as goal

abbrev pub invariant-loop-m : goal.invariant-loop-m
invariant-loop-m l = record {
  slots : l.table.len ≤ l.initial.table.len + (l.m - l.first);
  rest : takes l.first l.count (of_walk take_slots l.sheets (top_of l.tops) l.initial.table.len l.c) (entries l.table) l.m
      ≡ fold (of_walk take_slots l.sheets (top_of l.tops) l.initial.table.len l.c) (entries l.initial.table) (own_methods l.sheets.set.now l.c);
}
