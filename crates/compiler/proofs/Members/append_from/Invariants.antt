-- The table so far, with the methods left appended, is that of all; each method appends one slot at most. Assumes nothing.
use Rattle.std.proofs.Common.{◌≡◌, ◌+◌, ◌-◌, ◌≤◌}
use Rattle.std.specs.Prelude.{None}
use Rattle.linking.specs.Compiler.{append_from}
use Rattle.reading.specs.Tables.{entries}
use Rattle.compiler.specs.Methods.{of_members, compared}
use Rattle.words.specs.Lists.{numbers, fold}
use Rattle.words.proofs.ListLaws.{fold_from}
use Rattle.compiler.proofs.Members.append_from.Given as goal

abbrev pub invariant-loop-m : goal.invariant-loop-m
invariant-loop-m l = record {
  end : l.table.len ≤ l.initial.table.len + (l.m - l.first);
  table : fold_from (λ k. k) (of_members (append_from (compared l.self)) l.self None) (entries l.table) l.first l.count (l.m - l.first)
      ≡ fold (of_members (append_from (compared l.self)) l.self None) (entries l.initial.table) (numbers l.first l.count);
}
