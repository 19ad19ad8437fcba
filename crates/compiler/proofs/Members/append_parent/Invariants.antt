-- The table so far, with the methods of the slots left appended, is that of all; each slot appends one at most. Assumes nothing.
use mathlib.Core.Path.{◌≡◌}
use Prim.Native.Nat.{◌+◌, ◌≤◌}
use lib.ListN.{length}
use Rattle.linking.specs.Compiler.{append_entry}
use Rattle.reading.specs.Tables.{entries, entries_left}
use Rattle.compiler.specs.Methods.{of_members, compared}
use Rattle.words.specs.Lists.{fold}
use Rattle.compiler.proofs.Members.append_parent.Given as goal

abbrev pub invariant-loop-slot : goal.invariant-loop-slot
invariant-loop-slot l = record {
  end : l.table.len + length (entries_left l.slot-iterator) ≤ l.initial.table.len + l.parent.len;
  table : fold (of_members (append_entry (compared l.self)) l.self) (entries l.table) (entries_left l.slot-iterator)
      ≡ fold (of_members (append_entry (compared l.self)) l.self) (entries l.initial.table) (entries l.parent);
}
