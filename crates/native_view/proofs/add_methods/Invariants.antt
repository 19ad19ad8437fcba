-- The methods added so far, followed by what the targets left add, are all that is added; each target adds one at most. Assumes nothing.
use mathlib.Core.Path.{◌≡◌}
use mathlib.Core.List.{◌++◌}
use Prim.Native.Nat.{◌≤◌, min}
use lib.ListN.{length}
use Rattle.class_sheet.specs.ClassSheet.{class_compiler_slots}
use Rattle.linking.specs.Sheets.{of_sheets, of_numbers}
use Rattle.linking.specs.Compiler.{added_from, compiler_targets}
use Rattle.reading.specs.Tables.{entries}
use Rattle.growth.specs.News.{added_of}
use Rattle.native_view.proofs.AddLaws.{add_rest}
use Rattle.native_view.proofs.add_methods.Given as goal

abbrev pub invariant-loop-i : goal.invariant-loop-i
invariant-loop-i l = record {
  few : length l.news ≤ l.i;
  count : l.count ≡ min (class_compiler_slots l.sheets.set.now l.c) 1024;
  rest : of_sheets added_of l.sheets l.news ++ of_numbers add_rest l.sheets l.c (entries l.view) l.count l.i
      ≡ of_numbers added_from l.sheets l.c (entries l.view) 0 (compiler_targets l.sheets.set.now l.c);
}
