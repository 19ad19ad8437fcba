-- The invariant: the members added and those still to come are the class's, and so far do they raise the running word. Assumes nothing.
use Rattle.std.proofs.Common.{◌≡◌, ◌≤◌, ◌++◌, length}
use Rattle.std.specs.Prelude.{Some}
use Rattle.linking.specs.Fields.{added_fields, raised}
use Rattle.field.specs.Numbers.{members_of}
use Rattle.field.proofs.AddedLaws.{to_add}
use Rattle.field.proofs.add_fields.Given as goal

abbrev pub invariant-loop-i : goal.invariant-loop-i
invariant-loop-i l = record {
  few : length l.news ≤ l.i;
  members : l.news ++ members_of l.sheets.abi.now (to_add l.sheets.set.now l.sheets.text.now l.sheets.abi.now l.sheets.labels.now l.c l.first l.n l.i)
      ≡ members_of l.sheets.abi.now (added_fields l.sheets.set.now l.sheets.text.now l.sheets.abi.now l.sheets.labels.now (Some l.a) l.c);
  word : raised l.sheets.abi.now l.sheets.labels.now l.word
      (to_add l.sheets.set.now l.sheets.text.now l.sheets.abi.now l.sheets.labels.now l.c l.first l.n l.i)
      ≡ raised l.sheets.abi.now l.sheets.labels.now l.running
      (added_fields l.sheets.set.now l.sheets.text.now l.sheets.abi.now l.sheets.labels.now (Some l.a) l.c);
}
