-- The invariant: the numbering of the fields passed, taken on over those to come, comes to `number_fields`; one index is listed of each; and
-- the counters stay small. Assumes nothing.
use Rattle.linking.specs.Fields.{number_fields}
use Rattle.field.proofs.NumberLaws.{number_at}
use Rattle.std.proofs.Common.{◌≡◌, ◌+◌, ◌*◌, ◌≤◌, length}
use Rattle.field.proofs.number_fields.Given as goal

abbrev pub invariant-loop-f : goal.invariant-loop-f
invariant-loop-f l = record {
  statics : l.k.statics ≤ 2 * length l.indices;
  runtime : l.k.runtime ≤ 2147483649 + 2 * length l.indices;
  running : l.k.running ≤ 65535 + 2 * length l.indices;
  few : l.first + length l.indices ≡ l.f;
  number : number_at l.sheets.set.now l.sheets.text.now l.sheets.abi.now l.sheets.labels.now l.own l.end l.indices l.k l.f
      ≡ number_fields l.sheets.set.now l.sheets.text.now l.sheets.abi.now l.sheets.labels.now l.own l.c;
}
