-- The invariant: the indices listed and those to come are the class's, with the base added, and one is listed of each field passed.
-- Assumes nothing.
use Rattle.std.proofs.Common.{◌≡◌, ◌+◌, length}
use Rattle.linking.specs.Fields.{indices_plus}
use Rattle.field.proofs.MovedLaws.{moved_at}
use Rattle.linking.specs.Chain.{own_fields}
use Rattle.field.proofs.put_moved.Given as goal

abbrev pub invariant-loop-f : goal.invariant-loop-f
invariant-loop-f l = record {
  words : l.fields.words ≡ 0;
  few : l.first + length l.fields.indices ≡ l.f;
  front : moved_at l.ws l.base l.end l.fields.indices l.f ≡ indices_plus l.ws l.base (own_fields l.ws l.c);
}
