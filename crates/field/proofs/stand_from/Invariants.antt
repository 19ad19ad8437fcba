-- The invariant: the fields passed stand where they should, so whether all do is whether those to come do. Assumes nothing.
use Rattle.linking.specs.Fields.{stand_from}
use Rattle.field.proofs.MovedLaws.{stand_at}
use Rattle.linking.specs.Chain.{own_fields}
use Rattle.std.proofs.Common.{◌≡◌, ◌+◌, ◌-◌, ◌*◌, ◌≤◌}
use Rattle.field.proofs.stand_from.Given as goal

abbrev pub invariant-loop-f : goal.invariant-loop-f
invariant-loop-f l = record {
  small : l.at ≤ 65535 + 2 * (l.f - l.first);
  rest : stand_at l.ws l.text l.end l.at l.f ≡ stand_from l.ws l.text l.from (own_fields l.ws l.c);
}
