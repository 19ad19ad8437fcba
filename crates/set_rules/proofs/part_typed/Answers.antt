-- What is known is a descriptor for any record of the kind. Else the part is read as an instance method's, and known from then on where
-- it is one and short enough, so that what is known stays true; and where it is none, it is read by the record's own number. Assumes nothing.
use mathlib.Core.Path.{ap}
use mathlib.Core.Bool.{not}
use Rattle.set_rules.proofs.KnownLaws.{known_typed, known_more, read_typed}
use Rattle.set_rules.proofs.part_typed.Goals as goal

-- known
pub returns-then-is_known : goal.returns-then-is_known
returns-then-is_known c = record { is = search known_typed; kept = search }

-- not good for an instance method
pub returns-then-not-is_descriptor : goal.returns-then-not-is_descriptor
returns-then-not-is_descriptor c = record { is = cc; kept = search }

-- good for any, and known from here on
pub returns-then-len-lt255 : goal.returns-then-len-lt255
returns-then-len-lt255 c = record {
  is = search read_typed;
  kept = known_more _ _ _ c.requires c.args.start c.args.len c.name_at.ensures c.is_descriptor.ensures
      (ap not c.if-not-is_descriptor.false) (cc);
}

-- good for any, and too long to be remembered
pub returns-else-len-lt255 : goal.returns-else-len-lt255
returns-else-len-lt255 c = record { is = search read_typed; kept = search }
