-- The numbers that are searched are those of the class's methods, and the signature's number is method m's. Assumes nothing.
use Rattle.std.proofs.Common.{rules, arith}
use Rattle.linking.specs.Signature.{place_number, by_numbers}
use Rattle.linking.specs.Ask.{own_implementation}
use Rattle.linking.specs.Chain.{own_methods}
use Rattle.ask.proofs.own_implementation.Goals as goal

pub returns : goal.returns
unfolding own_implementation own_methods by_numbers place_number
returns c =
    rw (← c.method_count.ensures, ← c.class_first_method-first.ensures, ← c.get_or-number.ensures)
    (c.find_in.ensures _ _ (omega arith) (λ i r l post. search rules))
