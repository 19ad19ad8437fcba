-- By cases: an unknown slot and one without a fixed index change nothing, nor one that does not take its index. Assumes nothing.
use Rattle.std.proofs.Common.{◌∙◌, ap, refl, arith}
use Rattle.reading.specs.Arrays.{method_of}
use Rattle.vtable.proofs.RelayLaws.{held_unknown, held_free, held_kept, held_taken}
use Rattle.vtable.proofs.hold_entry.Goals as goal

pub returns-in_default : goal.returns-in_default
returns-in_default c = held_unknown _ _ _ _ c.method.ensures c.in_default.is

pub returns-in_default-method_of : goal.returns-in_default-method_of
returns-in_default-method_of c =
    held_free _ _ _ _ c.method.ensures c.in-Some.is (c.method_of.ensures ∙ c.requires) c.in_default-method_of.is

pub returns-then-takes : goal.returns-then-takes
returns-then-takes c =
    held_taken _ _ _ _ c.method.ensures c.in-Some.is (c.method_of.ensures ∙ c.requires) c.in-Some-method_of.is
    (c.method_of-held.ensures ∙ ap method_of c.get_or.ensures) c.takes.ensures _ (omega arith) c.if-takes.true refl c.put.ensures

pub returns-else-takes : goal.returns-else-takes
returns-else-takes c =
    held_kept _ _ _ _ c.method.ensures c.in-Some.is (c.method_of.ensures ∙ c.requires) c.in-Some-method_of.is
    (c.method_of-held.ensures ∙ ap method_of c.get_or.ensures) c.takes.ensures c.if-takes.false
