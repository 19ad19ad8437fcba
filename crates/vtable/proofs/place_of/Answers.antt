-- By cases: an unknown slot; one without a fixed index; one whose signature stays; one that gives way and comes again; the last one. Assumes nothing.
use Rattle.std.proofs.Common.{◌≡◌, ◌∙◌, ap}
use Rattle.std.specs.Prelude.{get_or}
use Rattle.linking.specs.Vtable.{Entry, empty}
use Rattle.reading.specs.Arrays.{method_of}
use Rattle.reading.specs.Tables.{entries}
use Rattle.vtable.proofs.RelayLaws.{place_unknown, place_free, place_stays, place_again, place_last}
use Rattle.vtable.proofs.place_of.Goals as goal
use Rattle.vtable.proofs.place_of.Goals.{After-method}

known : (c : After-method) → c.method.result ≡ (get_or (entries c.args.parent.now) c.args.k empty).method
known c = c.method.ensures ∙ ap (λ (x : Entry). x.method) c.slot.ensures

pub returns-in_default : goal.returns-in_default
returns-in_default c = place_unknown _ _ _ (known (goal.at.returns-in_default c).After-method) _ c.in_default.is

pub returns-in_default-method_of : goal.returns-in_default-method_of
returns-in_default-method_of c =
    place_free _ _ _ (known (goal.at.returns-in_default-method_of c).After-method) c.in-Some.is c.method_of.ensures c.in_default-method_of.is

pub returns-then-is_held : goal.returns-then-is_held
returns-then-is_held c =
    place_stays _ _ _ (known (goal.at.returns-then-is_held c).After-method) c.in-Some.is c.method_of.ensures c.in-Some-method_of.is
    (c.method_of-held.ensures ∙ ap method_of c.get_or.ensures) c.is_held.ensures c.if-is_held.true

pub returns-then-occurs : goal.returns-then-occurs
returns-then-occurs c =
    place_again _ _ _ (known (goal.at.returns-then-occurs c).After-method) c.in-Some.is c.method_of.ensures c.in-Some-method_of.is
    (c.method_of-held.ensures ∙ ap method_of c.get_or.ensures) c.is_held.ensures c.if-is_held.false c.occurs.ensures c.if-occurs.true

pub returns : goal.returns
returns c =
    place_last _ _ _ (known (goal.at.returns c).After-method) c.in-Some.is c.method_of.ensures c.in-Some-method_of.is
    (c.method_of-held.ensures ∙ ap method_of c.get_or.ensures) c.is_held.ensures c.if-is_held.false c.occurs.ensures c.if-occurs.false
