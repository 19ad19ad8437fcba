-- The first i records have descriptors and what is known of the text is true; one without, or past the words, ends the loop. Assumes
-- nothing.
use native.Mathlib.Omega.{arith}
use borrow.Author.Tests.{not-true, not-false}
use mathlib.Core.Path.{refl}
use Rattle.words.proofs.FoldLaws.{all_none, all-turn, all-stop, all_done}
use Rattle.set_rules.proofs.KnownLaws.{known-none, record_typed_lem, past_typed}
use Rattle.class_sheet.specs.ClassSheet.{text_limit}
use Rattle.set_rules.proofs.records_typed.Goals as goal

pub loop-i-init : goal.loop-i-init
loop-i-init c = (all_none _, known-none text_limit _ _)

pub returns-then-ws-at : goal.returns-then-ws-at
returns-then-ws-at c =
    all-stop _ _ c.loop-i.i (omega arith) (past_typed _ _ _ _ _ _ refl c.if-ws-at.true) refl

pub returns-then-not-part_typed : goal.returns-then-not-part_typed
returns-then-not-part_typed c = search (not-true, all-stop, record_typed_lem)

pub loop-i-preserved : goal.loop-i-preserved
loop-i-preserved c = (search (not-false, all-turn, record_typed_lem), c.part_typed.ensures.kept)

pub returns : goal.returns
returns c = all_done _ _ _ c.loop-i.invariant.0 (omega arith)
