-- The signature is judged first, then the flags; both are words of the record that begins at its place. Assumes nothing.
use Rattle.class_rules.proofs.Laws.{method-stop, method_on}
use Rattle.class_rules.proofs.method_ok.Goals as goal

pub returns-then-not-signature_clean : goal.returns-then-not-signature_clean
returns-then-not-signature_clean c = search method-stop

pub returns : goal.returns
returns c = search method_on
