-- A reference that is not 0 is a Class's. Assumes nothing.
use Rattle.std.proofs.Common.{rules}
use Rattle.class_form.specs.Form.{class_at, after_class, after_reference, after_parent}
use Rattle.class_form.proofs.after_parent.Goals as goal

pub returns : goal.returns
unfolding after_parent after_class after_reference
returns c = let r = c.after_reference.ensures (class_at c.args.pool.bytes.now) (λ i r post. search rules) in search rules
