-- The class's own name is a reference to a Class. Assumes nothing.
use Rattle.std.proofs.Common.{rules}
use Rattle.class_form.specs.Form.{class_at, after_class, after_reference, after_head}
use Rattle.class_form.proofs.after_head.Goals as goal

pub returns-in_err-parent : goal.returns-in_err-parent
unfolding after_head after_class after_reference
returns-in_err-parent c =
    let r = c.after_reference.ensures (class_at c.args.pool.bytes.now) (λ i r post. search rules) in search rules

pub returns-in_err-interfaces : goal.returns-in_err-interfaces
unfolding after_head after_class after_reference
returns-in_err-interfaces c =
    let r = c.after_reference.ensures (class_at c.args.pool.bytes.now) (λ i r post. search rules) in search rules

pub returns : goal.returns
unfolding after_head after_class after_reference
returns c =
    let r = c.after_reference.ensures (class_at c.args.pool.bytes.now) (λ i r post. search rules) in search rules
