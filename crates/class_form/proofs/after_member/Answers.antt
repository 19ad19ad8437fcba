-- Name and descriptor are references, each to a Utf8. Assumes nothing.
use Rattle.std.proofs.Common.{rules}
use Rattle.class_form.specs.Form.{utf8_at, after_name, after_reference, after_member}
use Rattle.class_form.proofs.after_member.Goals as goal

pub returns-in_err-descriptor : goal.returns-in_err-descriptor
unfolding after_member after_name after_reference
returns-in_err-descriptor c =
    let r = c.after_reference.ensures (utf8_at c.args.pool.bytes.now) (λ i r post. search rules) in search rules

pub returns-in_err-attributes : goal.returns-in_err-attributes
unfolding after_member after_name after_reference
returns-in_err-attributes c =
    let r = c.after_reference.ensures (utf8_at c.args.pool.bytes.now) (λ i r post. search rules) in
    let s = c.after_reference-2.ensures (utf8_at c.args.pool.bytes.now) (λ i r post. search rules) in search rules

pub returns : goal.returns
unfolding after_member after_name after_reference
returns c =
    let r = c.after_reference.ensures (utf8_at c.args.pool.bytes.now) (λ i r post. search rules) in
    let s = c.after_reference-2.ensures (utf8_at c.args.pool.bytes.now) (λ i r post. search rules) in search rules
