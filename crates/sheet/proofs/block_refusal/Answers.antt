-- Row 1 first, then row 2 of as many blocks as the bytes are. Assumes nothing.
use Rattle.std.proofs.Common.{sym, ◌∙◌, arith}
use Rattle.sheet.specs.Sheet.{block_refusal}
use Rattle.sheet.proofs.Laws.{whole}
use Rattle.sheet.proofs.block_refusal.Goals as goal

pub returns-then-not-checks_ok : goal.returns-then-not-checks_ok
unfolding block_refusal
returns-then-not-checks_ok c =
    let n = whole _ c.args.room c.args.limit c.block_count.ensures (sym c.shape_ok.ensures ∙ c.if-not-shape_ok.false) (omega arith) in
    rw (← c.shape_ok.ensures, c.if-not-shape_ok.false, ← n, ← c.checks_ok.ensures, c.if-not-checks_ok.true)

pub returns : goal.returns
unfolding block_refusal
returns c =
    let n = whole _ c.args.room c.args.limit c.block_count.ensures (sym c.shape_ok.ensures ∙ c.if-not-shape_ok.false) (omega arith) in
    rw (← c.shape_ok.ensures, c.if-not-shape_ok.false, ← n, ← c.checks_ok.ensures, c.if-not-checks_ok.false)
