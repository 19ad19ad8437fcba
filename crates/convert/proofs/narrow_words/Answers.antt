-- Row 23 first; then the old form is stored word by word, and its blocks are put where there is room. Assumes nothing.
use Rattle.std.proofs.Common.{sym, ◌∙◌, arith}
use Rattle.convert.proofs.Calls.{form_text, short-part, narrowed-part, narrow-written}
use Rattle.convert.proofs.narrow_words.Goals as goal

pub put_blocks-requires : goal.put_blocks-requires
put_blocks-requires c =
    short-part _ c.requires _ (omega arith) c.narrow.ensures c.old_end.ensures.is c.part.ensures

pub returns : goal.returns
returns c =
    let p = narrowed-part _ c.requires _ (omega arith) c.narrow.ensures c.old_end.ensures.is c.part.ensures in
    narrow-written _ _ (sym c.if-drops_statics.false ∙ c.drops_statics.ensures (form_text _ c.requires)) p c.put_blocks.ensures
