-- The new form is stored word by word, and its blocks are put. Assumes nothing.
use native.Mathlib.Omega.{arith}
use mathlib.Core.Path.{ap, ◌∙◌}
use mathlib.Core.List.{List}
use Prim.Native.Nat.{ℕ}
use Rattle.convert.specs.Steps.{put_words}
use Rattle.convert.proofs.Calls.{part-words, words-short}
use Rattle.convert.proofs.put_widened.Goals as goal

pub put_blocks-requires : goal.put_blocks-requires
put_blocks-requires c =
    words-short _ _ c.requires
    (part-words _ _ _ c.requires (omega arith) c.widen.ensures c.content_end.ensures.is c.part.ensures)

pub returns : goal.returns
returns c =
    let e = part-words _ _ _ c.requires (omega arith) c.widen.ensures c.content_end.ensures.is c.part.ensures in
    c.put_blocks.ensures ∙ ap (λ (x : List ℕ). put_words x c.args.out.now) e
