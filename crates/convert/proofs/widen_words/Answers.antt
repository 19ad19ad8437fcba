-- Rows 3 to 5 refuse first; where they do not, the sums are known, and with them the words to be written. Assumes nothing.
use Rattle.std.proofs.Common.{refl, arith}
use Rattle.convert.proofs.Calls.{widen-fits, widen-written}
use Rattle.convert.proofs.widen_words.Goals as goal

pub put_widened-requires : goal.put_widened-requires
put_widened-requires c = widen-fits _ c.in_ok-old_rows.ensures.value

pub returns : goal.returns
returns c =
    let e = c.in_ok-old_rows.ensures in
    widen-written _ e.value _ _ (omega arith) (e.sums refl) c.put_widened.ensures
