-- The closure gives the slots of the compiler table, one for each number. Assumes nothing.
use Rattle.std.proofs.Common.{◌≡◌, min, rules, arith}
use Rattle.compiler.proofs.EntryLaws.{slots-all}
use Rattle.compiler.proofs.Members.compiler_entries.Goals as goal

pub returns : goal.returns
returns c =
    let n = c.compiler_count-count.result in
    let room : min n 3584 ≡ n = omega (arith, c.compiler_count-count.ensures) in record {
      is = slots-all _ _ _ _ c.compiler_count-count.ensures (rw room at c.fill.ensures.is _ (λ i r post. search rules));
      count = omega (arith, c.fill.ensures.len, c.compiler_count-count.ensures);
    }
