-- The methods are searched in order. Assumes nothing.
use Rattle.std.proofs.Common.{rules, arith}
use Rattle.compiler.proofs.Members.target_in.Goals as goal

pub returns : goal.returns
returns c = c.find_in.ensures _ _ (omega arith) (λ i r l post. search rules)
