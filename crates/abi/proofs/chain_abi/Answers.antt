-- The chain's ABI classes are added where none is yet. Assumes nothing.
use Rattle.std.proofs.Common.{arith, refl, ◌∙◌}
use Rattle.linking.specs.Abi.{chain_abi}
use Rattle.abi.proofs.chain_abi.Goals as goal

pub push_chain-requires : goal.push_chain-requires
push_chain-requires c = rw c.new-classes.ensures (omega arith)

pub returns : goal.returns
unfolding chain_abi
returns c = c.push_chain.ensures ∙ rw c.new-classes.ensures refl
