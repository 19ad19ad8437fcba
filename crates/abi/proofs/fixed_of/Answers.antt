-- The first class that fixes an index decides. Assumes nothing.
use Rattle.std.proofs.Common.{rules}
use Rattle.linking.specs.Signature.{of_method, by_numbers}
use Rattle.linking.specs.Abi.{vtable_index, fixed_index}
use Rattle.linking.specs.Vtable.{fixed_of}
use Rattle.abi.proofs.fixed_of.Goals as goal

pub returns : goal.returns
unfolding fixed_of fixed_index
returns c =
    c.first_found.ensures (vtable_index (by_numbers c.args.sheets.numbers.now) c.args.sheets.abi.now (of_method c.args.m)) (λ x r post. search rules)
