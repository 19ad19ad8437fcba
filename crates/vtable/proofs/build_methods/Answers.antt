-- By the chain's ABI classes the inherited table, and then the class's own methods. Assumes nothing.
use Rattle.std.proofs.Common.{◌∙◌}
use Rattle.vtable.proofs.TableLaws.{built-is}
use Rattle.vtable.proofs.build_methods.Goals as goal

pub inherited_table-requires : goal.inherited_table-requires
inherited_table-requires c = c.as_slice-abis.ensures.is ∙ c.chain_abi-classes.ensures

pub returns-clause-is : goal.returns-clause-is
returns-clause-is c =
    let e = c.as_slice-abis.ensures.is ∙ c.chain_abi-classes.ensures in search built-is
