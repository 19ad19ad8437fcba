-- The parent's entries, and empty ones up to the minimum size. Assumes nothing.
use native.Mathlib.Omega.{arith}
use Rattle.vtable.proofs.BuildLaws.{extended-is}
use Rattle.abi.proofs.Laws.{minimum_size-room}
use Rattle.vtable.proofs.extend_parent.Goals as goal

pub extend-requires : goal.extend-requires
extend-requires c = omega (arith, minimum_size-room c.args.sheets.abi.now c.args.abis.now, c.largest_size.ensures)

pub returns-clause-is : goal.returns-clause-is
returns-clause-is c = search extended-is

pub returns-clause-count : goal.returns-clause-count
returns-clause-count c = omega (arith, minimum_size-room c.args.sheets.abi.now c.args.abis.now, c.largest_size.ensures)
