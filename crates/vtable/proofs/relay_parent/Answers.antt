-- The minimum size in empty slots, and then each of the parent's entries relayed. Assumes nothing.
use native.Mathlib.Omega.{arith}
use Rattle.linking.proofs.Comparing.{numbers_compare}
use Rattle.vtable.proofs.RelayLaws.{relayed-is}
use Rattle.abi.proofs.Laws.{minimum_size-room}
use Rattle.vtable.proofs.relay_parent.Goals as goal

pub extend-requires : goal.extend-requires
extend-requires c = omega (arith, minimum_size-room c.args.sheets.abi.now c.args.abis.now, c.largest_size.ensures)

pub relay-requires : goal.relay-requires
relay-requires c = omega (arith, minimum_size-room c.args.sheets.abi.now c.args.abis.now, c.largest_size.ensures)

pub returns-clause-is : goal.returns-clause-is
returns-clause-is c = search (relayed-is, numbers_compare)
