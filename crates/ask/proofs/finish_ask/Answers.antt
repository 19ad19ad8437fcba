-- Row 15, and then the node as the definition writes it. Assumes nothing.
use Rattle.std.proofs.Common.{arith}
use Rattle.ask.proofs.AskLaws.{finish-full, node-fits, finish-done}
use Rattle.ask.proofs.finish_ask.Goals as goal

pub returns-then-no_room : goal.returns-then-no_room
returns-then-no_room c = search finish-full

pub overflow_add-result : goal.overflow_add-result
overflow_add-result c =
    let a = c.args in
    omega (arith, node-fits a.ws.now a.c a.i a.area.now a.stubs.now a.nodes a.table.now c.no_room.ensures c.if-no_room.false c.requires c.get_or-node.ensures)

pub returns : goal.returns
returns c = search finish-done
