-- The table is the definition's, and the rest is `finish_ask`'s; or row 16. Assumes nothing.
use Rattle.std.proofs.lemmas.Result.{err_from_is_err_and}
use Rattle.set_rules.proofs.Valid.{valid}
use Rattle.ask.proofs.AskLaws.{node-built, node-refused}
use Rattle.ask.proofs.build_node.Goals as goal

pub dispatch_unpacked-requires : goal.dispatch_unpacked-requires
dispatch_unpacked-requires c =
    let v = valid _ _ c.requires.0 in (v.0.length_of_text, v.1.length_of_text)

pub returns-in_err-dispatch_unpacked : goal.returns-in_err-dispatch_unpacked
returns-in_err-dispatch_unpacked c =
    let p = err_from_is_err_and c.from_residual.result c.from_residual.ensures.1 in
    rw (p.1, p.2) (node-refused _ _ _ _ _ _ _ _ _ c.in_err-dispatch_unpacked.ensures)

pub returns : goal.returns
returns c =
    let a = c.args in
    node-built _ a.ws.now a.abi.now a.c a.i a.area.now a.stubs.now a.nodes c.in_ok-dispatch_unpacked.ensures c.finish_ask.ensures
