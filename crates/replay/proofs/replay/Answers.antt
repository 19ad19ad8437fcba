-- Each turn makes the next call, whose words are the next chunk, from the state that the one before left. Assumes nothing.
use mathlib.Core.Path.{◌∙◌}
use Prim.Native.Nat.{◌+◌, ◌*◌, ◌/◌, ◌≤◌, ◌<◌}
use native.Mathlib.Omega.{arith}
use lib.ListN.{length}
use Rattle.std.specs.Iterator.Adapters.{enumerate_count}
use Rattle.replay.proofs.ReplayLaws.{replay-start, replay-turn, replay_end}
use Rattle.replay.proofs.ReplayLaws.{chunk-room, chunk-is, chunk-rest, chunks-end}
use Rattle.replay.proofs.replay.Goals as goal

pub loop-i-init : goal.loop-i-init
loop-i-init c =
    let g = c.into_iter-i-iterator.ensures.into_iter_gives in
    let e = c.enumerate-i-items.ensures in
    record {
      replay = rw (g, e.count) (replay-start _ _ _ _ _ _);
      five = rw (g, e.source) c.chunks_exact.ensures.size;
      words = rw (g, e.source, e.count) c.chunks_exact.ensures.rest;
    }

pub loop-i-preserved : goal.loop-i-preserved
loop-i-preserved c =
    let w = c.loop-i.invariant in
    let p = c.in-Some.ensures.steps in
    let o = c.one_call-answer in
    let k = enumerate_count c.loop-i.i-iterator in
    let joined = p.0.1.0 in
    let five = p.0.1.1 ∙ w.five in
    let call = chunk-is c.args.calls.now k w.words _ _ joined five in
    let room : 5 * k + 5 ≤ length c.args.calls.now = chunk-room c.args.calls.now k w.words _ _ joined five in
    let below : k < length c.args.calls.now / 5 = omega (arith, room) in
    record {
      replay = rw p.2
          (replay-turn _ _ _ k below call o.result _ _ _ _ _ _ o.ensures.called o.ensures.numbers_are _ (rw p.1 at c.put_answer.ensures) ∙ w.replay);
      five = p.0.0 ∙ w.five;
      words = rw p.2 (chunk-rest c.args.calls.now k w.words _ _ joined five);
    }

pub returns : goal.returns
returns c =
    let a = c.args in
    let w = c.loop-i.invariant in
    let k = enumerate_count c.loop-i.i-iterator in
    let e = chunks-end a.calls.now k w.words (rw w.five at c.in-None.ensures.steps.0.1.0) in
    replay_end a.abi.now a.calls.now a.stubs.now k _ _ _ e ∙ w.replay
