-- The calls that are left, made from the state so far on, leave and answer what all of them do; the chunks have the words of those. Assumes nothing.
use Rattle.std.proofs.Common.{◌≡◌, ◌*◌, drop}
use Rattle.std.specs.Slice.Iter.{chunks_exact_rest, chunks_exact_size}
use Rattle.std.specs.Iterator.Adapters.{enumerate_source, enumerate_count}
use Rattle.calls.specs.Calls.{start}
use Rattle.replay.specs.Replay.{calls_of, replay_def}
use Rattle.replay.proofs.ReplayLaws.{left_replay}
use Rattle.replay.proofs.replay.Given as goal

abbrev pub invariant-loop-i : goal.invariant-loop-i
invariant-loop-i l =
    let chunks = enumerate_source l.i-iterator in
    let i = enumerate_count l.i-iterator in record {
      replay : left_replay l.abi l.calls l.stubs l.numbers (start l.set l.area l.missing) l.answers i
          ≡ replay_def l.initial.numbers l.abi (start l.initial.set l.initial.area l.initial.missing) (calls_of l.calls l.stubs) l.initial.answers;
      five : chunks_exact_size chunks ≡ 5;
      words : chunks_exact_rest chunks ≡ drop (5 * i) l.calls;
    }
