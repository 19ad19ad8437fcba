-- The five words are read as `call_of` reads them; the call of their kind answers what the definition does. Assumes nothing.
use Rattle.replay.proofs.ReplayLaws.{link-told, link-numbers, ask-told, ask-numbers}
use Rattle.replay.proofs.one_call.Goals as goal

-- a link
pub returns-then-get_or-eq0 : goal.returns-then-get_or-eq0
returns-then-get_or-eq0 c = record { called = search link-told; numbers_are = search link-numbers }

-- an ask
pub returns : goal.returns
returns c = record { called = search ask-told; numbers_are = search ask-numbers }
