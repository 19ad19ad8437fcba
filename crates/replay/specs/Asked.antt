-- WHAT `replay` TELLS OF ITS ASKS: `ReplayedNodes` and `ReplayedTables`, at the end, are the statements; proofs/Asked.antt proves them from those on
-- kept interface tables (crate calls) and the contract of `replay`. Assumes nothing.
use Rattle.std.specs.Prelude.{ℕ, ◌+◌, ◌*◌, ◌/◌, ◌≤◌, ◌<◌, ◌≡◌, ◌≢◌, List, length, get_or}
use Rattle.class_sheet.specs.ClassSheet.{class_count}
use Rattle.linking.specs.Numbers.{Filled}
use Rattle.calls.specs.Calls.{start, Unlinked}
use Rattle.calls.specs.Kept.{SameStubs, AnswerKept}
use Rattle.replay.specs.Replay.{calls_of, Replay, replay_def}

-- an ask was accepted, in the words of a call and of its answers
pub record ToldAsk (calls answers : List ℕ) (c i place nodes : ℕ) : Type 0 where
  pub call : ℕ
  pub among : call < length calls / 5
  pub is_ask : get_or calls (5 * call) 0 ≢ 0
  pub class_is : get_or calls (5 * call + 1) 0 ≡ c
  pub for_interface : get_or calls (5 * call + 2) 0 ≡ i
  pub room : 3 * call + 2 < length answers
  pub accepted : get_or answers (3 * call) 0 ≡ 0
  pub place_is : get_or answers (3 * call + 1) 0 ≡ place
  pub nodes_is : get_or answers (3 * call + 2) 0 ≡ nodes

-- of calls on a set that is unlinked at the start

-- "the nodes read never exceed the number of classes", whatever the list of numbers holds
abbrev pub ReplayedNodes : Type 0
ReplayedNodes =
    (ws abi area missing numbers answers calls stubs : List ℕ) → Unlinked ws
    → (left : Replay) → left ≡ replay_def numbers abi (start ws area missing) (calls_of calls stubs) answers
    → (c i place nodes : ℕ) → ToldAsk calls left.answers c i place nodes → nodes ≤ class_count ws

-- a table that an ask answered is still at its place and right in what `replay` leaves, where the list of numbers is filled from the sheets and every call
-- lent the stub list `lent`
abbrev pub ReplayedTables : Type 0
ReplayedTables =
    (ws abi area missing numbers answers calls stubs : List ℕ) → Filled ws abi numbers → Unlinked ws
    → (left : Replay) → left ≡ replay_def numbers abi (start ws area missing) (calls_of calls stubs) answers
    → (lent : List ℕ) → SameStubs lent (calls_of calls stubs) → (c i place nodes : ℕ) → ToldAsk calls left.answers c i place nodes
    → AnswerKept abi lent left.state c i place
