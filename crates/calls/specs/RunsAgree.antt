-- CALLS BY THE NUMBERS OF SIGNATURES ARE THOSE BY THEIR BYTES: `RunsAgree` is the statement; proofs/RunsAgree.antt proves it, from the theorems on one call
-- (crate matching). "Every table, index and refusal is shown equal to that of the byte comparison, once over all kinds of class. The list is filled from the very
-- set and ABI sheet that are then linked, and no one else writes it". Assumes nothing.
use Rattle.std.specs.Prelude.{ℕ, ◌≡◌, List}
use Rattle.linking.specs.Numbers.{Filled}
use Rattle.matching.specs.Filling.{Faithful}
use Rattle.calls.specs.Calls.{Call, numbered, bytewise, State, start, outcome, missing_after, way_run, run, numbers_run, left, way_left}

-- calls by the numbers of ms from the one state on, and by bytes from the other, answer the same one by one, and leave the same
pub record Onward (abi ms : List ℕ) (s t : State) : Type 0 where
  pub answers : (calls : List Call) (k : Call)
      → outcome (way_run (numbered ms) abi calls s) abi (run (numbered ms) abi calls s) k ≡ outcome bytewise abi (run bytewise abi calls t) k
  pub leaves : (calls : List Call) → run (numbered ms) abi calls s ≡ run bytewise abi calls t

-- for every list of calls, accepted or refused, on whatever class words, area and list of missing slots
pub record Agree (ws abi area missing ns : List ℕ) : Type 0 where
  -- call by call: whatever calls went before, the next one answers and leaves the same
  pub answers : (calls : List Call) (k : Call)
      → outcome (way_left (numbered ns) ws abi area missing calls) abi (left (numbered ns) ws abi area missing calls) k
      ≡ outcome bytewise abi (left bytewise ws abi area missing calls) k
  pub missing_left : (calls : List Call) (k : Call)
      → missing_after (way_left (numbered ns) ws abi area missing calls) abi (left (numbered ns) ws abi area missing calls) k
      ≡ missing_after bytewise abi (left bytewise ws abi area missing calls) k
  -- so all of them leave the same set, area and list of missing slots
  pub leaves : (calls : List Call) → left (numbered ns) ws abi area missing calls ≡ left bytewise ws abi area missing calls
  -- and a list that tells the signatures of that set apart as their bytes do: it need not be what a filling of the set gives
  pub faithful : (calls : List Call) → Faithful (left (numbered ns) ws abi area missing calls).set abi (numbers_run ns abi calls (start ws area missing))
  -- the list may be filled again in the middle, after whatever calls, from the set that they leave: the calls that follow go on as by bytes
  pub refilled : (calls : List Call) (ms : List ℕ) → Filled (left (numbered ns) ws abi area missing calls).set abi ms
      → Onward abi ms (left (numbered ns) ws abi area missing calls) (left bytewise ws abi area missing calls)

abbrev pub RunsAgree : Type 0
RunsAgree = (ws abi area missing ns : List ℕ) → Filled ws abi ns → Agree ws abi area missing ns
