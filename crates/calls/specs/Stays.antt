-- ROWS 3 TO 5 STAY PASSED: `StaysAccepted` is the statement; proofs/Stays.antt proves it. What a link adds to the sections is as sound as what was there,
-- so no accepted link makes a later call refuse by these rows, whatever a list of numbers holds. Assumes nothing.
use Rattle.std.specs.Prelude.{ℕ, ◌≡◌, List}
use Rattle.set_rules.specs.SetRules.{set_refusal}
use Rattle.calls.specs.Calls.{Call, Way, State, run}

-- a list of links and asks, accepted or refused, that begins with a set which rows 3 to 5 accept with the ABI sheet leaves such a set. (Of one accepted link it
-- is `link_stays` of matching/specs/Matching.antt.)
abbrev pub StaysAccepted : Type 0
StaysAccepted = (way : Way) (abi : List ℕ) (calls : List Call) (s : State) → set_refusal s.set abi ≡ 0 → set_refusal (run way abi calls s).set abi ≡ 0
