-- Lists of calls by the linker before two inherited signatures on one fixed slot were told apart, which compared bytes, and by the linker; and the links on
-- which they differ. Assumes nothing.
use Rattle.std.specs.Prelude.{ℕ, Bool, true, false, not, ◌&&◌, List, [], ◌∷◌}
use Rattle.linking.specs.Link.{Outcome}
use Rattle.linking.specs.Ask.{ask_def}
use Rattle.linking.specs.Before.{link_clashes, link_before}
use Rattle.calls.specs.Calls.{Call, link, ask, Way, State, start, outcome, way_after, step}

-- ---- a call by the linker before: its answers, and what it leaves

abbrev pub outcome_before : List ℕ → State → Call → Outcome
outcome_before abi s (link c stubs) = (link_before s.set abi c s.area stubs s.missing).outcome
outcome_before abi s (ask c i stubs) = ask_def s.set abi c i s.area stubs

abbrev pub missing_before : List ℕ → State → Call → List ℕ
missing_before abi s (link c stubs) = (link_before s.set abi c s.area stubs s.missing).missing
missing_before abi s (ask c i stubs) = s.missing

unfoldable pub step_before : List ℕ → State → Call → State
step_before abi s k = record { set = (outcome_before abi s k).set; area = (outcome_before abi s k).area; missing = missing_before abi s k }

-- ---- lists of calls

-- what a list leaves
unfoldable pub run_before : List ℕ → List Call → State → State
run_before abi [] s = s
run_before abi (k ∷ ks) s = run_before abi ks (step_before abi s k)

abbrev pub left_before : List ℕ → List ℕ → List ℕ → List ℕ → List Call → State
left_before ws abi area missing calls = run_before abi calls (start ws area missing)

-- what each call of a list answers, and all that it leaves
unfoldable pub answers_now : Way → List ℕ → List Call → State → List (Outcome × State)
answers_now way abi [] s = []
answers_now way abi (k ∷ ks) s = (outcome way abi s k, step way abi s k) ∷ answers_now (way_after way abi s k) abi ks (step way abi s k)

unfoldable pub answers_before : List ℕ → List Call → State → List (Outcome × State)
answers_before abi [] s = []
answers_before abi (k ∷ ks) s = (outcome_before abi s k, step_before abi s k) ∷ answers_before abi ks (step_before abi s k)

-- a link where two known inherited signatures have one fixed index
abbrev pub clashes : List ℕ → State → Call → Bool
clashes abi s (link c stubs) = link_clashes s.set abi s.area c
clashes abi s (ask c i stubs) = false

-- no link of the list is one, in the state in which it is made
unfoldable pub none_clashes : Way → List ℕ → List Call → State → Bool
none_clashes way abi [] s = true
none_clashes way abi (k ∷ ks) s = not (clashes abi s k) && none_clashes (way_after way abi s k) abi ks (step way abi s k)
