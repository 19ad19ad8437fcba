-- A list of calls none of whose links clashes is the old linker's, call by call: answers and memory. Assumes nothing.
use mathlib.Core.Path.{◌≡◌, refl, ap}
use mathlib.Core.Bool.{false, true, not}
use mathlib.Core.List.{List, [], ◌∷◌}
use Prim.Native.Nat.{ℕ}
use borrow.Author.Tests.{not-true}
use Rattle.words.proofs.Bools.{and_both}
use Rattle.linking.specs.Link.{Outcome, LinkOutcome}
use Rattle.linking.proofs.Before.{link_as_before}
use Rattle.calls.specs.Calls.{Call, link, ask, bytewise, State, outcome, step}
use Rattle.calls.specs.OldRun.{outcome_before, step_before, answers_now, answers_before, clashes, none_clashes}

pub outcome_as_before : (abi : List ℕ) (s : State) (k : Call) → clashes abi s k ≡ false → outcome bytewise abi s k ≡ outcome_before abi s k
outcome_as_before abi s (link c stubs) h =
    ap (λ (o : LinkOutcome). o.outcome) (link_as_before s.set abi s.area c stubs s.missing h)
outcome_as_before abi s (ask c i stubs) h = refl

pub step_as_before : (abi : List ℕ) (s : State) (k : Call) → clashes abi s k ≡ false → step bytewise abi s k ≡ step_before abi s k
unfolding step step_before
step_as_before abi s (link c stubs) h =
    ap (λ (o : LinkOutcome). record { set = o.outcome.set; area = o.outcome.area; missing = o.missing })
    (link_as_before s.set abi s.area c stubs s.missing h)
step_as_before abi s (ask c i stubs) h = refl

pub as_before_by_bytes : (abi : List ℕ) (calls : List Call) (s : State) → none_clashes bytewise abi calls s ≡ true
    → answers_now bytewise abi calls s ≡ answers_before abi calls s
unfolding answers_now answers_before none_clashes
as_before_by_bytes abi [] s h = refl
as_before_by_bytes abi (k ∷ ks) s h =
    let b = and_both (not (clashes abi s k)) (none_clashes bytewise abi ks (step bytewise abi s k)) h in
    let c = not-true (clashes abi s k) b.0 in
    rw (← (outcome_as_before abi s k c), ← (step_as_before abi s k c))
    (ap (λ (os : List (Outcome × State)). (outcome bytewise abi s k, step bytewise abi s k) ∷ os) (as_before_by_bytes abi ks (step bytewise abi s k) b.1))
