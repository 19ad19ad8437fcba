-- An accepted link leaves a set that rows 3 to 5 accept (`matching`), and so does any list of calls. Assumes nothing.
use Rattle.std.proofs.Common.{◌≡◌, ap, ◌∙◌, inl, inr, List, [], ◌∷◌, ℕ}
use Rattle.set_rules.specs.SetRules.{set_refusal}
use Rattle.matching.proofs.Stays.{link-stands}
use Rattle.calls.specs.Calls.{Call, link, ask, Way, State, way_after, step, run}
use Rattle.calls.specs.Stays.{StaysAccepted}
use Rattle.calls.proofs.Ways.{same_of, left_by, link-ends, ask-leaves}

step-stands : (way : Way) (abi : List ℕ) (s : State) (k : Call) → set_refusal s.set abi ≡ 0 → set_refusal (step way abi s k).set abi ≡ 0
unfolding step
step-stands way abi s (link c stubs) e =
    elim (link-ends way abi s c stubs) [
      | inl r ↦ ap (λ (x : List ℕ). set_refusal x abi) r.same_set ∙ e
      | inr a ↦ link-stands (same_of way s.set abi) s.set abi c s.area stubs s.missing (left_by way abi s c stubs) a
    ]
step-stands way abi s (ask c i stubs) e = ap (λ (x : List ℕ). set_refusal x abi) (ask-leaves way abi s c i stubs) ∙ e

pub stays-accepted : StaysAccepted
unfolding run
stays-accepted way abi [] s e = e
stays-accepted way abi (k ∷ ks) s e = stays-accepted (way_after way abi s k) abi ks (step way abi s k) (step-stands way abi s k e)
