-- ELSEWHERE BY NUMBERS, from the theorem by bytes, and its premises of one run from those of the other; and of calls none of which clashes. Assumes nothing.
use mathlib.Core.Path.{◌≡◌, refl, sym, ap, ◌∙◌, subst}
use mathlib.Core.Logic.{◌⊎◌}
use mathlib.Core.Bool.{Bool, true, not, ◌&&◌}
use mathlib.Core.List.{List, [], ◌∷◌}
use Prim.Native.Nat.{ℕ}
use Rattle.linking.specs.Link.{Outcome}
use Rattle.linking.specs.Numbers.{Filled}
use Rattle.matching.specs.Filling.{Faithful}
use Rattle.calls.specs.Calls.{Call, link, numbered, bytewise, State, start, outcome, numbers_left, step, left, ByNumbers}
use Rattle.calls.specs.OldRun.{left_before, answers_now, clashes, none_clashes}
use Rattle.calls.specs.OneSlot.{AsBefore}
use Rattle.calls.specs.RunsAgree.{Agree}
use Rattle.calls.specs.Elsewhere.{Roomy, SameAnswer, now, before, Clashing, IsElsewhere, AllRoomy, Elsewhere}
use Rattle.calls.proofs.RunsAgree.{outcomes-agree, steps-agree, next-faithful, faithful, runs-agree}
use Rattle.calls.proofs.OldRun.{as_before_by_bytes}
use Rattle.calls.proofs.ElsewhereAll.{elsewhere_by_bytes}

module _ (ws abi area missing ns : List ℕ) (filled : Filled ws abi ns) (calls : List Call) where
  agree : Agree ws abi area missing ns
  agree = runs-agree ws abi area missing ns filled

  abbrev Meets : ℕ → List ℕ → List Call → State → Type 0
  Meets c stubs front s = (clashes abi s (link c stubs) ≡ true) ⊎ (clashes abi (left_before ws abi area missing front) (link c stubs) ≡ true)

  clashing_to_bytes : (c : ℕ) → Clashing (numbered ns) ws abi area missing calls c → Clashing bytewise ws abi area missing calls c
  clashing_to_bytes c x = record {
    front = x.front;
    back = x.back;
    stubs = x.stubs;
    split = x.split;
    clash = subst (Meets c x.stubs x.front) (agree.leaves x.front) x.clash;
  }

  clashing_by_numbers : (c : ℕ) → Clashing bytewise ws abi area missing calls c → Clashing (numbered ns) ws abi area missing calls c
  clashing_by_numbers c x = record {
    front = x.front;
    back = x.back;
    stubs = x.stubs;
    split = x.split;
    clash = subst (Meets c x.stubs x.front) (sym (agree.leaves x.front)) x.clash;
  }

  pub elsewhere_to_bytes : (k : Call) → IsElsewhere (numbered ns) ws abi area missing calls k → IsElsewhere bytewise ws abi area missing calls k
  elsewhere_to_bytes k h c i l d j x = h c i l d j (clashing_by_numbers d x)

  pub elsewhere_by_numbers : (k : Call) → IsElsewhere bytewise ws abi area missing calls k → IsElsewhere (numbered ns) ws abi area missing calls k
  elsewhere_by_numbers k h c i l d j x = h c i l d j (clashing_to_bytes d x)

  pub roomy_to_bytes : AllRoomy (numbered ns) ws abi area missing calls → AllRoomy bytewise ws abi area missing calls
  roomy_to_bytes h front back k e here =
      let r = h front back k e (elsewhere_by_numbers k here) in
      (subst Roomy (agree.answers front k) r.0, r.1)

  pub roomy_by_numbers : AllRoomy bytewise ws abi area missing calls → AllRoomy (numbered ns) ws abi area missing calls
  roomy_by_numbers h front back k e here =
      let r = h front back k e (elsewhere_to_bytes k here) in
      (subst Roomy (sym (agree.answers front k)) r.0, r.1)

-- ---- calls none of which clashes

module _ (abi : List ℕ) where
  answers_as_bytes : (calls : List Call) (ns : List ℕ) (s : State) → Faithful s.set abi ns
      → answers_now (numbered ns) abi calls s ≡ answers_now bytewise abi calls s
  unfolding answers_now
  answers_as_bytes [] ns s f = refl
  answers_as_bytes (k ∷ ks) ns s f =
      let t = step (numbered ns) abi s k in
      ap (λ (os : List (Outcome × State)). (outcome (numbered ns) abi s k, t) ∷ os)
      (answers_as_bytes ks (numbers_left ns abi s k) t (next-faithful abi ns s f k))
      ∙ ap (λ (o : Outcome). (o, t) ∷ answers_now bytewise abi ks t) (outcomes-agree abi ns s f k)
      ∙ ap (λ (u : State). (outcome bytewise abi s k, u) ∷ answers_now bytewise abi ks u) (steps-agree abi ns s f k)

  none_by_bytes : (calls : List Call) (ns : List ℕ) (s : State) → Faithful s.set abi ns
      → none_clashes (numbered ns) abi calls s ≡ none_clashes bytewise abi calls s
  unfolding none_clashes
  none_by_bytes [] ns s f = refl
  none_by_bytes (k ∷ ks) ns s f =
      let t = step (numbered ns) abi s k in
      ap (λ (b : Bool). not (clashes abi s k) && b) (none_by_bytes ks (numbers_left ns abi s k) t (next-faithful abi ns s f k))
      ∙ ap (λ (u : State). not (clashes abi s k) && none_clashes bytewise abi ks u) (steps-agree abi ns s f k)

pub run_as_before : ByNumbers AsBefore
run_as_before ws abi area missing ns filled calls h =
    let f = faithful ws abi area missing ns filled in
    let s = start ws area missing in
    answers_as_bytes abi calls ns s f ∙ as_before_by_bytes abi calls s (sym (none_by_bytes abi calls ns s f) ∙ h)

-- THE THEOREM
pub elsewhere : Elsewhere
elsewhere ws abi area missing ns filled unlinked calls roomy front back k e here =
    let a = runs-agree ws abi area missing ns filled in
    let t = left_before ws abi area missing front in
    let b = elsewhere_by_bytes ws abi area missing unlinked calls (roomy_to_bytes ws abi area missing ns filled calls roomy) front back k e
    (elsewhere_to_bytes ws abi area missing ns filled calls k here) in
    subst (λ (s : State). SameAnswer k s.area t.area (now (numbered ns) ws abi area missing front k) (before ws abi area missing front k)) (sym (a.leaves front))
    (subst (λ (o : Outcome). SameAnswer k (left bytewise ws abi area missing front).area t.area o (before ws abi area missing front k))
    (sym (a.answers front k)) b)
