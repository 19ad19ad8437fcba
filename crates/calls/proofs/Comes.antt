-- The calls of a list with the states in which both runs of `Elsewhere` make them, comparing bytes: what the proofs go along. That a call is made so, and that
-- it stands in the list after those in front of it, is the same (`comes_after`, `split_of`). Assumes nothing.
use mathlib.Core.Path.{◌≡◌, refl, ap, subst, sym}
use mathlib.Core.Logic.{◌⊎◌}
use mathlib.Core.Bool.{true}
use mathlib.Core.List.{List, [], ◌∷◌, ◌++◌, Memᴰ}
use Prim.Native.Nat.{ℕ, ◌≤◌}
use Rattle.class_sheet.specs.ClassSheet.{class_count}
use Rattle.linking.specs.Chain.{chain}
use Rattle.calls.specs.Calls.{Call, link, bytewise, State, outcome, start, step, run, left}
use Rattle.calls.specs.OldRun.{outcome_before, step_before, run_before, left_before, clashes}
use Rattle.calls.specs.Elsewhere as spec
use Rattle.calls.specs.Elsewhere.{named, Roomy}

-- k is a call of the list; the linker's run makes it in state s, the old one in state t
pub data Comes (abi : List ℕ) (k : Call) (s t : State) : State → State → List Call → Type 0 where
  now : {ks : List Call} → Comes abi k s t s t (k ∷ ks)
  later : {s' t' : State} {j : Call} {ks : List Call} → Comes abi k s t (step bytewise abi s' j) (step_before abi t' j) ks → Comes abi k s t s' t' (j ∷ ks)

-- what it answers in state s is what it answered in state t
abbrev pub SameAnswer : List ℕ → Call → State → State → Type 0
SameAnswer abi k s t = spec.SameAnswer k s.area t.area (outcome bytewise abi s k) (outcome_before abi t k)

module _ (ws abi area missing : List ℕ) (calls : List Call) where
  abbrev pub Made : Call → State → State → Type 0
  Made k s t = Comes abi k s t (start ws area missing) (start ws area missing) calls

  pub record Clashing (c : ℕ) : Type 0 where
    pub stubs : List ℕ
    pub state : State
    pub before : State
    pub made : Made (link c stubs) state before
    pub clash : (clashes abi state (link c stubs) ≡ true) ⊎ (clashes abi before (link c stubs) ≡ true)

  abbrev pub Clear : ℕ → Type 0
  Clear c = c ≤ class_count ws → (d : ℕ) → Memᴰ d (chain ws c) → Clashing d → ⊥

  abbrev pub IsElsewhere : Call → Type 0
  IsElsewhere k = (c : ℕ) → Memᴰ c (named k) → Clear c

  abbrev pub AllRoomy : Type 0
  AllRoomy = (k : Call) (s t : State) → Made k s t → IsElsewhere k → Roomy (outcome bytewise abi s k) × Roomy (outcome_before abi t k)

-- ---- a call after those in front of it

module _ (abi : List ℕ) where
  pub comes_after : (front back : List Call) (k : Call) (s t : State)
      → Comes abi k (run bytewise abi front s) (run_before abi front t) s t (front ++ (k ∷ back))
  unfolding run run_before
  comes_after [] back k s t = now
  comes_after (j ∷ front) back k s t = later (comes_after front back k (step bytewise abi s j) (step_before abi t j))

  pub record Split (k : Call) (s t s' t' : State) (ks : List Call) : Type 0 where
    pub front : List Call
    pub back : List Call
    pub split : ks ≡ front ++ (k ∷ back)
    pub state : s ≡ run bytewise abi front s'
    pub before : t ≡ run_before abi front t'

  pub split_of : {k : Call} {s t : State} (s' t' : State) (ks : List Call) → Comes abi k s t s' t' ks → Split k s t s' t' ks
  unfolding run run_before
  split_of s' t' [] d = elim d [ ]
  split_of s' t' (j ∷ ks) now = record { front = []; back = ks; split = refl; state = refl; before = refl }
  split_of s' t' (j ∷ ks) (later d) =
      let r = split_of (step bytewise abi s' j) (step_before abi t' j) ks d in
      record { front = j ∷ r.front; back = r.back; split = ap (λ (x : List Call). j ∷ x) r.split; state = r.state; before = r.before }

module _ (ws abi area missing : List ℕ) (calls : List Call) where
  pub made-after : (front back : List Call) (k : Call) → calls ≡ front ++ (k ∷ back)
      → Made ws abi area missing calls k (left bytewise ws abi area missing front) (left_before ws abi area missing front)
  made-after front back k e = rw e (comes_after abi front back k (start ws area missing) (start ws area missing))

  pub clashing-split : (c : ℕ) → Clashing ws abi area missing calls c → spec.Clashing bytewise ws abi area missing calls c
  clashing-split c x =
      let r = split_of abi (start ws area missing) (start ws area missing) calls x.made in
      record {
        front = r.front;
        back = r.back;
        stubs = x.stubs;
        split = r.split;
        clash = rw (← r.state, ← r.before) x.clash;
      }

  pub clashing-made : (c : ℕ) → spec.Clashing bytewise ws abi area missing calls c → Clashing ws abi area missing calls c
  clashing-made c x = record {
    stubs = x.stubs;
    state = left bytewise ws abi area missing x.front;
    before = left_before ws abi area missing x.front;
    made = made-after x.front x.back (link c x.stubs) x.split;
    clash = x.clash;
  }

  pub elsewhere_made : (k : Call) → spec.IsElsewhere bytewise ws abi area missing calls k → IsElsewhere ws abi area missing calls k
  elsewhere_made k h c i l d j x = h c i l d j (clashing-split d x)

  pub elsewhere-split : (k : Call) → IsElsewhere ws abi area missing calls k → spec.IsElsewhere bytewise ws abi area missing calls k
  elsewhere-split k h c i l d j x = h c i l d j (clashing-made d x)

  pub roomy_made : spec.AllRoomy bytewise ws abi area missing calls → AllRoomy ws abi area missing calls
  roomy_made h k s t made here =
      let r = split_of abi (start ws area missing) (start ws area missing) calls made in
      let q = h r.front r.back k r.split (elsewhere-split k here) in
      (subst (λ (x : State). Roomy (outcome bytewise abi x k)) (sym r.state) q.0, subst (λ (x : State). Roomy (outcome_before abi x k)) (sym r.before) q.1)

  pub roomy-split : AllRoomy ws abi area missing calls → spec.AllRoomy bytewise ws abi area missing calls
  roomy-split h front back k e here =
      h k (left bytewise ws abi area missing front) (left_before ws abi area missing front) (made-after front back k e) (elsewhere_made k here)
