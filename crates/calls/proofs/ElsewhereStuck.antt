-- Two runs whose sheet or area is refused at the start (rows 3 to 5, or 7): every call is refused in both, and nothing moves. Assumes nothing.
use mathlib.Core.Path.{◌≡◌, refl, sym, ap, ◌∙◌, subst}
use mathlib.Core.Logic.{◌≢◌, ◌⊎◌, inl, inr}
use mathlib.Core.Bool.{true, false}
use mathlib.Core.List.{List, [], ◌∷◌}
use Prim.Native.Nat.{ℕ}
use lib.Dec.{eqb}
use borrow.Author.Tests.{eqb-true, eqb-false, ne_eqb}
use Rattle.words.proofs.Bools.{by}
use Rattle.class_sheet.specs.ClassSheet.{text_of}
use Rattle.set_rules.specs.SetRules.{set_refusal}
use Rattle.linking.specs.Before.{reaches_table, link_clashes}
use Rattle.linking.specs.Link.{bad_class, bad_area, Outcome, LinkOutcome, refused_link, link_def, link_by}
use Rattle.linking.specs.Ask.{bad_ask, ask_def, ask_by}
use Rattle.calls.specs.Calls.{Call, link, ask, bytewise, State, outcome, start, step, Unlinked, table_at}
use Rattle.calls.specs.OldRun.{outcome_before, step_before, clashes}
use Rattle.calls.specs.Elsewhere.{slots_of, takes}
use Rattle.calls.proofs.Comes.{Comes, now, later, SameAnswer, Made, IsElsewhere, AllRoomy}
use Rattle.calls.proofs.OldRun.{outcome_as_before, step_as_before}
use Rattle.calls.proofs.Elsewhere.{ask-set, InStep, elsewhere-by, start_in_step}

module _ (abi : List ℕ) (b : State) (bad : (set_refusal b.set abi ≢ 0) ⊎ (bad_area b.set b.area ≡ true)) where
  no_clash : (c : ℕ) → link_clashes b.set abi b.area c ≡ false
  unfolding link_clashes reaches_table
  no_clash c =
      elim bad [
        | inl n ↦ rw (ne_eqb (set_refusal b.set abi) 0 n) refl
        | inr a ↦
            by (eqb (set_refusal b.set abi) 0)
            (λ v. by (bad_class b.set (text_of b.set) c) (λ t. rw (v, t) refl) (λ t. rw (v, t, a) refl))
            (λ v. rw v refl)
      ]

  link_stuck : (c : ℕ) (stubs : List ℕ)
      → (n : ℕ) × (link_def b.set abi c b.area stubs b.missing ≡ refused_link n b.set b.area b.missing)
  unfolding link_def link_by
  link_stuck c stubs =
      elim bad [
        | inl n ↦ (set_refusal b.set abi, rw (ne_eqb (set_refusal b.set abi) 0 n) refl)
        | inr a ↦
            by (eqb (set_refusal b.set abi) 0)
            (λ v. by (bad_class b.set (text_of b.set) c) (λ t. (6, rw (v, t) refl)) (λ t. (7, rw (v, t, a) refl)))
            (λ v. (set_refusal b.set abi, rw v refl))
      ]

  ask-area : (c i : ℕ) (stubs : List ℕ) → (ask_def b.set abi c i b.area stubs).area ≡ b.area
  unfolding ask_def ask_by
  ask-area c i stubs =
      elim bad [
        | inl n ↦ rw (ne_eqb (set_refusal b.set abi) 0 n) refl
        | inr a ↦
            by (eqb (set_refusal b.set abi) 0)
            (λ v. by (bad_ask b.set c i) (λ t. rw (v, t) refl) (λ t. rw (v, t, a) refl))
            (λ v. rw v refl)
      ]

  never-clashes : (k : Call) → clashes abi b k ≡ false
  never-clashes (link c stubs) = no_clash c
  never-clashes (ask c i stubs) = refl

  same_outcome : (k : Call) → outcome bytewise abi b k ≡ outcome_before abi b k
  same_outcome k = outcome_as_before abi b k (never-clashes k)

  step_stuck : (k : Call) → step bytewise abi b k ≡ b
  unfolding step
  step_stuck (link c stubs) =
      ap (λ (o : LinkOutcome). record { set = o.outcome.set; area = o.outcome.area; missing = o.missing }) (link_stuck c stubs).1
  step_stuck (ask c i stubs) = rw (ask-set b.set abi c i b.area stubs, ask-area c i stubs) refl

  before_stuck : (k : Call) → step_before abi b k ≡ b
  before_stuck k = sym (step_as_before abi b k (never-clashes k)) ∙ step_stuck k

  along : {k : Call} {s t : State} (ks : List Call) → Comes abi k s t b b ks → (s ≡ b) × (t ≡ b)
  along [] c = elim c [ ]
  along (j ∷ ks) now = (refl, refl)
  along {k} {s} {t} (j ∷ ks) (later d) =
      along ks
      (subst (λ (y : State). Comes abi k s t b y ks) (before_stuck j)
      (subst (λ (x : State). Comes abi k s t x (step_before abi b j) ks) (step_stuck j) d))

  pub stuck_answer : (ks : List Call) (k : Call) (s t : State) → Comes abi k s t b b ks → SameAnswer abi k s t
  stuck_answer ks k s t d =
      let e = along ks d in
      let q = same_outcome k in
      rw (e.0, e.1)
      (record {
        refusal = ap (λ (o : Outcome). o.refusal) q;
        takes = ap (λ (o : Outcome). takes b.area o) q;
        slots = λ z. ap (λ (o : Outcome). slots_of k o) q;
        words = λ z. ap (λ (o : Outcome). table_at o.area o.first (slots_of k o)) q;
      })

-- theorem 6, from one call: whatever the start
pub elsewhere-from : (ws abi area missing : List ℕ) → Unlinked ws → (calls : List Call)
    → ((k : Call) (s t : State) → Made ws abi area missing calls k s t → InStep ws abi area missing calls s t
    → InStep ws abi area missing calls (step bytewise abi s k) (step_before abi t k))
    → AllRoomy ws abi area missing calls → (k : Call) (s t : State) → Made ws abi area missing calls k s t
    → IsElsewhere ws abi area missing calls k → SameAnswer abi k s t
elsewhere-from ws abi area missing none calls next roomy k s t made calm =
    by (eqb (set_refusal ws abi) 0)
    (λ v.
    by (bad_area ws area) (λ a. stuck_answer abi (start ws area missing) (inr a) calls k s t made)
    (λ a.
    elsewhere-by ws abi area missing calls next (start_in_step ws abi area missing calls none (eqb-true (set_refusal ws abi) 0 v) a) roomy k s t made calm))
    (λ v. stuck_answer abi (start ws area missing) (inl (eqb-false (set_refusal ws abi) 0 v)) calls k s t made)
