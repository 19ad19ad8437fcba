-- Every list of calls, accepted or refused: what is linked stays, the invariant holds, and what was linked was linked by a call of the list.
-- Assumes nothing.
use Rattle.std.proofs.Common.{◌≡◌, refl, sym, ◌∙◌, subst, ◌⊎◌, inl, inr, List, [], ◌∷◌, ℕ, eqb, eqb-true}
use mathlib.Core.List.{Memᴰ}
use borrow.Author.Tests.{eqb-false}
use Rattle.words.proofs.Bools.{by}
use Rattle.class_sheet.specs.ClassSheet.{class_table_place, class_slot_count}
use Rattle.set_rules.specs.Valid.{Valid}
use Rattle.linking.specs.Link.{HasTable, Outcome, LinkOutcome, link_def}
use Rattle.linking.specs.Ask.{ask_def}
use Rattle.calls.specs.Calls.{Call, link, ask, bytewise, State, step, run, LinkedIn, now, later, Lent, lent_now, lent_later, stubs_of}
use Rattle.calls.proofs.Rows.{link-cases, PutsNode, ask-cases}
use Rattle.calls.proofs.Tables.{Keeps, keeps_same, still, keeps-next, link-keeps, new-place, new-slots, new-linked, was, ask-next, ask-keeps, ask-tables, same-state}
use Rattle.calls.proofs.Runs.{Inv, made-keeps, link-inv}

module _ (ws₀ abi : List ℕ) (valid₀ : Valid ws₀) (P : ℕ → Type 0) where
  -- ---- an ask keeps what is linked

  ask-inv : (s : State) → (inv : Inv ws₀ abi valid₀ P s) → (c i : ℕ) (stubs : List ℕ) (o : Outcome) → PutsNode s.set abi c i s.area stubs o
      → Inv ws₀ abi valid₀ P (record { set = s.set; area = o.area; missing = s.missing })
  ask-inv s inv c i stubs o asked = record {
    tables = ask-tables abi s inv.tables c i stubs o asked;
    like = inv.like;
    made = λ d l p. made-keeps ws₀ abi valid₀ P inv (ask-keeps abi s inv.tables c i stubs o asked) d l p;
    fits = inv.fits;
  }

  -- ---- one call

  pub record Goes (s s' : State) : Type 0 where
    pub keeps : Keeps s s'
    pub inv : Inv ws₀ abi valid₀ P s'

  stays : (s : State) → Inv ws₀ abi valid₀ P s → (ws area missing : List ℕ) → ws ≡ s.set → area ≡ s.area → missing ≡ s.missing
      → Goes s (record { set = ws; area = area; missing = missing })
  stays s inv ws area missing e f g =
      subst (λ (x : State). Goes s x) (sym (same-state s ws area missing e f g)) (record { keeps = keeps_same s; inv = inv })

  pub step-goes : (s : State) → Inv ws₀ abi valid₀ P s → (k : Call) → ((x : ℕ) → Memᴰ x (stubs_of k) → P x) → Goes s (step bytewise abi s k)
  unfolding step
  step-goes s inv (link c stubs) lent =
      let o : LinkOutcome = link_def s.set abi c s.area stubs s.missing in
      elim (link-cases s.set abi c s.area stubs s.missing) [
        | inl r ↦ stays s inv o.outcome.set o.outcome.area o.missing r.same_set r.same_area r.same-missing
        | inr a ↦ record {
          keeps = link-keeps abi s c stubs o a;
          inv = link-inv ws₀ abi valid₀ P s inv c stubs o a lent;
        }
      ]
  step-goes s inv (ask c i stubs) lent =
      let o : Outcome = ask_def s.set abi c i s.area stubs in
      elim (ask-cases s.set abi c i s.area stubs) [
        | inl r ↦ stays s inv o.set o.area s.missing r.same_set r.same_area refl
        | inr a ↦ subst (λ (x : State). Goes s x) (sym (ask-next abi s inv.tables c i stubs o a))
            (record { keeps = ask-keeps abi s inv.tables c i stubs o a; inv = ask-inv s inv c i stubs o a })
      ]

  -- ---- all of them

  pub run-goes : (ks : List Call) (s : State) → Inv ws₀ abi valid₀ P s → ((x : ℕ) → Lent x ks → P x) → Goes s (run bytewise abi ks s)
  unfolding run
  run-goes [] s inv lent = record { keeps = keeps_same s; inv = inv }
  run-goes (k ∷ ks) s inv lent =
      let one = step-goes s inv k (λ x i. lent x (lent_now i)) in
      let all = run-goes ks (step bytewise abi s k) one.inv (λ x i. lent x (lent_later i)) in
      record { keeps = keeps-next one.keeps all.keeps; inv = all.inv }

  -- ---- the table that a link answered is the class's table after the list

  pub record Answered (s : State) (c p n : ℕ) : Type 0 where
    pub linked : HasTable s.set c
    pub place : class_table_place s.set c ≡ p
    pub slots : class_slot_count s.set c ≡ n

  pub answered : {c p n : ℕ} {s : State} {ks : List Call} → LinkedIn abi c p n bytewise s ks → Inv ws₀ abi valid₀ P s → ((x : ℕ) → Lent x ks → P x)
      → Answered (run bytewise abi ks s) c p n
  unfolding run step
  answered {c} {p} {n} {s} (now {ks = ks} stubs e f g) inv lent =
      elim (link-cases s.set abi c s.area stubs s.missing) [
        | inl r ↦ absurd (r.number e)
        | inr a ↦
            let o : LinkOutcome = link_def s.set abi c s.area stubs s.missing in
            let given : (x : ℕ) → Memᴰ x stubs → P x = λ x i. lent x (lent_now i) in
            let l = new-linked abi s c stubs o a in
            let k = (run-goes ks (record { set = o.outcome.set; area = o.outcome.area; missing = o.missing })
            (link-inv ws₀ abi valid₀ P s inv c stubs o a given) (λ x i. lent x (lent_later i))).keeps in
            record {
              linked = still k c l;
              place = k.place c l ∙ new-place abi s c stubs o a ∙ sym a.answers-place ∙ f;
              slots = k.slots c l ∙ new-slots abi s c stubs o a ∙ sym a.answers-slots ∙ g;
            }
      ]
  answered {s = s} (later {k = k} i) inv lent =
      answered i (step-goes s inv k (λ x j. lent x (lent_now j))).inv (λ x j. lent x (lent_later j))

  -- ---- a class that is linked after the list was linked before it, or in it

  pub record Somewhere (c : ℕ) (s : State) (ks : List Call) : Type 0 where
    pub place : ℕ
    pub slots : ℕ
    pub found : LinkedIn abi c place slots bytewise s ks

  step-new : (s : State) → Inv ws₀ abi valid₀ P s → (k : Call) → ((x : ℕ) → Memᴰ x (stubs_of k) → P x) → (ks : List Call) (d : ℕ)
      → HasTable (step bytewise abi s k).set d → HasTable s.set d ⊎ Somewhere d s (k ∷ ks)
  unfolding step
  step-new s inv (link c stubs) lent ks d l =
      elim (link-cases s.set abi c s.area stubs s.missing) [
        | inl r ↦ inl (subst (λ (x : List ℕ). HasTable x d) r.same_set l)
        | inr a ↦
            by (eqb d c)
            (λ t.
            let e : d ≡ c = eqb-true d c t in
            inr (rw e (record {
              place = (link_def s.set abi c s.area stubs s.missing).outcome.first;
              slots = (link_def s.set abi c s.area stubs s.missing).outcome.second;
              found = now stubs a.number refl refl;
            })))
            (λ f. inl (was abi s c stubs (link_def s.set abi c s.area stubs s.missing) a d (eqb-false d c f) l))
      ]
  step-new s inv (ask c i stubs) lent ks d l =
      elim (ask-cases s.set abi c i s.area stubs) [
        | inl r ↦ inl (subst (λ (x : List ℕ). HasTable x d) r.same_set l)
        | inr a ↦ inl (subst (λ (x : List ℕ). HasTable x d) a.same_set l)
      ]

  pub history : (ks : List Call) (s : State) → Inv ws₀ abi valid₀ P s → ((x : ℕ) → Lent x ks → P x) → (d : ℕ) → HasTable (run bytewise abi ks s).set d
      → HasTable s.set d ⊎ Somewhere d s ks
  unfolding run
  history [] s inv lent d l = inl l
  history (k ∷ ks) s inv lent d l =
      let first : (x : ℕ) → Memᴰ x (stubs_of k) → P x = λ x i. lent x (lent_now i) in
      elim (history ks (step bytewise abi s k) (step-goes s inv k first).inv (λ x i. lent x (lent_later i)) d l) [
        | inl m ↦ step-new s inv k first ks d m
        | inr r ↦ inr (record { place = r.place; slots = r.slots; found = later r.found })
      ]
