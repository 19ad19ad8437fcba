-- A run by the numbers of a list that tells signatures apart as their bytes do is the run by bytes, call by call, and leaves such a list. Assumes nothing.
use mathlib.Core.Path.{◌≡◌, refl, sym, ap, ◌∙◌, subst}
use mathlib.Core.List.{List, [], ◌∷◌}
use Prim.Native.Nat.{ℕ}
use native.Mathlib.Omega.{arith}
use lib.Seq.{take_all}
use Rattle.words.specs.Lists.{list_from}
use Rattle.words.proofs.ListLaws.{length-list-from}
use Rattle.class_sheet.specs.ClassSheet.{text_of}
use Rattle.abi_sheet.specs.AbiSheet.{abi_text_of}
use Rattle.linking.specs.Link.{Outcome, LinkOutcome}
use Rattle.linking.specs.Numbers.{number_limit, number_at, numbers_of, Filled}
use Rattle.matching.specs.Filling.{Faithful}
use Rattle.matching.proofs.Filling.{filling}
use Rattle.matching.proofs.Numbered.{link_numbered_agrees, ask_numbered_agrees, link_faithful, ask_leaves}
use Rattle.calls.specs.Calls.{Call, link, ask, numbered, bytewise, State, start, outcome, missing_after, numbers_left, step, run, numbers_run, left, LinkedIn, now, later}
use Rattle.calls.specs.Kept.{AskedIn, asked_now, asked_later}
use Rattle.calls.specs.RunsAgree.{Onward, RunsAgree}

-- ---- one call

module _ (abi ns : List ℕ) (s : State) (f : Faithful s.set abi ns) where
  pub outcomes-agree : (k : Call) → outcome (numbered ns) abi s k ≡ outcome bytewise abi s k
  outcomes-agree (link c stubs) = ap (λ (o : LinkOutcome). o.outcome) (link_numbered_agrees s.set abi ns f c s.area stubs s.missing)
  outcomes-agree (ask c i stubs) = ask_numbered_agrees s.set abi ns f c i s.area stubs

  pub missing-agree : (k : Call) → missing_after (numbered ns) abi s k ≡ missing_after bytewise abi s k
  missing-agree (link c stubs) = ap (λ (o : LinkOutcome). o.missing) (link_numbered_agrees s.set abi ns f c s.area stubs s.missing)
  missing-agree (ask c i stubs) = refl

  pub steps-agree : (k : Call) → step (numbered ns) abi s k ≡ step bytewise abi s k
  unfolding step
  steps-agree k = rw (outcomes-agree k, missing-agree k) refl

  pub next-faithful : (k : Call) → Faithful (step (numbered ns) abi s k).set abi (numbers_left ns abi s k)
  unfolding step
  next-faithful (link c stubs) = link_faithful s.set abi ns c s.area stubs s.missing f
  next-faithful (ask c i stubs) = subst (λ (x : List ℕ). Faithful x abi ns) (sym (ask_leaves s.set abi ns c i s.area stubs)) f

-- ---- lists of calls

module _ (abi : List ℕ) where
  pub runs_as_bytes : (calls : List Call) (ns : List ℕ) (s : State) → Faithful s.set abi ns → run (numbered ns) abi calls s ≡ run bytewise abi calls s
  unfolding run
  runs_as_bytes [] ns s f = refl
  runs_as_bytes (k ∷ ks) ns s f =
      runs_as_bytes ks (numbers_left ns abi s k) (step (numbered ns) abi s k) (next-faithful abi ns s f k)
      ∙ ap (run bytewise abi ks) (steps-agree abi ns s f k)

  pub run-faithful : (calls : List Call) (ns : List ℕ) (s : State) → Faithful s.set abi ns
      → Faithful (run (numbered ns) abi calls s).set abi (numbers_run ns abi calls s)
  unfolding run numbers_run
  run-faithful [] ns s f = f
  run-faithful (k ∷ ks) ns s f = run-faithful ks (numbers_left ns abi s k) (step (numbered ns) abi s k) (next-faithful abi ns s f k)

  -- two states that are the same, of whose set the list tells signatures apart
  onward : (ms : List ℕ) (s t : State) → Faithful s.set abi ms → s ≡ t → Onward abi ms s t
  onward ms s t f e = record {
    answers = λ calls k.
        outcomes-agree abi (numbers_run ms abi calls s) (run (numbered ms) abi calls s) (run-faithful calls ms s f) k
        ∙ ap (λ (x : State). outcome bytewise abi x k) (runs_as_bytes calls ms s f ∙ ap (run bytewise abi calls) e);
    leaves = λ calls. runs_as_bytes calls ms s f ∙ ap (run bytewise abi calls) e;
  }

  -- the links and asks that they accept

  module _ {c p n : ℕ} where
    pub linked_to_bytes : (calls : List Call) (ns : List ℕ) (s : State) → Faithful s.set abi ns
        → LinkedIn abi c p n (numbered ns) s calls → LinkedIn abi c p n bytewise s calls
    linked_to_bytes [] ns s f j = elim j [ ]
    linked_to_bytes (k ∷ ks) ns s f (now stubs x y z) =
        let o = sym (outcomes-agree abi ns s f (link c stubs)) in
        now stubs (ap (λ (o : Outcome). o.refusal) o ∙ x) (ap (λ (o : Outcome). o.first) o ∙ y) (ap (λ (o : Outcome). o.second) o ∙ z)
    linked_to_bytes (k ∷ ks) ns s f (later j) =
        later
        (subst (λ (t : State). LinkedIn abi c p n bytewise t ks) (steps-agree abi ns s f k)
        (linked_to_bytes ks (numbers_left ns abi s k) (step (numbered ns) abi s k) (next-faithful abi ns s f k) j))

    pub linked_by_numbers : (calls : List Call) (ns : List ℕ) (s : State) → Faithful s.set abi ns
        → LinkedIn abi c p n bytewise s calls → LinkedIn abi c p n (numbered ns) s calls
    linked_by_numbers [] ns s f j = elim j [ ]
    linked_by_numbers (k ∷ ks) ns s f (now stubs x y z) =
        let o = outcomes-agree abi ns s f (link c stubs) in
        now stubs (ap (λ (o : Outcome). o.refusal) o ∙ x) (ap (λ (o : Outcome). o.first) o ∙ y) (ap (λ (o : Outcome). o.second) o ∙ z)
    linked_by_numbers (k ∷ ks) ns s f (later j) =
        later
        (linked_by_numbers ks (numbers_left ns abi s k) (step (numbered ns) abi s k) (next-faithful abi ns s f k)
        (subst (λ (t : State). LinkedIn abi c p n bytewise t ks) (sym (steps-agree abi ns s f k)) j))

  module _ {c i place nodes : ℕ} where
    pub asked_to_bytes : (calls : List Call) (ns : List ℕ) (s : State) → Faithful s.set abi ns
        → AskedIn abi c i place nodes (numbered ns) s calls → AskedIn abi c i place nodes bytewise s calls
    asked_to_bytes [] ns s f j = elim j [ ]
    asked_to_bytes (k ∷ ks) ns s f (asked_now stubs x y z) =
        let o = sym (outcomes-agree abi ns s f (ask c i stubs)) in
        asked_now stubs (ap (λ (o : Outcome). o.refusal) o ∙ x) (ap (λ (o : Outcome). o.first) o ∙ y) (ap (λ (o : Outcome). o.second) o ∙ z)
    asked_to_bytes (k ∷ ks) ns s f (asked_later j) =
        asked_later
        (subst (λ (t : State). AskedIn abi c i place nodes bytewise t ks) (steps-agree abi ns s f k)
        (asked_to_bytes ks (numbers_left ns abi s k) (step (numbered ns) abi s k) (next-faithful abi ns s f k) j))

-- ---- from a list that is filled: so is the one that a filling makes

pub filling_filled : (ws abi : List ℕ) → Filled ws abi (numbers_of ws abi)
unfolding numbers_of
filling_filled ws abi =
    let f : ℕ → ℕ = number_at ws (text_of ws) abi (abi_text_of abi) in
    let n = length-list-from f 0 number_limit in
    take_all number_limit (list_from f 0 number_limit) (omega arith)

module _ (ws abi area missing ns : List ℕ) (filled : Filled ws abi ns) where
  pub faithful : Faithful ws abi ns
  faithful = filling.fill_faithful ws abi ns filled

  pub left_as_bytes : (calls : List Call) → left (numbered ns) ws abi area missing calls ≡ left bytewise ws abi area missing calls
  left_as_bytes calls = runs_as_bytes abi calls ns (start ws area missing) faithful

  pub left-faithful : (calls : List Call)
      → Faithful (left (numbered ns) ws abi area missing calls).set abi (numbers_run ns abi calls (start ws area missing))
  left-faithful calls = run-faithful abi calls ns (start ws area missing) faithful

pub runs-agree : RunsAgree
runs-agree ws abi area missing ns filled = record {
  answers = λ calls k.
      outcomes-agree abi (numbers_run ns abi calls (start ws area missing)) (left (numbered ns) ws abi area missing calls)
      (left-faithful ws abi area missing ns filled calls) k
      ∙ ap (λ (s : State). outcome bytewise abi s k) (left_as_bytes ws abi area missing ns filled calls);
  missing_left = λ calls k.
      missing-agree abi (numbers_run ns abi calls (start ws area missing)) (left (numbered ns) ws abi area missing calls)
      (left-faithful ws abi area missing ns filled calls) k
      ∙ ap (λ (s : State). missing_after bytewise abi s k) (left_as_bytes ws abi area missing ns filled calls);
  leaves = left_as_bytes ws abi area missing ns filled;
  faithful = left-faithful ws abi area missing ns filled;
  refilled = λ calls ms again.
      onward abi ms (left (numbered ns) ws abi area missing calls) (left bytewise ws abi area missing calls)
      (filling.fill_faithful (left (numbered ns) ws abi area missing calls).set abi ms again) (left_as_bytes ws abi area missing ns filled calls);
}
