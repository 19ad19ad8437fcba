-- WHAT `replay` TELLS OF ITS ASKS (specs/Asked.antt): the answer words tell which asks of the list were accepted. Assumes nothing.
use mathlib.Core.Path.{◌≡◌, sym, ap, ◌∙◌, subst}
use mathlib.Core.Bool.{false}
use mathlib.Core.List.{List}
use Prim.Native.Nat.{ℕ, zero, suc, ◌+◌, ◌*◌, ◌/◌, ◌<◌}
use mathlib.Core.Logic.{◌≢◌}
use native.Mathlib.Omega.{arith}
use lib.ListN.{length, get_or, take, drop}
use lib.Dec.{eqb}
use borrow.Author.Tests.{ne_eqb}
use Rattle.words.specs.Lists.{list_from}
use Rattle.words.proofs.Lists.{part_at}
use Rattle.calls.specs.Calls.{Call, ask, Way, numbered, State, start, outcome, way_after, step}
use Rattle.calls.specs.Kept.{AskedIn, asked_now, asked_later, AnswerKept}
use Rattle.calls.proofs.Kept.{nodes-bound}
use Rattle.calls.proofs.ByNumbers.{kept-answers}
use Rattle.replay.specs.Replay.{stub_list, call_of, call_at, calls_of, answers_of, Replay, replay_def}
use Rattle.replay.specs.Asked.{ToldAsk, ReplayedNodes, ReplayedTables}
use Rattle.replay.proofs.Demand.{state_is, said}

-- the words of an ask
ask-is : (calls stubs : List ℕ) (k : ℕ) {c i : ℕ} → get_or calls (5 * k) 0 ≢ 0 → get_or calls (5 * k + 1) 0 ≡ c → get_or calls (5 * k + 2) 0 ≡ i
    → call_at calls stubs k ≡ ask c i (stub_list (take 5 (drop (5 * k) calls)) stubs)
unfolding call_at call_of
ask-is calls stubs k n e f =
    let z : 5 * k + 0 ≡ 5 * k = omega arith in
    let w : get_or (take 5 (drop (5 * k) calls)) 0 0 ≡ get_or calls (5 * k) 0 =
    part_at calls (5 * k) 5 0 0 (omega arith) ∙ ap (λ (j : ℕ). get_or calls j 0) z in
    let t : eqb (get_or (take 5 (drop (5 * k) calls)) 0 0) 0 ≡ false = ne_eqb (get_or (take 5 (drop (5 * k) calls)) 0 0) 0 (λ q. n (sym w ∙ q)) in
    let g : get_or (take 5 (drop (5 * k) calls)) 1 0 ≡ _ = part_at calls (5 * k) 5 1 0 (omega arith) ∙ e in
    let h : get_or (take 5 (drop (5 * k) calls)) 2 0 ≡ _ = part_at calls (5 * k) 5 2 0 (omega arith) ∙ f in
    rw (t, g, h)

module _ (abi : List ℕ) (f : ℕ → Call) where
  asked-at : (way : Way) (m n : ℕ) (s : State) (k : ℕ) {c i place nodes : ℕ} {stubs : List ℕ} → k < n → f (m + k) ≡ ask c i stubs
      → get_or (answers_of way abi (list_from f m n) s) (3 * k) 0 ≡ 0 → get_or (answers_of way abi (list_from f m n) s) (3 * k + 1) 0 ≡ place
      → get_or (answers_of way abi (list_from f m n) s) (3 * k + 2) 0 ≡ nodes → AskedIn abi c i place nodes way s (list_from f m n)
  unfolding answers_of list_from
  asked-at way m zero s k h e a b d = absurd (omega arith)
  asked-at way m (suc n) s zero {c} {i} {place} {nodes} {stubs} h e a b d =
      let z : m + 0 ≡ m = omega arith in
      let g : f m ≡ ask c i stubs = sym (ap f z) ∙ e in
      let a' : (outcome way abi s (ask c i stubs)).refusal ≡ 0 = sym (ap (λ (k : Call). (outcome way abi s k).refusal) g) ∙ a in
      let b' : (outcome way abi s (ask c i stubs)).first ≡ place = sym (ap (λ (k : Call). (outcome way abi s k).first) g) ∙ b in
      let d' : (outcome way abi s (ask c i stubs)).second ≡ nodes = sym (ap (λ (k : Call). (outcome way abi s k).second) g) ∙ d in
      rw g (asked_now stubs a' b' d')
  asked-at way m (suc n) s (suc k) h e a b d =
      let g : m + suc k ≡ m + 1 + k = omega arith in
      let j₀ : 3 * suc k ≡ suc (suc (suc (3 * k))) = omega arith in
      let j₁ : 3 * suc k + 1 ≡ suc (suc (suc (3 * k + 1))) = omega arith in
      let j₂ : 3 * suc k + 2 ≡ suc (suc (suc (3 * k + 2))) = omega arith in
      asked_later (asked-at (way_after way abi s (f m)) (m + 1) n (step way abi s (f m)) k (omega arith) (rw g at e) (rw j₀ at a) (rw j₁ at b) (rw j₂ at d))

told-asked : (ws abi area missing ns answers calls stubs : List ℕ) (left : Replay)
    → left ≡ replay_def ns abi (start ws area missing) (calls_of calls stubs) answers → {c i place nodes : ℕ} → ToldAsk calls left.answers c i place nodes
    → AskedIn abi c i place nodes (numbered ns) (start ws area missing) (calls_of calls stubs)
unfolding calls_of
told-asked ws abi area missing ns answers calls stubs left made t =
    let k = t.call in
    let words = said ws abi area missing ns answers calls stubs left made k t.among t.room in
    let z : 0 + k ≡ k = omega arith in
    asked-at abi (call_at calls stubs) (numbered ns) 0 (length calls / 5) (start ws area missing) k t.among
    (ap (call_at calls stubs) z ∙ ask-is calls stubs k t.is_ask t.class_is t.for_interface)
    (words (3 * k) (omega arith) ∙ t.accepted) (words (3 * k + 1) (omega arith) ∙ t.place_is) (words (3 * k + 2) (omega arith) ∙ t.nodes_is)

-- ---- THE THEOREMS

pub replayed_nodes : ReplayedNodes
replayed_nodes ws abi area missing ns answers calls stubs unlinked left made c i place nodes told =
    nodes-bound (numbered ns) ws abi area missing unlinked (calls_of calls stubs) c i place nodes
    (told-asked ws abi area missing ns answers calls stubs left made told)

pub replayed_tables : ReplayedTables
replayed_tables ws abi area missing ns answers calls stubs filled unlinked left made lent same c i place nodes told =
    subst (λ (s : State). AnswerKept abi lent s c i place) (sym (state_is ws abi area missing ns answers calls stubs left made))
    (kept-answers ws abi area missing ns filled lent unlinked (calls_of calls stubs) same c i place nodes
    (told-asked ws abi area missing ns answers calls stubs left made told))
