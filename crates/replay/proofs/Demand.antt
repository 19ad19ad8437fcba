-- DEMAND 3 OF WHAT `replay` LEAVES (specs/Replayed.antt), from demand 3 and the contract of `replay`. Assumes nothing.
use mathlib.Core.Path.{◌≡◌, refl, sym, ap, ◌∙◌, subst}
use mathlib.Core.Bool.{true}
use mathlib.Core.List.{List, [], ◌∷◌}
use Prim.Native.Nat.{ℕ, zero, suc, ◌+◌, ◌*◌, ◌/◌, ◌<◌}
use native.Mathlib.Omega.{arith}
use lib.ListN.{length, get_or, take, drop}
use lib.Dec.{eqb}
use borrow.Author.Tests.{eq-eqb}
use Rattle.words.specs.Lists.{list_from}
use Rattle.words.proofs.Lists.{part_at}
use Rattle.class_sheet.specs.ClassSheet.{text_of}
use Rattle.abi_sheet.specs.AbiSheet.{abi_text_of}
use Rattle.slots.specs.Slots.{Unique, Kept}
use Rattle.calls.specs.Calls.{Call, link, Way, numbered, State, start, outcome, way_after, step, run, LinkedIn, now, later, table_at}
use Rattle.calls.specs.Demand.{Linked, Claim}
use Rattle.calls.proofs.ByNumbers.{demand_3}
use Rattle.replay.specs.Replay.{stub_list, call_of, call_at, calls_of, answers_of, over, Replay, replay_def}
use Rattle.replay.specs.Replayed.{Told, Holds, Replayed}

-- ---- the answer words tell who is linked

pub over-at : (xs old : List ℕ) (j : ℕ) → j < length xs → j < length (over xs old) → get_or (over xs old) j 0 ≡ get_or xs j 0
unfolding over
over-at [] old j h k = absurd (omega arith)
over-at (x ∷ xs) [] j h k = absurd (omega arith)
over-at (x ∷ xs) (y ∷ ys) zero h k = refl
over-at (x ∷ xs) (y ∷ ys) (suc j) h k = over-at xs ys j (omega arith) (omega arith)

-- the words of a link
call-is : (calls stubs : List ℕ) (i : ℕ) {c : ℕ} → get_or calls (5 * i) 0 ≡ 0 → get_or calls (5 * i + 1) 0 ≡ c
    → call_at calls stubs i ≡ link c (stub_list (take 5 (drop (5 * i) calls)) stubs)
unfolding call_at call_of
call-is calls stubs i e f =
    let z : 5 * i + 0 ≡ 5 * i = omega arith in
    let k : get_or (take 5 (drop (5 * i) calls)) 0 0 ≡ 0 = part_at calls (5 * i) 5 0 0 (omega arith) ∙ ap (λ (j : ℕ). get_or calls j 0) z ∙ e in
    let t : eqb (get_or (take 5 (drop (5 * i) calls)) 0 0) 0 ≡ true = eq-eqb (get_or (take 5 (drop (5 * i) calls)) 0 0) 0 k in
    let g : get_or (take 5 (drop (5 * i) calls)) 1 0 ≡ _ = part_at calls (5 * i) 5 1 0 (omega arith) ∙ f in
    rw (t, g)

module _ (abi : List ℕ) (f : ℕ → Call) where
  -- three words a call
  pub length-answers : (way : Way) (m n : ℕ) (s : State) → length (answers_of way abi (list_from f m n) s) ≡ 3 * n
  unfolding answers_of list_from
  length-answers way m zero s = refl
  length-answers way m (suc n) s = let e = length-answers (way_after way abi s (f m)) (m + 1) n (step way abi s (f m)) in omega arith

  linked-at : (way : Way) (m n : ℕ) (s : State) (i : ℕ) {c place slots : ℕ} {stubs : List ℕ} → i < n → f (m + i) ≡ link c stubs
      → get_or (answers_of way abi (list_from f m n) s) (3 * i) 0 ≡ 0 → get_or (answers_of way abi (list_from f m n) s) (3 * i + 1) 0 ≡ place
      → get_or (answers_of way abi (list_from f m n) s) (3 * i + 2) 0 ≡ slots → LinkedIn abi c place slots way s (list_from f m n)
  unfolding answers_of list_from
  linked-at way m zero s i h e a b d = absurd (omega arith)
  linked-at way m (suc n) s zero {c} {place} {slots} {stubs} h e a b d =
      let z : m + 0 ≡ m = omega arith in
      let g : f m ≡ link c stubs = sym (ap f z) ∙ e in
      let a' : (outcome way abi s (link c stubs)).refusal ≡ 0 = sym (ap (λ (k : Call). (outcome way abi s k).refusal) g) ∙ a in
      let b' : (outcome way abi s (link c stubs)).first ≡ place = sym (ap (λ (k : Call). (outcome way abi s k).first) g) ∙ b in
      let d' : (outcome way abi s (link c stubs)).second ≡ slots = sym (ap (λ (k : Call). (outcome way abi s k).second) g) ∙ d in
      rw g (now stubs a' b' d')
  linked-at way m (suc n) s (suc i) h e a b d =
      let g : m + suc i ≡ m + 1 + i = omega arith in
      let j₀ : 3 * suc i ≡ suc (suc (suc (3 * i))) = omega arith in
      let j₁ : 3 * suc i + 1 ≡ suc (suc (suc (3 * i + 1))) = omega arith in
      let j₂ : 3 * suc i + 2 ≡ suc (suc (suc (3 * i + 2))) = omega arith in
      later (linked-at (way_after way abi s (f m)) (m + 1) n (step way abi s (f m)) i (omega arith) (rw g at e) (rw j₀ at a) (rw j₁ at b) (rw j₂ at d))

module _ (ws abi area missing ns answers calls stubs : List ℕ) (left : Replay)
    (made : left ≡ replay_def ns abi (start ws area missing) (calls_of calls stubs) answers) where
  pub state_is : left.state ≡ run (numbered ns) abi (calls_of calls stubs) (start ws area missing)
  unfolding replay_def
  state_is = ap (λ (x : Replay). x.state) made

  answers-are : left.answers ≡ over (answers_of (numbered ns) abi (calls_of calls stubs) (start ws area missing)) answers
  unfolding replay_def
  answers-are = ap (λ (x : Replay). x.answers) made

  -- the words of the answers, as far as there is room
  pub said : (i : ℕ) → i < length calls / 5 → 3 * i + 2 < length left.answers → (j : ℕ) → j < 3 * i + 3
      → get_or (answers_of (numbered ns) abi (calls_of calls stubs) (start ws area missing)) j 0 ≡ get_or left.answers j 0
  unfolding calls_of
  said i h room j k =
      let s = start ws area missing in
      let xs = answers_of (numbered ns) abi (list_from (call_at calls stubs) 0 (length calls / 5)) s in
      let n = length-answers abi (call_at calls stubs) (numbered ns) 0 (length calls / 5) s in
      let l : length left.answers ≡ length (over xs answers) = ap length answers-are in
      sym (over-at xs answers j (omega arith) (omega arith)) ∙ sym (ap (λ (x : List ℕ). get_or x j 0) answers-are)

  pub told-linked : {c place slots : ℕ} → Told calls left.answers c place slots → Linked (numbered ns) ws abi area missing (calls_of calls stubs) c place slots
  unfolding calls_of
  told-linked {c} {place} {slots} t =
      let i = t.call in
      let words = said i t.among t.room in
      let z : 0 + i ≡ i = omega arith in
      linked-at abi (call_at calls stubs) (numbered ns) 0 (length calls / 5) (start ws area missing) i t.among
      (ap (call_at calls stubs) z ∙ call-is calls stubs i t.is_link t.class_is)
      (words (3 * i) (omega arith) ∙ t.accepted) (words (3 * i + 1) (omega arith) ∙ t.place_is) (words (3 * i + 2) (omega arith) ∙ t.slots_is)

  -- the area that the theorem speaks of is the one left
  area-is : (run (numbered ns) abi (calls_of calls stubs) (start ws area missing)).area ≡ left.state.area
  area-is = sym (ap (λ (s : State). s.area) state_is)

  pub holds : {c place slots : ℕ} → Claim (numbered ns) ws abi area missing (calls_of calls stubs) c place slots
      → Holds ws abi area missing ns (calls_of calls stubs) left.state.area c place slots
  holds {c} {place} {slots} k = record {
    unique = λ old. subst (λ (a : List ℕ). Unique ws (text_of ws) abi (abi_text_of abi) c (table_at a place slots)) area-is (k.unique old);
    keeps_parent = λ n e. let p = k.keeps_parent n e in record {
      parent_place = p.parent_place;
      parent_slots = p.parent_slots;
      parent_linked = p.parent_linked;
      kept = λ q m l. subst (λ (a : List ℕ). Kept ws (text_of ws) abi (abi_text_of abi) c (table_at a place slots) (table_at a q m)) area-is (p.kept q m l);
    };
    whole = sym (ap (λ (a : List ℕ). length (table_at a place slots)) area-is) ∙ k.whole;
  }

-- ---- THE THEOREM

pub replayed_demand : Replayed
replayed_demand ws abi area missing ns answers calls stubs filled unlinked left made c place slots told k =
    holds ws abi area missing ns answers calls stubs left made
    (demand_3 ws abi area missing ns filled unlinked (calls_of calls stubs) c place slots
    (told-linked ws abi area missing ns answers calls stubs left made told) k)
