-- Laws of calls told in words, made in turn. A loop's invariant is that the rest of the calls, from the state so far on, leaves and answers
-- what all of them do. Assumes nothing.
use mathlib.Core.Path.{◌≡◌, refl, sym, ap, ◌∙◌}
use mathlib.Core.Logic.{◌≢◌}
use mathlib.Core.Bool.{true, false}
use mathlib.Core.List.{List, [], ◌∷◌, ◌++◌}
use Prim.Native.Nat.{ℕ, zero, suc, ◌+◌, ◌-◌, ◌*◌, ◌/◌, ◌≤◌, ◌<◌}
use native.Mathlib.Omega.{arith}
use native.Mathlib.Numerals.{add-one}
use lib.ListN.{length, get_or, set, take, drop, length-append, length-drop}
use lib.Seq.{take_at, drop_at, drop-drop}
use lib.Dec.{eqb}
use borrow.Author.Tests.{eq-eqb, ne_eqb}
use Rattle.words.proofs.ListLaws.{rest_from, rest-start, rest-turn, rest_end}
use Rattle.linking.specs.Numbered.{NumberedOutcome, link_numbered, ask_numbered}
use Rattle.link.specs.Stored.{numbered_outcome}
use Rattle.area.specs.Area as area
use Rattle.area.specs.declared.Answer.{Answer}
use Rattle.std.specs.Prelude.{Result, Ok, Err}
use Rattle.refusal.specs.declared.Refusal.{Refusal}
use Rattle.calls.specs.Calls.{Call, Way, numbered, State, start, outcome, numbers_left, step, run, numbers_run}
use Rattle.replay.specs.Replay.{stub_list, call_of, call_at, calls_of, Called, answer_words, answer_of, answers_of, over, over_at, Replay, leaving, replay_def}

-- ---- words laid over others

pub over-end : (at : ℕ) (old : List ℕ) → over_at at [] old ≡ old
unfolding over_at over
over-end zero old = refl
over-end (suc at) [] = refl
over-end (suc at) (y ∷ ys) = ap (λ (t : List ℕ). y ∷ t) (over-end at ys)

-- the first of them stored, the others laid after it
over-suc : (at a : ℕ) (xs old : List ℕ) → over_at at (a ∷ xs) old ≡ over_at (suc at) xs (set old at a)
unfolding over_at over
over-suc zero a xs [] = refl
over-suc zero a xs (y ∷ ys) = refl
over-suc (suc at) a xs [] = refl
over-suc (suc at) a xs (y ∷ ys) = ap (λ (t : List ℕ). y ∷ t) (over-suc at a xs ys)

over-more : (at a : ℕ) (xs old : List ℕ) → over_at at (a ∷ xs) old ≡ over_at (at + 1) xs (set old at a)
over-more at a xs old = rw add-one (over-suc at a xs old)

-- three words stored in turn, the others laid after them
pub three : (at a b d : ℕ) (xs old : List ℕ)
    → over_at at (a ∷ b ∷ d ∷ xs) old ≡ over_at (at + 3) xs (set (set (set old at a) (at + 1) b) (at + 2) d)
three at a b d xs old =
    let e : at + 1 + 1 ≡ at + 2 = omega arith in
    let f : at + 2 + 1 ≡ at + 3 = omega arith in
    over-more at a (b ∷ d ∷ xs) old
    ∙ over-more (at + 1) b (d ∷ xs) (set old at a)
    ∙ ap (λ (k : ℕ). over_at k (d ∷ xs) (set (set old at a) (at + 1) b)) e
    ∙ over-more (at + 2) d xs (set (set old at a) (at + 1) b)
    ∙ ap (λ (k : ℕ). over_at k xs (set (set (set old at a) (at + 1) b) (at + 2) d)) f

pub stored : (at a b d : ℕ) (old : List ℕ) {x y z : List ℕ} → x ≡ set old at a → y ≡ set x (at + 1) b → z ≡ set y (at + 2) d
    → z ≡ over_at at (a ∷ b ∷ d ∷ []) old
stored at a b d old e f g =
    rw (g, f, e) (sym (three at a b d [] old ∙ over-end (at + 3) (set (set (set old at a) (at + 1) b) (at + 2) d)))

-- words laid after others
over-rest : (xs ys old : List ℕ) → over (xs ++ ys) old ≡ over_at (length xs) ys (over xs old)
unfolding over over_at
over-rest [] ys old = refl
over-rest (x ∷ xs) ys [] = refl
over-rest (x ∷ xs) ys (y ∷ old) = ap (λ (t : List ℕ). x ∷ t) (over-rest xs ys old)

over-append : (at : ℕ) (xs ys old : List ℕ) → over_at at (xs ++ ys) old ≡ over_at (at + length xs) ys (over_at at xs old)
unfolding over_at
over-append zero xs ys old = let e : 0 + length xs ≡ length xs = omega arith in rw e (over-rest xs ys old)
over-append (suc at) xs ys [] = let e : suc at + length xs ≡ suc (at + length xs) = omega arith in rw e refl
over-append (suc at) xs ys (y ∷ old) =
    let e : suc at + length xs ≡ suc (at + length xs) = omega arith in rw e (ap (λ (t : List ℕ). y ∷ t) (over-append at xs ys old))

answer-over : (a : Result Answer Refusal) (at : ℕ) (xs old : List ℕ)
    → over_at at (answer_words a ++ xs) old ≡ over_at (at + 3) xs (over_at at (answer_words a) old)
answer-over (Ok a) at xs old = over-append at (answer_words (Ok a)) xs old
answer-over (Err k) at xs old = over-append at (answer_words (Err k)) xs old

-- ---- an answer and the outcome that it stands for

answer-is : (a : Result Answer Refusal) (ws ar : List ℕ) → answer_of (area.outcome a ws ar) ≡ answer_words a
answer-is (Ok a) ws ar = refl
answer-is (Err k) ws ar = refl

set_is : (a : Result Answer Refusal) (ws ar : List ℕ) → (area.outcome a ws ar).set ≡ ws
set_is (Ok a) ws ar = refl
set_is (Err k) ws ar = refl

area-is : (a : Result Answer Refusal) (ws ar : List ℕ) → (area.outcome a ws ar).area ≡ ar
area-is (Ok a) ws ar = refl
area-is (Err k) ws ar = refl

-- ---- one call

module _ (ws abi ns ar missing call stubs : List ℕ) {kind c first n : ℕ} {lent : List ℕ} (kind-is : kind ≡ get_or call 0 0) (class-is : c ≡ get_or call 1 0)
    (first-is : first ≡ get_or call 3 0) (count_is : n ≡ get_or call 4 0) (lent_is : lent ≡ take n (drop first stubs)) where
  list-is : lent ≡ stub_list call stubs
  list-is = lent_is ∙ rw (first-is, count_is)

  module _ (a : Result Answer Refusal) (ws' ar' missing' ns' : List ℕ) (z : kind ≡ 0)
      (e : numbered_outcome a ws' ar' missing' ns' ≡ link_numbered ws abi ns c ar lent missing) where
    pub link-told : Called (numbered ns) abi (start ws ar missing) (call_of call stubs) a ws' ar' missing'
    unfolding call_of
    link-told =
        let t : eqb (get_or call 0 0) 0 ≡ true = eq-eqb (get_or call 0 0) 0 (sym kind-is ∙ z) in
        let o = rw (class-is, list-is) at e in
        rw t (ap (λ (x : NumberedOutcome). x.outcome) o, ap (λ (x : NumberedOutcome). x.missing) o)

    pub link-numbers : ns' ≡ numbers_left ns abi (start ws ar missing) (call_of call stubs)
    unfolding call_of
    link-numbers =
        let t : eqb (get_or call 0 0) 0 ≡ true = eq-eqb (get_or call 0 0) 0 (sym kind-is ∙ z) in
        let o = rw (class-is, list-is) at e in
        rw t (ap (λ (x : NumberedOutcome). x.numbers) o)

  pub ask-told : (a : Result Answer Refusal) (ar' : List ℕ) {i : ℕ} → kind ≢ 0 → i ≡ get_or call 2 0
      → area.outcome a ws ar' ≡ ask_numbered ws abi ns c i ar lent → Called (numbered ns) abi (start ws ar missing) (call_of call stubs) a ws ar' missing
  unfolding call_of
  ask-told a ar' z f e =
      let t : eqb (get_or call 0 0) 0 ≡ false = ne_eqb (get_or call 0 0) 0 (λ p. z (kind-is ∙ p)) in
      rw t (rw (class-is, f, list-is) at e, refl)

  pub ask-numbers : kind ≢ 0 → ns ≡ numbers_left ns abi (start ws ar missing) (call_of call stubs)
  unfolding call_of
  ask-numbers z = let t : eqb (get_or call 0 0) 0 ≡ false = ne_eqb (get_or call 0 0) 0 (λ p. z (kind-is ∙ p)) in rw t refl

-- ---- the chunks of five words: `rest` is what is left of the calls from call i on

module _ (calls : List ℕ) (i : ℕ) {rest : List ℕ} (left_is : rest ≡ drop (5 * i) calls) where
  left-many : length rest ≡ length calls - 5 * i
  left-many = ap (λ (l : List ℕ). length l) left_is ∙ length-drop (5 * i) calls

  module _ (call after : List ℕ) (joined : rest ≡ call ++ after) (five : length call ≡ 5) where
    pub chunk-room : 5 * i + 5 ≤ length calls
    chunk-room = let e : length rest ≡ length call + length after = ap (λ (l : List ℕ). length l) joined ∙ length-append call after in omega (arith, left-many)

    pub chunk-is : call ≡ take 5 (drop (5 * i) calls)
    chunk-is = sym (ap (take 5) (sym left_is ∙ joined) ∙ take_at call after 5 five)

    pub chunk-rest : after ≡ drop (5 * (i + 1)) calls
    chunk-rest =
        let e : 5 * i + 5 ≡ 5 * (i + 1) = omega arith in
        sym (ap (λ (n : ℕ). drop n calls) (sym e) ∙ sym (drop-drop 5 (5 * i) calls) ∙ ap (drop 5) (sym left_is ∙ joined) ∙ drop_at call after 5 five)

  pub chunks-end : length rest < 5 → length calls / 5 ≤ i
  chunks-end h = omega (arith, left-many)

-- ---- the calls that are left

module _ (abi calls stubs : List ℕ) where
  unfoldable pub left : ℕ → List Call
  left i = rest_from (call_at calls stubs) 0 (length calls / 5) i

  -- what they leave, their answers laid over those so far
  unfoldable pub left_replay : List ℕ → State → List ℕ → ℕ → Replay
  left_replay ns s old i =
      leaving (run (numbered ns) abi (left i) s) (numbers_run ns abi (left i) s) (over_at (3 * i) (answers_of (numbered ns) abi (left i) s) old)

  left-start : left 0 ≡ calls_of calls stubs
  unfolding left calls_of
  left-start = rest-start (call_at calls stubs) 0 (length calls / 5)

  left-turn : (i : ℕ) → i < length calls / 5 → left i ≡ call_at calls stubs i ∷ left (i + 1)
  unfolding left
  left-turn i h =
      let e : 0 + i ≡ i = omega arith in
      rest-turn (call_at calls stubs) 0 (length calls / 5) i h ∙ ap (λ (k : ℕ). call_at calls stubs k ∷ left (i + 1)) e

  left_end : (i : ℕ) → length calls / 5 ≤ i → left i ≡ []
  unfolding left
  left_end i h = rest_end (call_at calls stubs) 0 (length calls / 5) i h

  pub replay-start : (ns : List ℕ) (s : State) (old : List ℕ) → left_replay ns s old 0 ≡ replay_def ns abi s (calls_of calls stubs) old
  unfolding left_replay replay_def over_at
  replay-start ns s old = rw left-start

  pub replay_end : (i : ℕ) (ns : List ℕ) (s : State) (old : List ℕ) → length calls / 5 ≤ i → leaving s ns old ≡ left_replay ns s old i
  unfolding left_replay run numbers_run answers_of
  replay_end i ns s old h = rw (left_end i h) (ap (leaving s ns) (sym (over-end (3 * i) old)))

  module _ (i : ℕ) (h : i < length calls / 5) {call : List ℕ} (call-is : call ≡ take 5 (drop (5 * i) calls)) (a : Result Answer Refusal) (ns : List ℕ)
      (s : State) (ws' ar' missing' ns' : List ℕ) (e : Called (numbered ns) abi s (call_of call stubs) a ws' ar' missing')
      (kept : ns' ≡ numbers_left ns abi s (call_of call stubs)) where
    made : Called (numbered ns) abi s (call_at calls stubs i) a ws' ar' missing'
    unfolding call_at
    made = rw call-is at e

    numbers_are : ns' ≡ numbers_left ns abi s (call_at calls stubs i)
    unfolding call_at
    numbers_are = rw call-is at kept

    step_is : start ws' ar' missing' ≡ step (numbered ns) abi s (call_at calls stubs i)
    unfolding step
    step_is = rw (← made.0, set_is a ws' ar', area-is a ws' ar', ← made.1)

    run-turn : run (numbered ns') abi (left (i + 1)) (start ws' ar' missing') ≡ run (numbered ns) abi (left i) s
    unfolding run
    run-turn = rw (left-turn i h, step_is, numbers_are)

    numbers-turn : numbers_run ns' abi (left (i + 1)) (start ws' ar' missing') ≡ numbers_run ns abi (left i) s
    unfolding numbers_run
    numbers-turn = rw (left-turn i h, step_is, numbers_are)

    module _ (old : List ℕ) {new : List ℕ} (f : new ≡ over_at (3 * i) (answer_words a) old) where
      answers-turn : over_at (3 * (i + 1)) (answers_of (numbered ns') abi (left (i + 1)) (start ws' ar' missing')) new
          ≡ over_at (3 * i) (answers_of (numbered ns) abi (left i) s) old
      unfolding answers_of
      answers-turn =
          let after : Way = numbered (numbers_left ns abi s (call_at calls stubs i)) in
          let xs = answers_of after abi (left (i + 1)) (step (numbered ns) abi s (call_at calls stubs i)) in
          let g : 3 * (i + 1) ≡ 3 * i + 3 = omega arith in
          let first : over_at (3 * (i + 1)) (answers_of (numbered ns') abi (left (i + 1)) (start ws' ar' missing')) new
          ≡ over_at (3 * i + 3) xs (over_at (3 * i) (answer_words a) old) =
          rw (f, g, step_is, numbers_are) in
          let second : answer_words a ≡ answer_of (outcome (numbered ns) abi s (call_at calls stubs i)) = sym (answer-is a ws' ar') ∙ ap answer_of made.0 in
          first ∙ sym (answer-over a (3 * i) xs old) ∙ ap (λ (t : List ℕ). over_at (3 * i) (t ++ xs) old) second
          ∙ ap (λ (t : List Call). over_at (3 * i) (answers_of (numbered ns) abi t s) old) (sym (left-turn i h))

      pub replay-turn : left_replay ns' (start ws' ar' missing') new (i + 1) ≡ left_replay ns s old i
      unfolding left_replay
      replay-turn = rw (run-turn, numbers-turn, answers-turn)
