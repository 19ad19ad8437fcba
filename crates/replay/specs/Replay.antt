-- A list of links and asks as words, and what the calls answer one after the other: the state between two calls and what each leaves are
-- `calls`' own (Calls.antt). Assumes nothing.
use Rattle.std.specs.Prelude.{ℕ, zero, suc, ◌*◌, ◌/◌, ◌≡◌, cond, List, [], ◌∷◌, ◌++◌, length, get_or, take, drop, eqb, Result, Ok, Err}
use Rattle.words.specs.Lists.{list_from}
use Rattle.linking.specs.Link.{Outcome}
use Rattle.area.specs.declared.Answer.{Answer}
use Rattle.refusal.specs.declared.Refusal.{Refusal}
use Rattle.refusal.specs.Rows.{row}
use Rattle.area.specs.Area as area
use Rattle.calls.specs.Calls.{Call, link, ask, Way, numbered, State, outcome, missing_after, way_after, step, run, numbers_run}

-- ---- calls as words

-- the stub list of five words: so many of the lent stubs, from the first on, as many of them as are there
abbrev pub stub_list : List ℕ → List ℕ → List ℕ
stub_list k stubs = take (get_or k 4 0) (drop (get_or k 3 0) stubs)

-- five words are a call: kind (0 a link, another an ask), class, interface, first stub, number of stubs
unfoldable pub call_of : List ℕ → List ℕ → Call
call_of k stubs = cond (eqb (get_or k 0 0) 0) (link (get_or k 1 0) (stub_list k stubs)) (ask (get_or k 1 0) (get_or k 2 0) (stub_list k stubs))

unfoldable pub call_at : List ℕ → List ℕ → ℕ → Call
call_at calls stubs i = call_of (take 5 (drop (5 * i) calls)) stubs

-- as many calls as there are whole fives
unfoldable pub calls_of : List ℕ → List ℕ → List Call
calls_of calls stubs = list_from (call_at calls stubs) 0 (length calls / 5)

-- ---- what they answer

-- what an answer stands for, with the memory that its call leaves
abbrev pub Called : Way → List ℕ → State → Call → Result Answer Refusal → List ℕ → List ℕ → List ℕ → Type 0
Called way abi s k a ws ar missing = (area.outcome a ws ar ≡ outcome way abi s k) × (missing ≡ missing_after way abi s k)

-- "An accepted call gives 0 and its result; a refused one gives its number, zero in every other answer word": three words a call
abbrev pub answer_words : Result Answer Refusal → List ℕ
answer_words (Ok a) = 0 ∷ a.first ∷ a.second ∷ []
answer_words (Err refusal) = row refusal ∷ 0 ∷ 0 ∷ []

abbrev pub answer_of : Outcome → List ℕ
answer_of o = o.refusal ∷ o.first ∷ o.second ∷ []

-- the answers of a list of calls, each made in the state that the last one left
unfoldable pub answers_of : Way → List ℕ → List Call → State → List ℕ
answers_of way abi [] s = []
answers_of way abi (k ∷ ks) s = answer_of (outcome way abi s k) ++ answers_of (way_after way abi s k) abi ks (step way abi s k)

-- words laid over the front of others, as far as there is room
unfoldable pub over : List ℕ → List ℕ → List ℕ
over [] old = old
over (x ∷ xs) [] = []
over (x ∷ xs) (y ∷ ys) = x ∷ over xs ys

-- the same from a place on
unfoldable pub over_at : ℕ → List ℕ → List ℕ → List ℕ
over_at zero new old = over new old
over_at (suc at) new [] = []
over_at (suc at) new (y ∷ ys) = y ∷ over_at at new ys

-- ---- what `replay` leaves of all that it is lent: the set, the area and the counts, the list of numbers, and the answers

pub record Replay : Type 0 where
  pub state : State
  pub numbers : List ℕ
  pub answers : List ℕ

abbrev pub leaving : State → List ℕ → List ℕ → Replay
leaving s numbers answers = record { state = s; numbers = numbers; answers = answers }

-- the calls are made in turn, by the numbers of the list, each on what the last one left; their answers are laid over the lent ones
unfoldable pub replay_def : List ℕ → List ℕ → State → List Call → List ℕ → Replay
replay_def numbers abi s calls answers =
    leaving (run (numbered numbers) abi calls s) (numbers_run numbers abi calls s) (over (answers_of (numbered numbers) abi calls s) answers)
