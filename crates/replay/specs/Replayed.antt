-- DEMAND 3 OF WHAT `replay` LEAVES: `Replayed`, at the end, is the statement; proofs/Demand.antt proves it from demand 3 (crate calls) and the
-- contract of `replay`. Assumes nothing.
use Rattle.std.specs.Prelude.{ℕ, ◌+◌, ◌*◌, ◌/◌, ◌<◌, ◌≡◌, ◌≢◌, List, length, get_or, None}
use Rattle.class_sheet.specs.ClassSheet.{text_of}
use Rattle.abi_sheet.specs.AbiSheet.{abi_text_of}
use Rattle.linking.specs.Chain.{parent_of}
use Rattle.linking.specs.Abi.{class_abi}
use Rattle.slots.specs.Slots.{OldRule, Unique, Kept}
use Rattle.linking.specs.Numbers.{Filled}
use Rattle.calls.specs.Calls.{Call, numbered, start, Unlinked, table_at}
use Rattle.calls.specs.Demand.{Linked, Conditions}
use Rattle.replay.specs.Replay.{calls_of, Replay, replay_def}

-- "A class is linked in the list if a link of it there is accepted": in the words of a call and of its answers
pub record Told (calls answers : List ℕ) (c place slots : ℕ) : Type 0 where
  pub call : ℕ
  pub among : call < length calls / 5
  pub is_link : get_or calls (5 * call) 0 ≡ 0
  pub class_is : get_or calls (5 * call + 1) 0 ≡ c
  pub room : 3 * call + 2 < length answers
  pub accepted : get_or answers (3 * call) 0 ≡ 0
  pub place_is : get_or answers (3 * call + 1) 0 ≡ place
  pub slots_is : get_or answers (3 * call + 2) 0 ≡ slots

-- the sheets, the area, the counts and the list of numbers at the start, the calls, and the area that is left
module _ (ws abi area missing numbers : List ℕ) (calls : List Call) (area' : List ℕ) where
  -- the parent is linked in the list, and whatever link of it was accepted, the child's table keeps the known slots of the parent's
  pub record Keeps (c place slots : ℕ) : Type 0 where
    pub parent_place : ℕ
    pub parent_slots : ℕ
    pub parent_linked : Linked (numbered numbers) ws abi area missing calls (parent_of ws c) parent_place parent_slots
    pub kept : (p n : ℕ) → Linked (numbered numbers) ws abi area missing calls (parent_of ws c) p n
        → Kept ws (text_of ws) abi (abi_text_of abi) c (table_at area' place slots) (table_at area' p n)

  -- demand 3's claim, of the tables in the area that `replay` leaves
  pub record Holds (c place slots : ℕ) : Type 0 where
    pub unique : OldRule ws c → Unique ws (text_of ws) abi (abi_text_of abi) c (table_at area' place slots)
    pub keeps_parent : parent_of ws c ≢ 0 → class_abi ws (text_of ws) abi (abi_text_of abi) c ≡ None → Keeps c place slots
    pub whole : length (table_at area' place slots) ≡ slots

-- for whatever `replay` is lent, with a list of numbers that is filled from the sheets, where the set is unlinked at the start: of what it leaves, the claim
-- holds of every class that the answers tell linked and that meets the conditions
abbrev pub Replayed : Type 0
Replayed =
    (ws abi area missing numbers answers calls stubs : List ℕ) → Filled ws abi numbers → Unlinked ws
    → (left : Replay) → left ≡ replay_def numbers abi (start ws area missing) (calls_of calls stubs) answers
    → (c place slots : ℕ) → Told calls left.answers c place slots → Conditions ws abi (calls_of calls stubs) c
    → Holds ws abi area missing numbers (calls_of calls stubs) left.state.area c place slots
