-- HOW MANY SLOTS ARE MISSING, after any list of calls: `MissingKept` and `AskedCount` are the statements; proofs/Missing.antt proves them.
-- `CountIs` says what the words of the list are, `LinkBefore` that all answers stay (proofs/Before.antt), `NoRealMethod` what the
-- desk asks for (proofs/RealMethods.antt). "It is kept in a lent list that no one else writes": `missing` of a state. Assumes nothing.
use Rattle.std.specs.Prelude.{ℕ, ◌*◌, ◌≤◌, ◌<◌, ◌≡◌, ◌≢◌, ◌⊎◌, ◌↔◌, Bool, true, false, List, length, get_or, take, drop}
use Rattle.class_sheet.specs.ClassSheet.{text_of, class_count, class_table_place, class_slot_count, method_target}
use Rattle.abi_sheet.specs.AbiSheet.{abi_text_of}
use Rattle.linking.specs.Signature.{by_sheets}
use Rattle.linking.specs.Vtable.{Entry, empty, built}
use Rattle.linking.specs.Counts.{missing_width, missing_at, missing_bit, missing_short, bit_count, pack_bits}
use Rattle.linking.specs.Link.{HasTable, refused_call, link_def}
use Rattle.linking.specs.Missing.{missing_def, table_by, recounted}
use Rattle.slots.specs.Slots.{ChainMethod}
use Rattle.calls.specs.Calls.{Call, link, Way, bytewise, ByNumbers, State, outcome, left, Unlinked, table_at}
use Rattle.calls.specs.Demand.{Conditions, Linked, table}
use Rattle.calls.specs.Unlisted.{link_unlisted}

-- "counting by the same rule over the chain", of what the calls left, set and area alone
abbrev pub bits_now : List ℕ → State → ℕ → List Bool
bits_now abi s c = recounted (by_sheets s.set abi) s.set (text_of s.set) abi (abi_text_of abi) s.area c

-- class c's table built anew is the table that stands: slot by slot the area's word, or 0 (where it took a stub)
pub record Rebuilt (abi : List ℕ) (s : State) (c : ℕ) : Type 0 where
  pub entries : List Entry
  pub anew : table_by (by_sheets s.set abi) s.set (text_of s.set) abi (abi_text_of abi) s.area c ≡ built entries
  pub many : length entries ≡ class_slot_count s.set c
  pub words : (i : ℕ) → i < length entries
      → ((get_or entries i empty).word ≡ 0)
      ⊎ ((get_or entries i empty).word ≡ get_or (table_at s.area (class_table_place s.set c) (class_slot_count s.set c)) i 0)

-- its 33 words are the count made anew, and the list has room for every class
pub record Counted (abi : List ℕ) (s : State) (c : ℕ) : Type 0 where
  pub words : take missing_width (drop (missing_at c) s.missing) ≡ pack_bits (bits_now abi s c)
  pub many : length (bits_now abi s c) ≡ class_slot_count s.set c
  pub long : missing_width * class_count s.set ≤ length s.missing

-- "shown equal, after any links handed on as in demand 3": every list of links and asks, accepted or refused, from an unlinked sheet, with one ABI
-- sheet and whatever the area and the list hold
pub record KeptBy (way : Way) (ws abi area missing : List ℕ) : Type 0 where
  pub rebuilt : Unlinked ws → (calls : List Call) (c : ℕ) → HasTable (left way ws abi area missing calls).set c
      → Rebuilt abi (left way ws abi area missing calls) c
  pub counted : Unlinked ws → (calls : List Call) (c : ℕ) → HasTable (left way ws abi area missing calls).set c
      → Counted abi (left way ws abi area missing calls) c

abbrev pub MissingKept : Type 0
MissingKept = ByNumbers KeptBy

-- what the 33 words of a class say, wherever a list has them for these bits: "the count, then a bit for each slot, set if counted, lowest first, the rest 0"
pub record CountIs : Type 0 where
  pub count_is : (list : List ℕ) (c : ℕ) (bits : List Bool) → take missing_width (drop (missing_at c) list) ≡ pack_bits bits
      → get_or list (missing_at c) 0 ≡ bit_count bits
  pub bits_are : (list : List ℕ) (c : ℕ) (bits : List Bool) → take missing_width (drop (missing_at c) list) ≡ pack_bits bits
      → (j : ℕ) → j < 1024 → missing_bit list c j ≡ get_or bits j false
  pub rest_zero : (list : List ℕ) (c : ℕ) (bits : List Bool) → take missing_width (drop (missing_at c) list) ≡ pack_bits bits
      → (j : ℕ) → length bits ≤ j → j < 1024 → missing_bit list c j ≡ false

-- "row 15 also takes a shorter list", and that is all that the list changes: answers, set and area are as before there was one, and as with any other. (By bytes,
-- as a link was then.)
pub record LinkBefore : Type 0 where
  -- a link that is lent a list long enough answers and leaves what it did when none was lent
  pub as_before : (ws abi : List ℕ) (c : ℕ) (area stubs list : List ℕ) → missing_short ws list ≡ false
      → (link_def ws abi c area stubs list).outcome ≡ link_unlisted ws abi c area stubs
  -- so does every link of a list of calls that begins with such a list: whatever calls went before, of the set and the area that they left
  pub each_as_before : (ws abi area list : List ℕ) → missing_short ws list ≡ false → (calls : List Call) (c : ℕ) (stubs : List ℕ)
      → outcome bytewise abi (left bytewise ws abi area list calls) (link c stubs)
      ≡ link_unlisted (left bytewise ws abi area list calls).set abi c (left bytewise ws abi area list calls).area stubs
  -- a list that is long enough, whatever it holds
  pub long : (ws abi : List ℕ) (c : ℕ) (area stubs list other : List ℕ) → missing_short ws list ≡ false → missing_short ws other ≡ false
      → (link_def ws abi c area stubs list).outcome ≡ (link_def ws abi c area stubs other).outcome
  -- a shorter one: a link that would be accepted is refused by 15, any other one as it was
  pub short_accepted : (ws abi : List ℕ) (c : ℕ) (area stubs list other : List ℕ) → missing_short ws list ≡ true
      → (link_def ws abi c area stubs other).outcome.refusal ≡ 0 → (link_def ws abi c area stubs list).outcome ≡ refused_call 15 ws area
  pub short_refused : (ws abi : List ℕ) (c : ℕ) (area stubs list other : List ℕ) → missing_short ws list ≡ true
      → (link_def ws abi c area stubs other).outcome.refusal ≢ 0 → (link_def ws abi c area stubs list).outcome ≡ (link_def ws abi c area stubs other).outcome
  -- so, call by call, for any list of calls: whatever calls went before, the next one gives the same answers and leaves the same set and area
  pub calls_before : (ws abi area list other : List ℕ) → missing_short ws list ≡ false → missing_short ws other ≡ false → (calls : List Call) (k : Call)
      → outcome bytewise abi (left bytewise ws abi area list calls) k ≡ outcome bytewise abi (left bytewise ws abi area other calls) k
  pub calls_leave : (ws abi area list other : List ℕ) → missing_short ws list ≡ false → missing_short ws other ≡ false → (calls : List Call)
      → ((left bytewise ws abi area list calls).set ≡ (left bytewise ws abi area other calls).set) × ((left bytewise ws abi area list calls).area ≡ (left bytewise ws abi area other calls).area)

-- "Asking reads that one number, shown equal .. to counting by the same rule over the chain."
abbrev pub AskedBy : Way → List ℕ → List ℕ → List ℕ → List ℕ → Type 0
AskedBy way ws abi area missing =
    Unlinked ws → (calls : List Call) (c : ℕ) → HasTable (left way ws abi area missing calls).set c
    → missing_def (left way ws abi area missing calls).set abi (left way ws abi area missing calls).missing c
    ≡ record { refusal = 0; count = bit_count (bits_now abi (left way ws abi area missing calls) c) }

abbrev pub AskedCount : Type 0
AskedCount = ByNumbers AskedBy

-- "how many of a class's slots hold no real method": under demand 3's conditions a slot is counted if and only if its word is the target of no method of the
-- chain
abbrev pub NoRealBy : Way → List ℕ → List ℕ → List ℕ → List ℕ → Type 0
NoRealBy way ws abi area missing =
    Unlinked ws → (calls : List Call) (c place slots : ℕ) → Linked way ws abi area missing calls c place slots → Conditions ws abi calls c → (i : ℕ) → i < slots
    → (missing_bit (left way ws abi area missing calls).missing c i ≡ true)
    ↔ ((m : ℕ) → ChainMethod ws c m → method_target ws m ≢ get_or (table way ws abi area missing calls place slots) i 0)

abbrev pub NoRealMethod : Type 0
NoRealMethod = ByNumbers NoRealBy
