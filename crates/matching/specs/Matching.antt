-- The theorems on links and asks by the numbers of signatures: `matching` of proofs/Theorem.antt proves them. Assumes nothing.
use Rattle.std.specs.Prelude.{ℕ, ◌+◌, ◌≤◌, ◌<◌, ◌≡◌, ◌≢◌, ◌⊎◌, List, [], length, get_or}
use Rattle.class_sheet.specs.ClassSheet.{method_limit, class_count, method_count, text_of, class_first_method, class_method_count, method_name, method_descriptor}
use Rattle.abi_sheet.specs.AbiSheet.{abi_text_of}
use Rattle.set_rules.specs.SetRules.{set_refusal}
use Rattle.linking.specs.Signature.{Place, Same, place_name, place_descriptor, place_number, by_numbers}
use Rattle.linking.specs.Vtable.{table_entries}
use Rattle.linking.specs.Compiler.{Taken, none_taken}
use Rattle.linking.specs.Link.{Plan, planned, plan, refused_call, refused_link, link_by, link_def}
use Rattle.linking.specs.Ask.{ask_by, ask_def}
use Rattle.linking.specs.Whose.{read_declared, slot_class}
use Rattle.linking.specs.Numbers.{number_limit}
use Rattle.linking.specs.Numbered.{leaving, but_numbers, link_numbered, ask_numbered}
use Rattle.matching.specs.Filling.{Used, Faithful}

-- two comparisons give the same on all places used in the two sheets
abbrev pub Agree : List ℕ → List ℕ → Same → Same → Type 0
Agree ws abi same other = (p q : Place) → Used ws abi p → Used ws abi q → same p q ≡ other p q

-- "an added method carries the number of the signature it took, a copied one its own": a list, and what is left of it where class c grows by these methods
pub record Carries (ws : List ℕ) (c : ℕ) (added : List Taken) (numbers left : List ℕ) : Type 0 where
  -- row 14: the places that are written lie below those of ABI slots
  pub below : method_count ws + class_method_count ws c + length added ≤ method_limit
  pub copied : (j : ℕ) → j < class_method_count ws c → get_or left (method_count ws + j) 0 ≡ get_or numbers (class_first_method ws c + j) 0
  pub took : (j : ℕ) → j < length added
      → get_or left (method_count ws + class_method_count ws c + j) 0 ≡ get_or numbers (place_number (get_or added j none_taken).from) 0
  -- no other place is written
  pub others : (n : ℕ) → (n < method_count ws) ⊎ (method_count ws + class_method_count ws c + length added ≤ n) → get_or left n 0 ≡ get_or numbers n 0
  pub many : length left ≡ length numbers

-- the set `left` has the records of these methods, added to class c of the set ws, and each has the name and the descriptor of the place that it takes them from
pub record Signed (ws abi : List ℕ) (c : ℕ) (added : List Taken) (left : List ℕ) : Type 0 where
  pub used : (j : ℕ) → j < length added → Used ws abi (get_or added j none_taken).from
  pub name : (j : ℕ) → j < length added
      → method_name left (text_of left) (method_count ws + class_method_count ws c + j)
      ≡ place_name ws (text_of ws) abi (abi_text_of abi) (get_or added j none_taken).from
  pub descriptor : (j : ℕ) → j < length added
      → method_descriptor left (text_of left) (method_count ws + class_method_count ws c + j)
      ≡ place_descriptor ws (text_of ws) abi (abi_text_of abi) (get_or added j none_taken).from

pub record Matching : Type 0 where
  -- ---- "Every table, index and refusal is shown equal to that of the byte comparison, once over all kinds of class." First by any two comparisons that agree
  -- on used places, of whatever class words, class, area, stubs and list of missing slots
  pub link_agrees : (same other : Same) (ws abi : List ℕ) → Agree ws abi same other → (c : ℕ) (area stubs missing : List ℕ)
      → link_by same ws abi c area stubs missing ≡ link_by other ws abi c area stubs missing
  pub ask_agrees : (same other : Same) (ws abi : List ℕ) → Agree ws abi same other → (c i : ℕ) (area stubs : List ℕ)
      → ask_by same ws abi c i area stubs ≡ ask_by other ws abi c i area stubs
  -- so are, of accepted sheets, the readings of each table, and the class that declares the method which each finds
  pub entries_agree : (same other : Same) (ws abi : List ℕ) → Agree ws abi same other → set_refusal ws abi ≡ 0 → (area : List ℕ) (c : ℕ) → c ≤ class_count ws
      → table_entries same ws (text_of ws) abi (abi_text_of abi) area c ≡ table_entries other ws (text_of ws) abi (abi_text_of abi) area c
  pub declared_agrees : (same other : Same) (ws abi : List ℕ) → Agree ws abi same other → set_refusal ws abi ≡ 0 → (c i w : ℕ) → c ≤ class_count ws
      → read_declared same ws (text_of ws) abi (abi_text_of abi) c i w ≡ read_declared other ws (text_of ws) abi (abi_text_of abi) c i w
  pub class_agrees : (same other : Same) (ws abi : List ℕ) → Agree ws abi same other → set_refusal ws abi ≡ 0 → (area : List ℕ) (c i : ℕ) → c ≤ class_count ws
      → slot_class same ws (text_of ws) abi (abi_text_of abi) area c i ≡ slot_class other ws (text_of ws) abi (abi_text_of abi) area c i
  -- ---- and by the numbers of a list that tells signatures apart as their bytes do
  pub link_numbered_agrees : (ws abi numbers : List ℕ) → Faithful ws abi numbers → (c : ℕ) (area stubs missing : List ℕ)
      → but_numbers (link_numbered ws abi numbers c area stubs missing) ≡ link_def ws abi c area stubs missing
  pub ask_numbered_agrees : (ws abi numbers : List ℕ) → Faithful ws abi numbers → (c i : ℕ) (area stubs : List ℕ)
      → ask_numbered ws abi numbers c i area stubs ≡ ask_def ws abi c i area stubs
  -- ---- a link leaves such a list so, of the set that it leaves; it need not be what a filling of that set gives
  pub link_faithful : (ws abi numbers : List ℕ) → Faithful ws abi numbers → (c : ℕ) (area stubs missing : List ℕ)
      → Faithful (link_numbered ws abi numbers c area stubs missing).outcome.set abi (link_numbered ws abi numbers c area stubs missing).numbers
  -- ---- whatever the list holds: "Slots are matched by these numbers.", and "row 3, there, at links and at asks, also takes a shorter list"
  pub link_matched : (ws abi numbers : List ℕ) → number_limit ≤ length numbers → (c : ℕ) (area stubs missing : List ℕ)
      → but_numbers (link_numbered ws abi numbers c area stubs missing) ≡ link_by (by_numbers numbers) ws abi c area stubs missing
  pub ask_matched : (ws abi numbers : List ℕ) → number_limit ≤ length numbers → (c i : ℕ) (area stubs : List ℕ)
      → ask_numbered ws abi numbers c i area stubs ≡ ask_by (by_numbers numbers) ws abi c i area stubs
  pub link_short : (ws abi numbers : List ℕ) → length numbers < number_limit → (c : ℕ) (area stubs missing : List ℕ)
      → link_numbered ws abi numbers c area stubs missing ≡ leaving (refused_link 3 ws area missing) numbers
  pub ask_short : (ws abi numbers : List ℕ) → length numbers < number_limit → (c i : ℕ) (area stubs : List ℕ)
      → ask_numbered ws abi numbers c i area stubs ≡ refused_call 3 ws area
  -- an accepted link adds the methods of its plan; without any it leaves the list. A refused one leaves it
  pub link_leaves : (ws abi numbers : List ℕ) (c : ℕ) (area stubs missing : List ℕ) (p : Plan)
      → plan (by_numbers numbers) ws (text_of ws) abi (abi_text_of abi) area c ≡ planned p
      → (link_numbered ws abi numbers c area stubs missing).outcome.refusal ≡ 0
      → p.added ≡ [] → (link_numbered ws abi numbers c area stubs missing).numbers ≡ numbers
  pub link_carries : (ws abi numbers : List ℕ) (c : ℕ) (area stubs missing : List ℕ) (p : Plan)
      → plan (by_numbers numbers) ws (text_of ws) abi (abi_text_of abi) area c ≡ planned p
      → (link_numbered ws abi numbers c area stubs missing).outcome.refusal ≡ 0
      → p.added ≢ [] → Carries ws c p.added numbers (link_numbered ws abi numbers c area stubs missing).numbers
  -- the place whose number an added method carries is the one whose name and descriptor its record has
  pub link_signed : (ws abi numbers : List ℕ) (c : ℕ) (area stubs missing : List ℕ) (p : Plan)
      → plan (by_numbers numbers) ws (text_of ws) abi (abi_text_of abi) area c ≡ planned p
      → (link_numbered ws abi numbers c area stubs missing).outcome.refusal ≡ 0
      → Signed ws abi c p.added (link_numbered ws abi numbers c area stubs missing).outcome.set
  pub link_refused : (ws abi numbers : List ℕ) (c : ℕ) (area stubs missing : List ℕ)
      → (link_numbered ws abi numbers c area stubs missing).outcome.refusal ≢ 0 → (link_numbered ws abi numbers c area stubs missing).numbers ≡ numbers
  -- ---- no accepted link, by whatever comparison and with whatever list, leaves a set that rows 3 to 5 refuse; an ask leaves the set
  pub link_stays : (same : Same) (ws abi : List ℕ) (c : ℕ) (area stubs missing : List ℕ) → (link_by same ws abi c area stubs missing).outcome.refusal ≡ 0
      → set_refusal (link_by same ws abi c area stubs missing).outcome.set abi ≡ 0
  pub numbered_stays : (ws abi numbers : List ℕ) (c : ℕ) (area stubs missing : List ℕ)
      → (link_numbered ws abi numbers c area stubs missing).outcome.refusal ≡ 0
      → set_refusal (link_numbered ws abi numbers c area stubs missing).outcome.set abi ≡ 0
  pub ask_leaves : (ws abi numbers : List ℕ) (c i : ℕ) (area stubs : List ℕ) → (ask_numbered ws abi numbers c i area stubs).set ≡ ws
