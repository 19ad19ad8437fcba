-- TWO INHERITED SIGNATURES ON ONE FIXED SLOT: `OneFixedSlot` is what is said of it. What stands and what follows in such a class is the definition of
-- `relayed`. Assumes nothing.
use Rattle.std.specs.Prelude.{ℕ, ◌≤◌, ◌≡◌, ◌≢◌, ◌⊎◌, true, false, None}
use mathlib.Core.List.{List, ◌∷◌, ◌++◌, Memᴰ}
use Rattle.class_sheet.specs.ClassSheet.{text_of, class_limit}
use Rattle.abi_sheet.specs.AbiSheet.{abi_text_of}
use Rattle.linking.specs.Signature.{methods_same, by_sheets}
use Rattle.linking.specs.Chain.{own_methods, eligible}
use Rattle.linking.specs.Abi.{class_abi, chain_abi}
use Rattle.linking.specs.Vtable.{Entry, refused, parent_entries, occurs, fixed_of, staying_of, inherited_table, add_methods}
use Rattle.linking.specs.Link.{Plan, planned, plan, link_def}
use Rattle.linking.specs.Before.{clash, GaveWay, builds_methods, relays_class, reaches_table, link_clashes, link_before, Moved, Displaced, Stands}
use Rattle.slots.specs.Slots.{Orderly}
use Rattle.calls.specs.Calls.{Call, Way, start, ByNumbers}
use Rattle.calls.specs.OldRun.{answers_now, answers_before, none_clashes}
use Rattle.calls.specs.Elsewhere.{Elsewhere}

abbrev pub chain_entries : List ℕ → List ℕ → ℕ → List ℕ
chain_entries ws abi c = chain_abi ws (text_of ws) abi (abi_text_of abi) c

abbrev pub inherited_entries : List ℕ → List ℕ → List ℕ → ℕ → List Entry
inherited_entries ws abi area c = parent_entries (by_sheets ws abi) ws (text_of ws) abi (abi_text_of abi) area c

-- of the class's methods before m, added to the table that it inherits, row 12 refuses one
pub record Earlier (ws abi area : List ℕ) (c m : ℕ) : Type 0 where
  pub earlier : List ℕ
  pub later : List ℕ
  pub split : own_methods ws c ≡ earlier ++ (m ∷ later)
  pub refuses : add_methods (by_sheets ws abi) ws (text_of ws) abi (chain_entries ws abi c) earlier
      (inherited_table (by_sheets ws abi) ws (text_of ws) abi (abi_text_of abi) area c) ≡ refused 12

-- a link of the class is refused by 11, or by 12 for a method before m
abbrev pub Refused : List ℕ → List ℕ → List ℕ → ℕ → List ℕ → List ℕ → ℕ → Type 0
Refused ws abi area c stubs missing m =
    ((link_def ws abi c area stubs missing).outcome.refusal ≡ 11)
    ⊎ (((link_def ws abi c area stubs missing).outcome.refusal ≡ 12) × Earlier ws abi area c m)

-- a list of calls without such a link is answered, and leaves all memory, as it was
abbrev pub AsBefore : Way → List ℕ → List ℕ → List ℕ → List ℕ → Type 0
AsBefore way ws abi area missing =
    (calls : List Call) → none_clashes way abi calls (start ws area missing) ≡ true
    → answers_now way abi calls (start ws area missing) ≡ answers_before abi calls (start ws area missing)

pub record OneFixedSlot : Type 0 where
  -- "a close method vanished": in a class with its own ABI entry no inherited signature is lost
  pub nothing_lost : (ws abi area : List ℕ) (c : ℕ) → relays_class ws (text_of ws) abi (abi_text_of abi) c ≡ true
      → (p : Plan) → plan (by_sheets ws abi) ws (text_of ws) abi (abi_text_of abi) area c ≡ planned p
      → (m : ℕ) → occurs (methods_same (by_sheets ws abi)) m (inherited_entries ws abi area c) ≡ true
      → Stands (by_sheets ws abi) ws (inherited_entries ws abi area c) p.table (own_methods ws c) m
  -- "Old answers that change: ..": not those of a link where no two signatures have one index, nor of a list of calls without such a link
  pub link_as_before : (ws abi area : List ℕ) (c : ℕ) (stubs missing : List ℕ) → link_clashes ws abi area c ≡ false
      → link_def ws abi c area stubs missing ≡ link_before ws abi c area stubs missing
  pub run_as_before : ByNumbers AsBefore
  -- "at most their descendants too, and elsewhere only through places, room and nodes read"
  pub elsewhere : Elsewhere
  -- under an orderly sheet there is none
  pub orderly : (ws abi : List ℕ) (c : ℕ) → c ≤ class_limit → Orderly ws (text_of ws) abi (abi_text_of abi) c → (E : List Entry)
      → clash (methods_same (by_sheets ws abi)) (fixed_of (by_sheets ws abi) abi (chain_entries ws abi c)) E ≡ false
  -- "row 11 can now refuse, where 12 or none did, such a class ..", on one memory; 12 refuses no more than it did
  pub eleven : (ws abi area : List ℕ) (c : ℕ) (stubs missing : List ℕ) → (link_def ws abi c area stubs missing).outcome.refusal ≡ 11
      → (link_before ws abi c area stubs missing).outcome.refusal ≢ 11 → Moved ws abi area c
  pub twelve : (ws abi area : List ℕ) (c : ℕ) (stubs missing : List ℕ) → (link_def ws abi c area stubs missing).outcome.refusal ≡ 12
      → (link_before ws abi c area stubs missing).outcome.refusal ≡ 12
  -- such a class that redeclares the moved signature is refused, by 11, or by 12 for an earlier method
  pub redeclared : (ws abi area : List ℕ) (c : ℕ) (stubs missing : List ℕ) → link_clashes ws abi area c ≡ true
      → (m : ℕ) → Memᴰ m (own_methods ws c) → eligible ws (text_of ws) m ≡ true
      → GaveWay (methods_same (by_sheets ws abi)) (fixed_of (by_sheets ws abi) abi (chain_entries ws abi c))
      (staying_of (by_sheets ws abi) abi (chain_entries ws abi c) (inherited_entries ws abi area c)) (inherited_entries ws abi area c) m
      → Refused ws abi area c stubs missing m
  -- "or a descendant that redeclares the moved signature": without an entry of its own it inherits that signature where it now stands
  pub descendant : (ws abi area : List ℕ) (c : ℕ) (stubs missing : List ℕ) → reaches_table ws abi area c ≡ true → builds_methods ws c ≡ true
      → class_abi ws (text_of ws) abi (abi_text_of abi) c ≡ None → (m : ℕ) → Memᴰ m (own_methods ws c) → eligible ws (text_of ws) m ≡ true
      → Displaced (by_sheets ws abi) abi (chain_entries ws abi c) (inherited_entries ws abi area c) m
      → Refused ws abi area c stubs missing m
