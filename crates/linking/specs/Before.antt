-- The linker before ticket 13, and the links on which the two differ: those of a class that relays, where two known inherited signatures have one
-- fixed index. Assumes nothing.
use Rattle.std.specs.Prelude.{ℕ, ◌<◌, ◌≡◌, Bool, true, false, not, ◌&&◌, ◌||◌, ◌⊎◌, length, get_or, set, replicate, eqb, Option, Some, None}
use mathlib.Core.List.{List, [], ◌∷◌, ◌++◌, Memᴰ}
use Rattle.words.specs.Lists.{fold, some}
use Rattle.class_sheet.specs.ClassSheet.{text_of, class_flags, class_kind, class_compiler_table, is_built_kind}
use Rattle.abi_sheet.specs.AbiSheet.{abi_text_of}
use Rattle.set_rules.specs.SetRules.{set_refusal}
use Rattle.linking.specs.Signature.{Same, of_method, by_sheets, methods_same}
use Rattle.linking.specs.Chain.{on_found, own_methods, eligible, is_interface}
use Rattle.linking.specs.Abi.{class_abi, chain_abi, minimum_size}
use Rattle.linking.specs.Vtable.{Entry, empty, Built, built, refused, parent_entries, entry_is_other, method_entry, occurs, last_of, stays, fixed_of, staying_of, inherited_by, inherited_table, add_method, add_methods}
use Rattle.linking.specs.Packages.{bad_packages}
use Rattle.linking.specs.Fields.{too_many_words, generated_refusal}
use Rattle.linking.specs.Link.{bad_class, bad_area, plan_with, LinkOutcome, link_with}

-- ---- the relaying before: "each known inherited entry at its fixed index, later ones overwriting; known entries without one follow after the minimum size"

abbrev pub put_fixed : Option ℕ → Entry → List Entry → List Entry
put_fixed (Some i) e T = set T i e
put_fixed None e T = T ++ (e ∷ [])

module _ (same : Same) (abi : List ℕ) where
  abbrev pub relay : List ℕ → Option ℕ → Entry → List Entry → List Entry
  relay abis (Some m) e T = put_fixed (fixed_of same abi abis m) e T
  relay abis None e T = T

  unfoldable pub relay_step : List ℕ → List Entry → Entry → List Entry
  relay_step abis T e = relay abis e.method e T

  unfoldable pub relayed_before : List ℕ → List Entry → List Entry
  relayed_before abis inherited = fold (relay_step abis) (replicate (minimum_size abi abis) empty) inherited

-- ---- two signatures on one index

module _ (same : ℕ → ℕ → Bool) (fixed : ℕ → Option ℕ) where
  -- two known entries with one fixed index and different signatures
  unfoldable pub rivals : Entry → Entry → Bool
  rivals e f =
      on_found e.method (λ m. on_found f.method (λ k. on_found (fixed m) (λ i. on_found (fixed k) (eqb i) false) false && not (same m k)) false) false

  unfoldable pub clash : List Entry → Bool
  clash E = some (λ e. some (rivals e) E) E

-- "the moved signature": m's is among the known entries of E and has a fixed index, where another signature stays
pub record GaveWay (same : ℕ → ℕ → Bool) (fixed : ℕ → Option ℕ) (staying : ℕ → Option ℕ) (E : List Entry) (m : ℕ) : Type 0 where
  pub inherited : occurs same m E ≡ true
  pub index : ℕ
  pub fixed_at : fixed m ≡ Some index
  pub away : stays same staying index m ≡ false

-- ---- the linker before

-- class c's table is that of `build_methods`: the branches of `plan`
unfoldable pub builds_methods : List ℕ → ℕ → Bool
builds_methods ws c = (eqb (class_kind ws c) 0 && not (is_interface (class_flags ws c))) || (eqb (class_kind ws c) 1 && eqb (class_compiler_table ws c) 0)

-- "a class with its own ABI entry" that lays out anew what it inherits
unfoldable pub relays_class : List ℕ → List ℕ → List ℕ → List ℕ → ℕ → Bool
relays_class ws text abi labels c = on_found (class_abi ws text abi labels c) (λ a. true) false && builds_methods ws c

module _ (same : Same) (ws text abi labels area : List ℕ) where
  unfoldable pub build_before : ℕ → Built
  build_before c =
      add_methods same ws text abi (chain_abi ws text abi labels c) (own_methods ws c)
      (inherited_by same ws text abi labels (relayed_before same abi) area c)

  unfoldable pub entries_clash : ℕ → Bool
  entries_clash c =
      relays_class ws text abi labels c
      && clash (methods_same same) (fixed_of same abi (chain_abi ws text abi labels c)) (parent_entries same ws text abi labels area c)

unfoldable pub link_before : List ℕ → List ℕ → ℕ → List ℕ → List ℕ → List ℕ → LinkOutcome
link_before ws abi c area stubs missing =
    let table : Built = build_before (by_sheets ws abi) ws (text_of ws) abi (abi_text_of abi) area c in
    link_with (plan_with (by_sheets ws abi) ws (text_of ws) abi (abi_text_of abi) area table c) ws abi c area stubs missing

-- rows 8 to 10: what a plan refuses before it looks at the table, by its branches (one too many here would only make `link_as_before` weaker)
unfoldable pub field_row : List ℕ → List ℕ → ℕ → Bool
field_row ws abi c =
    (is_built_kind (class_kind ws c) && too_many_words ws (text_of ws) abi (abi_text_of abi) (class_abi ws (text_of ws) abi (abi_text_of abi) c) c)
    || (eqb (class_kind ws c) 1 && not (eqb (generated_refusal ws (text_of ws) c) 0))

-- a link of class c comes to its table: rows 3 to 10 and 26 pass it
unfoldable pub reaches_table : List ℕ → List ℕ → List ℕ → ℕ → Bool
reaches_table ws abi area c =
    eqb (set_refusal ws abi) 0
    && (not (bad_class ws (text_of ws) c)
    && (not (bad_area ws area)
    && (not (bad_packages ws (text_of ws) abi (abi_text_of abi) c) && not (field_row ws abi c))))

-- "two inherited signatures on one fixed slot": it relays, and two known inherited signatures have one index
unfoldable pub link_clashes : List ℕ → List ℕ → List ℕ → ℕ → Bool
link_clashes ws abi area c =
    reaches_table ws abi area c && entries_clash (by_sheets ws abi) ws (text_of ws) abi (abi_text_of abi) area c

-- ---- what is said of a clash

-- of the methods ms, added to T one by one, row n refuses m: the earlier ones are added
pub record RefusesAt (same : Same) (ws text abi abis : List ℕ) (T : List Entry) (ms : List ℕ) (n m : ℕ) : Type 0 where
  pub earlier : List ℕ
  pub later : List ℕ
  pub split : ms ≡ earlier ++ (m ∷ later)
  pub table : List Entry
  pub added : add_methods same ws text abi abis earlier T ≡ built table
  pub refuses : add_method same ws text abi abis m table ≡ refused n

-- "row 11 can now refuse, where 12 or none did, such a class .. that redeclares the moved signature"
pub record Moved (ws abi area : List ℕ) (c : ℕ) : Type 0 where
  pub clashes : link_clashes ws abi area c ≡ true
  -- the method that it refuses is eligible, and the signature that it redeclares moved
  pub method : ℕ
  pub refuses : RefusesAt (by_sheets ws abi) ws (text_of ws) abi (chain_abi ws (text_of ws) abi (abi_text_of abi) c)
      (inherited_table (by_sheets ws abi) ws (text_of ws) abi (abi_text_of abi) area c) (own_methods ws c) 11 method
  pub it_is_eligible : eligible ws (text_of ws) method ≡ true
  pub gave_way : GaveWay (methods_same (by_sheets ws abi)) (fixed_of (by_sheets ws abi) abi (chain_abi ws (text_of ws) abi (abi_text_of abi) c))
      (staying_of (by_sheets ws abi) abi (chain_abi ws (text_of ws) abi (abi_text_of abi) c)
      (parent_entries (by_sheets ws abi) ws (text_of ws) abi (abi_text_of abi) area c))
      (parent_entries (by_sheets ws abi) ws (text_of ws) abi (abi_text_of abi) area c) method
  -- "where 12 or none did", of the rows of the table
  pub before : (build_before (by_sheets ws abi) ws (text_of ws) abi (abi_text_of abi) area c ≡ refused 12)
      ⊎ ((T : List Entry) × (build_before (by_sheets ws abi) ws (text_of ws) abi (abi_text_of abi) area c ≡ built T))

-- m's signature stands in the table T, and at its fixed index another one does
pub record Displaced (same : Same) (abi abis : List ℕ) (T : List Entry) (m : ℕ) : Type 0 where
  pub index : ℕ
  pub fixed_at : fixed_of same abi abis m ≡ Some index
  pub shown : occurs (methods_same same) m T ≡ true
  pub other : entry_is_other same (of_method m) (get_or T index empty) ≡ true

-- "a close method vanished": of the inherited entries E, the last one of m's signature stands in the table T, or one of the methods `own` in its place
pub record Stands (same : Same) (ws : List ℕ) (E T : List Entry) (own : List ℕ) (m : ℕ) : Type 0 where
  pub slot : ℕ
  pub inside : slot < length T
  pub is : (get_or T slot empty ≡ last_of (methods_same same) m empty E)
      ⊎ ((k : ℕ) × (Memᴰ k own × ((methods_same same k m ≡ true) × (get_or T slot empty ≡ method_entry ws k))))
