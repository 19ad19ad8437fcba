-- Two sets with methods that are alike: of one name, descriptor, flags, target and owner's link state, whatever their numbers. Each definition of a
-- table makes alike tables of alike ones: the same words from the same slots, and alike methods. Stated once, of any relation `R` of method numbers, and
-- of two comparisons that tell alike places apart alike (`P`); a class has its number in both sets. With `R` and `P` equality it says when two comparisons
-- make the same tables of one set. Assumes nothing.
use mathlib.Core.Path.{◌≡◌, refl, ap}
use mathlib.Core.Logic.{◌≢◌}
use mathlib.Core.Bool.{false, not}
use mathlib.Core.List.{List, [], ◌∷◌, Memᴰ}
use Prim.Native.Nat.{ℕ, ◌+◌, ◌-◌, ◌<◌, min}
use native.Mathlib.Omega.{arith}
use lib.ListN.{length, get_or, take}
use lib.Dec.{eqb}
use borrow.Author.Tests.{eqb-false}
use Rattle.std.specs.Prelude.{Option, Some, None}
use Rattle.words.proofs.Bools.{by}
use Rattle.words.proofs.ListLaws.{by-found, find-member}
use Rattle.words.proofs.Ext.{find-ext, founds_ext}
use Rattle.words.specs.Lists.{first_found}
use Rattle.class_sheet.specs.ClassSheet.{class_table_place, class_slot_count, class_name, method_name, method_descriptor, method_flags, method_target, class_limit}
use Rattle.abi_sheet.specs.AbiSheet.{abi_class_count}
use Rattle.linking.specs.Signature.{Same, Place, of_method, of_abi_slot, methods_same, place_name, place_descriptor, by_bytes}
use Rattle.linking.specs.Chain.{on_found, own_methods, parent_of, chain, eligible, own_target, find_by_target, own_method}
use Rattle.linking.specs.Abi.{abi_slots, slot_index, vtable_index, slot_at, class_abi, chain_abi, fixed_index, fixer_distance, minimum_size}
use Rattle.linking.specs.Vtable.{Entry, empty, Built, built, refused, on_built, own_fixed, find_by_index, read_entry, read_slot, table_entries, parent_entries, entry_is, slot_of, entry_is_other, method_entry, fixed_of, distance_of, staying_of, relayed, extended, inherited_table, put_method, add_method, add_methods, build_methods, method_entries, build_interface_methods}
use Rattle.linking.proofs.Pairs.{Both, both, neither, by_both, both-or, both_less, Pairs, none, pair, pairs-length, pairs-append, pairs-at, pairs_set, pairs-blank, pairs-from, pairs-position, pairs-keep, pairs_less, pairs-find, both_first}
use Rattle.linking.proofs.AbiLaws.{InSheet, class-abi-room, chain-abi-in}
use Rattle.linking.proofs.RelayRenamed.{nearest_same, laid_same}

-- ---- slots and tables

pub record SameEntry (R : ℕ → ℕ → Type 0) (e e' : Entry) : Type 0 where
  pub word : e.word ≡ e'.word
  pub method : Both R e.method e'.method
  pub source : e.source ≡ e'.source

abbrev pub Tables : (ℕ → ℕ → Type 0) → List Entry → List Entry → Type 0
Tables R T U = Pairs (SameEntry R) T U

pub data SameBuilt (R : ℕ → ℕ → Type 0) : Built → Built → Type 0 where
  both-built : {T U : List Entry} → Tables R T U → SameBuilt R (built T) (built U)
  both-refused : {n : ℕ} → SameBuilt R (refused n) (refused n)

pub tables_less : {R S : ℕ → ℕ → Type 0} → ((m k : ℕ) → R m k → S m k) → {T U : List Entry} → Tables R T U → Tables S T U
tables_less less h = pairs_less (λ e e' s. record { word = s.word; method = both_less less s.method; source = s.source }) h

pub same-empty : (R : ℕ → ℕ → Type 0) → SameEntry R empty empty
same-empty R = record { word = refl; method = neither; source = refl }

-- the parent's table holds the same words in both areas
pub record SameParent (ws ws' area area' : List ℕ) (c : ℕ) : Type 0 where
  pub parent : parent_of ws c ≡ parent_of ws' c
  pub slots : parent_of ws c ≢ 0 → class_slot_count ws (parent_of ws c) ≡ class_slot_count ws' (parent_of ws c)
  pub words : parent_of ws c ≢ 0 → (i : ℕ) → i < class_slot_count ws (parent_of ws c)
      → get_or area (class_table_place ws (parent_of ws c) + 1 + i) 0 ≡ get_or area' (class_table_place ws' (parent_of ws c) + 1 + i) 0

-- ---- what alike methods of two sets have in common

pub record Alike (ws text ws' text' : List ℕ) (R : ℕ → ℕ → Type 0) : Type 0 where
  pub name : (m k : ℕ) → R m k → method_name ws text m ≡ method_name ws' text' k
  pub descriptor : (m k : ℕ) → R m k → method_descriptor ws text m ≡ method_descriptor ws' text' k
  pub flags : (m k : ℕ) → R m k → method_flags ws m ≡ method_flags ws' k
  pub target : (m k : ℕ) → R m k → method_target ws m ≡ method_target ws' k

-- and how the two comparisons see their places and those of the ABI sheet's slots
pub record Keeps (same same' : Same) (P : Place → Place → Type 0) (ws text ws' text' abi labels : List ℕ) (R : ℕ → ℕ → Type 0) : Type 0 where
  pub alike : Alike ws text ws' text' R
  pub agree : (p q r s : Place) → P p q → P r s → same p r ≡ same' q s
  pub place : (m k : ℕ) → R m k → P (of_method m) (of_method k)
  pub slot : (a s : ℕ) → a < abi_class_count abi → Memᴰ s (abi_slots abi a) → P (of_abi_slot s) (of_abi_slot s)

-- by bytes: places with equal bytes of both parts
pub record SameParts (ws text ws' text' abi labels : List ℕ) (p q : Place) : Type 0 where
  pub name : place_name ws text abi labels p ≡ place_name ws' text' abi labels q
  pub descriptor : place_descriptor ws text abi labels p ≡ place_descriptor ws' text' abi labels q

pub bytes_keep : (ws text ws' text' abi labels : List ℕ) (R : ℕ → ℕ → Type 0) → Alike ws text ws' text' R
    → Keeps (by_bytes ws text abi labels) (by_bytes ws' text' abi labels) (SameParts ws text ws' text' abi labels) ws text ws' text' abi labels R
unfolding by_bytes place_name place_descriptor
bytes_keep ws text ws' text' abi labels R alike = record {
  alike = alike;
  agree = λ p q r s x y. rw (x.name, x.descriptor, y.name, y.descriptor) refl;
  place = λ m k r. record { name = alike.name m k r; descriptor = alike.descriptor m k r };
  slot = λ a s l i. record { name = refl; descriptor = refl };
}

module _ {same same' : Same} {P : Place → Place → Type 0} {ws text ws' text' abi labels : List ℕ} {R : ℕ → ℕ → Type 0}
    (keeps : Keeps same same' P ws text ws' text' abi labels R) where
  -- alike methods are compared alike
  pub same-method : (m k n l : ℕ) → R m k → R n l → same (of_method m) (of_method n) ≡ same' (of_method k) (of_method l)
  same-method m k n l r q = keeps.agree (of_method m) (of_method k) (of_method n) (of_method l) (keeps.place m k r) (keeps.place n l q)

  module _ (m k : ℕ) (r : R m k) where
    pub eligible-same : eligible ws text m ≡ eligible ws' text' k
    unfolding eligible
    eligible-same = rw (keeps.alike.flags m k r, keeps.alike.name m k r)

    -- what an ABI class of the sheet fixes
    index-same : (a : ℕ) → a < abi_class_count abi → vtable_index same abi (of_method m) a ≡ vtable_index same' abi (of_method k) a
    unfolding vtable_index
    index-same a l =
        rw (find-ext (λ s. same (of_abi_slot s) (of_method m)) (λ s. same' (of_abi_slot s) (of_method k)) (abi_slots abi a)
        (λ s i. keeps.agree (of_abi_slot s) (of_abi_slot s) (of_method m) (of_method k) (keeps.slot a s l i) (keeps.place m k r))) refl

    pub fixed_same : (abis : List ℕ) → InSheet abi abis → fixed_of same abi abis m ≡ fixed_of same' abi abis k
    unfolding fixed_of fixed_index first_found
    fixed_same [] ins = refl
    fixed_same (a ∷ abis) ins = rw (index-same a (ins a (Memᴰ.head refl)), fixed_same abis (λ b i. ins b (Memᴰ.tail i))) refl

    distance-same : (abis : List ℕ) → InSheet abi abis → distance_of same abi abis m ≡ distance_of same' abi abis k
    unfolding distance_of fixer_distance
    distance-same [] ins = refl
    distance-same (a ∷ abis) ins = rw (index-same a (ins a (Memᴰ.head refl)), distance-same abis (λ b i. ins b (Memᴰ.tail i))) refl

    pub method-entry : SameEntry R (method_entry ws m) (method_entry ws' k)
    method-entry = record { word = keeps.alike.target m k r; method = both r; source = refl }

  -- ---- a class: its own methods in order, and its name, so its ABI entry; a chain of such classes

  pub record SameClass (d : ℕ) : Type 0 where
    pub own : Pairs R (own_methods ws d) (own_methods ws' d)
    pub name : class_name ws text d ≡ class_name ws' text' d

  pub same-abi : (d : ℕ) → SameClass d → class_abi ws text abi labels d ≡ class_abi ws' text' abi labels d
  unfolding class_abi
  same-abi d s = rw s.name

  pub record SameChain (c : ℕ) : Type 0 where
    pub along : chain ws c ≡ chain ws' c
    pub class : (d : ℕ) → Memᴰ d (chain ws c) → SameClass d

  pub chain-abi-same : (c : ℕ) → SameChain c → chain_abi ws text abi labels c ≡ chain_abi ws' text' abi labels c
  unfolding chain_abi
  chain-abi-same c s =
      rw (← s.along)
      (ap (take class_limit)
      (founds_ext (class_abi ws text abi labels) (class_abi ws' text' abi labels) (chain ws c) (λ d i. same-abi d (s.class d i))))

  -- ---- Reading

  own-target : (t d : ℕ) → SameClass d → Both R (own_target ws t d) (own_target ws' t d)
  unfolding own_target
  own-target t d s = pairs-find (λ m. eqb (method_target ws m) t) (λ m. eqb (method_target ws' m) t) (λ m k r. rw (keeps.alike.target m k r)) s.own

  pub own_fixed_lem : (i d : ℕ) → SameClass d → Both R (own_fixed same ws text abi labels i d) (own_fixed same' ws' text' abi labels i d)
  unfolding own_fixed own_method slot_at
  own_fixed_lem i d s =
      rw (same-abi d s)
      (by-found (class_abi ws' text' abi labels d)
      (λ a e.
      rw e
      (by-found (slot_at abi i a)
      (λ z f.
      let t = keeps.slot a z (class-abi-room ws' text' abi labels d a e) (find-member (λ k. eqb (slot_index abi k) i) (abi_slots abi a) z f) in
      rw f
      (pairs-find (λ m. same (of_method m) (of_abi_slot z)) (λ m. same' (of_method m) (of_abi_slot z))
      (λ m k r. keeps.agree (of_method m) (of_method k) (of_abi_slot z) (of_abi_slot z) (keeps.place m k r) t) s.own))
      (λ f. rw f neither)))
      (λ e. rw e neither))

  module _ (c : ℕ) (s : SameChain c) where
    by_target : (t : ℕ) → Both R (find_by_target ws c t) (find_by_target ws' c t)
    unfolding find_by_target
    by_target t = rw (← s.along) (both_first R (own_target ws t) (own_target ws' t) (chain ws c) (λ d i. own-target t d (s.class d i)))

    by_index : (i : ℕ) → Both R (find_by_index same ws text abi labels c i) (find_by_index same' ws' text' abi labels c i)
    unfolding find_by_index
    by_index i =
        rw (← s.along)
        (both_first R (own_fixed same ws text abi labels i) (own_fixed same' ws' text' abi labels i) (chain ws c) (λ d j. own_fixed_lem i d (s.class d j)))

    pub read_same : (i w : ℕ) → SameEntry R (read_entry same ws text abi labels c i w) (read_entry same' ws' text' abi labels c i w)
    unfolding read_entry
    read_same i w = record { word = refl; method = both-or (by_target w) (by_index i); source = refl }

    -- the table, where both areas hold the same words
    pub entries-same : (area area' : List ℕ) → class_slot_count ws c ≡ class_slot_count ws' c
        → ((i : ℕ) → i < class_slot_count ws c → get_or area (class_table_place ws c + 1 + i) 0 ≡ get_or area' (class_table_place ws' c + 1 + i) 0)
        → Tables R (table_entries same ws text abi labels area c) (table_entries same' ws' text' abi labels area' c)
    unfolding table_entries read_slot
    entries-same area area' n h =
        rw (← n)
        (pairs-from (λ i. read_entry same ws text abi labels c i (get_or area (class_table_place ws c + 1 + i) 0))
        (λ i. read_entry same' ws' text' abi labels c i (get_or area' (class_table_place ws' c + 1 + i) 0)) 0 0 (min (class_slot_count ws c) 1024)
        (λ i l. let e : 0 + i ≡ i = omega arith in rw (e, h i (omega arith)) (read_same i (get_or area' (class_table_place ws' c + 1 + i) 0))))

  pub parents-same : (area area' : List ℕ) (c : ℕ) → SameParent ws ws' area area' c → SameChain (parent_of ws c)
      → Tables R (parent_entries same ws text abi labels area c) (parent_entries same' ws' text' abi labels area' c)
  unfolding parent_entries
  parents-same area area' c p s =
      rw (← p.parent)
      (by (eqb (parent_of ws c) 0) (λ t. rw t none)
      (λ t.
      let n = eqb-false (parent_of ws c) 0 t in
      rw t (entries-same (parent_of ws c) s area area' (p.slots n) (p.words n))))

  -- ---- the table before the class's own methods

  pub methods-same : (m k n l : ℕ) → R m k → R n l → methods_same same m n ≡ methods_same same' k l
  unfolding methods_same
  methods-same = same-method

  pub relayed-same : (abis : List ℕ) → InSheet abi abis → {T U : List Entry} → Tables R T U
      → Tables R (relayed same abi abis T) (relayed same' abi abis U)
  unfolding relayed staying_of
  relayed-same abis ins {T} {U} h =
      let entries : (e e' : Entry) → SameEntry R e e' → Both R e.method e'.method = λ e e' s. s.method in
      let fixed : (m k : ℕ) → R m k → fixed_of same abi abis m ≡ fixed_of same' abi abis k = λ m k r. fixed_same m k r abis ins in
      laid_same R (SameEntry R) entries (fixed_of same abi abis) (fixed_of same' abi abis) fixed (methods_same same) (methods_same same') methods-same
      (staying_of same abi abis T) (staying_of same' abi abis U)
      (λ i.
      (nearest_same R (SameEntry R) entries (fixed_of same abi abis) (fixed_of same' abi abis) fixed
      (distance_of same abi abis) (distance_of same' abi abis) (λ m k r. distance-same m k r abis ins) (length abis) h i))
      (same-empty R) h (minimum_size abi abis)

  pub extended-same : (abis : List ℕ) {T U : List Entry} → Tables R T U → Tables R (extended abi abis T) (extended abi abis U)
  unfolding extended
  extended-same abis {T} {U} h =
      rw (pairs-length h) (pairs-append h (pairs-blank (minimum_size abi abis - length U) empty empty (same-empty R)))

  -- ---- own methods

  module _ (m k : ℕ) (r : R m k) where
    entry_found : (e e' : Entry) → SameEntry R e e'
        → entry_is same (of_method m) e ≡ entry_is same' (of_method k) e'
    unfolding entry_is
    entry_found e e' s =
        by_both s.method (λ n l p q t. rw (p, q) (same-method n l m k t r)) (λ p q. rw (p, q))

    entry_other : (e e' : Entry) → SameEntry R e e'
        → entry_is_other same (of_method m) e ≡ entry_is_other same' (of_method k) e'
    unfolding entry_is_other
    entry_other e e' s =
        by_both s.method (λ n l p q t. rw (p, q) (ap not (same-method n l m k t r))) (λ p q. rw (p, q))

    slot_same : {T U : List Entry} → Tables R T U
        → slot_of same (of_method m) T ≡ slot_of same' (of_method k) U
    unfolding slot_of
    slot_same h =
        pairs-position (entry_is same (of_method m))
        (entry_is same' (of_method k)) entry_found 0 h

    put-method : (f slot : Option ℕ) {T U : List Entry} → Tables R T U
        → SameBuilt R (put_method same ws f slot m T) (put_method same' ws' f slot k U)
    unfolding put_method
    put-method (Some i) slot {T} {U} h =
        by (on_found slot (λ j. not (eqb j i)) false) (λ t. rw t both-refused)
        (λ t.
        rw (t, entry_other (get_or T i empty) (get_or U i empty) (pairs-at h (same-empty R) i))
        (by (entry_is_other same' (of_method k) (get_or U i empty)) (λ u. rw u both-refused)
        (λ u. rw u (both-built (pairs_set h i (method-entry m k r))))))
    put-method None (Some j) h = both-built (pairs_set h j (method-entry m k r))
    put-method None None h = both-built (pairs-append h (pair (method-entry m k r) none))

    add_same : (abis : List ℕ) → InSheet abi abis → {T U : List Entry} → Tables R T U
        → SameBuilt R (add_method same ws text abi abis m T) (add_method same' ws' text' abi abis k U)
    unfolding add_method
    add_same abis ins {T} {U} h =
        rw (eligible-same m k r, fixed_same m k r abis ins, slot_same h)
        (by (eligible ws' text' k)
        (λ t. rw t (put-method (fixed_of same' abi abis k) (slot_of same' (of_method k) U) h))
        (λ t. rw t (both-built h)))

  on_same : {b b' : Built} (f g : List Entry → Built) → SameBuilt R b b' → ((T U : List Entry) → Tables R T U → SameBuilt R (f T) (g U))
      → SameBuilt R (on_built b f) (on_built b' g)
  on_same f g (both-built {T} {U} h) e = e T U h
  on_same f g both-refused e = both-refused

  pub adds_same : (abis : List ℕ) → InSheet abi abis → {ms ks : List ℕ} → Pairs R ms ks → (T U : List Entry) → Tables R T U
      → SameBuilt R (add_methods same ws text abi abis ms T) (add_methods same' ws' text' abi abis ks U)
  unfolding add_methods
  adds_same abis ins none T U h = both-built h
  adds_same abis ins (pair {x = m} {y = k} {xs = ms} {ys = ks} r rs) T U h =
      on_same (add_methods same ws text abi abis ms) (add_methods same' ws' text' abi abis ks) (add_same m k r abis ins h) (adds_same abis ins rs)

  -- ---- whole tables

  pub entries-of : {ms ks : List ℕ} → Pairs R ms ks → Tables R (method_entries ws ms) (method_entries ws' ks)
  unfolding method_entries
  entries-of none = none
  entries-of (pair {x = m} {y = k} r rs) = pair (method-entry m k r) (entries-of rs)

  pub interface-same : (c : ℕ) → SameClass c → Tables R (build_interface_methods ws text c) (build_interface_methods ws' text' c)
  unfolding build_interface_methods
  interface-same c s = entries-of (pairs-keep (eligible ws text) (eligible ws' text') eligible-same s.own)

  module _ (area area' : List ℕ) (c : ℕ) (p : SameParent ws ws' area area' c) (above : SameChain (parent_of ws c)) (s : SameChain c) (here : SameClass c) where
    inherited-same : Tables R (inherited_table same ws text abi labels area c) (inherited_table same' ws' text' abi labels area' c)
    unfolding inherited_table
    inherited-same =
        let h = parents-same area area' c p above in
        rw (chain-abi-same c s, same-abi c here)
        (by-found (class_abi ws' text' abi labels c) (λ a e. rw e (relayed-same (chain_abi ws' text' abi labels c) (chain-abi-in ws' text' abi labels c) h))
        (λ e. rw e (extended-same (chain_abi ws' text' abi labels c) h)))

    pub build-same : SameBuilt R (build_methods same ws text abi labels area c) (build_methods same' ws' text' abi labels area' c)
    unfolding build_methods
    build-same = rw (chain-abi-same c s) (adds_same (chain_abi ws' text' abi labels c) (chain-abi-in ws' text' abi labels c) here.own _ _ inherited-same)

-- a relation that says less
pub built_less : {R S : ℕ → ℕ → Type 0} → ((m k : ℕ) → R m k → S m k) → {b b' : Built} → SameBuilt R b b' → SameBuilt S b b'
built_less less (both-built h) = both-built (tables_less less h)
built_less less both-refused = both-refused
