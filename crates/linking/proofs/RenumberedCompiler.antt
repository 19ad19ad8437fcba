-- Alike methods of two sets (`Renumbered`), in a class with a compiler table: the native view, the methods that are added, the compiler's slots, and
-- what is appended. Declared and added methods are taken together, in their order: a set whose list has grown by now has them all declared.
-- Assumes nothing.
use mathlib.Core.Path.{◌≡◌, refl}
use mathlib.Core.Bool.{false, cond, not, ◌&&◌, ◌||◌}
use mathlib.Core.List.{List, [], ◌∷◌, Memᴰ}
use Prim.Native.Nat.{ℕ, ◌+◌, ◌<◌}
use lib.ListN.{get_or}
use lib.Dec.{eqb}
use borrow.Author.Tests.{lt-ltb}
use Rattle.words.specs.Lists.{first_found, fold}
use Rattle.std.specs.Prelude.{Option, None}
use Rattle.words.proofs.Bools.{by}
use Rattle.words.proofs.ListLaws.{by-found}
use Rattle.class_sheet.specs.ClassSheet.{method_limit}
use Rattle.abi_sheet.specs.AbiSheet.{abi_class_count}
use Rattle.linking.proofs.AbiLaws.{InSheet, chain-abi-in}
use Rattle.linking.proofs.Added.{source-slot}
use Rattle.linking.specs.Signature.{Same, Place, of_method}
use Rattle.linking.specs.Chain.{on_found, own_methods, parent_of, is_eligible}
use Rattle.linking.specs.Abi.{abi_slots, slot_at, chain_abi}
use Rattle.linking.specs.Vtable.{Entry, empty}
use Rattle.linking.specs.Compiler.{Taken, members, place_of, owner_state, is_emptied, view_from, native_view, signature_sources, from_method, from_slot, is_declared, add_named, added_from, name_of, flags_of, target_of, class_methods, entry_target, match_target, compiler_entry, compiler_entries, same_signature, has_slot, append_from, append_entry}
use Rattle.linking.proofs.Pairs.{Both, both, neither, by_both, both-or, Pairs, none, pair, pairs-append, pairs-at, pairs-some, pairs_first, pairs-fold, pairs-find}
use Rattle.linking.proofs.Renumbered.{SameEntry, Tables, same-empty, Keeps, fixed_same, SameChain, chain-abi-same, SameParent, parents-same}

-- methods to be added that take alike signatures, with the same member
pub record SameTaken (P : Place → Place → Type 0) (x y : Taken) : Type 0 where
  pub place : P x.from y.from
  pub member : x.member ≡ y.member

pub members_same : {P : Place → Place → Type 0} {xs ys : List Taken} → Pairs (SameTaken P) xs ys → members xs ≡ members ys
unfolding members
members_same none = refl
members_same (pair {x = x} {y = y} r h) = rw (r.member, members_same h) refl

module _ {same same' : Same} {P : Place → Place → Type 0} {ws text ws' text' abi labels : List ℕ} {R : ℕ → ℕ → Type 0}
    (keeps : Keeps same same' P ws text ws' text' abi labels R) where
  module _ (owner : (m k : ℕ) → R m k → owner_state ws m ≡ owner_state ws' k) where
    -- ---- (a) the native view

    emptied-same : (abis : List ℕ) → InSheet abi abis → (i : ℕ) (e e' : Entry) → SameEntry R e e'
        → is_emptied same ws abi abis i e ≡ is_emptied same' ws' abi abis i e'
    unfolding is_emptied
    emptied-same abis ins i e e' s =
        by_both s.method (λ m k p q r. rw (p, q, owner m k r, fixed_same keeps m k r abis ins)) (λ p q. rw (p, q))

    left-same : (abis : List ℕ) → InSheet abi abis → (i : ℕ) (e e' : Entry) → SameEntry R e e'
        → SameEntry R (cond (is_emptied same ws abi abis i e) empty e) (cond (is_emptied same' ws' abi abis i e') empty e')
    left-same abis ins i e e' s =
        rw (emptied-same abis ins i e e' s) (by (is_emptied same' ws' abi abis i e') (λ t. rw t (same-empty R)) (λ t. rw t s))

    pub view-same : (abis : List ℕ) → InSheet abi abis → (i : ℕ) {T U : List Entry} → Tables R T U
        → Tables R (view_from same ws abi abis i T) (view_from same' ws' abi abis i U)
    unfolding view_from
    view-same abis ins i none = none
    view-same abis ins i (pair {x = e} {y = e'} s h) = pair (left-same abis ins i e e' s) (view-same abis ins (i + 1) h)

    module _ (area area' : List ℕ) (c : ℕ) (p : SameParent ws ws' area area' c) (s : SameChain keeps (parent_of ws c)) where
      pub native_same : Tables R (native_view same ws text abi labels area c) (native_view same' ws' text' abi labels area' c)
      unfolding native_view
      native_same =
          rw (← p.parent, chain-abi-same keeps (parent_of ws c) s)
          (view-same (chain_abi ws' text' abi labels (parent_of ws c)) (chain-abi-in ws' text' abi labels (parent_of ws c)) 0
          (parents-same keeps area area' c p s))

  -- ---- (b) methods to be added

  abbrev Taken_alike : Taken → Taken → Type 0
  Taken_alike = SameTaken P

  pub from-same : (m k t : ℕ) → R m k → Taken_alike (from_method ws text m t) (from_method ws' text' k t)
  from-same m k t r = record { place = keeps.place m k r; member = rw (keeps.alike.name m k r, keeps.alike.descriptor m k r, keeps.alike.flags m k r) refl }

  pub slot-taken : (a z t : ℕ) → a < abi_class_count abi → Memᴰ z (abi_slots abi a) → Taken_alike (from_slot abi labels z t) (from_slot abi labels z t)
  slot-taken a z t l i = record { place = keeps.slot a z l i; member = refl }

  module _ (c : ℕ) (own : Pairs R (own_methods ws c) (own_methods ws' c))
      (sources : signature_sources ws text abi labels c ≡ signature_sources ws' text' abi labels c) where
    declared_same : (x y : Taken) → Taken_alike x y → is_declared same ws c x ≡ is_declared same' ws' c y
    unfolding is_declared
    declared_same x y t =
        pairs-some (λ m. same (of_method m) x.from) (λ m. same' (of_method m) y.from)
        (λ m k r. keeps.agree (of_method m) (of_method k) x.from y.from (keeps.place m k r) t.place) own

    named-same : (x y : Taken) → Taken_alike x y → {xs ys : List Taken} → Pairs Taken_alike xs ys
        → Pairs Taken_alike (add_named same ws c x xs) (add_named same' ws' c y ys)
    unfolding add_named
    named-same x y t h = rw (declared_same x y t) (by (is_declared same' ws' c y) (λ u. rw u h) (λ u. rw u (pair t h)))

    pub added-from : (view view' : List Entry) → Tables R view view' → (i : ℕ) (ts : List ℕ)
        → Pairs Taken_alike (added_from same ws text abi labels c view i ts) (added_from same' ws' text' abi labels c view' i ts)
    unfolding added_from
    added-from view view' h i [] = none
    added-from view view' h i (t ∷ ts) =
        let s = pairs-at h (same-empty R) i in
        let rest = added-from view view' h (i + 1) ts in
        rw s.word
        (by (eqb t 0 || eqb t (get_or view' i empty).word) (λ u. rw u rest)
        (λ u.
        rw u
        (by_both s.method (λ m k p q r. rw (p, q) (named-same (from_method ws text m t) (from_method ws' text' k t) (from-same m k t r) rest))
        (λ p q.
        rw (p, q, sources)
        (by-found (first_found (slot_at abi i) (signature_sources ws' text' abi labels c))
        (λ z e.
        let l = source-slot ws' text' abi labels c i z e in
        rw e (named-same (from_slot abi labels z t) (from_slot abi labels z t) (slot-taken l.0 z t l.1.0 l.1.1) rest))
        (λ e. rw e rest))))))

-- ---- (c) and (d), on methods of the sheet and those added to it

pub record Signed (P : Place → Place → Type 0) (ws text ws' text' : List ℕ) (new new' : List Taken) (m k : ℕ) : Type 0 where
  pub place : P (place_of new m) (place_of new' k)
  pub name : name_of ws text new m ≡ name_of ws' text' new' k
  pub flags : flags_of ws new m ≡ flags_of ws' new' k
  pub target : target_of ws new m ≡ target_of ws' new' k

module _ {same same' : Same} {P : Place → Place → Type 0} {ws text ws' text' abi labels : List ℕ} {R : ℕ → ℕ → Type 0}
    (keeps : Keeps same same' P ws text ws' text' abi labels R) (new new' : List Taken) where
  -- methods of the sheet
  pub of-sheet : (m k : ℕ) → m < method_limit → k < method_limit → R m k → Signed P ws text ws' text' new new' m k
  unfolding name_of place_of flags_of target_of
  of-sheet m k h l r =
      let a = lt-ltb m method_limit h in
      let b = lt-ltb k method_limit l in
      record {
        place = rw (a, b) (keeps.place m k r);
        name = rw (a, b) (keeps.alike.name m k r);
        flags = rw (a, b) (keeps.alike.flags m k r);
        target = rw (a, b) (keeps.alike.target m k r);
      }

  -- alike in these, and in whatever else `S` says of them
  module _ (S : ℕ → ℕ → Type 0) (signed : (m k : ℕ) → S m k → Signed P ws text ws' text' new new' m k) where
    module _ (c : ℕ) (methods : Pairs S (class_methods ws new c) (class_methods ws' new' c)) where
      target-same : (t : ℕ) (e e' : Entry) → SameEntry S e e'
          → Both S (entry_target ws new t e) (entry_target ws' new' t e')
      unfolding entry_target
      target-same t e e' s =
          by_both s.method
          (λ m k p q r.
          rw (p, q, (signed m k r).target) (by (eqb (target_of ws' new' k) t) (λ u. rw u (both r)) (λ u. rw u neither)))
          (λ p q. rw (p, q) neither)

      module _ (view view' : List Entry) (h : Tables S view view') where
        match_same : (t : ℕ) → Both S (match_target ws new c view t) (match_target ws' new' c view' t)
        unfolding match_target
        match_same t =
            both-or
            (pairs-find (λ m. eqb (target_of ws new m) t) (λ m. eqb (target_of ws' new' m) t) (λ m k r. rw (signed m k r).target) methods)
            (pairs_first S (entry_target ws new t) (entry_target ws' new' t) (target-same t) h)

        entry-same : (i t : ℕ) → SameEntry S (compiler_entry ws new c view i t) (compiler_entry ws' new' c view' i t)
        unfolding compiler_entry
        entry-same i t =
            by (eqb t 0) (λ u. rw u (pairs-at h (same-empty S) i))
            (λ u. rw u (record { word = refl; method = match_same t; source = refl }))

        pub compiler-entries : (i : ℕ) (ts : List ℕ)
            → Tables S (compiler_entries ws new c view i ts) (compiler_entries ws' new' c view' i ts)
        unfolding compiler_entries
        compiler-entries i [] = none
        compiler-entries i (t ∷ ts) = pair (entry-same i t) (compiler-entries (i + 1) ts)

    -- appended methods
    signature-same : (m k n l : ℕ) → S m k → S n l
        → same_signature same new m n ≡ same_signature same' new' k l
    unfolding same_signature
    signature-same m k n l r s = keeps.agree (place_of new m) (place_of new' k) (place_of new n) (place_of new' l) (signed m k r).place (signed n l s).place

    has_same : (m k : ℕ) → S m k → {T U : List Entry} → Tables S T U
        → has_slot same new m T ≡ has_slot same' new' k U
    unfolding has_slot
    has_same m k r h =
        pairs-some (λ e. on_found e.method (same_signature same new m) false)
        (λ e. on_found e.method (same_signature same' new' k) false)
        (λ e e' s. by_both s.method (λ n l p q t. rw (p, q) (signature-same m k n l r t)) (λ p q. rw (p, q))) h

    append-same : (source : Option ℕ) (T U : List Entry) (m k : ℕ) → Tables S T U → S m k
        → Tables S (append_from same ws text new source T m) (append_from same' ws' text' new' source U k)
    unfolding append_from
    append-same source T U m k h r =
        rw ((signed m k r).flags, (signed m k r).name, has_same m k r h)
        (by (is_eligible (flags_of ws' new' k) (name_of ws' text' new' k) && not (has_slot same' new' k U))
        (λ t. rw t (pairs-append h (pair (record { word = (signed m k r).target; method = both r; source = refl }) none)))
        (λ t. rw t h))

    append-entry : (T U : List Entry) (e e' : Entry) → Tables S T U → SameEntry S e e'
        → Tables S (append_entry same ws text new T e) (append_entry same' ws' text' new' U e')
    unfolding append_entry
    append-entry T U e e' h s =
        by_both s.method (λ m k p q r. rw (p, q, s.source) (append-same e'.source T U m k h r)) (λ p q. rw (p, q) h)

    -- the table, of the methods `new` and `new'` that are added
    pub tables_by : (c : ℕ) → Pairs S (class_methods ws new c) (class_methods ws' new' c)
        → (view view' T U : List Entry) → Tables S view view' → Tables S T U → (ts : List ℕ)
        → Tables S
        (fold (append_entry same ws text new)
        (fold (append_from same ws text new None) (compiler_entries ws new c view 0 ts) (class_methods ws new c)) T)
        (fold (append_entry same' ws' text' new')
        (fold (append_from same' ws' text' new' None) (compiler_entries ws' new' c view' 0 ts) (class_methods ws' new' c)) U)
    tables_by c methods view view' T U v p ts =
        pairs-fold (Tables S) (append_entry same ws text new) (append_entry same' ws' text' new') append-entry p
        (pairs-fold (Tables S) (append_from same ws text new None) (append_from same' ws' text' new' None) (append-same None) methods
        (compiler-entries c methods view view' v 0 ts))

  pub tables-same : (c : ℕ) → Pairs (Signed P ws text ws' text' new new') (class_methods ws new c) (class_methods ws' new' c)
      → (view view' T U : List Entry) → Tables (Signed P ws text ws' text' new new') view view' → Tables (Signed P ws text ws' text' new new') T U
      → (ts : List ℕ)
      → Tables (Signed P ws text ws' text' new new')
      (fold (append_entry same ws text new)
      (fold (append_from same ws text new None) (compiler_entries ws new c view 0 ts) (class_methods ws new c)) T)
      (fold (append_entry same' ws' text' new')
      (fold (append_from same' ws' text' new' None) (compiler_entries ws' new' c view' 0 ts) (class_methods ws' new' c)) U)
  tables-same = tables_by (Signed P ws text ws' text' new new') (λ m k s. s)
