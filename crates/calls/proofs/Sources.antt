-- What is a copy (specs/Sources.antt). What holds of the parent's entries, of the empty one and of own methods' holds of each entry of a table, however it is
-- built: the builders move entries about and make none but these. Assumes nothing.
use Rattle.std.proofs.Common.{◌≡◌, refl, sym, ap, ◌∙◌, subst, ◌≢◌, ⊎_elim, Bool, true, false, not, ◌&&◌, List, [], ◌∷◌, ◌++◌, ℕ, zero, suc, ◌+◌, ◌-◌, ◌<◌, min, arith, length, get_or, set, replicate, eqb, ltb, lt-ltb, le-ltb, Option, Some, None}
use mathlib.Core.List.{Memᴰ}
use borrow.Author.Tests.{eqb-false}
use Rattle.words.specs.Lists.{list_from, fold, keep}
use Rattle.words.proofs.Bools.{by}
use Rattle.words.proofs.ListLaws.{by-found, length-list-from, get_d_list_from, numbers-within}
use Rattle.class_sheet.specs.ClassSheet.{class_kind, is_built_kind, is_packaged, is_generated, class_flags, class_compiler_table, class_table_place, class_slot_count, method_target, method_limit, class_limit}
use Rattle.linking.specs.Signature.{Same, of_method, methods_same}
use Rattle.linking.specs.Chain.{on_found, own_methods, parent_of, is_interface, is_eligible, eligible}
use Rattle.linking.specs.Abi.{class_abi, chain_abi, minimum_size}
use Rattle.linking.specs.Vtable.{Entry, empty, built, read_entry, read_slot, table_entries, parent_entries, entry_is_other, method_entry, extended, fixed_of, slot_of, relayed, inherited_table, put_method, add_method, add_methods, build_methods, method_entries, build_interface_methods, is_of, last_of, standing, follows, following, laid_out, staying_of}
use Rattle.linking.specs.Packages.{introducing, overridden, taken_slots, put_taken, take_slots, packages_over, build_packages}
use Rattle.linking.specs.Compiler.{Taken, is_emptied, view_from, native_view, compiler_targets, added_methods, name_of, flags_of, target_of, class_methods, match_target, compiler_entry, compiler_entries, has_slot, append_from, append_entry, compiler_table}
use Rattle.linking.specs.Link.{built_table, generated_table, generated_methods}
use Rattle.linking.specs.Missing.{table_by}
use Rattle.calls.specs.Sources.{HasCompiler, Slot, whole, appended, hole, declared, added, compiled}
use Rattle.slots.proofs.AddFacts.{built_on}
use Rattle.linking.proofs.ChainLaws.{own-method-room, entry-room}
use Rattle.linking.proofs.Plans.{built-same, not-built}

-- ---- what is kept of a list is of the list

pub keep-member : (p : ℕ → Bool) (xs : List ℕ) (x : ℕ) → Memᴰ x (keep p xs) → Memᴰ x xs
unfolding keep
keep-member p [] x i = i
keep-member p (y ∷ xs) x i =
    by (p y)
    (λ t.
    let j : Memᴰ x (y ∷ keep p xs) = rw t at i in
    ⊎_elim (λ (e : x ≡ y). mathlib.Core.List.Memᴰ.head e) (λ k. mathlib.Core.List.Memᴰ.tail (keep-member p xs x k)) (mathlib.Core.List.Memᴰ.cases_cons j))
    (λ t. mathlib.Core.List.Memᴰ.tail (keep-member p xs x (rw t at i)))

-- ---- all entries of a table

pub data All (S : Entry → Type 0) : List Entry → Type 0 where
  none : All S []
  more : {e : Entry} {T : List Entry} → S e → All S T → All S (e ∷ T)

module _ {S : Entry → Type 0} where
  pub all-at : {T : List Entry} → All S T → (i : ℕ) → i < length T → S (get_or T i empty)
  all-at none i h = absurd (omega arith)
  all-at (more s a) zero h = s
  all-at (more s a) (suc i) h = all-at a i (omega arith)

  pub all-each : (T : List Entry) → ((i : ℕ) → i < length T → S (get_or T i empty)) → All S T
  all-each [] h = none
  all-each (e ∷ T) h = more (h 0 (omega arith)) (all-each T (λ i l. h (suc i) (omega arith)))

  -- also past the end
  pub all_get : S empty → {T : List Entry} → All S T → (i : ℕ) → S (get_or T i empty)
  all_get z none i = z
  all_get z (more s a) zero = s
  all_get z (more s a) (suc i) = all_get z a i

  all_append : {T U : List Entry} → All S T → All S U → All S (T ++ U)
  all_append none b = b
  all_append (more s a) b = more s (all_append a b)

  all_set : (e : Entry) (i : ℕ) → S e → {T : List Entry} → All S T → All S (set T i e)
  all_set e i s none = none
  all_set e zero s (more t a) = more s a
  all_set e (suc i) s (more t a) = more t (all_set e i s a)

  all-blank : S empty → (n : ℕ) → All S (replicate n empty)
  all-blank z zero = none
  all-blank z (suc n) = more z (all-blank z n)

  -- a fold over entries
  all-over : {Q : Entry → Type 0} (f : List Entry → Entry → List Entry) → ((T : List Entry) (e : Entry) → Q e → All S T → All S (f T e))
      → {P T : List Entry} → All Q P → All S T → All S (fold f T P)
  unfolding fold
  all-over f h none a = a
  all-over f h {T = U} (more {e} q p) a = all-over f h p (h U e q a)

fold-keeps : (Q : List Entry → Type 0) (f : List Entry → ℕ → List Entry) (ms : List ℕ)
    → ((T : List Entry) (m : ℕ) → Memᴰ m ms → Q T → Q (f T m)) → (T : List Entry) → Q T → Q (fold f T ms)
unfolding fold
fold-keeps Q f [] h T a = a
fold-keeps Q f (m ∷ ms) h T a = fold-keeps Q f ms (λ U k i. h U k (mathlib.Core.List.Memᴰ.tail i)) (f T m) (h T m (mathlib.Core.List.Memᴰ.head refl) a)

-- ---- methods put into a table: what a store and a new last entry keep of it, where S holds of the entry, they keep

module _ (same : Same) (ws text abi : List ℕ) (S : Entry → Type 0) (Q : List Entry → Type 0)
    (store : (e : Entry) (i : ℕ) (T : List Entry) → S e → Q T → Q (set T i e)) (last : (e : Entry) (T : List Entry) → S e → Q T → Q (T ++ (e ∷ []))) where
  put-method : (fixed slot : Option ℕ) (m : ℕ) (T U : List Entry) → put_method same ws fixed slot m T ≡ built U → S (method_entry ws m) → Q T → Q U
  unfolding put_method
  put-method (Some i) slot m T U e s a =
      by (on_found slot (λ j. not (eqb j i)) false) (λ t. not-built (rw t at e))
      (λ t.
      let r = rw t at e in
      by (entry_is_other same (of_method m) (get_or T i empty)) (λ u. not-built (rw u at r))
      (λ u. subst Q (built-same (rw u at r)) (store (method_entry ws m) i T s a)))
  put-method None (Some j) m T U e s a = subst Q (built-same e) (store (method_entry ws m) j T s a)
  put-method None None m T U e s a = subst Q (built-same e) (last (method_entry ws m) T s a)

  add-one : (abis : List ℕ) (m : ℕ) (T U : List Entry) → add_method same ws text abi abis m T ≡ built U → S (method_entry ws m) → Q T → Q U
  unfolding add_method
  add-one abis m T U e s a =
      by (eligible ws text m)
      (λ t. put-method (fixed_of same abi abis m) (slot_of same (of_method m) T) m T U (rw t at e) s a)
      (λ t. subst Q (built-same (rw t at e)) a)

  pub adds : (abis ms : List ℕ) → ((m : ℕ) → Memᴰ m ms → S (method_entry ws m)) → (T U : List Entry)
      → add_methods same ws text abi abis ms T ≡ built U → Q T → Q U
  unfolding add_methods
  adds abis [] h T U e a = subst Q (built-same e) a
  adds abis (m ∷ ms) h T U e a =
      let r = built_on (add_method same ws text abi abis m T) (add_methods same ws text abi abis ms) U e in
      adds abis ms (λ k i. h k (mathlib.Core.List.Memᴰ.tail i)) r.0 U r.2 (add-one abis m T r.0 r.1 (h m (mathlib.Core.List.Memᴰ.head refl)) a)

  -- kind 3
  put-taken : (e : Entry) (is : List ℕ) (T : List Entry) → S e → Q T → Q (put_taken e T is)
  unfolding put_taken
  put-taken e [] T s a = last e T s a
  put-taken e (i ∷ is) T s a = fold-keeps Q (λ U j. set U j e) is (λ U j k b. store e j U s b) (set T i e) (store e i T s a)

  pub packages : (introduced : ℕ → Option ℕ) (c : ℕ) → ((m : ℕ) → Memᴰ m (own_methods ws c) → S (method_entry ws m)) → (P : List Entry) → Q P
      → Q (packages_over (methods_same same) ws text introduced c P)
  unfolding packages_over take_slots
  packages introduced c h P p =
      fold-keeps Q (take_slots (methods_same same) ws text introduced (length P) c) (own_methods ws c)
      (λ T m i a.
      by (eligible ws text m)
      (λ t. rw t (put-taken (method_entry ws m) (taken_slots introduced (overridden (methods_same same) ws text c m) (length P)) T (h m i) a)) (λ t. rw t a))
      P p

-- ---- tables that are built from entries P of which S holds, over the empty entry and those of methods

module _ (same : Same) (ws text abi : List ℕ) (S : Entry → Type 0) (blank : S empty) where
  -- what stands at an index is one of them or empty, and what follows is of them
  module _ (alike : ℕ → ℕ → Bool) (fixed staying : ℕ → Option ℕ) where
    last-all : (m : ℕ) (l : Entry) {P : List Entry} → S l → All S P → S (last_of alike m l P)
    unfolding last_of fold
    last-all m l s none = s
    last-all m l s (more {e} t a) = by (is_of alike m e) (λ q. rw q (last-all m e t a)) (λ q. rw q (last-all m l s a))

    standing-all : {P : List Entry} → All S P → (i : ℕ) → S (standing alike staying P i)
    unfolding standing
    standing-all a i = by-found (staying i) (λ h q. rw q (last-all h empty blank a)) (λ q. rw q blank)

    following-all : {P : List Entry} → All S P → All S (following alike fixed staying P)
    unfolding following
    following-all none = none
    following-all (more {e} {T} s a) =
        by (follows alike fixed staying e T) (λ q. rw q (more s (following-all a))) (λ q. rw q (following-all a))

  list_all : (f : ℕ → Entry) → ((i : ℕ) → S (f i)) → (m n : ℕ) → All S (list_from f m n)
  unfolding list_from
  list_all f h m zero = none
  list_all f h m (suc n) = more (h m) (list_all f h (m + 1) n)

  pub relayed-all : (abis : List ℕ) {P : List Entry} → All S P → All S (relayed same abi abis P)
  unfolding relayed laid_out
  relayed-all abis {P} p =
      all_append
      (list_all (standing (methods_same same) (staying_of same abi abis P) P)
      (standing-all (methods_same same) (fixed_of same abi abis) (staying_of same abi abis P) p) 0 (minimum_size abi abis))
      (following-all (methods_same same) (fixed_of same abi abis) (staying_of same abi abis P) p)

  pub extended-all : (abis : List ℕ) {P : List Entry} → All S P → All S (extended abi abis P)
  unfolding extended
  extended-all abis {P} p = all_append p (all-blank blank (minimum_size abi abis - length P))

  pub adds-all : (abis ms : List ℕ) → ((m : ℕ) → Memᴰ m ms → S (method_entry ws m)) → (T U : List Entry)
      → add_methods same ws text abi abis ms T ≡ built U → All S T → All S U
  adds-all = adds same ws text abi S (All S) (λ e i T s a. all_set e i s a) (λ e T s a. all_append a (more s none))

  -- kind 3
  pub packages-all : (introduced : ℕ → Option ℕ) (c : ℕ) → ((m : ℕ) → Memᴰ m (own_methods ws c) → S (method_entry ws m)) → {P : List Entry} → All S P
      → All S (packages_over (methods_same same) ws text introduced c P)
  packages-all introduced c h {P} p =
      packages same ws text abi S (All S) (λ e i T s a. all_set e i s a) (λ e T s a. all_append a (more s none)) introduced c h P p

  pub interface-all : (ms : List ℕ) → ((m : ℕ) → Memᴰ m ms → S (method_entry ws m)) → All S (method_entries ws ms)
  unfolding method_entries
  interface-all [] h = none
  interface-all (m ∷ ms) h = more (h m (mathlib.Core.List.Memᴰ.head refl)) (interface-all ms (λ k i. h k (mathlib.Core.List.Memᴰ.tail i)))

  -- the native view, and what a compiler table makes of it

  view-all : (abis : List ℕ) (i : ℕ) {P : List Entry} → All S P → All S (view_from same ws abi abis i P)
  unfolding view_from
  view-all abis i none = none
  view-all abis i (more {e} s p) =
      by (is_emptied same ws abi abis i e) (λ t. rw t (more blank (view-all abis (i + 1) p))) (λ t. rw t (more s (view-all abis (i + 1) p)))

  module _ (new : List Taken) where
    entries-all : (c i : ℕ) {view : List Entry} (ts : List ℕ)
        → ((t : ℕ) → Memᴰ t ts → t ≢ 0 → S (record { word = t; method = match_target ws new c view t; source = None }))
        → All S view → All S (compiler_entries ws new c view i ts)
    unfolding compiler_entries compiler_entry
    entries-all c i [] h v = none
    entries-all c i {view} (t ∷ ts) h v =
        by (eqb t 0)
        (λ z. rw z (more (all_get blank v i) (entries-all c (i + 1) ts (λ u k. h u (mathlib.Core.List.Memᴰ.tail k)) v)))
        (λ z. rw z (more (h t (mathlib.Core.List.Memᴰ.head refl) (eqb-false t 0 z)) (entries-all c (i + 1) ts (λ u k. h u (mathlib.Core.List.Memᴰ.tail k)) v)))

    append-one : (source : Option ℕ) {T : List Entry} (m : ℕ) → S (record { word = target_of ws new m; method = Some m; source = source }) → All S T
        → All S (append_from same ws text new source T m)
    unfolding append_from
    append-one source {T} m s a =
        by (is_eligible (flags_of ws new m) (name_of ws text new m) && not (has_slot same new m T)) (λ t. rw t (all_append a (more s none)))
        (λ t. rw t a)

    append-known : (f source : Option ℕ) {T : List Entry} → ((m : ℕ) → f ≡ Some m → S (record { word = target_of ws new m; method = Some m; source = source }))
        → All S T → All S (on_found f (append_from same ws text new source T) T)
    append-known (Some m) source s a = append-one source m (s m refl) a
    append-known None source s a = a

-- ---- the parent's entries: read with their own index, and their methods are of the sheet

module _ (same : Same) (ws text abi labels : List ℕ) where
  module _ (area : List ℕ) (c : ℕ) where
    abbrev P : List Entry
    P = parent_entries same ws text abi labels area c

    abbrev new : List Taken
    new = generated_methods same ws text abi labels area c

    record Parent (e : Entry) : Type 0 where
      index : ℕ
      below : index < length P
      is : e ≡ get_or P index empty
      source : e.source ≡ Some index
      small : (m : ℕ) → e.method ≡ Some m → m < method_limit

    pub read-parent : (j : ℕ) → j < length P → ((get_or P j empty).source ≡ Some j) × ((m : ℕ) → (get_or P j empty).method ≡ Some m → m < method_limit)
    unfolding parent_entries table_entries read_slot
    read-parent j h =
        by (eqb (parent_of ws c) 0) (λ t. absurd (let z = rw t at h in omega arith))
        (λ t.
        let p : ℕ = parent_of ws c in
        let n : ℕ = min (class_slot_count ws p) 1024 in
        let f : ℕ → Entry = λ i. read_entry same ws text abi labels p i (get_or area (class_table_place ws p + 1 + i) 0) in
        let l = length-list-from f 0 n in
        let q : get_or (list_from f 0 n) j empty ≡ f (0 + j) = get_d_list_from f 0 n j empty (omega (arith, rw t at h)) in
        let z : 0 + j ≡ j = omega arith in
        rw (t, q, z) (unfold read_entry in refl, λ m e. entry-room same ws text abi labels p j _ m e))

    parents : All Parent P
    parents =
        all-each P (λ j h.
        let r = read-parent j h in record { index = j; below = h; is = refl; source = r.0; small = r.1 })

    abbrev Here : Entry → Type 0
    Here = Slot ws new c P

    all_less : {Q S : Entry → Type 0} → ((e : Entry) → Q e → S e) → {T : List Entry} → All Q T → All S T
    all_less f none = none
    all_less f (more {e} q a) = more (f e q) (all_less f a)

    copies : All Here P
    copies = all_less (λ e p. whole p.index p.below p.is p.source) parents

    blank : Here empty
    blank = hole refl

    own : (m : ℕ) → Memᴰ m (own_methods ws c) → Here (method_entry ws m)
    own m i = declared m i refl

    -- ---- kind by kind

    inherited : All Here (inherited_table same ws text abi labels area c)
    unfolding inherited_table
    inherited =
        by-found (class_abi ws text abi labels c)
        (λ a e. rw e (relayed-all same ws text abi Here blank (chain_abi ws text abi labels c) copies))
        (λ e. rw e (extended-all same ws text abi Here blank (chain_abi ws text abi labels c) copies))

    methods-built : (T : List Entry) → build_methods same ws text abi labels area c ≡ built T → All Here T
    unfolding build_methods
    methods-built T e =
        adds-all same ws text abi Here blank (chain_abi ws text abi labels c) (own_methods ws c) own
        (inherited_table same ws text abi labels area c) T e inherited

    packages-built : All Here (build_packages same ws text abi labels area c)
    unfolding build_packages
    packages-built =
        by (ltb class_limit c) (λ t. rw t none)
        (λ t. rw t (packages-all same ws text abi Here blank (introducing same ws text abi labels area (parent_of ws c)) c own copies))

    interface-built : All Here (build_interface_methods ws text c)
    unfolding build_interface_methods
    interface-built =
        interface-all same ws text abi Here blank (keep (eligible ws text) (own_methods ws c))
        (λ m i. own m (keep-member (eligible ws text) (own_methods ws c) m i))

    -- a declared method has its own target, an added one that of its slot
    target-of : (xs : List Taken) (m : ℕ) → m < method_limit → target_of ws xs m ≡ method_target ws m
    unfolding target_of
    target-of xs m h = rw (lt-ltb m method_limit h)

    module _ (h : HasCompiler ws c) (g : new ≡ added_methods same ws text abi labels area c) where
      abbrev xs : List Taken
      xs = added_methods same ws text abi labels area c

      class-method : (m : ℕ) → Memᴰ m (class_methods ws xs c) → Here (record { word = target_of ws xs m; method = Some m; source = None })
      unfolding class_methods
      class-method m i =
          ⊎_elim
          (λ k. rw (target-of xs m (own-method-room ws c m k)) (own m k))
          (λ k.
          let b = numbers-within method_limit (length xs) m k in
          added h (m - method_limit) (rw g (omega arith)) (rw g (unfold target_of in rw (le-ltb m method_limit (omega arith)))) refl)
          (mathlib.Core.List.Memᴰ.append_cases (own_methods ws c) i)

      parent-method : (e : Entry) → Parent e → (m : ℕ) → e.method ≡ Some m → Here (record { word = target_of ws xs m; method = Some m; source = e.source })
      parent-method e p m q =
          rw (target-of xs m (p.small m q), p.source)
          (appended p.index m p.below (ap (λ (x : Entry). x.method) (sym p.is) ∙ q) refl)

      compiler-built : All Here (compiler_table same ws text abi labels area c)
      unfolding compiler_table native_view append_entry
      compiler-built =
          all-over (append_entry same ws text xs) (λ T e p a. append-known same ws text abi Here blank xs e.method e.source (parent-method e p) a) parents
          (fold-keeps (All Here) (append_from same ws text xs None) (class_methods ws xs c)
          (λ T m i a. append-one same ws text abi Here blank xs None m (class-method m i) a)
          (compiler_entries ws xs c (native_view same ws text abi labels area c) 0 (compiler_targets ws c))
          (entries-all same ws text abi Here blank xs c 0 (compiler_targets ws c) (λ t i n. compiled h i n refl)
          (view-all same ws text abi Here blank (chain_abi ws text abi labels (parent_of ws c)) 0 copies)))

    built-built : (T : List Entry) → built_table same ws text abi labels area c ≡ built T → All Here T
    unfolding built_table
    built-built T e =
        by (is_packaged ws c) (λ t. subst (All Here) (built-same (rw t at e)) packages-built)
        (λ t.
        let r = rw t at e in
        by (is_interface (class_flags ws c)) (λ u. subst (All Here) (built-same (rw u at r)) interface-built) (λ u. methods-built T (rw u at r)))

    generated-built : is_generated ws c ≡ true → (T : List Entry) → generated_table same ws text abi labels area c ≡ built T → All Here T
    unfolding generated_table generated_methods
    generated-built g T e =
        by (eqb (class_compiler_table ws c) 0) (λ t. methods-built T (rw t at e))
        (λ t. subst (All Here) (built-same (rw t at e)) (compiler-built (record { generated = g; table = eqb-false _ _ t }) (rw t)))

    pub table-built : (T : List Entry) → table_by same ws text abi labels area c ≡ built T → All Here T
    unfolding table_by
    table-built T e =
        by (is_built_kind (class_kind ws c)) (λ t. built-built T (rw t at e))
        (λ t.
        let r = rw t at e in by (is_generated ws c) (λ u. generated-built u T (rw u at r)) (λ u. subst (All Here) (built-same (rw u at r)) copies))
