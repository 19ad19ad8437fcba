-- What is a copy, of a compiler table by index (specs/Sources.antt): the compiler's slots come first, and what is appended leaves them as they are. A method
-- that had its turn is not appended again, so an appended parent method is a copy of its first entry. Assumes nothing.
use Rattle.std.proofs.Common.{◌≡◌, refl, sym, ap, ◌∙◌, subst, ◌≢◌, Bool, true, false, not, ◌&&◌, true≢false, List, [], ◌∷◌, ◌++◌, ℕ, zero, suc, ◌+◌, ◌≤◌, ◌<◌, arith, length, get_or, length-append, eqb, eqb-true, ne_eqb, Option, Some, None}
use mathlib.Core.List.{Memᴰ}
use lib.ListN.{get_or-append, get_or-eq_default}
use borrow.Author.Tests.{eqb-false}
use Rattle.words.specs.Lists.{fold, some}
use Rattle.words.proofs.Bools.{by}
use Rattle.words.proofs.ListLaws.{by-found, some-append, not_found}
use Rattle.linking.specs.Signature.{Same, Place, by_bytes, by_numbers}
use Rattle.linking.specs.Chain.{on_found, is_eligible}
use Rattle.linking.specs.Vtable.{Entry, empty, parent_entries}
use Rattle.linking.specs.Compiler.{Taken, place_of, native_view, compiler_targets, added_methods, name_of, flags_of, target_of, class_methods, compiler_entry, compiler_entries, same_signature, has_slot, append_from, append_entry, compiler_table}
use Rattle.calls.specs.Sources.{Copies, Sources}
use Rattle.linking.proofs.Comparing.{Compares, bytes_compare, numbers_compare}
use Rattle.slots.proofs.ListFacts.{found-same}
use Rattle.calls.proofs.Sources.{all-at, read-parent, table-built}
use Rattle.calls.proofs.RelayedCopies.{table-copied, table-ordered}
use Rattle.calls.proofs.SameIndex.{table-placed}

-- ---- the compiler's slots

module _ (ws : List ℕ) (new : List Taken) (c : ℕ) (view : List Entry) where
  length-entries : (k : ℕ) (ts : List ℕ) → length (compiler_entries ws new c view k ts) ≡ length ts
  unfolding compiler_entries
  length-entries k [] = refl
  length-entries k (t ∷ ts) = ap suc (length-entries (k + 1) ts)

  entry_at : (k : ℕ) (ts : List ℕ) (i : ℕ) → i < length ts
      → get_or (compiler_entries ws new c view k ts) i empty ≡ compiler_entry ws new c view (k + i) (get_or ts i 0)
  unfolding compiler_entries
  entry_at k [] i h = absurd (omega arith)
  entry_at k (t ∷ ts) zero h = let e : k + 0 ≡ k = omega arith in rw e
  entry_at k (t ∷ ts) (suc i) h = let e : k + suc i ≡ k + 1 + i = omega arith in rw e (entry_at (k + 1) ts i (omega arith))

-- an entry at the end: what holds of it, of the empty one and of an index before holds of the index after
module _ (S : Entry → Type 0) (blank : S empty) (x : Entry) (s : S x) where
  at-end : (T : List Entry) (i : ℕ) → S (get_or T i empty) → S (get_or (T ++ (x ∷ [])) i empty)
  at-end [] zero h = s
  at-end [] (suc i) h = blank
  at-end (e ∷ T) zero h = h
  at-end (e ∷ T) (suc i) h = at-end T i h

-- no entry of P before the one that e is a copy of has its method
module _ (P : List Entry) where
  abbrev First : Entry → Type 0
  First e = (j m k : ℕ) → e.source ≡ Some j → e.method ≡ Some m → k < j → (get_or P k empty).method ≢ Some m

  no_source : (e : Entry) → e.source ≡ None → First e
  no_source x z j m k e = not_found (sym z ∙ e)

module _ (same : Same) (ws text : List ℕ) (new : List Taken) where
  -- method m is appended to T
  abbrev appends : ℕ → List Entry → Bool
  appends m T = is_eligible (flags_of ws new m) (name_of ws text new m) && not (has_slot same new m T)

  abbrev new_entry : Option ℕ → ℕ → Entry
  new_entry source m = record { word = target_of ws new m; method = Some m; source = source }

  -- ---- T is the front of U

  record Front (T U : List Entry) : Type 0 where
    long : length T ≤ length U
    kept : (i : ℕ) → i < length T → get_or U i empty ≡ get_or T i empty

  front-from : (source : Option ℕ) (T : List Entry) (m : ℕ) → Front T (append_from same ws text new source T m)
  unfolding append_from
  front-from source T m =
      by (appends m T)
      (λ t.
      rw t
      (record {
        long = omega (arith, length-append T (new_entry source m ∷ []));
        kept = λ i h. get_or-append T (new_entry source m ∷ []) empty i h;
      }))
      (λ t. rw t (record { long = omega arith; kept = λ i h. refl }))

  front-known : (f source : Option ℕ) (T : List Entry) → Front T (on_found f (append_from same ws text new source T) T)
  front-known (Some m) source T = front-from source T m
  front-known None source T = record { long = omega arith; kept = λ i h. refl }

  front-fold : {A : Type 0} (f : List Entry → A → List Entry) → ((T : List Entry) (x : A) → Front T (f T x)) → (T : List Entry) (xs : List A)
      → Front T (fold f T xs)
  unfolding fold
  front-fold f h T [] = record { long = omega arith; kept = λ i l. refl }
  front-fold f h T (x ∷ xs) =
      let a = h T x in
      let b = front-fold f h (f T x) xs in
      record { long = omega (arith, a.long, b.long); kept = λ i l. b.kept i (omega (arith, a.long)) ∙ a.kept i l }

  -- ---- what is appended, from index n on

  module _ (S : Entry → Type 0) (blank : S empty) (n : ℕ) where
    abbrev From : List Entry → Type 0
    From T = (i : ℕ) → n ≤ i → S (get_or T i empty)

    from_one : (source : Option ℕ) (T : List Entry) (m : ℕ) → (appends m T ≡ true → S (new_entry source m)) → From T
        → From (append_from same ws text new source T m)
    unfolding append_from
    from_one source T m s h i l =
        by (appends m T) (λ t. rw t (at-end S blank (new_entry source m) (s t) T i (h i l))) (λ t. rw t (h i l))

    from-known : (f source : Option ℕ) (T : List Entry) → ((m : ℕ) → S (new_entry source m)) → From T
        → From (on_found f (append_from same ws text new source T) T)
    from-known (Some m) source T s h = from_one source T m (λ t. s m) h
    from-known None source T s h = h

    from-methods : (ms : List ℕ) (T : List Entry) → ((m : ℕ) → Memᴰ m ms → S (new_entry None m)) → From T
        → From (fold (append_from same ws text new None) T ms)
    unfolding fold
    from-methods [] T s h = h
    from-methods (m ∷ ms) T s h =
        from-methods ms (append_from same ws text new None T m) (λ k i. s k (Memᴰ.tail i)) (from_one None T m (λ t. s m (Memᴰ.head refl)) h)

    from_entries : (E T : List Entry) → ((k m : ℕ) → k < length E → S (new_entry (get_or E k empty).source m)) → From T
        → From (fold (append_entry same ws text new) T E)
    unfolding fold append_entry
    from_entries [] T s h = h
    from_entries (e ∷ E) T s h =
        from_entries E (on_found e.method (append_from same ws text new e.source T) T) (λ k m l. s (suc k) m (omega arith))
        (from-known e.method e.source T (λ m. s 0 m (omega arith)) h)

  -- ---- a method that had its turn is not appended again: it is not eligible, or has a slot by then

  module _ (self : (p : Place) → same p p ≡ true) where
    own-slot : (source : Option ℕ) (m : ℕ) (T : List Entry) → has_slot same new m (T ++ (new_entry source m ∷ [])) ≡ true
    unfolding has_slot some same_signature
    own-slot source m T =
        rw (
          some-append (λ e. on_found e.method (same_signature same new m) false) T (new_entry source m ∷ []),
          self (place_of new m),
        )
        (by (has_slot same new m T) (λ t. rw t) (λ t. rw t))

    turn-over : (source : Option ℕ) (m : ℕ) (T : List Entry) → appends m (append_from same ws text new source T m) ≡ false
    unfolding append_from
    turn-over source m T =
        by (appends m T)
        (λ t. rw (t, own-slot source m T) (by (is_eligible (flags_of ws new m) (name_of ws text new m)) (λ u. rw u) (λ u. rw u)))
        (λ t. rw (t, t))

  over-stays : (m : ℕ) (T : List Entry) (e : Entry) → appends m T ≡ false → appends m (T ++ (e ∷ [])) ≡ false
  unfolding has_slot
  over-stays m T e h =
      by (is_eligible (flags_of ws new m) (name_of ws text new m))
      (λ t.
      by (has_slot same new m T)
      (λ u. rw (t, some-append (λ e. on_found e.method (same_signature same new m) false) T (e ∷ []), u))
      (λ u. absurd (true≢false (rw (t, u) at h))))
      (λ t. rw t)

  -- ---- so an appended parent method is a copy of its first entry: the turn of a later one comes too late

  module _ (self : (p : Place) → same p p ≡ true) (P : List Entry) where
    -- the methods of entries below b had their turn
    abbrev Over : ℕ → List Entry → Type 0
    Over b T = (k m : ℕ) → k < b → (get_or P k empty).method ≡ Some m → appends m T ≡ false

    module _ (b m : ℕ) (T : List Entry) (is : (get_or P b empty).method ≡ Some m) (over : Over b T) where
      first-new : appends m T ≡ true → First P (new_entry (Some b) m)
      first-new t j n k e f l g =
          let q : b ≡ j = found-same e in true≢false (sym t ∙ over k m (omega arith) (g ∙ sym f))

      over-next : Over (b + 1) (append_from same ws text new (Some b) T m)
      unfolding append_from
      over-next k n l g =
          by (eqb k b)
          (λ u.
          let e : k ≡ b = eqb-true k b u in
          let f : n ≡ m = found-same (sym (rw e at g) ∙ is) in
          rw f (unfold append_from in turn-over self (Some b) m T))
          (λ u.
          let d = eqb-false k b u in
          let h : appends n T ≡ false = over k n (omega arith) g in
          by (appends m T) (λ t. rw t (over-stays n T (new_entry (Some b) m) h)) (λ t. rw t h))

    turns : (n b : ℕ) (E T : List Entry)
        → ((k : ℕ) → k < length E → (get_or E k empty ≡ get_or P (b + k) empty) × ((get_or E k empty).source ≡ Some (b + k)))
        → From (First P) (no_source P empty refl) n T → Over b T → From (First P) (no_source P empty refl) n (fold (append_entry same ws text new) T E)
    unfolding fold append_entry
    turns n b [] T at h over = h
    turns n b (e ∷ E) T at h over =
        let z : b + 0 ≡ b = omega arith in
        let is : e ≡ get_or P b empty = rw z at (at 0 (omega arith)).0 in
        let from : e.source ≡ Some b = rw z at (at 0 (omega arith)).1 in
        let rest : (k : ℕ) → k < length E → (get_or E k empty ≡ get_or P (b + 1 + k) empty) × ((get_or E k empty).source ≡ Some (b + 1 + k)) = λ k l.
        let q : b + suc k ≡ b + 1 + k = omega arith in rw q at (at (suc k) (omega arith)) in
        by-found e.method
        (λ m q.
        let p : (get_or P b empty).method ≡ Some m = ap (λ (x : Entry). x.method) (sym is) ∙ q in
        rw (q, from)
        (turns n (b + 1) E (append_from same ws text new (Some b) T m) rest
        (from_one (First P) (no_source P empty refl) n (Some b) T m (first-new b m T p over) h) (over-next b m T p over)))
        (λ q.
        rw q
        (turns n (b + 1) E T rest h
        (λ k m l g.
        by (eqb k b)
        (λ u.
        let r : k ≡ b = eqb-true k b u in not_found (sym q ∙ ap (λ (x : Entry). x.method) is ∙ (rw r at g)))
        (λ u. let d = eqb-false k b u in over k m (omega arith) g))))

module _ (same : Same) (compares : Compares same) (ws text abi labels area : List ℕ) (c : ℕ) where
  abbrev methods : List Taken
  methods = added_methods same ws text abi labels area c

  abbrev view : List Entry
  view = native_view same ws text abi labels area c

  abbrev slots : List Entry
  slots = compiler_entries ws methods c view 0 (compiler_targets ws c)

  compiler-slot : (i : ℕ) → i < length (compiler_targets ws c)
      → get_or (compiler_table same ws text abi labels area c) i empty ≡ compiler_entry ws methods c view i (get_or (compiler_targets ws c) i 0)
  unfolding compiler_table append_entry
  compiler-slot i h =
      let n = length-entries ws methods c view 0 (compiler_targets ws c) in
      let T : List Entry = fold (append_from same ws text methods None) slots (class_methods ws methods c) in
      let a = front-fold same ws text methods (append_from same ws text methods None) (front-from same ws text methods None) slots
      (class_methods ws methods c) in
      let b = front-fold same ws text methods (append_entry same ws text methods) (λ T e. front-known same ws text methods e.method e.source T) T
      (parent_entries same ws text abi labels area c) in
      let z : 0 + i ≡ i = omega arith in
      b.kept i (omega (arith, a.long)) ∙ a.kept i (omega arith) ∙ (rw z at (entry_at ws methods c view 0 (compiler_targets ws c) i h))

  nonzero-slot : (i : ℕ) → i < length (compiler_targets ws c) → get_or (compiler_targets ws c) i 0 ≢ 0
      → (get_or (compiler_table same ws text abi labels area c) i empty).source ≡ None
  unfolding compiler_entry
  nonzero-slot i h n = rw (compiler-slot i h, ne_eqb (get_or (compiler_targets ws c) i 0) 0 n)

  zero-slot : (i : ℕ) → i < length (compiler_targets ws c) → get_or (compiler_targets ws c) i 0 ≡ 0
      → get_or (compiler_table same ws text abi labels area c) i empty ≡ get_or view i empty
  unfolding compiler_entry
  zero-slot i h z = rw (compiler-slot i h, z)

  abbrev of_parent : List Entry
  of_parent = parent_entries same ws text abi labels area c

  abbrev of_class : List Entry
  of_class = fold (append_from same ws text methods None) slots (class_methods ws methods c)

  -- past the compiler's slots
  past : (S : Entry → Type 0) → S empty → (i : ℕ) → length slots ≤ i → S (get_or slots i empty)
  past S z i h = subst S (sym (get_or-eq_default slots empty h)) z

  own-from : (i m : ℕ) → length (compiler_targets ws c) ≤ i → (get_or (compiler_table same ws text abi labels area c) i empty).source ≡ None
      → (get_or (compiler_table same ws text abi labels area c) i empty).method ≡ Some m → Memᴰ m (class_methods ws methods c)
  unfolding compiler_table
  own-from i m h =
      let n = length-entries ws methods c view 0 (compiler_targets ws c) in
      let S : Entry → Type 0 = λ e. e.source ≡ None → e.method ≡ Some m → Memᴰ m (class_methods ws methods c) in
      let z : S empty = λ e f. not_found f in
      from_entries same ws text methods S z (length slots) of_parent of_class
      (λ k l g e f. not_found (sym e ∙ (read-parent same ws text abi labels area c k g).0))
      (from-methods same ws text methods S z (length slots) (class_methods ws methods c) slots
      (λ k g e f. subst (λ x. Memᴰ x (class_methods ws methods c)) (found-same f) g) (past S z))
      i (omega arith)

  first-copy : (i : ℕ) → length (compiler_targets ws c) ≤ i → First of_parent (get_or (compiler_table same ws text abi labels area c) i empty)
  unfolding compiler_table
  first-copy i h =
      let n = length-entries ws methods c view 0 (compiler_targets ws c) in
      let z : First of_parent empty = no_source of_parent empty refl in
      turns same ws text methods compares.self of_parent (length slots) 0 of_parent of_class
      (λ k l. let q : 0 + k ≡ k = omega arith in rw q (refl, (read-parent same ws text abi labels area c k l).0))
      (from-methods same ws text methods (First of_parent) z (length slots) (class_methods ws methods c) slots
      (λ m g. no_source of_parent (new_entry same ws text methods None m) refl) (past (First of_parent) z))
      (λ k m l g. absurd (omega arith)) i (omega arith)

  pub copies : Copies same ws text abi labels area c
  copies = record {
    slots = λ T e i h. all-at (table-built same ws text abi labels area c T e) i h;
    same_index = λ T e none no_table. table-placed same ws text abi labels area c none no_table T e;
    relayed = λ T r e. table-copied same compares ws text abi labels area c r T e;
    in_order = λ T r e. table-ordered same compares ws text abi labels area c r T e;
    nonzero = nonzero-slot;
    zero = zero-slot;
    own = own-from;
    first = λ i j m k h. first-copy i h j m k;
  }

pub sources : Sources
sources = record {
  bytewise = λ ws text abi labels. copies (by_bytes ws text abi labels) (bytes_compare ws text abi labels) ws text abi labels;
  numbered = λ ns. copies (by_numbers ns) (numbers_compare ns);
}
