-- Laws of the slots of a compiler table: methods found by target, and the slots one after the other. Assumes nothing.
use mathlib.Core.Path.{◌≡◌, refl, sym, ◌∙◌}
use mathlib.Core.Bool.{Bool, true, false}
use mathlib.Core.List.{List, [], ◌∷◌, ◌++◌}
use Prim.Native.Nat.{ℕ, zero, suc, ◌+◌, ◌-◌, ◌%◌, ◌≤◌, ◌<◌, min}
use native.Mathlib.Omega.{arith}
use lib.ListN.{length, get_or}
use lib.Dec.{eqb}
use borrow.Author.Tests.{eq-eqb, ne_eqb}
use Rattle.words.specs.Lists.{list_from, numbers, find, first_found, fold, some}
use Rattle.std.specs.Option.{option_map, option_or, option_and_then}
use Rattle.std.specs.Prelude.{Option, Some, None, find as first_of}
use Rattle.words.proofs.Bools.{by}
use Rattle.words.proofs.ListLaws.{find-within, by-found}
use Rattle.class_sheet.specs.ClassSheet.{class_first_method, class_method_count, class_compiler_table, class_compiler_slots, compiler_word, method_limit}
use Rattle.linking.specs.Signature.{Same}
use Rattle.linking.specs.Chain.{list_count, own_methods}
use Rattle.linking.specs.Vtable.{Entry, empty, parent_entries}
use Rattle.linking.specs.Compiler.{Taken, target_of, class_methods, entry_target, match_target, compiler_entry, compiler_entries, compiler_targets, append_from, append_entry, native_view, added_methods, compiler_table}
use Rattle.reading.specs.declared.table.Slot.{Slot}
use Rattle.reading.specs.Arrays.{mark_of, method_of, source_of}
use Rattle.reading.specs.Tables.{entry}
use Rattle.reading.proofs.ArrayLaws.{method-back, none-back, no_source}
use Rattle.compiler.specs.Methods.{has_target}

-- ---- marks

mark-again : (k : ℕ) → method_of (mark_of (method_of k)) ≡ method_of k
unfolding method_of
mark-again k = by (eqb (k % 4096) 0) (λ q. rw q none-back) (λ q. rw q (method-back (k % 4096 - 1) (omega arith)))

-- ---- searches, in general

find-append : (p : ℕ → Bool) (xs ys : List ℕ) → find p (xs ++ ys) ≡ option_or (find p xs) (find p ys)
unfolding find
find-append p [] ys = refl
find-append p (x ∷ xs) ys = by (p x) (λ q. rw q) (λ q. rw q (find-append p xs ys))

-- a search along a list of values goes along their numbers
pub some-list {ℓ} : {A : Type ℓ} (p : A → Bool) (q : ℕ → Bool) (e : ℕ → A) (m n : ℕ) → ((i : ℕ) → p (e i) ≡ q i)
    → some p (list_from e m n) ≡ some q (numbers m n)
unfolding some list_from
some-list p q e m zero h = refl
some-list p q e m (suc n) h = rw (h m, some-list p q e (m + 1) n h)

pub found-list {ℓ} : {A : Type ℓ} (f : A → Option ℕ) (g : ℕ → Option ℕ) (e : ℕ → A) (m n : ℕ) → ((i : ℕ) → f (e i) ≡ g i)
    → first_found f (list_from e m n) ≡ first_found g (numbers m n)
unfolding first_found list_from
found-list f g e m zero h = refl
found-list f g e m (suc n) h = rw (h m, found-list f g e (m + 1) n h)

-- ---- by target

module _ (ws : List ℕ) (new : List Taken) where
  module _ (t : ℕ) (e : Entry) where
    pub target_unknown : {o : Option ℕ} → o ≡ e.method → o ≡ None → false ≡ has_target ws new t e
    unfolding has_target
    target_unknown h f = rw (← h, f)

    pub target_known : {o : Option ℕ} {j : ℕ} {b : Bool} → o ≡ e.method → o ≡ Some j → b ≡ eqb (target_of ws new j) t → b ≡ has_target ws new t e
    unfolding has_target
    target_known h f g = g ∙ rw (← h, f)

    has_yes : (X : Option ℕ) → has_target ws new t e ≡ true → option_or (entry_target ws new t e) X ≡ e.method
    unfolding has_target entry_target
    has_yes X h =
        by-found e.method
        (λ m q. let f : eqb (target_of ws new m) t ≡ true = rw q at h in rw (q, f))
        (λ q. let f : false ≡ true = rw q at h in absurd (let z : ◌≡◌ {A = ℕ} 0 1 = cc in omega arith))

    has_no : has_target ws new t e ≡ false → entry_target ws new t e ≡ None
    unfolding has_target entry_target
    has_no h =
        by-found e.method
        (λ m q. let f : eqb (target_of ws new m) t ≡ false = rw q at h in rw (q, f))
        (λ q. rw q)

  module _ (t : ℕ) where
    -- what a search by a test finds is what the definition's finds
    view_found : (E : List Entry) → first_found (entry_target ws new t) E ≡ option_and_then (λ e. e.method) (first_of (has_target ws new t) E)
    unfolding first_found
    view_found [] = refl
    view_found (e ∷ E) =
        by (has_target ws new t e) (λ q. rw q (has_yes t e (first_found (entry_target ws new t) E) q)) (λ q. rw (q, has_no t e q) (view_found E))

    module _ (E : List Entry) {o : Option Slot} (f : option_map entry o ≡ first_of (has_target ws new t) E) where
      pub view_hit : {s : Slot} {r : Option ℕ} → o ≡ Some s → r ≡ method_of s.mark
          → (r ≡ first_found (entry_target ws new t) E) × (method_of (mark_of r) ≡ r)
      view_hit {s = s} q h = (h ∙ sym (view_found E ∙ rw (← f, q) refl), rw h (mark-again s.mark))

      pub view_none : o ≡ None → None ≡ first_found (entry_target ws new t) E
      view_none q = sym (view_found E ∙ rw (← f, q) refl)

    -- declared, added, native
    module _ (c : ℕ) (view : List Entry) {first count : ℕ} (ef : first ≡ class_first_method ws c)
        (ec : count ≡ list_count (class_first_method ws c) (class_method_count ws c) method_limit) {r : Option ℕ}
        (er : r ≡ find (λ m. eqb (target_of ws new m) t) (numbers first count)) where
      own_is : r ≡ find (λ m. eqb (target_of ws new m) t) (own_methods ws c)
      unfolding own_methods
      own_is = er ∙ rw (ef, ec)

      own_room : (m : ℕ) → r ≡ Some m → m < method_limit
      own_room m q = omega (arith, find-within (λ m. eqb (target_of ws new m) t) first count m (sym er ∙ q))

      match_is : match_target ws new c view t
          ≡ option_or (option_or r (find (λ m. eqb (target_of ws new m) t) (numbers method_limit (length new)))) (first_found (entry_target ws new t) view)
      unfolding match_target class_methods
      match_is = rw (find-append (λ m. eqb (target_of ws new m) t) (own_methods ws c) (numbers method_limit (length new)), ← own_is)

      pub match_own : (m : ℕ) → r ≡ Some m → (Some m ≡ match_target ws new c view t) × (method_of (mark_of (Some m)) ≡ Some m)
      match_own m q = let l = own_room m q in (rw (match_is, q), method-back m (omega arith))

      module _ (z : r ≡ None) {n : ℕ} (en : length new ≡ n) {s : Option ℕ} (es : s ≡ find (λ m. eqb (target_of ws new m) t) (numbers method_limit n)) where
        pub match_added : (m : ℕ) → n ≤ 1024 → s ≡ Some m → (Some m ≡ match_target ws new c view t) × (method_of (mark_of (Some m)) ≡ Some m)
        match_added m h q =
            let l = find-within (λ m. eqb (target_of ws new m) t) method_limit n m (sym es ∙ q) in
            (rw (match_is, z, en, ← es, q), method-back m (omega arith))

        pub match_view : {f : Option ℕ} → s ≡ None → f ≡ first_found (entry_target ws new t) view → f ≡ match_target ws new c view t
        match_view q v = v ∙ rw (match_is, z, en, ← es, q)

  -- ---- the slots

  module _ (c : ℕ) (view : List Entry) where
    pub slot_zero : (i : ℕ) {t : ℕ} {e : Entry} → t ≡ 0 → e ≡ get_or view i empty → e ≡ compiler_entry ws new c view i t
    unfolding compiler_entry
    slot_zero i {t = t} z h = rw (eq-eqb t 0 z) h

    -- the mark of a method found by its target is of no copy
    pub slot_match : (i : ℕ) {t k : ℕ} {f : Option ℕ} → (t ≡ 0 → ⊥) → f ≡ match_target ws new c view t → method_of (mark_of f) ≡ f → k ≡ mark_of f
        → ◌≡◌ {A = Entry} (record { word = t; method = method_of k; source = source_of k }) (compiler_entry ws new c view i t)
    unfolding compiler_entry
    slot_match i {t = t} {f = f} z e g h = rw (ne_eqb t 0 z, h, g, no_source f, e)

    abbrev slot_at : ℕ → Entry
    slot_at i = compiler_entry ws new c view i (compiler_word ws (class_compiler_table ws c - 1 + i))

    -- slot by slot
    entries-from : (f : ℕ → ℕ) (i k : ℕ) → compiler_entries ws new c view i (list_from f i k) ≡ list_from (λ j. compiler_entry ws new c view j (f j)) i k
    unfolding compiler_entries list_from
    entries-from f i zero = refl
    entries-from f i (suc k) = rw (entries-from f (i + 1) k)

    pub slots-all : {count : ℕ} {es : List Entry} → count ≡ min (class_compiler_slots ws c) 1024 → es ≡ list_from slot_at 0 count
        → es ≡ compiler_entries ws new c view 0 (compiler_targets ws c)
    unfolding compiler_targets
    slots-all {count = count} e f = f ∙ rw (← e) (sym (entries-from (λ i. compiler_word ws (class_compiler_table ws c - 1 + i)) 0 count))

-- ---- the whole table

pub prepared_is : (same : Same) (ws text abi labels area : List ℕ) (c : ℕ) {new : List Taken} {view parent T : List Entry}
    → parent ≡ parent_entries same ws text abi labels area c → view ≡ native_view same ws text abi labels area c
    → new ≡ added_methods same ws text abi labels area c
    → T ≡ fold (append_entry same ws text new)
    (fold (append_from same ws text new None) (compiler_entries ws new c view 0 (compiler_targets ws c)) (class_methods ws new c)) parent
    → T ≡ compiler_table same ws text abi labels area c
unfolding compiler_table
prepared_is same ws text abi labels area c p v n e = e ∙ rw (p, v, n)
