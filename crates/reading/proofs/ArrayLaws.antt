-- Laws of a table that is held in two arrays: a slot read, a slot stored, a slot more. Assumes nothing.
use mathlib.Core.Path.{◌≡◌, refl, sym, ap, ◌∙◌}
use mathlib.Core.Logic.{◌≢◌}
use mathlib.Core.List.{List, [], ◌∷◌, ◌++◌}
use Prim.Native.Nat.{ℕ, ◌+◌, ◌*◌, ◌-◌, ◌/◌, ◌%◌, ◌≤◌, ◌<◌}
use native.Mathlib.Omega.{arith}
use lib.ListN.{length, get_or, set, length-append, length-set, get_or-append}
use lib.Seq.{ext_get_or, get_or-set_same, get_or-set_other, get_or_at}
use lib.Dec.{eqb, ltb}
use borrow.Author.Tests.{ltb-true, ltb-false, lt-ltb, ne_eqb, eqb-true, eqb-false}
use Rattle.class_sheet.specs.ClassSheet.{method_target, method_limit}
use Rattle.words.proofs.Bools.{by}
use Rattle.std.specs.Prelude.{Option, Some, None}
use Rattle.std.proofs.lemmas.List.{get_or_past}
use Rattle.words.specs.Lists.{list_from}
use Rattle.words.proofs.ListLaws.{length-list-from, get_d_list_from}
use Rattle.linking.specs.Vtable.{Entry, empty, method_entry}
use Rattle.reading.specs.Arrays.{mark_of, copy_mark, method_of, source_of, entry_at, entries_of}

-- ---- marks

-- a method comes back from its mark
pub method-back : (m : ℕ) → m < 4095 → method_of (mark_of (Some m)) ≡ Some m
unfolding method_of mark_of
method-back m h =
    let e : (m + 1) % 4096 ≡ m + 1 = omega arith in
    let d : m + 1 - 1 ≡ m = omega arith in
    rw (lt-ltb m 4095 h, e, ne_eqb (m + 1) 0 (λ (z : m + 1 ≡ 0). omega arith), d)

-- a method's mark is of no copy
pub no_source : (f : Option ℕ) → source_of (mark_of f) ≡ None
unfolding source_of mark_of
no_source (Some m) =
    by (ltb m 4095) (λ t. let l = ltb-true m 4095 t in let e : (m + 1) / 4096 ≡ 0 = omega arith in rw (t, e)) (λ t. rw t)
no_source None = refl

pub sourceless : source_of 0 ≡ None
unfolding source_of
sourceless = refl

-- the mark of a copy
pub copy-method : (i k : ℕ) → method_of (copy_mark i k) ≡ method_of k
unfolding method_of copy_mark
copy-method i k = let e : (k % 4096 + 4096 * (i + 1)) % 4096 ≡ k % 4096 = omega arith in rw e

pub copy-source : (i k : ℕ) → source_of (copy_mark i k) ≡ Some i
unfolding source_of copy_mark
copy-source i k =
    let e : (k % 4096 + 4096 * (i + 1)) / 4096 ≡ i + 1 = omega arith in
    let d : i + 1 - 1 ≡ i = omega arith in
    rw (e, ne_eqb (i + 1) 0 (λ (z : i + 1 ≡ 0). omega arith), d)

-- none comes back from its mark, which is 0
pub no_method : method_of 0 ≡ None
unfolding method_of
no_method = refl

pub none-back : method_of (mark_of None) ≡ None
unfolding method_of mark_of
none-back = refl

-- what was found comes back from its mark, if it is one of the sheet's methods
pub found_back : (f : Option ℕ) → ((m : ℕ) → f ≡ Some m → m < method_limit) → method_of (mark_of f) ≡ f
found_back (Some m) h = let l = h m refl in method-back m (omega arith)
found_back None h = none-back

-- the entry with a method's mark is the method's
pub mark_entry : (ws : List ℕ) (m : ℕ) {t k : ℕ} → m < method_limit → t ≡ method_target ws m → k ≡ mark_of (Some m)
    → ◌≡◌ {A = Entry} (record { word = t; method = method_of k; source = source_of k }) (method_entry ws m)
mark_entry ws m h e f = rw (f, e, method-back m (omega arith), no_source (Some m))

-- ---- slots

pub length-entries : (ts ms : List ℕ) (n : ℕ) → length (entries_of ts ms n) ≡ n
unfolding entries_of
length-entries ts ms n = length-list-from (entry_at ts ms) 0 n

pub entry_found : (ts ms : List ℕ) (n i : ℕ) (d : Entry) → i < n → get_or (entries_of ts ms n) i d ≡ entry_at ts ms i
unfolding entries_of
entry_found ts ms n i d h = get_d_list_from (entry_at ts ms) 0 n i d h ∙ ap (entry_at ts ms) (omega arith)

-- what is read of slot i, and past the last
pub slot_is : (ts ms : List ℕ) (n i : ℕ) → i < n
    → ◌≡◌ {A = Entry} (record { word = get_or ts i 0; method = method_of (get_or ms i 0); source = source_of (get_or ms i 0) })
    (get_or (entries_of ts ms n) i empty)
unfolding entry_at
slot_is ts ms n i h = sym (entry_found ts ms n i empty h)

pub slot_past : (ts ms : List ℕ) (n i : ℕ) → n ≤ i → empty ≡ get_or (entries_of ts ms n) i empty
slot_past ts ms n i h = let e = length-entries ts ms n in sym (get_or_past (entries_of ts ms n) i empty (omega arith))

pub no_entries : (ts ms : List ℕ) → entries_of ts ms 0 ≡ []
unfolding entries_of list_from
no_entries ts ms = refl

-- slot i after a store there, and elsewhere
pub stored_here : (ts ms : List ℕ) (i w k : ℕ) → i < length ts → i < length ms
    → entry_at (set ts i w) (set ms i k) i ≡ record { word = w; method = method_of k; source = source_of k }
unfolding entry_at
stored_here ts ms i w k h g = rw (get_or-set_same ts i w 0 h, get_or-set_same ms i k 0 g)

pub stored_other : (ts ms : List ℕ) (i j w k : ℕ) → j ≢ i → entry_at (set ts i w) (set ms i k) j ≡ entry_at ts ms j
unfolding entry_at
stored_other ts ms i j w k n = rw (get_or-set_other ts i j w 0 n, get_or-set_other ms i j k 0 n)

-- a store to any slot, of the table or past it
pub put_slot : (ts ms : List ℕ) (n i w k : ℕ) → n ≤ length ts → n ≤ length ms
    → entries_of (set ts i w) (set ms i k) n ≡ set (entries_of ts ms n) i (record { word = w; method = method_of k; source = source_of k })
put_slot ts ms n i w k r s =
    ext_get_or empty (entries_of (set ts i w) (set ms i k) n) (set (entries_of ts ms n) i (record { word = w; method = method_of k; source = source_of k }))
    (rw (
      length-entries (set ts i w) (set ms i k) n,
      length-set (entries_of ts ms n) i (record { word = w; method = method_of k; source = source_of k }),
      length-entries ts ms n,
    ))
    (λ j l.
    let g : j < n = rw (length-entries (set ts i w) (set ms i k) n) at l in
    let e = length-entries ts ms n in
    by (eqb j i)
    (λ q.
    let p : j ≡ i = eqb-true j i q in
    let h : i < n = omega arith in
    rw p
    (entry_found (set ts i w) (set ms i k) n i empty h ∙ stored_here ts ms i w k (omega arith) (omega arith)
    ∙ sym (get_or-set_same (entries_of ts ms n) i (record { word = w; method = method_of k; source = source_of k }) empty (omega arith))))
    (λ q.
    let p : j ≢ i = eqb-false j i q in
    entry_found (set ts i w) (set ms i k) n j empty g ∙ stored_other ts ms i j w k p ∙ sym (entry_found ts ms n j empty g)
    ∙ sym (get_or-set_other (entries_of ts ms n) i j (record { word = w; method = method_of k; source = source_of k }) empty p)))

-- a store just after the last slot
pub push_slot : (ts ms : List ℕ) (n w k : ℕ) → n < length ts → n < length ms
    → entries_of (set ts n w) (set ms n k) (n + 1) ≡ entries_of ts ms n ++ (record { word = w; method = method_of k; source = source_of k } ∷ [])
push_slot ts ms n w k r s =
    let e = length-entries ts ms n in
    let f = length-append (entries_of ts ms n) (record { word = w; method = method_of k; source = source_of k } ∷ []) in
    ext_get_or empty (entries_of (set ts n w) (set ms n k) (n + 1))
    (entries_of ts ms n ++ (record { word = w; method = method_of k; source = source_of k } ∷ []))
    (rw (length-entries (set ts n w) (set ms n k) (n + 1)) (omega arith))
    (λ j l.
    let g : j < n + 1 = rw (length-entries (set ts n w) (set ms n k) (n + 1)) at l in
    by (ltb j n)
    (λ q.
    let h : j < n = ltb-true j n q in
    let p : j ≢ n = (λ (z : j ≡ n). omega arith) in
    entry_found (set ts n w) (set ms n k) (n + 1) j empty g ∙ stored_other ts ms n j w k p ∙ sym (entry_found ts ms n j empty h)
    ∙ sym (get_or-append (entries_of ts ms n) (record { word = w; method = method_of k; source = source_of k } ∷ []) empty j (omega arith)))
    (λ q.
    let h = ltb-false j n q in
    let p : j ≡ n = omega arith in
    rw p
    (entry_found (set ts n w) (set ms n k) (n + 1) n empty (omega arith) ∙ stored_here ts ms n w k r s
    ∙ sym (get_or_at (entries_of ts ms n) (record { word = w; method = method_of k; source = source_of k }) [] empty n e))))
