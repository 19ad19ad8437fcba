-- The slots that a method takes, as the code stores them. Assumes nothing.
use mathlib.Core.Path.{◌≡◌, refl, sym, ap, ◌∙◌}
use mathlib.Core.Logic.{inl, inr}
use mathlib.Core.Bool.{Bool, true, false, cond, not, ◌||◌, or-false, true≢false, false≢true}
use mathlib.Core.List.Memᴰ
use mathlib.Core.List.{List, [], ◌∷◌, ◌++◌, Memᴰ}
use Prim.Native.Nat.{ℕ, zero, suc, ◌+◌, ◌≤◌, ◌<◌}
use native.Mathlib.Omega.{arith}
use lib.ListN.{length, get_or, set, replicate, length-set, length-replicate}
use lib.Seq.{get_or-set_same, get_or-set_other}
use lib.Dec.{eqb}
use borrow.Author.Tests.{eqb-true, eqb-false, not-true, not-false}
use Rattle.words.specs.Lists.{list_from, numbers, fold, keep, some}
use Rattle.std.specs.Prelude.{Option, Some, None}
use Rattle.words.proofs.Bools.{by}
use Rattle.class_sheet.specs.ClassSheet.{class_limit, class_first_method, class_method_count, method_flags, method_limit}
use Rattle.linking.specs.Signature.{Same, methods_same}
use Rattle.linking.specs.Chain.{list_count, on_found, own_methods, parent_of, chain, is_virtual, eligible}
use Rattle.linking.specs.Vtable.{Entry, method_entry, parent_entries}
use Rattle.linking.specs.Packages.{is_overridden, overridden_in, overridden_along, reached_with, overridden, introducing, taken_slots, put_taken, take_slots, packages_over, build_packages}
use Rattle.linking.proofs.ChainLaws.{own-method-room}
use Rattle.linking.proofs.Overriding.{keep-of}
use Rattle.linking.proofs.Plans.{packages-within, packages-beyond}
use Rattle.reading.specs.Arrays.{method_of, entries_of}
use Rattle.reading.proofs.ArrayLaws.{length-entries}
use Rattle.packages.proofs.OverLaws.{from, from_start, from_turn, from_end, left, left-start, left-fold-turn, left-fold-end, left-is-turn, left-is-end}
use Rattle.packages.specs.Marks.{mark, taken_by, top_of, taken_in, is_some, Tops}

-- ---- marks

or_turn : (s k z : Bool) → (s || (k || z)) ≡ ((k || s) || z)
or_turn true true z = refl
or_turn true false z = refl
or_turn false true z = refl
or_turn false false z = refl

-- a mark, told by a test
mark-one : (z : List Bool) (k m : ℕ) → k < length z → get_or (set z k true) m false ≡ (eqb k m || get_or z m false)
mark-one z k m h =
    by (eqb k m)
    (λ t. let e : k ≡ m = eqb-true k m t in rw (t, ← e, get_or-set_same z k true false h))
    (λ t. let n = eqb-false k m t in rw (t, get_or-set_other z k m true false (λ q. n (sym q))))

marks_are : (ks : List ℕ) (z : List Bool) (m : ℕ) → ((k : ℕ) → Memᴰ k ks → k < length z)
    → get_or (fold mark z ks) m false ≡ (some (λ j. eqb j m) ks || get_or z m false)
unfolding fold mark some
marks_are [] z m h = refl
marks_are (k ∷ ks) z m h =
    marks_are ks (set z k true) m (λ j i. rw (length-set z k true) (h j (Memᴰ.tail i)))
    ∙ rw (mark-one z k m (h k (Memᴰ.head refl))) (or_turn (some (λ j. eqb j m) ks) (eqb k m) (get_or z m false))

keep-ext : (p q : ℕ → Bool) (xs : List ℕ) → ((x : ℕ) → p x ≡ q x) → keep p xs ≡ keep q xs
unfolding keep
keep-ext p q [] h = refl
keep-ext p q (x ∷ xs) h = rw (h x, keep-ext p q xs h)

keep-along : (p q : ℕ → Bool) (m k : ℕ) → ((i : ℕ) → m ≤ i → i < m + k → p i ≡ q i) → keep p (numbers m k) ≡ keep q (numbers m k)
unfolding keep list_from
keep-along p q m zero h = refl
keep-along p q m (suc k) h = rw (h m (omega arith) (omega arith), keep-along p q (m + 1) k (λ i l g. h i (omega arith) (omega arith)))

-- no marks, at each place and past the end
unmarked : (n i : ℕ) → get_or (replicate n false) i false ≡ false
unmarked zero i = refl
unmarked (suc n) zero = refl
unmarked (suc n) (suc i) = unmarked n i

-- the marks of methods of the section tell the slots that are taken
pub taken_is : (tops ks : List ℕ) (n : ℕ) {marks : List Bool} → ((k : ℕ) → Memᴰ k ks → k < method_limit) → marks ≡ fold mark (replicate 512 false) ks
    → taken_in tops marks n ≡ taken_slots (top_of tops) ks n
unfolding taken_in taken_slots taken_by
taken_is tops ks n room e =
    rw e
    (keep-along (λ i. on_found (top_of tops i) (λ m. get_or (fold mark (replicate 512 false) ks) m false) false)
    (λ i. on_found (top_of tops i) (λ k. some (λ j. eqb j k) ks) false) 0 n (λ i l h. one (top_of tops i)))
  where
    one : (f : Option ℕ) → on_found f (λ m. get_or (fold mark (replicate 512 false) ks) m false) false ≡ on_found f (λ k. some (λ j. eqb j k) ks) false
    one (Some m) =
        let z : get_or (replicate 512 false) m false ≡ false = unmarked 512 m in
        marks_are ks (replicate 512 false) m (λ k i. rw (length-replicate {A = Bool} 512 false) (room k i)) ∙ rw z (or-false (some (λ j. eqb j m) ks))
    one None = refl

-- overridden methods are of the section

here-own : (same : ℕ → ℕ → Bool) (ws text : List ℕ) (m : ℕ) (R : List ℕ) (a k : ℕ) → Memᴰ k (overridden_in same ws text m R a)
    → Memᴰ k (own_methods ws a)
unfolding overridden_in
here-own same ws text m R a k i = (keep-of (is_overridden same ws text m R a) (own_methods ws a) i).0

along-room : (same : ℕ → ℕ → Bool) (ws text : List ℕ) (m : ℕ) (ds R : List ℕ) (k : ℕ) → Memᴰ k (overridden_along same ws text m R ds) → k < method_limit
unfolding overridden_along
along-room same ws text m [] R k h = absurd (Memᴰ.not-nil h)
along-room same ws text m (a ∷ ds) R k h =
    elim (Memᴰ.append_cases (overridden_in same ws text m R a) h) [
      | inl i ↦ own-method-room ws a k (here-own same ws text m R a k i)
      | inr i ↦ along-room same ws text m ds (reached_with same ws text m R a) k i
    ]

pub overridden-room : (same : ℕ → ℕ → Bool) (ws text : List ℕ) (c m k : ℕ) → Memᴰ k (overridden same ws text c m) → k < method_limit
unfolding overridden
overridden-room same ws text c m k h =
    by (is_virtual (method_flags ws m)) (λ t. along-room same ws text m (chain ws (parent_of ws c)) (c ∷ []) k (rw t at h))
    (λ t. absurd (Memᴰ.not-nil (rw t at h)))

-- ---- a method stored at the slots that are taken, or behind the last

pub take_some : (e : Entry) (T : List Entry) (js : List ℕ) {d : Entry} {U : List Entry} {r : Bool} → d ≡ e → U ≡ fold (λ l j. set l j d) T js
    → r ≡ is_some js → r ≡ true → U ≡ put_taken e T js
unfolding put_taken fold
take_some e T [] f u v h = absurd (false≢true (sym v ∙ h))
take_some e T (j ∷ js) f u v h = u ∙ ap (λ (x : Entry). fold (λ l i. set l i x) T (j ∷ js)) f

pub take_new : (e : Entry) (T : List Entry) (js : List ℕ) {d : Entry} {U V : List Entry} {r : Bool} → d ≡ e → U ≡ fold (λ l j. set l j d) T js
    → r ≡ is_some js → r ≡ false → V ≡ U ++ (d ∷ []) → V ≡ put_taken e T js
unfolding put_taken fold
take_new e T [] f u v h w = w ∙ rw (u, f)
take_new e T (j ∷ js) f u v h w = absurd (true≢false (sym v ∙ h))

module _ (same : ℕ → ℕ → Bool) (ws text tops : List ℕ) (c m n : ℕ) where
  abbrev pub taking : List Entry → List Entry
  taking T = take_slots same ws text (top_of tops) n c T m

  pub take_none : (T : List Entry) {b : Bool} → b ≡ eligible ws text m → not b ≡ true → T ≡ taking T
  unfolding take_slots
  take_none T {b} e h = let q : eligible ws text m ≡ false = sym e ∙ not-true b h in rw q

  pub take_yes : (T : List Entry) {b : Bool} {marks : List Bool} {U : List Entry} → b ≡ eligible ws text m → not b ≡ false
      → marks ≡ fold mark (replicate 512 false) (overridden same ws text c m)
      → U ≡ put_taken (method_entry ws m) T (taken_in tops marks n) → U ≡ taking T
  unfolding take_slots
  take_yes T {b} e h marked u =
      let q : eligible ws text m ≡ true = sym e ∙ not-false b h in
      let s = taken_is tops (overridden same ws text c m) n (overridden-room same ws text c m) marked in
      u ∙ rw (q, s)

-- ---- all methods

module _ (same : Same) (ws text abi labels area : List ℕ) (c : ℕ) where
  take_ext : (f g : ℕ → Option ℕ) (n : ℕ) → ((i : ℕ) → i < n → f i ≡ g i) → (T : List Entry) (m : ℕ)
      → take_slots (methods_same same) ws text f n c T m ≡ take_slots (methods_same same) ws text g n c T m
  unfolding take_slots taken_slots
  take_ext f g n h T m =
      let ks = overridden (methods_same same) ws text c m in
      let q : keep (λ i. on_found (f i) (λ k. some (λ j. eqb j k) ks) false) (numbers 0 n)
      ≡ keep (λ i. on_found (g i) (λ k. some (λ j. eqb j k) ks) false) (numbers 0 n) =
      keep-along (λ i. on_found (f i) (λ k. some (λ j. eqb j k) ks) false) (λ i. on_found (g i) (λ k. some (λ j. eqb j k) ks) false) 0 n
      (λ i l b. rw (h i (omega arith))) in
      rw q

  takes-ext : (f g : ℕ → Option ℕ) (n : ℕ) → ((i : ℕ) → i < n → f i ≡ g i) → (ms : List ℕ) (T : List Entry)
      → fold (take_slots (methods_same same) ws text f n c) T ms ≡ fold (take_slots (methods_same same) ws text g n c) T ms
  unfolding fold
  takes-ext f g n h [] T = refl
  takes-ext f g n h (m ∷ ms) T =
      rw (take_ext f g n h T m) (takes-ext f g n h ms (take_slots (methods_same same) ws text g n c T m))

  pub no_table : {U : List Entry} → class_limit < c → U ≡ [] → U ≡ build_packages same ws text abi labels area c
  no_table h e = e ∙ sym (packages-beyond same ws text abi labels area c h)

  pub packages_are : (ts ms tops : List ℕ) (n p : ℕ) {U : List Entry} → entries_of ts ms n ≡ parent_entries same ws text abi labels area c → n ≤ 1024
      → p ≡ parent_of ws c → Tops same ws text abi labels area p tops
      → U ≡ fold (take_slots (methods_same same) ws text (top_of tops) n c) (entries_of ts ms n) (own_methods ws c)
      → c ≤ class_limit → U ≡ build_packages same ws text abi labels area c
  unfolding packages_over
  packages_are ts ms tops n p e l q tells u room =
      let k : n ≡ length (parent_entries same ws text abi labels area c) = sym (length-entries ts ms n) ∙ ap length e in
      u
      ∙ takes-ext (top_of tops) (introducing same ws text abi labels area p) n (λ i h. tells i (omega arith)) (own_methods ws c) (entries_of ts ms n)
      ∙ rw (packages-within same ws text abi labels area c room, q, e, ← k)

-- what the methods from m on make of the table so far
unfoldable pub takes : ℕ → ℕ → (List Entry → ℕ → List Entry) → List Entry → ℕ → List Entry
takes first count g T m = fold g T (from first count m)

module _ (ws text : List ℕ) (c : ℕ) (first count : ℕ) (g : List Entry → ℕ → List Entry) where
  pub takes-start : (T : List Entry) → first ≡ class_first_method ws c
      → count ≡ list_count (class_first_method ws c) (class_method_count ws c) method_limit
      → takes first count g T first ≡ fold g T (own_methods ws c)
  unfolding takes own_methods
  takes-start T e f = rw (from_start first count, e, f)

  pub takes-turn : (m : ℕ) {T U goal : List Entry} → first ≤ m → m < first + count → U ≡ g T m → takes first count g T m ≡ goal
      → takes first count g U (m + 1) ≡ goal
  unfolding takes fold
  takes-turn m {T = T} l h e q = rw e (sym (ap (fold g T) (from_turn first count m l h)) ∙ q)

  pub takes-end : (m : ℕ) {T goal : List Entry} → first + count ≤ m → takes first count g T m ≡ goal → T ≡ goal
  unfolding takes fold
  takes-end m {T = T} h q = sym (ap (fold g T) (from_end first count m h)) ∙ q

-- ---- the taken slots, one after the other

module _ (tops : List ℕ) (marks : List Bool) where
  abbrev pub is_taken : ℕ → Bool
  is_taken j = taken_by (top_of tops j) marks

module _ (tops : List ℕ) (marks : List Bool) (n : ℕ) where
  taken-left : left (is_taken tops marks) 0 n 0 ≡ taken_in tops marks n
  unfolding taken_in
  taken-left = left-start (is_taken tops marks) 0 n

  pub stored_start : (T : List Entry) (e : Entry)
      → fold (λ l j. set l j e) T (left (is_taken tops marks) 0 n 0) ≡ fold (λ l j. set l j e) T (taken_in tops marks n)
  stored_start T e = ap (fold (λ l j. set l j e) T) taken-left

  pub some-start : (false || is_some (left (is_taken tops marks) 0 n 0)) ≡ is_some (taken_in tops marks n)
  some-start = ap is_some taken-left

  -- the test of slot i, as the code has it
  test_is : (i : ℕ) (b : Bool) {q v : ℕ} → q ≡ i → v ≡ get_or tops q 0 → b ≡ taken_by (method_of v) marks → b ≡ is_taken tops marks i
  unfolding top_of
  test_is i b q v e = e ∙ rw (v, q)

  pub stored_turn : (i : ℕ) (b : Bool) (T : List Entry) (e : Entry) {q v : ℕ} {U goal : List Entry} → i < n → q ≡ i → v ≡ get_or tops q 0
      → b ≡ taken_by (method_of v) marks → U ≡ cond b (set T i e) T → fold (λ l j. set l j e) T (left (is_taken tops marks) 0 n i) ≡ goal
      → fold (λ l j. set l j e) U (left (is_taken tops marks) 0 n (i + 1)) ≡ goal
  stored_turn i b T e h q v t s g = left-fold-turn (is_taken tops marks) 0 n (λ l j. set l j e) i T b (omega arith) (omega arith) (test_is i b q v t) s g

  pub some_turn : (i : ℕ) (o b : Bool) {q v : ℕ} {t goal : Bool} → i < n → q ≡ i → v ≡ get_or tops q 0 → b ≡ taken_by (method_of v) marks → t ≡ cond b true o
      → (o || is_some (left (is_taken tops marks) 0 n i)) ≡ goal → (t || is_some (left (is_taken tops marks) 0 n (i + 1))) ≡ goal
  some_turn i o b h q v e s g = left-is-turn (is_taken tops marks) 0 n i o b (omega arith) (omega arith) (test_is i b q v e) s g

  pub stored_end : (i : ℕ) (T : List Entry) (e : Entry) {goal : List Entry} → n ≤ i → fold (λ l j. set l j e) T (left (is_taken tops marks) 0 n i) ≡ goal
      → T ≡ goal
  stored_end i T e h g = left-fold-end (is_taken tops marks) 0 n (λ l j. set l j e) i T (omega arith) g

  pub some_end : (i : ℕ) (o : Bool) {goal : Bool} → n ≤ i → (o || is_some (left (is_taken tops marks) 0 n i)) ≡ goal → o ≡ goal
  some_end i o h g = left-is-end (is_taken tops marks) 0 n i o (omega arith) g
