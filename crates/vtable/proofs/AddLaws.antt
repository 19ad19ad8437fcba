-- Laws of a class's own methods: where each goes, rows 11 and 12, and all of them in their order. Assumes nothing.
use mathlib.Core.Path.{◌≡◌, ◌∙◌}
use mathlib.Core.Bool.{Bool, true, false, not}
use mathlib.Core.List.{List, [], ◌∷◌}
use Prim.Native.Nat.{ℕ, ◌+◌, ◌-◌, ◌≤◌, ◌<◌}
use native.Mathlib.Omega.{arith}
use lib.ListN.{get_or, set}
use lib.Dec.{eqb}
use Rattle.words.specs.Lists.{numbers}
use Rattle.words.proofs.ListLaws.{rest_from, rest-start, rest-turn, rest_end}
use Rattle.std.specs.Prelude.{Option, Some, Result, Ok, Err}
use Rattle.class_sheet.specs.ClassSheet.{class_first_method, class_method_count, method_limit}
use Rattle.linking.specs.Signature.{Same, of_method}
use Rattle.linking.specs.Chain.{on_found, list_count, own_methods, eligible}
use Rattle.linking.specs.Vtable.{Entry, Built, built, refused, empty, entry_is_other, fixed_of, slot_of, method_entry, put_method, add_method, add_methods}
use Rattle.refusal.specs.declared.Refusal.{Refusal}
use Rattle.refusal.specs.Rows.{row}
use Rattle.vtable.specs.Tables.{step_of}

-- ---- a method with a fixed index

module _ (same : Same) (ws : List ℕ) (m : ℕ) where
  module _ (i : ℕ) (slot : Option ℕ) {b : Bool} (moved : b ≡ on_found slot (λ j. not (eqb j i)) false) (T : List Entry) where
    pub put-moved : b ≡ true → refused 11 ≡ put_method same ws (Some i) slot m T
    unfolding put_method
    put-moved e = rw (← moved, e)

    module _ (stays : b ≡ false) {there : Entry} {o : Bool} (at : there ≡ get_or T i empty)
        (other : o ≡ entry_is_other same (of_method m) there) where
      pub put-taken : o ≡ true → refused 12 ≡ put_method same ws (Some i) slot m T
      unfolding put_method
      put-taken e = rw (← moved, stays, ← at, ← other, e)

      pub put-there : {U : List Entry} {own : Entry} → o ≡ false → own ≡ method_entry ws m → U ≡ set T i own
          → built U ≡ put_method same ws (Some i) slot m T
      unfolding put_method
      put-there e w u = rw (u, w, ← moved, stays, ← at, ← other, e)

-- ---- an own method

module _ (same : Same) (ws text : List ℕ) (m : ℕ) where
  module _ (abi abis : List ℕ) (T : List Entry) {e : Bool} (able : e ≡ eligible ws text m) where
    pub add_none : e ≡ false → built T ≡ add_method same ws text abi abis m T
    unfolding add_method
    add_none h = rw (← able, h)

    pub add-put : {f s : Option ℕ} (X : Built) → e ≡ true → f ≡ fixed_of same abi abis m → s ≡ slot_of same (of_method m) T
        → X ≡ put_method same ws f s m T → X ≡ add_method same ws text abi abis m T
    unfolding add_method
    add-put X h g l x = x ∙ rw (← able, h, g, l)

-- ---- all of a class's own methods

module _ (first count : ℕ) where
  -- the methods left at method m
  unfoldable pub left : ℕ → List ℕ
  left m = rest_from (λ k. k) first count (m - first)

  pub left_turn : (m : ℕ) → first ≤ m → m < first + count → left m ≡ m ∷ left (m + 1)
  unfolding left
  left_turn m g h =
      let e : first + (m - first) ≡ m = omega arith in
      let f : m - first + 1 ≡ m + 1 - first = omega arith in
      rw (rest-turn (λ (k : ℕ). k) first count (m - first) (omega arith), e, f)

  pub left_start : left first ≡ numbers first count
  unfolding left
  left_start = let z : first - first ≡ 0 = omega arith in rw (z, rest-start (λ (k : ℕ). k) first count)

  pub left_end : (m : ℕ) → first + count ≤ m → left m ≡ []
  unfolding left
  left_end m h = rw (rest_end (λ (k : ℕ). k) first count (m - first) (omega arith))

module _ (same : Same) (ws text abi abis : List ℕ) (first count : ℕ) where
  pub adds-start : (c : ℕ) (T : List Entry) → first ≡ class_first_method ws c
      → count ≡ list_count (class_first_method ws c) (class_method_count ws c) method_limit
      → add_methods same ws text abi abis (left first count first) T ≡ add_methods same ws text abi abis (own_methods ws c) T
  unfolding own_methods
  adds-start c T e f = rw (left_start first count, e, f)

  pub adds-turn : (m : ℕ) (T U : List Entry) {s : Result Unit Refusal} {x : Unit} → first ≤ m → m < first + count → s ≡ Ok x
      → step_of s U ≡ add_method same ws text abi abis m T
      → add_methods same ws text abi abis (left first count (m + 1)) U ≡ add_methods same ws text abi abis (left first count m) T
  unfolding add_methods
  adds-turn m T U g h e f = rw (left_turn first count m g h, ← f, e)

  pub adds-stop : (m : ℕ) (r : Refusal) (T U : List Entry) {s : Result Unit Refusal} → first ≤ m → m < first + count → s ≡ Err r
      → step_of s U ≡ add_method same ws text abi abis m T
      → refused (row r) ≡ add_methods same ws text abi abis (left first count m) T
  unfolding add_methods
  adds-stop m r T U g h e f = rw (left_turn first count m g h, ← f, e)

  pub adds-end : (m : ℕ) (T : List Entry) → first + count ≤ m → built T ≡ add_methods same ws text abi abis (left first count m) T
  unfolding add_methods
  adds-end m T h = rw (left_end first count m h)
