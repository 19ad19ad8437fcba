-- Laws of whole tables: `build_methods` and `build_interface_methods`. Assumes nothing.
use mathlib.Core.Path.{◌≡◌, sym, ◌∙◌}
use mathlib.Core.Bool.{Bool, true, false}
use mathlib.Core.List.{List, [], ◌∷◌, ◌++◌, append_assoc, append-nil}
use Prim.Native.Nat.{ℕ, ◌+◌, ◌≤◌, ◌<◌}
use Rattle.words.proofs.Bools.{by}
use Rattle.words.specs.Lists.{keep}
use Rattle.vtable.proofs.AddLaws.{left, left_start, left_turn, left_end}
use Rattle.class_sheet.specs.ClassSheet.{class_first_method, class_method_count, method_limit}
use Rattle.linking.specs.Signature.{Same}
use Rattle.linking.specs.Chain.{list_count, own_methods, eligible}
use Rattle.linking.specs.Abi.{chain_abi}
use Rattle.linking.specs.Vtable.{Entry, Built, method_entry, method_entries, inherited_table, add_methods, build_methods, build_interface_methods}

-- ---- `build_methods`

pub built-is : (same : Same) (ws text abi labels area : List ℕ) (c : ℕ) (abis : List ℕ) (T : List Entry) {B : Built} → abis ≡ chain_abi ws text abi labels c
    → T ≡ inherited_table same ws text abi labels area c → B ≡ add_methods same ws text abi abis (own_methods ws c) T
    → B ≡ build_methods same ws text abi labels area c
unfolding build_methods
built-is same ws text abi labels area c abis T e f g = g ∙ rw (e, f)

-- ---- `build_interface_methods`

module _ (ws text : List ℕ) where
  module _ (m : ℕ) (T : List Entry) {e : Bool} (able : e ≡ eligible ws text m) where
    pub eligible_no : e ≡ false → T ≡ T ++ method_entries ws (keep (eligible ws text) (m ∷ []))
    unfolding method_entries keep
    eligible_no h = rw (← able, h) (sym (append-nil T))

    pub eligible_yes : {U : List Entry} {own : Entry} → e ≡ true → own ≡ method_entry ws m → U ≡ T ++ (own ∷ [])
        → U ≡ T ++ method_entries ws (keep (eligible ws text) (m ∷ []))
    unfolding method_entries keep
    eligible_yes h w u = u ∙ rw (w, ← able, h)

  entries-cons : (x : ℕ) (xs : List ℕ)
      → method_entries ws (keep (eligible ws text) (x ∷ xs))
      ≡ method_entries ws (keep (eligible ws text) (x ∷ [])) ++ method_entries ws (keep (eligible ws text) xs)
  unfolding method_entries keep
  entries-cons x xs = by (eligible ws text x) (λ q. rw q) (λ q. rw q)

  module _ (first count : ℕ) where
    pub eligibles_start : (c : ℕ) {T : List Entry} → T ≡ [] → first ≡ class_first_method ws c
        → count ≡ list_count (class_first_method ws c) (class_method_count ws c) method_limit
        → T ++ method_entries ws (keep (eligible ws text) (left first count first)) ≡ build_interface_methods ws text c
    unfolding build_interface_methods own_methods
    eligibles_start c t e f = rw (t, left_start first count, e, f)

    pub eligibles_turn : (m : ℕ) (T U : List Entry) → first ≤ m → m < first + count
        → U ≡ T ++ method_entries ws (keep (eligible ws text) (m ∷ []))
        → U ++ method_entries ws (keep (eligible ws text) (left first count (m + 1))) ≡ T ++ method_entries ws (keep (eligible ws text) (left first count m))
    eligibles_turn m T U g h u = rw (left_turn first count m g h, entries-cons m (left first count (m + 1)), u, append_assoc)

    pub eligibles_end : (m : ℕ) (T : List Entry) → first + count ≤ m
        → T ≡ T ++ method_entries ws (keep (eligible ws text) (left first count m))
    unfolding method_entries keep
    eligibles_end m T h = rw (left_end first count m h) (sym (append-nil T))
