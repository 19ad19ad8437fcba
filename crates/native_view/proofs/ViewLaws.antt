-- Laws of the native view, as the code makes it. Assumes nothing.
use mathlib.Core.Path.{◌≡◌, refl, ap, ◌∙◌}
use mathlib.Core.Bool.{Bool, false, cond, not, ◌&&◌}
use mathlib.Core.List.{List, [], ◌∷◌, ◌++◌}
use Prim.Native.Nat.{ℕ, zero, suc, ◌+◌, ◌≤◌, ◌<◌}
use native.Mathlib.Omega.{arith}
use native.Mathlib.Numerals.{add-one}
use lib.ListN.{length, get_or}
use lib.Dec.{eqb}
use Rattle.words.specs.Lists.{list_from}
use Rattle.std.specs.Prelude.{Option, Some, None}
use Rattle.words.proofs.Ext.{list-more}
use Rattle.linking.specs.Signature.{Same}
use Rattle.linking.specs.Chain.{on_found, parent_of}
use Rattle.linking.specs.Abi.{chain_abi}
use Rattle.linking.specs.Vtable.{Entry, empty, parent_entries, fixed_of}
use Rattle.linking.specs.Compiler.{owner_state, is_emptied, view_from, native_view}
use Rattle.reading.specs.Arrays.{entry_at, entries_of}
use Rattle.reading.proofs.ArrayLaws.{length-entries, entry_found}

-- slots, one more at the end
one-more : (ts ms : List ℕ) (n i : ℕ) {e : Entry} → i < n → e ≡ get_or (entries_of ts ms n) i empty
    → entries_of ts ms (i + 1) ≡ entries_of ts ms i ++ (e ∷ [])
unfolding entries_of
one-more ts ms n i h e = rw (e ∙ entry_found ts ms n i empty h) (list-more (entry_at ts ms) i)

module _ (same : Same) (ws abi : List ℕ) where
  -- ---- a slot that is emptied

  module _ (abis : List ℕ) (i : ℕ) (e : Entry) {o : Option ℕ} (method : o ≡ e.method) where
    pub emptied_unknown : o ≡ None → false ≡ is_emptied same ws abi abis i e
    unfolding is_emptied
    emptied_unknown q = rw (← method, q)

    pub emptied_known : {m : ℕ} {l b : Bool} → o ≡ Some m → l ≡ eqb (owner_state ws m) 3
        → b ≡ on_found (fixed_of same abi abis m) (eqb i) false → (not l && not b) ≡ is_emptied same ws abi abis i e
    unfolding is_emptied
    emptied_known q f g = rw (f, g) (rw (← method, q))

  -- ---- the view of the slots, one more at the end

  abbrev view_at : List ℕ → ℕ → Entry → Entry
  view_at abis i e = cond (is_emptied same ws abi abis i e) empty e

  module _ (abis : List ℕ) where
    pub view_snoc : (j : ℕ) (xs : List Entry) (e : Entry)
        → view_from same ws abi abis j (xs ++ (e ∷ [])) ≡ view_from same ws abi abis j xs ++ (view_at abis (j + length xs) e ∷ [])
    unfolding view_from
    view_snoc j [] e = let z : j + 0 ≡ j = omega arith in rw z
    view_snoc j (x ∷ xs) e =
        let z : j + 1 + length xs ≡ j + suc (length xs) = omega arith in
        ap (λ (l : List Entry). view_at abis j x ∷ l) (rw z at (view_snoc (j + 1) xs e))

    view-turn : (ts ms : List ℕ) (n i : ℕ) {V W : List Entry} {e f : Entry} → i < n → V ≡ view_from same ws abi abis 0 (entries_of ts ms i)
        → e ≡ get_or (entries_of ts ms n) i empty → f ≡ view_at abis i e → W ≡ V ++ (f ∷ [])
        → W ≡ view_from same ws abi abis 0 (entries_of ts ms (i + 1))
    view-turn ts ms n i {e = e} h v he hf w =
        let old : entries_of ts ms (i + 1) ≡ entries_of ts ms i ++ (e ∷ []) = one-more ts ms n i h he in
        let z : 0 + length (entries_of ts ms i) ≡ i = omega (arith, length-entries ts ms i) in
        w ∙ rw (old, view_snoc 0 (entries_of ts ms i) e, z, ← hf, ← v)

    -- the first i slots of the view, each by its number
    pub view_filled : (ts ms : List ℕ) (n i : ℕ) → i ≤ n
        → list_from (λ j. view_at abis j (get_or (entries_of ts ms n) j empty)) 0 i ≡ view_from same ws abi abis 0 (entries_of ts ms i)
    unfolding entries_of list_from view_from
    view_filled ts ms n zero h = refl
    view_filled ts ms n (suc i) h =
        rw add-one at (view-turn ts ms n i (omega arith) (view_filled ts ms n i (omega arith)) refl refl
        (list-more (λ j. view_at abis j (get_or (entries_of ts ms n) j empty)) i))

-- ---- the parent's entries, and the view of them as the code has it

module _ (same : Same) (ws text abi labels area : List ℕ) (c : ℕ) {P V : List Entry} (read : P ≡ parent_entries same ws text abi labels area c) where
  pub native_is : (abis : List ℕ) {p : ℕ} → p ≡ parent_of ws c → abis ≡ chain_abi ws text abi labels p
      → V ≡ view_from same ws abi abis 0 P → V ≡ native_view same ws text abi labels area c
  unfolding native_view
  native_is abis e f g = g ∙ rw (read, f, e)
