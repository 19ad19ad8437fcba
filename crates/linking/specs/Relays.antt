-- Relaying entry by entry, as the code goes: who holds an index, and what one entry does to the table. `relayed_loop` (`linking/proofs/RelayLoop`) shows
-- that it makes `relayed`. Assumes nothing.
use Rattle.std.specs.Prelude.{ℕ, ◌≡◌, Bool, true, false, cond, ◌&&◌, List, [], ◌∷◌, ◌++◌, set, eqb, ltb, Option, Some, None}
use Rattle.words.specs.Lists.{fold}
use Rattle.linking.specs.Chain.{on_found}
use Rattle.linking.specs.Vtable.{Entry, occurs, stays}

-- `same` compares signatures: an equivalence, and methods that it finds the same have one index, from one ABI class
pub record Signatures (same : ℕ → ℕ → Bool) (fixed : ℕ → Option ℕ) (distance : ℕ → ℕ) : Type 0 where
  pub same_self : (m : ℕ) → same m m ≡ true
  pub same_sym : (m k : ℕ) → same m k ≡ true → same k m ≡ true
  pub same_trans : (m k l : ℕ) → same m k ≡ true → same k l ≡ true → same m l ≡ true
  pub same_index : (m k : ℕ) → same m k ≡ true → fixed m ≡ fixed k
  pub same_distance : (m k : ℕ) → same m k ≡ true → distance m ≡ distance k

module _ (fixed : ℕ → Option ℕ) (distance : ℕ → ℕ) where
  -- h, the method that holds index i so far, gives way to m only if m's ABI class is nearer
  unfoldable pub hold : ℕ → Option ℕ → ℕ → Option ℕ
  hold i h m = cond (on_found (fixed m) (λ j. eqb j i) false && on_found h (λ k. ltb (distance m) (distance k)) true) (Some m) h

  unfoldable pub hold_entry : ℕ → Option ℕ → Entry → Option ℕ
  hold_entry i h e = on_found e.method (hold i h) h

  -- the method that holds index i after all entries: its signature stays
  unfoldable pub holder : List Entry → ℕ → Option ℕ
  holder E i = fold (hold_entry i) None E

module _ (same : ℕ → ℕ → Bool) (fixed : ℕ → Option ℕ) (distance : ℕ → ℕ) (E : List Entry) where
  -- e onto the table T, with es still to come
  unfoldable pub relay_one : Entry → List Entry → List Entry → List Entry
  relay_one e es T =
      on_found e.method
      (λ m. on_found (fixed m) (λ i. cond (stays same (holder fixed distance E) i m) (set T i e) (cond (occurs same m es) T (T ++ (e ∷ []))))
      (T ++ (e ∷ [])))
      T

  unfoldable pub relays : List Entry → List Entry → List Entry
  relays T [] = T
  relays T (e ∷ es) = relays (relay_one e es T) es
