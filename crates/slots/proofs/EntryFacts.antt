-- Entries of a table: the signatures they show, what a store or one entry more does to a good table, and where a signature's slot is.
-- Assumes nothing.
use Rattle.std.proofs.lemmas.Grind.{common_steps}
use Rattle.std.proofs.Common.{rules, arith, ◌≡◌, refl, sym, ap, ◌∙◌, ◌⊎◌, inl, inr, ◌≢◌, true, false, List, [], ◌∷◌, ◌++◌, ℕ, ◌<◌, length, get_or, set, Option, Some, None}
use mathlib.Core.Bool.{false≢true}
use Rattle.linking.specs.Signature.{of_method, by_bytes}
use Rattle.linking.specs.Vtable.{slot_word, Entry, empty, entry_is, slot_of, entry_is_other}
use Rattle.slots.proofs.ListFacts.{position-below, position-passes, position-misses, set_at, snoc_at}
use Rattle.slots.proofs.PlaceFacts.{Signature, Placed, Good, good_more}
use Rattle.slots.proofs.FixedFacts.{method_signature, method-same, method-other}

-- the entry at index i, empty past the end
abbrev pub at : List Entry → ℕ → Entry
at T i = get_or T i empty

-- a known entry is inside
pub known-below : (T : List Entry) (i m : ℕ) → (at T i).method ≡ Some m → i < length T
known-below T i m e = grind (arith, common_steps)

module _ (ws text : List ℕ) where
  -- the entry at index i is known, with signature s
  pub record Shows (T : List Entry) (i : ℕ) (s : Signature) : Type 0 where
    pub method : ℕ
    pub holds : (at T i).method ≡ Some method
    pub is : method_signature ws text method ≡ s

  pub shows : (T : List Entry) (i m : ℕ) → (at T i).method ≡ Some m → Shows T i (method_signature ws text m)
  shows T i m e = record { method = m; holds = e; is = refl }

  -- entries that are the same show the same
  pub shows_same : (T U : List Entry) (i j : ℕ) (s : Signature) → at T i ≡ at U j → Shows T i s → Shows U j s
  shows_same T U i j s e k = record { method = k.method; holds = ap (λ (x : Entry). x.method) (sym e) ∙ k.holds; is = k.is }

  -- what an entry's method shows
  pub shows-entry : (T : List Entry) (i m : ℕ) (s : Signature) → (at T i).method ≡ Some m → Shows T i s → s ≡ method_signature ws text m
  shows-entry T i m s e k = cc

  module _ {F : Signature → ℕ → Type 0} (T : List Entry) (e : Entry) (m : ℕ) (known : e.method ≡ Some m) where
    pub set-good : (i : ℕ) → i < length T → Placed F (method_signature ws text m) i → ((j : ℕ) → Shows T j (method_signature ws text m) → j ≡ i)
        → Good F (Shows T) → Good F (Shows (set T i e))
    set-good i l p alone g = good_more i (method_signature ws text m) p alone (λ j s k. cases j s k (set_at T i j e empty l)) g
      where
        cases : (j : ℕ) (s : Signature) → Shows (set T i e) j s
            → ((j ≡ i) × (at (set T i e) j ≡ e)) ⊎ ((j ≢ i) × (at (set T i e) j ≡ at T j)) → ((j ≡ i) × (s ≡ method_signature ws text m)) ⊎ Shows T j s
        cases j s k (inl q) = inl (q.0, shows-entry (set T i e) j m s (ap (λ (x : Entry). x.method) q.1 ∙ known) k)
        cases j s k (inr q) = inr (shows_same (set T i e) T j j s q.1 k)

    pub append-good : Placed F (method_signature ws text m) (length T) → ((j : ℕ) → Shows T j (method_signature ws text m) → ⊥)
        → Good F (Shows T) → Good F (Shows (T ++ (e ∷ [])))
    append-good p none g =
        good_more (length T) (method_signature ws text m) p (λ j k. absurd (none j k)) (λ j s k. cases j s k (snoc_at T e j empty)) g
      where
        cases : (j : ℕ) (s : Signature) → Shows (T ++ (e ∷ [])) j s
            → ((j ≡ length T) × (at (T ++ (e ∷ [])) j ≡ e)) ⊎ (at (T ++ (e ∷ [])) j ≡ at T j)
            → ((j ≡ length T) × (s ≡ method_signature ws text m)) ⊎ Shows T j s
        cases j s k (inl q) = inl (q.0, shows-entry (T ++ (e ∷ [])) j m s (ap (λ (x : Entry). x.method) q.1 ∙ known) k)
        cases j s k (inr q) = inr (shows_same (T ++ (e ∷ [])) T j j s q k)

-- ---- the slot of a method's signature

module _ (ws text abi labels : List ℕ) (m : ℕ) (T : List Entry) where
  abbrev pub slot_for : Option ℕ
  slot_for = slot_of (by_bytes ws text abi labels) (of_method m) T

  pub slot-below : (i : ℕ) → slot_for ≡ Some i → i < length T
  unfolding slot_of
  slot-below i e = search (rules, position-below)

  pub slot-shows : (i : ℕ) → slot_for ≡ Some i → Shows ws text T i (method_signature ws text m)
  unfolding slot_of entry_is
  slot-shows i e =
      go (at T i).method refl (position-passes (entry_is (by_bytes ws text abi labels) (of_method m)) T empty i e)
    where
      go : (f : Option ℕ) → (at T i).method ≡ f → entry_is (by_bytes ws text abi labels) (of_method m) (at T i) ≡ true
          → Shows ws text T i (method_signature ws text m)
      go (Some k) q p = record { method = k; holds = q; is = method-same ws text abi labels k m (rw q at p) }
      go None q p = absurd (false≢true (rw q at p))

  pub slot-none : slot_for ≡ None → (i : ℕ) → Shows ws text T i (method_signature ws text m) → ⊥
  unfolding slot_of entry_is
  slot-none e i k = search (rules, known-below, position-misses, method-other)

  -- the entry at index i is of no other signature
  pub not-other : (i : ℕ) → entry_is_other (by_bytes ws text abi labels) (of_method m) (at T i) ≡ false
      → (s : Signature) → Shows ws text T i s → s ≡ method_signature ws text m
  unfolding entry_is_other
  not-other i e s k = search (rules, method-same)

-- ---- what a slot holds of an entry: its word, or the stub where that is 0

pub own-word : (w stub : ℕ) → w ≢ 0 → slot_word w stub ≡ w
own-word w stub n = search rules

pub stub-word : (w stub : ℕ) → w ≡ 0 → slot_word w stub ≡ stub
stub-word w stub z = cc
