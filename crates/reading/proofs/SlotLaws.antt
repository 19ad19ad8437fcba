-- Laws of a table's slots, one after the other. Assumes nothing.
use mathlib.Core.Path.{◌≡◌, refl, ap}
use mathlib.Core.Bool.{Bool}
use mathlib.Core.List.{List, [], ◌∷◌}
use Prim.Native.Nat.{ℕ, zero, suc, ◌+◌}
use native.Mathlib.Omega.{arith}
use native.Mathlib.Numerals.{add-one}
use lib.ListN.{length, take}
use lib.Seq.{get_or-take}
use Rattle.std.specs.List.{list_any}
use Rattle.words.specs.Lists.{list_from, fold, some}
use Rattle.words.proofs.Ext.{list_ext}
use Rattle.reading.specs.Arrays.{method_of, source_of, entry_at, entries_of}

-- the slots of the arrays' fronts are the table's
pub slots_of : (ts ms : List ℕ) (n : ℕ) → entries_of (take n ts) (take n ms) n ≡ entries_of ts ms n
unfolding entries_of entry_at
slots_of ts ms n = list_ext (entry_at (take n ts) (take n ms)) (entry_at ts ms) 0 n (λ i l. rw (get_or-take n ts i 0 (omega arith), get_or-take n ms i 0 (omega arith)))

-- of the arrays' rests the slots are the others
later : (t k : ℕ) (ts ms : List ℕ) (m n : ℕ) → list_from (entry_at (t ∷ ts) (k ∷ ms)) (m + 1) n ≡ list_from (entry_at ts ms) m n
unfolding list_from entry_at
later t k ts ms m zero = refl
later t k ts ms m (suc n) = rw (later t k ts ms (m + 1) n, add-one m)

pub slot_left : (t k : ℕ) (ts ms : List ℕ)
    → entries_of (t ∷ ts) (k ∷ ms) (length (t ∷ ts)) ≡ record { word = t; method = method_of k; source = source_of k } ∷ entries_of ts ms (length ts)
unfolding entries_of list_from entry_at
slot_left t k ts ms = ap (λ l. record { word = t; method = method_of k; source = source_of k } ∷ l) (later t k ts ms 0 (length ts))

pub none_left : (ts ms : List ℕ) → length ts ≡ 0 → entries_of ts ms (length ts) ≡ []
unfolding entries_of list_from
none_left ts ms e = rw e

-- ---- a fold over the slots that are left: one more is a step, and none is the end

module _ {ℓ ℓ'} {A : Type ℓ} {S : Type ℓ'} (f : S → A → S) {s goal : S} {xs : List A} where
  pub fold_more : {t : S} {x : A} {ys : List A} → xs ≡ x ∷ ys → t ≡ f s x → fold f s xs ≡ goal → fold f t ys ≡ goal
  unfolding fold
  fold_more e h g = rw h (rw e at g)

  pub fold_none : xs ≡ [] → fold f s xs ≡ goal → s ≡ goal
  unfolding fold
  fold_none e g = rw e at g

-- the library's test of some element is this one
pub some_any : {A : Type 0} (p : A → Bool) (xs : List A) → some p xs ≡ list_any p xs
unfolding some
some_any p [] = refl
some_any p (x ∷ xs) = rw (some_any p xs) refl
