-- A law of signatures among a table's slots. Assumes nothing.
use mathlib.Core.Path.{◌≡◌, refl, sym, ◌∙◌}
use mathlib.Core.Bool.{Bool}
use mathlib.Core.List.{List}
use Prim.Native.Nat.{ℕ, zero, suc, ◌+◌}
use native.Mathlib.Omega.{arith}
use lib.ListN.{get_or}
use Rattle.words.specs.Lists.{list_from, numbers, find, position}
use Rattle.words.proofs.Ext.{find-ext}
use Rattle.words.proofs.ListLaws.{numbers-within}
use Rattle.linking.specs.Signature.{Same, Place}
use Rattle.linking.specs.Vtable.{empty, entry_is, slot_of}
use Rattle.reading.specs.Arrays.{entry_at, entries_of}
use Rattle.reading.proofs.ArrayLaws.{entry_found}

-- the place of the first element that passes, in a list by a count
position-is {ℓ} : {A : Type ℓ} (p : A → Bool) (f : ℕ → A) (m n : ℕ) → position p m (list_from f m n) ≡ find (λ i. p (f i)) (numbers m n)
unfolding position find list_from
position-is p f m zero = refl
position-is p f m (suc n) = rw (position-is p f (m + 1) n)

-- the slot of a signature, by the numbers of the slots
pub slot_found : (same : Same) (p : Place) (ts ms : List ℕ) (n : ℕ)
    → find (λ i. entry_is same p (get_or (entries_of ts ms n) i empty)) (numbers 0 n) ≡ slot_of same p (entries_of ts ms n)
unfolding slot_of entries_of
slot_found same p ts ms n =
    find-ext (λ i. entry_is same p (get_or (entries_of ts ms n) i empty)) (λ i. entry_is same p (entry_at ts ms i)) (numbers 0 n)
    (λ i h. rw (entry_found ts ms n i empty (omega (arith, (numbers-within 0 n i h).1))))
    ∙ sym (position-is (entry_is same p) (entry_at ts ms) 0 n)
