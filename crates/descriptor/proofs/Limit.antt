-- Method descriptors with the limit of 4.3.3: by the grammar's laws the words that begin in the bytes are the derivation's, so a bound on
-- the one is a bound on the other; and the count that stops above the limit tells the same. Assumes nothing.
use mathlib.Core.Path.{◌≡◌, sym, ap, ◌∙◌}
use mathlib.Core.Bool.{true, not, ◌&&◌}
use mathlib.Core.List.{List, [], ◌∷◌}
use Prim.Native.Nat.{ℕ, ◌+◌, ◌≤◌, ◌<◌}
use native.Mathlib.Nat.{zero-add}
use native.Mathlib.Omega.{arith}
use lib.Dec.{eqb, leb, ltb}
use lib.ListN.{length}
use borrow.Author.Tests.{leb-true, leb-false, ltb-true, ltb-false, le-leb, lt-leb}
use Rattle.words.proofs.Bools.{by, and_both}
use Rattle.descriptor.specs.Machine.{method_next, is_method_descriptor}
use Rattle.descriptor.specs.Words.{receiver_words, argument_words, argument_limit, ValidDescriptor, between_parameters, begun_words, begun_from, is_method, capped, capped_from}
use Rattle.descriptor.specs.declared.MethodState.{MethodState}
use Rattle.descriptor.specs.declared.MethodState.TheVariants.{Begin}
use Rattle.descriptor.proofs.Counts.{method-begins, method-small, byte_small}
use Rattle.descriptor.proofs.Machines.{method_sound, method_complete}

-- ---- bytes that the grammar has and that are within the limit

module _ (s : List ℕ) (flags : ℕ) where
  pub parts : is_method flags s ≡ true → (is_method_descriptor s ≡ true) × (receiver_words flags + begun_from Begin s ≤ argument_limit)
  unfolding is_method
  parts h =
      let p = and_both (is_method_descriptor s) (leb (receiver_words flags + begun_from Begin s) argument_limit) h in
      (p.0, leb-true _ _ p.1)

  within : is_method_descriptor s ≡ true → receiver_words flags + begun_from Begin s ≤ argument_limit → is_method flags s ≡ true
  unfolding is_method
  within g h = simp (g, le-leb (receiver_words flags + begun_from Begin s) argument_limit h)

module _ (s : List ℕ) (flags : ℕ) where
  pub valid_sound : is_method flags s ≡ true → ValidDescriptor flags s
  unfolding argument_words
  valid_sound h =
      let p = parts s flags h in
      let d = method_sound s p.0 in
      (d.0, d.1, omega (arith, method-begins d.0, ap (begun_from Begin) d.1))

  pub valid_complete : ValidDescriptor flags s → is_method flags s ≡ true
  unfolding argument_words
  valid_complete d =
      within s flags (rw (← d.1) (method_complete d.0)) (omega (arith, method-begins d.0, ap (begun_from Begin) d.1))

  -- an instance method has the receiver's word besides
  pub static_more : is_method 0 s ≡ true → is_method flags s ≡ true
  static_more h = within s flags (parts s 0 h).0 (omega (arith, (parts s 0 h).1))

  -- two words a byte, and the receiver's
  pub short_within : is_method_descriptor s ≡ true → length s ≤ 127 → is_method flags s ≡ true
  short_within g l =
      let d = method_sound s g in
      within s flags g (omega (arith, method-begins d.0, method-small d.0, ap (begun_from Begin) d.1, ap length d.1))

-- ---- the count that stops

begun_small : (q : MethodState) (b : ℕ) → begun_words q b ≤ 2
unfolding begun_words
begun_small q b = by (between_parameters q && not (eqb b 41)) (λ e. rw e (byte_small b)) (λ e. rw e (omega arith))

-- the sum where it is within the limit, above the limit where the sum is, and small in any case
record Stops (sum count : ℕ) : Type 0 where
  exact : sum ≤ argument_limit → count ≡ sum
  above : argument_limit < sum → argument_limit < count
  small : count ≤ argument_limit + 2

stops : (n : ℕ) (q : MethodState) (s : List ℕ) → n ≤ argument_limit + 2 → Stops (n + begun_from q s) (capped_from n q s)
unfolding begun_from capped_from capped
stops n q [] h = record { exact = λ l. omega arith; above = λ l. omega arith; small = h }
stops n q (b ∷ s) h =
    by (ltb argument_limit n)
    (λ e.
    let k = stops n (method_next q b) s h in
    let l = ltb-true argument_limit n e in
    rw e (record { exact = λ m. omega arith; above = λ m. k.above (omega arith); small = k.small }))
    (λ e.
    let l = ltb-false argument_limit n e in
    let k = stops (n + begun_words q b) (method_next q b) s (omega (arith, begun_small q b)) in
    rw e (record { exact = λ m. k.exact (omega arith) ∙ omega arith; above = λ m. k.above (omega arith); small = k.small }))

all-stops : (s : List ℕ) → Stops (begun_from Begin s) (capped_from 0 Begin s)
all-stops s = rw (zero-add (begun_from Begin s)) at (stops 0 Begin s (omega arith))

pub capped_small : (s : List ℕ) {n : ℕ} → n ≡ capped_from 0 Begin s → n ≤ argument_limit + 2
capped_small s e = rw e (all-stops s).small

pub capped-exact : (s : List ℕ) → begun_from Begin s ≤ argument_limit → capped_from 0 Begin s ≡ begun_from Begin s
capped-exact s = (all-stops s).exact

-- so with k more both are within the limit, or neither
pub capped-within : (s : List ℕ) (k : ℕ) → leb (k + capped_from 0 Begin s) argument_limit ≡ leb (k + begun_from Begin s) argument_limit
capped-within s k =
    by (leb (begun_from Begin s) argument_limit)
    (λ e. rw (capped-exact s (leb-true _ _ e)))
    (λ e.
    let l = leb-false (begun_from Begin s) argument_limit e in
    lt-leb (k + capped_from 0 Begin s) argument_limit (omega (arith, (all-stops s).above (omega arith)))
    ∙ sym (lt-leb (k + begun_from Begin s) argument_limit (omega arith)))
