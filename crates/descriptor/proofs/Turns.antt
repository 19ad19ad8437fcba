-- The definitions a step at a time, in the shapes in which the functions meet them. Assumes nothing.
use mathlib.Core.Path.{◌≡◌, refl, sym, ◌∙◌}
use mathlib.Core.Bool.{Bool, true, false, not}
use mathlib.Core.List.{List}
use Prim.Native.Nat.{ℕ, ◌+◌, ◌≤◌, ◌<◌}
use native.Mathlib.Numerals.{add-one}
use native.Mathlib.Omega.{arith}
use lib.Dec.{leb}
use lib.ListN.{length, get_or, drop, drop_of_length-le}
use lib.Seq.{drop-cons}
use borrow.Author.Tests.{not-true, not-false}
use Rattle.descriptor.specs.declared.FieldState.{FieldState}
use Rattle.descriptor.specs.declared.MethodState.{MethodState}
use Rattle.descriptor.specs.declared.FieldState.TheVariants.{Open, Start, Inside, Done, Bad}
use Rattle.descriptor.specs.declared.MethodState.TheVariants.{Begin, Parameters}
use Rattle.descriptor.specs.Machine.{field_next, method_next, is_method_descriptor}
use Rattle.descriptor.specs.Words.{receiver_words, argument_limit, begun_words, is_method, capped, capped_from, counted, refused, argument_answer}
use Rattle.descriptor.proofs.Limit.{parts, short_within, capped-exact, capped-within}

-- ---- the method machine inside a type

-- among the parameters, where a type goes on
pub inside_parameter : (q : FieldState) (b : ℕ) → (q ≡ Done → ⊥) → Parameters (field_next q b) ≡ method_next (Parameters q) b
unfolding method_next field_next
inside_parameter Open b n = refl
inside_parameter Start b n = refl
inside_parameter Inside b n = refl
inside_parameter Done b n = absurd (n refl)
inside_parameter Bad b n = refl

-- ---- the words counted, from i on

pub capped_turn : (n : ℕ) (q : MethodState) (s : List ℕ) (i : ℕ) {w m k : ℕ} {p : MethodState} → i < length s → w ≡ begun_words q (get_or s i 0)
    → m ≡ capped n w → p ≡ method_next q (get_or s i 0) → capped_from n q (drop i s) ≡ k → capped_from m p (drop (i + 1) s) ≡ k
unfolding capped_from
capped_turn n q s i h f g r v = rw (g, f, r) (rw (drop-cons s i 0 h, ← add-one) at v)

pub capped_end : (n : ℕ) (q : MethodState) (s : List ℕ) (i : ℕ) {k : ℕ} → length s ≤ i → capped_from n q (drop i s) ≡ k → n ≡ k
unfolding capped_from
capped_end n q s i h v = rw (drop_of_length-le s h) at v

-- ---- the answers

module _ (s : List ℕ) (flags : ℕ) where
  pub no_grammar : {b : Bool} → b ≡ is_method_descriptor s → not b ≡ true → false ≡ is_method flags s
  unfolding is_method
  no_grammar e t = rw (sym e ∙ not-true _ t)

  pub short_method : {b : Bool} → b ≡ is_method_descriptor s → not b ≡ false → length s ≤ 127 → true ≡ is_method flags s
  short_method e t l = sym (short_within s flags (sym e ∙ not-false _ t) l)

  pub counted_method : {b : Bool} {r p : ℕ} → b ≡ is_method_descriptor s → not b ≡ false → r ≡ receiver_words flags → p ≡ capped_from 0 Begin s
      → leb (r + p) argument_limit ≡ is_method flags s
  unfolding is_method
  counted_method e t f g = rw (f, g, sym e ∙ not-false _ t) (capped-within s (receiver_words flags))

  pub argument_refused : {b : Bool} → b ≡ is_method flags s → not b ≡ true → refused ≡ argument_answer s flags
  unfolding argument_answer
  argument_refused e t = rw (sym e ∙ not-true _ t)

  pub argument_counted : {b : Bool} {r p : ℕ} → b ≡ is_method flags s → not b ≡ false → r ≡ receiver_words flags → p ≡ capped_from 0 Begin s
      → counted (r + p) ≡ argument_answer s flags
  unfolding argument_answer
  argument_counted e t f g =
      let h : is_method flags s ≡ true = sym e ∙ not-false _ t in
      rw (f, g, h, capped-exact s (omega (arith, parts s flags h)))
