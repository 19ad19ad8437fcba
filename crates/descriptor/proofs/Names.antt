-- Laws of runs of name bytes. Assumes nothing.
use mathlib.Core.Path.{◌≡◌, refl, sym, ap, ◌∙◌}
use mathlib.Core.Bool.{Bool, true, false, false≢true}
use mathlib.Core.List.{List, [], ◌∷◌}
use Prim.Native.Nat.{ℕ, ◌+◌, ◌≤◌, ◌<◌}
use native.Mathlib.Numerals.{add-one}
use native.Mathlib.Omega.{arith}
use lib.Dec.{eqb}
use lib.ListN.{length, get_or, drop}
use lib.Seq.{drop-cons}
use borrow.Author.Tests.{eqb-true}
use Rattle.words.specs.Lists.{fold, some}
use Rattle.words.proofs.Bools.{by}
use Rattle.descriptor.specs.Bytes.{is_name_byte}
use Rattle.descriptor.specs.Machine.{field_next, method_next}
use Rattle.descriptor.specs.Names.{name_run, field_inside, method_inside}
use Rattle.descriptor.specs.declared.FieldState.{FieldState}
use Rattle.descriptor.specs.declared.FieldState.TheVariants.{Open, Start, Inside, Done, Bad}
use Rattle.descriptor.specs.declared.MethodState.{MethodState}
use Rattle.descriptor.specs.declared.MethodState.TheVariants.{Begin, Parameters, Return, Returned}

-- ---- the run

pub run_within : (s : List ℕ) → name_run s ≤ length s
unfolding name_run
run_within [] = omega arith
run_within (b ∷ s) = by (is_name_byte b) (λ t. rw t (omega (arith, run_within s))) (λ t. rw t (omega arith))

-- from j on, a byte at a time
module _ (s : List ℕ) (j : ℕ) {b : Bool} where
  pub run_turn : j < length s → b ≡ is_name_byte (get_or s j 0) → b ≡ true → j + name_run (drop j s) ≡ name_run s
      → j + 1 + name_run (drop (j + 1) s) ≡ name_run s
  unfolding name_run
  run_turn h e t g = omega (arith, simp (drop-cons s j 0 h, ← e, t, ← add-one) at g)

  pub run_stop : j < length s → b ≡ is_name_byte (get_or s j 0) → b ≡ false → j + name_run (drop j s) ≡ name_run s → j ≡ name_run s
  unfolding name_run
  run_stop h e t g = omega (arith, simp (drop-cons s j 0 h, ← e, t) at g)

-- ---- a machine that name bytes leave where it is may pass a run over

module _ {S : Type 0} (f : S → ℕ → S) (q : S) (stays : (b : ℕ) → is_name_byte b ≡ true → f q b ≡ q) where
  fold-run : (s : List ℕ) → fold f q s ≡ fold f q (drop (name_run s) s)
  unfolding name_run fold
  fold-run [] = refl
  fold-run (b ∷ s) = by (is_name_byte b) (λ t. rw (t, stays b t, add-one) (fold-run s)) (λ t. rw t refl)

-- ---- both machines do

semicolon : is_name_byte 59 ≡ false
unfolding is_name_byte some
semicolon = refl

slash : is_name_byte 47 ≡ false
unfolding is_name_byte some
slash = refl

no_name : (b k : ℕ) → is_name_byte k ≡ false → is_name_byte b ≡ true → eqb b k ≡ false
no_name b k e h = by (eqb b k) (λ t. absurd (false≢true (sym e ∙ (rw (eqb-true b k t) at h)))) (λ t. t)

field-stays : (q : FieldState) → field_inside q ≡ true → (b : ℕ) → is_name_byte b ≡ true → field_next q b ≡ q
unfolding field_next
field-stays Open e b h = absurd (false≢true e)
field-stays Start e b h = absurd (false≢true e)
field-stays Inside e b h = rw (no_name b 59 semicolon h, no_name b 47 slash h, h)
field-stays Done e b h = absurd (false≢true e)
field-stays Bad e b h = absurd (false≢true e)

method-stays : (q : MethodState) → method_inside q ≡ true → (b : ℕ) → is_name_byte b ≡ true → method_next q b ≡ q
unfolding method_next
method-stays Begin e b h = absurd (false≢true e)
method-stays (Parameters Open) e b h = absurd (false≢true e)
method-stays (Parameters Start) e b h = absurd (false≢true e)
method-stays (Parameters Inside) e b h = ap Parameters (field-stays Inside e b h)
method-stays (Parameters Done) e b h = absurd (false≢true e)
method-stays (Parameters Bad) e b h = absurd (false≢true e)
method-stays Return e b h = absurd (false≢true e)
method-stays (Returned q) e b h = ap Returned (field-stays q e b h)

-- ---- a turn of a reader's loop: a byte is read, and inside an identifier the run behind it is passed over

module _ {S : Type 0} (f : S → ℕ → S) where
  pub read-turn : (s : List ℕ) (q p : S) {b : ℕ} {r : List ℕ} {x : S} → s ≡ b ∷ r → p ≡ f q b → fold f q s ≡ x → fold f p r ≡ x
  unfolding fold
  read-turn s q p e h g = rw h (rw e at g)

  read-over : (s : List ℕ) (q p : S) {b : ℕ} {r : List ℕ} {x : S} {n : ℕ} → ((c : ℕ) → is_name_byte c ≡ true → f p c ≡ p) → n ≡ name_run r
      → s ≡ b ∷ r → p ≡ f q b → fold f q s ≡ x → fold f p (drop n r) ≡ x
  read-over s q p {b} {r} stays m e h g = rw m (sym (fold-run f p stays r) ∙ read-turn s q p e h g)

  pub read-end : (s : List ℕ) (q : S) {x : S} → length s ≡ 0 → fold f q s ≡ x → q ≡ x
  unfolding fold
  read-end [] q h g = g
  read-end (b ∷ s) q h g = absurd (omega arith)

module _ (s : List ℕ) {b n : ℕ} {r : List ℕ} (m : n ≡ name_run r) (e : s ≡ b ∷ r) where
  pub field-over : (q p : FieldState) {x : FieldState} → field_inside p ≡ true → p ≡ field_next q b → fold field_next q s ≡ x
      → fold field_next p (drop n r) ≡ x
  field-over q p t = read-over field_next s q p (field-stays p t) m e

  pub method-over : (q p : MethodState) {x : MethodState} → method_inside p ≡ true → p ≡ method_next q b → fold method_next q s ≡ x
      → fold method_next p (drop n r) ≡ x
  method-over q p t = read-over method_next s q p (method-stays p t) m e
