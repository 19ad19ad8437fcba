-- Laws of putting bytes, and of decimal numbers. Assumes nothing.
use mathlib.Core.Path.{◌≡◌, refl, ap, ◌∙◌}
use mathlib.Core.List.{List, [], ◌∷◌, ◌++◌}
use Prim.Native.Nat.{ℕ, zero, suc, ◌+◌, ◌/◌, ◌%◌, ◌≤◌, ◌<◌}
use native.Mathlib.Omega.{arith}
use lib.ListN.{length, set}
use borrow.Author.Tests.{lt-ltb, le-ltb, ltb-false}
use lib.Dec.{ltb}
use Rattle.words.proofs.Bools.{by}
use Rattle.words.specs.Lists.{fold}
use Rattle.lines.specs.Bytes.{put_byte, put, digits, decimal}

-- ---- putting

pub byte_put : (o : List ℕ) (k b : ℕ) {m : List ℕ} → k < length o → m ≡ set o k b → (m, k + 1) ≡ put_byte (o, k) b
unfolding put_byte
byte_put o k b h e = rw (lt-ltb _ _ h, e)

pub byte_full : (o : List ℕ) (k b : ℕ) → length o ≤ k → (o, k) ≡ put_byte (o, k) b
unfolding put_byte
byte_full o k b h = rw (le-ltb _ _ h)

pub put_one : (p : List ℕ × ℕ) {q : List ℕ × ℕ} (b : ℕ) → q ≡ put_byte p b → q ≡ put p (b ∷ [])
unfolding put fold
put_one p b e = e

pub put-none : (p : List ℕ × ℕ) → p ≡ put p []
unfolding put fold
put-none p = refl

put-append : (p : List ℕ × ℕ) (a b : List ℕ) → put (put p a) b ≡ put p (a ++ b)
unfolding put fold
put-append p [] b = refl
put-append p (x ∷ a) b = put-append (put_byte p x) a b

-- bytes, and then others
pub then : (p : List ℕ × ℕ) {q r : List ℕ × ℕ} (a b : List ℕ) → q ≡ put p a → r ≡ put q b → r ≡ put p (a ++ b)
then p a b e f = f ∙ rw e (put-append p a b)

-- ---- decimal numbers

-- the bound that `digits` recurses on does not matter where it is above the number
digits-bound : (k j n : ℕ) → n < k → n < j → digits k n ≡ digits j n
unfolding digits
digits-bound zero j n h g = absurd (omega arith)
digits-bound (suc k) zero n h g = absurd (omega arith)
digits-bound (suc k) (suc j) n h g =
    by (ltb n 10) (λ t. rw t)
    (λ f. let l = ltb-false n 10 f in rw f (ap (λ (l : List ℕ). l ++ ((48 + n % 10) ∷ [])) (digits-bound k j (n / 10) (omega arith) (omega arith))))

pub decimal-one : (n : ℕ) → n < 10 → decimal n ≡ (48 + n) ∷ []
unfolding decimal digits
decimal-one n h = rw (lt-ltb _ _ h)

pub decimal-more : (n : ℕ) → 10 ≤ n → decimal n ≡ decimal (n / 10) ++ ((48 + n % 10) ∷ [])
unfolding decimal digits
decimal-more n h = rw (le-ltb _ _ h) (ap (λ (l : List ℕ). l ++ ((48 + n % 10) ∷ [])) (digits-bound n (suc (n / 10)) (n / 10) (omega arith) (omega arith)))
