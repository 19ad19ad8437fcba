-- A little-endian word and its four bytes: each says the other; lists of bytes. Assumes nothing.
use mathlib.Core.Path.{◌≡◌}
use mathlib.Core.List.{List, ◌++◌}
use Prim.Native.Nat.{ℕ, zero, suc, ◌+◌, ◌-◌, ◌*◌, ◌/◌, ◌%◌, ◌^◌, ◌<◌}
use native.Mathlib.Nat.{div-add-mod, div-div-eq-div-mul}
use native.Mathlib.Omega.{arith}
use lib.ListN.{length, get_or, get_or-append, get_or-eq_default}
use lib.Dec.{ltb}
use borrow.Author.Tests.{ltb-true, ltb-false}
use Rattle.words.specs.Words.{le_word, byte_of, AreBytes}
use Rattle.words.proofs.Bools.{by}
use Rattle.words.proofs.Lists.{skip}

pub byte_small : (w j : ℕ) → byte_of w j < 256
unfolding byte_of
byte_small w j = omega arith

-- ---- lists of bytes

-- past the end there is 0
pub all-bytes : (bs : List ℕ) → ((i : ℕ) → i < length bs → get_or bs i 0 < 256) → AreBytes bs
all-bytes bs small i =
    by (ltb i (length bs))
    (λ t. small i (ltb-true i (length bs) t))
    (λ t. rw (get_or-eq_default bs 0 (ltb-false i (length bs) t)) (omega arith))

pub append-bytes : (a b : List ℕ) → AreBytes a → AreBytes b → AreBytes (a ++ b)
append-bytes a b p q i =
    by (ltb i (length a))
    (λ t. rw (get_or-append a b 0 i (ltb-true i (length a) t)) (p i))
    (λ t. let k = ltb-false i (length a) t in rw (skip a b i (i - length a) 0 (omega arith)) (q (i - length a)))

-- ---- bytes to a word and back

module _ (a b c d : ℕ) (ha : a < 256) (hb : b < 256) (hc : c < 256) (hd : d < 256) where
  -- byte r of the word of four bytes
  digit_0 : byte_of (a + 256 * b + 65536 * c + 16777216 * d) 0 ≡ a
  unfolding byte_of
  digit_0 = omega arith

  digit_1 : byte_of (a + 256 * b + 65536 * c + 16777216 * d) 1 ≡ b
  unfolding byte_of
  digit_1 = omega arith

  digit_2 : byte_of (a + 256 * b + 65536 * c + 16777216 * d) 2 ≡ c
  unfolding byte_of
  digit_2 = omega arith

  digit_3 : byte_of (a + 256 * b + 65536 * c + 16777216 * d) 3 ≡ d
  unfolding byte_of
  digit_3 = omega arith

-- byte r of the word at byte p, where all are bytes
pub word_byte : (bytes : List ℕ) → AreBytes bytes → (p r : ℕ) → r < 4 → byte_of (le_word bytes p) r ≡ get_or bytes (p + r) 0
unfolding le_word
word_byte bytes small p zero l =
    let e : p + 0 ≡ p = omega arith in rw e (digit_0 _ _ _ _ (small p) (small (p + 1)) (small (p + 2)) (small (p + 3)))
word_byte bytes small p (suc zero) l = digit_1 _ _ _ _ (small p) (small (p + 1)) (small (p + 2)) (small (p + 3))
word_byte bytes small p (suc (suc zero)) l = digit_2 _ _ _ _ (small p) (small (p + 1)) (small (p + 2)) (small (p + 3))
word_byte bytes small p (suc (suc (suc zero))) l = digit_3 _ _ _ _ (small p) (small (p + 1)) (small (p + 2)) (small (p + 3))
word_byte bytes small p (suc (suc (suc (suc r)))) l = absurd (omega arith)

-- ---- a word to bytes and back

-- four digits of a number to the base 256
four-digits : (w q r s a b c : ℕ) → 256 * q + a ≡ w → 256 * r + b ≡ q → 256 * s + c ≡ r → a + 256 * b + 65536 * c + 16777216 * s ≡ w
four-digits w q r s a b c e f g = omega arith

-- a word is what its four bytes say
pub word-of-bytes : (w : ℕ) → w < 2 ^ 32 → byte_of w 0 + 256 * byte_of w 1 + 65536 * byte_of w 2 + 16777216 * byte_of w 3 ≡ w
unfolding byte_of
word-of-bytes w h =
    let second : w / 256 / 256 ≡ w / 65536 = div-div-eq-div-mul w 256 256 in
    let third : w / 65536 / 256 ≡ w / 16777216 = div-div-eq-div-mul w 65536 256 in
    let last : w / 16777216 % 256 ≡ w / 16777216 = omega arith in
    let first : w / 1 ≡ w = omega arith in
    rw (first, last)
    (four-digits w (w / 256) (w / 65536) (w / 16777216) (w % 256) (w / 256 % 256) (w / 65536 % 256) (div-add-mod w 256)
    (rw second at (div-add-mod (w / 256) 256)) (rw third at (div-add-mod (w / 65536) 256)))
