-- The flag that is masked is the bit of the definition: with it there is no receiver, and without it one word. Assumes nothing.
use Rattle.std.proofs.Common.{ℕ, ◌≡◌, ◌≢◌, bit_and, arith}
use Rattle.std.proofs.lemmas.Nat.Bits.{and_high}
use Rattle.descriptor.specs.Words.{receiver_words}

pub no_receiver : (n : ℕ) → bit_and n 8 ≢ 0 → 0 ≡ receiver_words n
no_receiver n h = omega (arith, and_high n 1 3)

pub one_receiver : (n : ℕ) → bit_and n 8 ≡ 0 → 1 ≡ receiver_words n
one_receiver n h = omega (arith, and_high n 1 3)
