-- A flag that is masked is the bit of its definition. Assumes nothing.
use Rattle.std.proofs.Common.{ℕ, zero, suc, ◌≡◌, ◌+◌, ◌*◌, ◌-◌, ◌/◌, ◌%◌, ◌^◌, ◌<◌, refl, arith, bit_and}
use Rattle.std.specs.Prelude.{not, eqb}
use lib.Pow.{pow_pos, pow-add}
use borrow.Author.Tests.{ne_eqb}
use Rattle.std.proofs.lemmas.Nat.Bits.{and_high}
use Rattle.class_sheet.specs.Flags.{is_public, is_private, is_protected, is_static, is_interface, is_abstract}

-- a bit, worth d, is there or not
worth : (q d : ℕ) → q < 2 → 0 < d → not (eqb (q * d) 0) ≡ eqb q 1
worth zero d h k = let e : zero * d ≡ 0 = omega arith in rw e refl
worth (suc zero) d h k = let e : suc zero * d ≡ d = omega arith in rw (e, ne_eqb d 0 (omega arith)) refl
worth (suc (suc q)) d h k = absurd (omega arith)

-- a number has bit m
pub bit_test : (n m : ℕ) → not (eqb (bit_and n (2 ^ m)) 0) ≡ eqb (n / 2 ^ m % 2) 1
bit_test n m =
    let double : 2 ^ (1 + m) ≡ 2 * 2 ^ m = pow-add 2 1 m in
    let one : 2 ^ (1 + m) - 2 ^ m ≡ 2 ^ m = omega arith in
    let e : bit_and n (2 ^ m) ≡ n / 2 ^ m % 2 * 2 ^ m = rw one at (and_high n 1 m) in
    rw e (worth (n / 2 ^ m % 2) (2 ^ m) (omega arith) (pow_pos m))

pub public_bit : (n : ℕ) → not (eqb (bit_and n 1) 0) ≡ is_public n
public_bit n = let e : n / 1 ≡ n = omega arith in rw e at (bit_test n 0)

pub private_bit : (n : ℕ) → not (eqb (bit_and n 2) 0) ≡ is_private n
private_bit n = bit_test n 1

pub protected_bit : (n : ℕ) → not (eqb (bit_and n 4) 0) ≡ is_protected n
protected_bit n = bit_test n 2

pub static_bit : (n : ℕ) → not (eqb (bit_and n 8) 0) ≡ is_static n
static_bit n = bit_test n 3

pub interface_bit : (n : ℕ) → not (eqb (bit_and n 512) 0) ≡ is_interface n
interface_bit n = bit_test n 9

pub abstract_bit : (n : ℕ) → not (eqb (bit_and n 1024) 0) ≡ is_abstract n
abstract_bit n = bit_test n 10
