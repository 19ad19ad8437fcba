-- Laws of the bits of a table: one slot's, their number, and a word of 32. Assumes nothing.
use mathlib.Core.Path.{◌≡◌, refl, sym, ap, ◌∙◌}
use mathlib.Core.Bool.{Bool, false, not}
use mathlib.Core.List.{List}
use Prim.Native.Nat.{ℕ, zero, suc, ◌+◌, ◌*◌, ◌-◌, ◌/◌, ◌%◌, ◌^◌, ◌≤◌, ◌<◌}
use native.Mathlib.Nat.{pow-succ'}
use native.Mathlib.Omega.{arith}
use native.Mathlib.Numerals.{add-one}
use lib.ListN.{length, get_or, drop, get_or-eq_default}
use lib.Seq.{drop-cons, drop-length}
use lib.Pow.{pow_pos, pow-lt}
use lib.Bits.{bit_and}
use lib.Dec.{eqb}
use Rattle.class_sheet.proofs.FlagLaws.{bit_test}
use Rattle.linking.specs.Vtable.{empty}
use Rattle.linking.specs.Counts.{is_counted, bits_of, bit, bit_count, bits_from}
use Rattle.linking.proofs.MissingLaws.{length-bits, bits_at, bit-small}
use Rattle.reading.specs.Arrays.{method_of, source_of, entry_at, entries_of}
use Rattle.reading.proofs.ArrayLaws.{length-entries, entry_found}

-- ---- a bit, masked

pub bit_masked : (w i : ℕ) → not (eqb (bit_and w (1 * 2 ^ (i % 32) % 4294967296)) 0) ≡ eqb (w / 2 ^ (i % 32) % 2) 1
bit_masked w i =
    let small : 2 ^ (i % 32) < 4294967296 = pow-lt {j = 32} (omega arith) in
    let e : 1 * 2 ^ (i % 32) % 4294967296 ≡ 2 ^ (i % 32) = omega (arith, small) in
    rw e (bit_test w (i % 32))

-- ---- the bits of all slots

module _ (f : ℕ → Bool) (ts ms : List ℕ) (n : ℕ) where
  abbrev bits : List Bool
  bits = bits_of f (entries_of ts ms n)

  pub bits-length : length bits ≡ n
  bits-length = length-bits f (entries_of ts ms n) ∙ length-entries ts ms n

  pub bit_past : (i : ℕ) → n ≤ i → false ≡ get_or bits i false
  bit_past i h = let l = bits-length in rw (get_or-eq_default bits false {n = i} (omega arith))

  pub bit_there : (i : ℕ) {w k : ℕ} {b : Bool} → i < n → w ≡ get_or ts i 0 → k ≡ get_or ms i 0
      → b ≡ is_counted f (record { word = w; method = method_of k; source = source_of k }) → b ≡ get_or bits i false
  unfolding entry_at
  bit_there i h e g b =
      let l = length-entries ts ms n in
      b ∙ rw (e, g) (ap (is_counted f) (sym (entry_found ts ms n i empty h)) ∙ sym (bits_at f (entries_of ts ms n) i (omega arith)))

-- ---- their number

module _ (bs : List Bool) where
  pub count-start : 0 + bit_count (drop 0 bs) ≡ bit_count bs
  count-start = omega arith

  pub count_turn : (i c : ℕ) {b t : ℕ} → i < length bs → b ≡ bit (get_or bs i false) → c + bit_count (drop i bs) ≡ t
      → c + b + bit_count (drop (i + 1) bs) ≡ t
  unfolding bit_count
  count_turn i c h e g =
      let d : bit_count (drop i bs) ≡ bit (get_or bs i false) + bit_count (drop (i + 1) bs) = rw (add-one, drop-cons bs i false h) in
      omega arith

  pub count-end : (i c : ℕ) → i ≡ length bs → c + bit_count (drop i bs) ≡ bit_count bs → c ≡ bit_count bs
  unfolding bit_count
  count-end i c h g = let d : bit_count (drop i bs) ≡ 0 = rw (h, drop-length bs) in omega arith

  -- ---- a word of 32, from its last bit down

  bits_below : (i n m : ℕ) → n ≤ m → bits_from bs i n < 2 ^ m
  unfolding bits_from
  bits_below i zero m h = pow_pos m
  bits_below i (suc n) zero h = absurd (omega arith)
  bits_below i (suc n) (suc m) h =
      let r = bits_below (i + 1) n m (omega arith) in
      let b = bit-small (get_or bs i false) in
      rw (pow-succ' 2 m) (omega arith)

  pub word_room : (at i : ℕ) {w : ℕ} → 0 < i → w ≡ bits_from bs at (32 - i) → w < 2 ^ 31
  word_room at i h e = rw e (bits_below at (32 - i) 31 (omega arith))

  pub word-start : (at : ℕ) → 0 ≡ bits_from bs (at + 32) (32 - 32)
  unfolding bits_from
  word-start at = refl

  pub word-turn : (at i : ℕ) {b w : ℕ} → 0 < i → i ≤ 32 → b ≡ bit (get_or bs (at + (i - 1)) false) → w ≡ bits_from bs (at + i) (32 - i)
      → b + 2 * w ≡ bits_from bs (at + (i - 1)) (32 - (i - 1))
  unfolding bits_from
  word-turn at i h l e g =
      let n : 32 - (i - 1) ≡ suc (32 - i) = omega arith in
      let m : at + (i - 1) + 1 ≡ at + i = omega arith in
      rw (n, e, g, m)

  pub word_end : (at i : ℕ) {w : ℕ} → i ≡ 0 → w ≡ bits_from bs (at + i) (32 - i) → w ≡ bits_from bs at 32
  word_end at i h g = let e : at + 0 ≡ at = omega arith in g ∙ rw (h, e)
