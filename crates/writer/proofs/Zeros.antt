-- Zeros after words: bytes that are 0 to the end of the words are 0 past it too, and zeros after words change no word. Assumes nothing.
use mathlib.Core.Path.{◌≡◌, sym, ◌∙◌}
use mathlib.Core.Bool.{true}
use mathlib.Core.List.{List, ◌++◌}
use Prim.Native.Nat.{ℕ, ◌+◌, ◌*◌, ◌-◌, ◌/◌, ◌%◌, ◌^◌, ◌≤◌}
use native.Mathlib.Nat.{zero-div}
use native.Mathlib.Omega.{arith}
use lib.ListN.{length, get_or, replicate, get_or-append, get_or-eq_default}
use lib.Dec.{ltb}
use borrow.Author.Tests.{ltb-true, ltb-false, eq-eqb, eqb-true}
use Rattle.words.specs.Words.{byte_of}
use Rattle.words.proofs.Bools.{by}
use Rattle.words.proofs.FoldLaws.{all-each, all-if}
use Rattle.words.proofs.Lists.{skip, zeros}
use Rattle.text.specs.Text.{text_byte, zero_at, zero_rest}

-- ---- zeros to the end of the words: past it there are only zeros

pub past-byte : (ws : List ℕ) (b : ℕ) → length ws ≤ b / 4 → text_byte ws b ≡ 0
unfolding text_byte byte_of
past-byte ws b h = rw (get_or-eq_default ws 0 h, zero-div (256 ^ (b % 4)))

module _ (ws : List ℕ) (start : ℕ) where
  pub zero-each : zero_rest ws start ≡ true → (b : ℕ) → start ≤ b → text_byte ws b ≡ 0
  unfolding zero_rest zero_at
  zero-each h b l =
      by (ltb b (4 * length ws))
      (λ t.
      let inside = ltb-true b (4 * length ws) t in
      let e : start + (b - start) ≡ b = omega arith in
      eqb-true _ _ (rw e at (all-each (4 * length ws - start) (zero_at ws start) h (b - start) (omega arith))))
      (λ t. let outside = ltb-false b (4 * length ws) t in past-byte ws b (omega arith))

  pub zero-all : ((b : ℕ) → start ≤ b → text_byte ws b ≡ 0) → zero_rest ws start ≡ true
  unfolding zero_rest zero_at
  zero-all h = all-if (4 * length ws - start) (zero_at ws start) (λ i l. eq-eqb _ _ (h (start + i) (omega arith)))

-- words that are the same with zeros past their end have zeros from the same byte on
pub zero_same : (a b : List ℕ) (start : ℕ) → ((i : ℕ) → get_or a i 0 ≡ get_or b i 0) → zero_rest a start ≡ true → zero_rest b start ≡ true
unfolding text_byte
zero_same a b start same h = zero-all b start (λ k l. rw (same (k / 4)) at (zero-each a start h k l))

-- ---- zeros after words

pub padded-at : (c : List ℕ) (n i : ℕ) → get_or (c ++ replicate n 0) i 0 ≡ get_or c i 0
padded-at c n i =
    by (ltb i (length c)) (λ t. get_or-append c (replicate n 0) 0 i (ltb-true i (length c) t))
    (λ t.
    let l = ltb-false i (length c) t in
    skip c (replicate n 0) i (i - length c) 0 (omega arith) ∙ zeros n (i - length c) ∙ sym (get_or-eq_default c 0 l))
