-- Laws on lists of numbers that several proofs cite. Assumes nothing.
use borrow.Rule.Slice.PartMut.{put_mid}
use mathlib.Core.Path.{◌≡◌, sym}
use mathlib.Core.List.{List, append_assoc}
use Prim.Native.Nat.{ℕ, ◌+◌, ◌*◌, ◌/◌, ◌%◌, ◌^◌, ◌≤◌, ◌<◌}
use native.Mathlib.Omega.{arith}
use lib.ListN.{length, get_or, take, drop, length-drop, get_or-eq_default}
use lib.Seq.{take_all, drop-drop}
use Rattle.words.proofs.Lists.{part_at}
use Rattle.words.specs.Words.{le_word, byte_of, inside, pasted, copy_fits, copy_elements}
use mathlib.Core.Bool.{Bool, true, false, and-false}
use borrow.Author.Tests.{le-leb, lt-leb, leb-true}

-- past the end there are zeros
pub past : (l : List ℕ) (i : ℕ) → length l ≤ i → 0 ≡ get_or l i 0
past l i h = sym (get_or-eq_default l 0 h)

-- a word as the code reads it, from the part that holds its four bytes
pub word_of_part : (l : List ℕ) (b : ℕ) {p : List ℕ} {n x y z w : ℕ} → p ≡ take 4 (drop b l)
    → x ≡ get_or p 0 0 → y ≡ get_or p 1 0 → z ≡ get_or p 2 0 → w ≡ get_or p 3 0
    → n ≡ x + y * 256 + z * 65536 + w * 16777216 → n ≡ le_word l b
unfolding le_word
word_of_part l b {p = p} e f g h i k =
    let q : b + 0 ≡ b = omega arith in
    let at : (j : ℕ) → j < 4 → get_or p j 0 ≡ get_or l (b + j) 0 = λ j t. rw e (part_at l b 4 j 0 t) in
    rw (k, f, g, h, i, at 0 (omega arith), at 1 (omega arith), at 2 (omega arith), at 3 (omega arith), q) (omega arith)

-- ---- bytes of words

-- byte j of a word, for j below 4, as the code computes it
pub byte_0 : (w j : ℕ) → j ≡ 0 → w % 256 ≡ byte_of w j
unfolding byte_of
byte_0 w j e = rw e (omega arith)

pub byte_at : (w j k d : ℕ) → j ≡ k → d ≡ 256 ^ k → w / d % 256 ≡ byte_of w j
unfolding byte_of
byte_at w j k d e f = rw (e, f)

-- ---- copying

module _ {A : Type 0} (src : List A) (from n : ℕ) (dst : List A) (at : ℕ) where
  pub no_source : length src < from + n → ◌≡◌ {A = Bool × List A} (false, dst) (copy_elements src from n dst at)
  unfolding copy_fits copy_elements
  no_source h = simp (lt-leb (from + n) (length src) h)

  pub no_room_lem : length dst < at + n → ◌≡◌ {A = Bool × List A} (false, dst) (copy_elements src from n dst at)
  unfolding copy_fits copy_elements
  no_room_lem h = simp (lt-leb (at + n) (length dst) h, and-false)

  pub room : from + n ≤ length src → at + n ≤ length dst
      → ◌≡◌ {A = Bool × List A} (true, pasted src from n dst at) (copy_elements src from n dst at)
  unfolding copy_fits copy_elements
  room h k = simp (le-leb (from + n) (length src) h, le-leb (at + n) (length dst) k)

  -- the part of dst is as long as what is copied there
  pub copied : {m k : ℕ} {p : List A} → p ≡ take k (drop from src) → m ≡ n → k ≡ n → from + n ≤ length src → at + n ≤ length dst
      → ◌≡◌ {A = Bool × List A} (true, put_mid at m dst p) (copy_elements src from n dst at)
  unfolding pasted
  copied e f g h k = rw (e, f, g, drop-drop, ← append_assoc) (room h k)

-- as many elements as the whole has are all from k on
pub part-rest : {A : Type 0} (l : List A) (k : ℕ) → take (length l) (drop k l) ≡ drop k l
part-rest l k = take_all (length l) (drop k l) (simp length-drop (omega arith))

pub inside_is : (f n t : ℕ) → inside f n t ≡ true → f + n ≤ t
unfolding inside
inside_is f n t h = leb-true _ _ h
