-- The marked words of a bitmap, byte by byte: those of a byte are the ones of its highest bits, and those of a word list are the bytes' together.
-- Assumes nothing.
use mathlib.Core.Path.{◌≡◌, refl, sym, ap, ◌∙◌}
use mathlib.Core.Bool.{Bool, true, false, cond, not}
use mathlib.Core.List.{List, [], ◌∷◌, ◌++◌, append_assoc, append-nil}
use Prim.Native.Nat.{ℕ, zero, suc, ◌+◌, ◌*◌, ◌-◌, ◌/◌, ◌%◌, ◌^◌, ◌≤◌, ◌<◌, min}
use native.Mathlib.Numerals.{add-one}
use native.Mathlib.Omega.{arith}
use lib.ListN.{length, get_or, set, drop, length-append}
use lib.Seq.{drop-cons, set_at}
use lib.Dec.{eqb}
use lib.Bits.{bit_and, and_high}
use lib.Count.{ones, ones_step, ones_cat}
use lib.Pow.{pow_pos, pow-add, shl-shr, shr-shr, shr_mod}
use borrow.Author.Tests.{eqb-true, eqb-false, eq-eqb, ne_eqb, lt-ltb, le-ltb}
use Rattle.words.specs.Folds.{sum_of}
use Rattle.words.specs.Lists.{list_from, numbers, keep}
use Rattle.words.proofs.Bools.{by}
use Rattle.words.proofs.FoldLaws.{sum_more}
use Rattle.words.specs.Words.{AreBytes}
use Rattle.words.proofs.ListLaws.{numbers-split}
use Rattle.references.specs.References.{is_marked, marked_words, written_over, bytes_for, kept_bits, masked, masked_byte, masked_ones, too_few, Outcome, outcome, counted, read_references, count_references}
use Rattle.std.specs.Prelude.{Result, Ok, Err}
use Rattle.refusal.specs.Rows.{row}
use Rattle.refusal.specs.declared.Refusal.{Refusal}
use Rattle.refusal.specs.declared.Refusal.TheVariants.{ShortList}
use native.Mathlib.Nat.{mod-eq_of_lt}
use Rattle.refusal.proofs.Rows.{row_above}

-- ---- lists of numbers that pass a test

pub numbers-none : (m : ℕ) → numbers m 0 ≡ []
unfolding list_from
numbers-none m = refl

pub numbers_more : (m n : ℕ) → numbers m (suc n) ≡ numbers m n ++ ((m + n) ∷ [])
unfolding list_from
numbers_more m n = let e : n + 1 ≡ suc n = omega arith in rw e at (numbers-split m n 1)

pub numbers-one : (m : ℕ) → numbers m 1 ≡ m ∷ []
unfolding list_from
numbers-one m = refl

pub keep-none : (p : ℕ → Bool) → keep p [] ≡ []
unfolding keep
keep-none p = refl

pub keep_one : (p : ℕ → Bool) (x : ℕ) → keep p (x ∷ []) ≡ cond (p x) (x ∷ []) []
unfolding keep
keep_one p x = refl

pub keep_append : (p : ℕ → Bool) (xs ys : List ℕ) → keep p (xs ++ ys) ≡ keep p xs ++ keep p ys
unfolding keep
keep_append p [] ys = refl
keep_append p (x ∷ xs) ys = by (p x) (λ e. rw (e, keep_append p xs ys)) (λ e. rw (e, keep_append p xs ys))

-- ---- one byte

-- a number's lowest bit, as a list that has an element or none
pub bit_length : (v x : ℕ) → length (cond (eqb (v % 2) 1) (x ∷ []) []) ≡ v % 2
bit_length v x =
    by (eqb (v % 2) 1) (λ e. rw e (sym (eqb-true _ _ e))) (λ e. rw e (omega (arith, eqb-false (v % 2) 1 e)))

-- the bit 0x80 shifted right by k is bit 7 - k
pub shifted_bit : (k : ℕ) → k < 8 → 0x80 / 2 ^ k ≡ 2 ^ (7 - k)
shifted_bit k h =
    let e : 7 - k + k ≡ 7 = omega arith in
    let p : 0x80 ≡ 2 ^ (7 - k) * 2 ^ k = rw e at (pow-add 2 (7 - k) k) in
    ap (λ (x : ℕ). x / 2 ^ k) p ∙ shl-shr (2 ^ (7 - k)) k

-- a number has bit m
pub bit_test : (b m : ℕ) → not (eqb (bit_and b (2 ^ m)) 0) ≡ eqb (b / 2 ^ m % 2) 1
bit_test b m =
    let double : 2 ^ (1 + m) ≡ 2 * 2 ^ m = pow-add 2 1 m in
    let one : 2 ^ (1 + m) - 2 ^ m ≡ 2 ^ m = omega arith in
    let v : ℕ = b / 2 ^ m % 2 in
    let a : bit_and b (2 ^ m) ≡ v * 2 ^ m = rw one at (and_high b 1 m) in
    by (eqb v 1)
    (λ e.
    let s : v * 2 ^ m ≡ 2 ^ m = rw (eqb-true v 1 e) (omega arith) in
    let some : bit_and b (2 ^ m) ≡ 0 → ⊥ = λ z. omega (arith, a, s, pow_pos m) in
    rw (e, ne_eqb _ 0 some))
    (λ e.
    let z : v ≡ 0 = omega (arith, eqb-false v 1 e) in
    let s : v * 2 ^ m ≡ 0 = rw z (omega arith) in
    rw (e, eq-eqb _ 0 (a ∙ s)))

-- word 8 j + k is marked by bit 7 - k of byte j
pub marked-at : (bitmap : List ℕ) (j k : ℕ) → k < 8 → is_marked bitmap (8 * j + k) ≡ eqb (get_or bitmap j 0 / 2 ^ (7 - k) % 2) 1
unfolding is_marked
marked-at bitmap j k h =
    let q : (8 * j + k) / 8 ≡ j = omega arith in
    let r : (8 * j + k) % 8 ≡ k = omega arith in
    rw (q, r, shifted_bit k h) (bit_test (get_or bitmap j 0) (7 - k))

-- the marked ones of the first k words of byte j are the ones of its k highest bits
pub byte_marks : (bitmap : List ℕ) (j k : ℕ) → get_or bitmap j 0 < 256 → k ≤ 8
    → length (keep (is_marked bitmap) (numbers (8 * j) k)) ≡ ones (get_or bitmap j 0 / 2 ^ (8 - k))
unfolding ones
byte_marks bitmap j zero small h = let e : get_or bitmap j 0 / 256 ≡ 0 = omega arith in rw (numbers-none, keep-none, e)
byte_marks bitmap j (suc k) small h =
    let b : ℕ = get_or bitmap j 0 in
    let x : ℕ = 8 * j + k in
    let v : ℕ = b / 2 ^ (7 - k) in
    let more : numbers (8 * j) (suc k) ≡ numbers (8 * j) k ++ (x ∷ []) = numbers_more (8 * j) k in
    let test : is_marked bitmap x ≡ eqb (v % 2) 1 = marked-at bitmap j k (omega arith) in
    let half : v / 2 ≡ b / 2 ^ (8 - k) = let e : 7 - k + 1 ≡ 8 - k = omega arith in rw (← e) (shr-shr b (7 - k) 1) in
    let e : 8 - suc k ≡ 7 - k = omega arith in
    rw (more, keep_append, length-append, keep_one, test, bit_length, byte_marks bitmap j k small (omega arith), e, ones_step v, half) (omega arith)

-- ---- masked bytes

pub ones_zero : ones 0 ≡ 0
unfolding ones
ones_zero = refl

-- a byte's k highest bits are its quotient, shifted back
pub masked_high : (b k : ℕ) → b < 256 → k ≤ 8 → masked b k ≡ b / 2 ^ (8 - k) * 2 ^ (8 - k)
unfolding masked
masked_high b k small h =
    let e : k + (8 - k) ≡ 8 = omega arith in
    let l : b < 2 ^ (k + (8 - k)) = rw e small in
    (rw e at (and_high b k (8 - k))) ∙ rw (shr_mod k (8 - k) l)

-- their ones are those of the quotient
pub ones_masked : (b k : ℕ) → b < 256 → k ≤ 8 → ones (masked b k) ≡ ones (b / 2 ^ (8 - k))
ones_masked b k small h =
    let q : ℕ = b / 2 ^ (8 - k) in
    let e : masked b k ≡ q * 2 ^ (8 - k) + 0 = omega (arith, masked_high b k small h) in
    rw e (ones_cat (8 - k) q 0 (pow_pos (8 - k)) ∙ none (ones q))
  where
    none : (n : ℕ) → n + ones 0 ≡ n
    none n = let z : ones 0 ≡ 0 = ones_zero in omega arith

-- ---- all bytes

-- the bytes before byte j
unfoldable pub ones_before : List ℕ → ℕ → ℕ → ℕ
ones_before bitmap n j = sum_of j (λ i. ones (masked_byte bitmap n i))

pub ones_none : (bitmap : List ℕ) (n : ℕ) → 0 ≡ ones_before bitmap n 0
unfolding ones_before sum_of
ones_none bitmap n = refl

pub ones_more : (bitmap : List ℕ) (n j : ℕ)
    → ones_before bitmap n (j + 1) ≡ ones_before bitmap n j + ones (masked_byte bitmap n j)
unfolding ones_before
ones_more bitmap n j = sum_more j _

-- they count the marked ones of the words that lie before it
pub ones_count : (bitmap : List ℕ) (n j : ℕ) → AreBytes bitmap → j ≤ bytes_for n
    → ones_before bitmap n j ≡ length (keep (is_marked bitmap) (numbers 0 (min n (8 * j))))
unfolding bytes_for kept_bits
ones_count bitmap n zero small h = let e : min n (8 * 0) ≡ 0 = omega arith in rw (← ones_none, e, numbers-none, keep-none)
ones_count bitmap n (suc j) small h =
    let k : ℕ = kept_bits n j in
    let here : min n (8 * j) ≡ 8 * j = omega arith in
    let next : min n (8 * suc j) ≡ 8 * j + k = omega arith in
    let one : suc j ≡ j + 1 = omega arith in
    let start : 0 + 8 * j ≡ 8 * j = omega arith in
    let before : ones_before bitmap n j ≡ length (keep (is_marked bitmap) (numbers 0 (8 * j))) =
    rw here at (ones_count bitmap n j small (omega arith)) in
    rw (
      next,
      numbers-split,
      keep_append,
      length-append,
      start,
      byte_marks bitmap j k (small j) (omega arith),
      ← (ones_masked (get_or bitmap j 0) k (small j) (omega arith)),
      ← before,
      one,
    )
    (ones_more bitmap n j)

-- "shown equal": the count byte by byte is the list's length
pub count_is : (bitmap : List ℕ) (n : ℕ) → AreBytes bitmap → masked_ones bitmap n ≡ length (marked_words bitmap n)
unfolding masked_ones marked_words ones_before bytes_for
count_is bitmap n small =
    let e : min n (8 * ((n + 7) / 8)) ≡ n = omega arith in rw e at (ones_count bitmap n (bytes_for n) small (omega arith))

-- ---- the list

-- the marked ones of the words before word i
unfoldable pub marked_before : List ℕ → ℕ → List ℕ
marked_before bitmap i = keep (is_marked bitmap) (numbers 0 i)

module _ (bitmap : List ℕ) where
  pub before-none : marked_before bitmap 0 ≡ []
  unfolding marked_before
  before-none = rw (numbers-none, keep-none)

  pub before_more : (i : ℕ) → marked_before bitmap (i + 1) ≡ marked_before bitmap i ++ cond (is_marked bitmap i) (i ∷ []) []
  unfolding marked_before
  before_more i = rw (numbers-split 0 i 1, keep_append) (ap (λ (l : List ℕ). keep (is_marked bitmap) (numbers 0 i) ++ l) (one i))
    where
      one : (i : ℕ) → keep (is_marked bitmap) (numbers (0 + i) 1) ≡ cond (is_marked bitmap i) (i ∷ []) []
      one i = let e : 0 + i ≡ i = omega arith in rw (e, numbers-one, keep_one)

  -- a word that is not marked, and one that is
  pub before-skip : (i : ℕ) → is_marked bitmap i ≡ false → marked_before bitmap (i + 1) ≡ marked_before bitmap i
  before-skip i h = rw (before_more, h, append-nil)

  pub before-take : (i : ℕ) → is_marked bitmap i ≡ true → marked_before bitmap (i + 1) ≡ marked_before bitmap i ++ (i ∷ [])
  before-take i h = rw (before_more, h)

  -- no more of them than of all
  pub before-few : (i n : ℕ) → i ≤ n → length (marked_before bitmap i) ≤ length (marked_words bitmap n)
  unfolding marked_before marked_words
  before-few i n h =
      let e : n ≡ i + (n - i) = omega arith in
      rw (e, numbers-split 0 i (n - i), keep_append (is_marked bitmap) (numbers 0 i), length-append) (omega arith)

  pub before-bound : (i : ℕ) → length (marked_before bitmap i) ≤ i
  before-bound zero = rw before-none (omega arith)
  before-bound (suc i) =
      let e : suc i ≡ i + 1 = omega arith in
      let h = before-bound i in
      rw e (by (is_marked bitmap i) (λ t. rw (before-take i t, length-append) (omega arith)) (λ t. rw (before-skip i t) (omega arith)))

  -- so the sum modulo 2^32 is the count
  pub masked_sum : (n : ℕ) → AreBytes bitmap → n < 2 ^ 32 → sum_of (bytes_for n) (λ j. ones (masked_byte bitmap n j)) % 2 ^ 32 ≡ masked_ones bitmap n
  unfolding masked_ones marked_words marked_before
  masked_sum n small h = mod-eq_of_lt (omega (arith, count_is bitmap n small, before-bound n))

-- ---- the list as it is filled

-- k words stand over the front of the list: the marked ones of the words before word i
unfoldable pub Filled : List ℕ → List ℕ → ℕ → ℕ → List ℕ → Type 0
Filled bitmap list i k l = (k ≡ length (marked_before bitmap i)) × (l ≡ written_over (marked_before bitmap i) list)

module _ (bitmap list : List ℕ) where
  pub fill_start : Filled bitmap list 0 0 list
  unfolding Filled written_over
  fill_start = (rw before-none refl, rw before-none refl)

  module _ (i k : ℕ) (l : List ℕ) {b : Bool} (e : b ≡ is_marked bitmap i) where
    -- a word that is not marked is passed over
    pub fill_skip : b ≡ false → Filled bitmap list i k l → Filled bitmap list (i + 1) k l
    unfolding Filled
    fill_skip t f = rw (before-skip bitmap i (sym e ∙ t)) f

    -- one that is marked is put behind those before it
    pub fill_take : (n : ℕ) → b ≡ true → i < n → length (marked_words bitmap n) ≤ length list → Filled bitmap list i k l
        → Filled bitmap list (i + 1) (k + 1) (set l k i)
    unfolding Filled written_over
    fill_take n t h room f =
        let marks : List ℕ = marked_before bitmap i in
        let more : marked_before bitmap (i + 1) ≡ marks ++ (i ∷ []) = before-take bitmap i (sym e ∙ t) in
        let size : length (marked_before bitmap (i + 1)) ≡ length marks + 1 = ap length more ∙ length-append marks (i ∷ []) in
        let fits : length marks < length list = omega (arith, before-few bitmap (i + 1) n (omega arith)) in (
          rw (size, f.0),
          rw (f.0, f.1, size, more, drop-cons list (length marks) 0 fits, add-one)
              (set_at marks (get_or list (length marks) 0) (drop (suc (length marks)) list) i (length marks) refl
              ∙ sym (append_assoc marks (i ∷ []) (drop (suc (length marks)) list))),
        )

  -- with all words passed, the marked ones of all are there
  pub fill_end : (n k : ℕ) (l : List ℕ) → Filled bitmap list n k l → l ≡ written_over (marked_words bitmap n) list
  unfolding Filled marked_before marked_words
  fill_end n k l f = f.1

-- ---- the calls, case by case

-- a bitmap that is refused, and one that is not
module _ (bitmap : List ℕ) (n : ℕ) where
  pub few_refused : (r : Refusal) (list : List ℕ) {x : Result ℕ Refusal} → x ≡ Err r → counted (Err r) ≡ count_references bitmap n
      → outcome x list ≡ read_references bitmap n list
  unfolding count_references read_references
  few_refused r list q e =
      by (too_few bitmap n) (λ t. let f : row r ≡ 24 = ap (λ (o : Outcome). o.refusal) (rw t at e) in rw (q, t, f))
      (λ t. let f : row r ≡ 0 = ap (λ (o : Outcome). o.refusal) (rw t at e) in absurd (omega (arith, row_above r)))

  module _ {m : ℕ} (e : counted (Ok m) ≡ count_references bitmap n) where
    enough : (too_few bitmap n ≡ false) × (m ≡ masked_ones bitmap n)
    unfolding count_references
    enough =
        by (too_few bitmap n) (λ t. let f : 0 ≡ 24 = ap (λ (o : Outcome). o.refusal) (rw t at e) in absurd (omega arith))
        (λ t. (t, ap (λ (o : Outcome). o.count) (rw t at e)))

    module _ (small : AreBytes bitmap) (list : List ℕ) where
      pub list-room : m ≤ length list → length (marked_words bitmap n) ≤ length list
      list-room h = omega (arith, enough.1, count_is bitmap n small)

      pub read_short : length list < m → outcome (Err ShortList) list ≡ read_references bitmap n list
      unfolding read_references
      read_short h =
          rw (enough.0, lt-ltb (length list) (length (marked_words bitmap n)) (omega (arith, enough.1, count_is bitmap n small)))

      pub read-list : m ≤ length list → {l : List ℕ} → l ≡ written_over (marked_words bitmap n) list → outcome (Ok m) l ≡ read_references bitmap n list
      unfolding read_references
      read-list h f =
          rw (enough.0, le-ltb (length list) (length (marked_words bitmap n)) (list-room h), f, enough.1, count_is bitmap n small)
