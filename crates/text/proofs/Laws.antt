-- Laws of the text section. Assumes nothing.
use borrow.Rule.Slice.PartMut.{put_mid}
use Rattle.std.specs.Int.{w32, to_le_bytes}
use Rattle.std.specs.List.{fold as std_fold, list_all, range_with_len}
use mathlib.Core.Path.{◌≡◌, refl, sym, ap, ◌∙◌}
use mathlib.Core.Bool.{Bool, true, false, ◌&&◌, false≢true, and-false, and-true, and_assoc}
use mathlib.Core.List.{List, [], ◌∷◌, ◌++◌}
use Prim.Native.Nat.{ℕ, zero, suc, ◌+◌, ◌*◌, ◌-◌, ◌/◌, ◌%◌, ◌^◌, ◌≤◌, ◌<◌}
use native.Mathlib.Omega.{arith}
use native.Mathlib.Numerals.{add-one}
use native.Mathlib.Nat.{add-zero, add-suc, add_assoc, mul-le-mul_right}
use lib.ListN.{length, get_or, set, take, drop}
use lib.Seq.{take_at, get_or-drop, get_or-take, length-take-le}
use lib.Dec.{eqb, leb}
use borrow.Author.Tests.{eq-eqb, lt-ltb, le-ltb, le-leb, leb-true, eqb-true}
use Rattle.words.specs.Words.{byte_of}
use Rattle.words.proofs.Bools.{by, and_both, and_3}
use Rattle.words.proofs.Laws.{past, byte_0, byte_at}
use Rattle.words.proofs.Lists.{part_at, length_part}
use Rattle.words.specs.Folds.{all_of, table, stores}
use Rattle.words.proofs.FoldLaws.{stores-is, stores-turn, stores-ext, length-table, all-ext}
use Rattle.text.specs.Text.{text_byte, text_of_words, text_stores, unpacked_text, name_at, same_bytes, printable, part_ok, part_clean, signature_clean, member_clean}

-- ---- unpacking

pub text-byte : (ws : List ℕ) (k : ℕ) {w b : ℕ} → w ≡ get_or ws (k / 4) 0 → b ≡ byte_of w (k % 4) → b ≡ text_byte ws k
unfolding text_byte
text-byte ws k e f = rw (← e) f

-- a whole word: byte j of it, and the stores of all four
word_byte : (ws : List ℕ) (w j : ℕ) {b : ℕ} → j < 4 → b ≡ byte_of (get_or ws w 0) j → b ≡ text_byte ws (4 * w + j)
unfolding text_byte
word_byte ws w j h e =
    let q : (4 * w + j) / 4 ≡ w = omega arith in let r : (4 * w + j) % 4 ≡ j = omega arith in rw (q, r) e

store_byte : (ws d : List ℕ) (n : ℕ) {m : ℕ} {t : List ℕ} {b : ℕ} → t ≡ stores n (text_byte ws) d → b ≡ text_byte ws n → m ≡ n + 1
    → set t n b ≡ stores m (text_byte ws) d
store_byte ws d n p q e = rw e (stores-turn n (text_byte ws) d refl p q)

-- four stores one behind the other are one part that is put
four-stores : (t : List ℕ) (p a b c d : ℕ) → p + 4 ≤ length t
    → put_mid p 4 t (a ∷ b ∷ c ∷ d ∷ []) ≡ set (set (set (set t p a) (suc p) b) (suc (suc p)) c) (suc (suc (suc p))) d
four-stores [] p a b c d h = absurd (omega arith)
four-stores (x ∷ []) zero a b c d h = absurd (omega arith)
four-stores (x ∷ y ∷ []) zero a b c d h = absurd (omega arith)
four-stores (x ∷ y ∷ z ∷ []) zero a b c d h = absurd (omega arith)
four-stores (x ∷ y ∷ z ∷ w ∷ r) zero a b c d h = refl
four-stores (x ∷ xs) (suc p) a b c d h = ap (λ (l : List ℕ). x ∷ l) (four-stores xs p a b c d (omega arith))

pub word-turn : (ws d : List ℕ) (w : ℕ) {m : ℕ} {t p : List ℕ} → t ≡ stores (4 * w) (text_byte ws) d → 4 * w + 4 ≤ length t → m ≡ 4
    → p ≡ to_le_bytes w32 (get_or ws w 0) → put_mid (4 * w) m t p ≡ stores (4 * (w + 1)) (text_byte ws) d
word-turn ws d w {t = t} p h e f =
    let x = get_or ws w 0 in
    let b = rw (add-zero) at (word_byte ws w 0 (omega arith) (byte_0 x 0 refl)) in
    let q = store_byte ws d (4 * w) p b refl in
    let r = store_byte ws d (4 * w + 1) {m = 4 * w + 2} q (word_byte ws w 1 (omega arith) (byte_at x 1 1 256 refl refl)) (omega arith) in
    let s = store_byte ws d (4 * w + 2) {m = 4 * w + 3} r (word_byte ws w 2 (omega arith) (byte_at x 2 2 65536 refl refl)) (omega arith) in
    let i : suc (4 * w) ≡ 4 * w + 1 = omega arith in
    let j : suc (4 * w + 1) ≡ 4 * w + 2 = omega arith in
    let k : suc (4 * w + 2) ≡ 4 * w + 3 = omega arith in
    rw (e, f) (rw (i, j, k) at (four-stores t (4 * w) (x % 256) (x / 256 % 256) (x / 65536 % 256) (x / 16777216 % 256) h)
    ∙ store_byte ws d (4 * w + 3) s (word_byte ws w 3 (omega arith) (byte_at x 3 3 16777216 refl refl)) (omega arith))

pub words-done : (ws d : List ℕ) (n w : ℕ) {t : List ℕ} → t ≡ stores (4 * w) (text_byte ws) d → w ≡ n → t ≡ stores (4 * n) (text_byte ws) d
words-done ws d n w p e = rw (← e) p

-- the bytes that are left
module _ (ws : List ℕ) (start : ℕ) (d : List ℕ) where
  pub bytes-start : d ≡ text_stores ws start (start - start) d
  unfolding text_stores
  bytes-start = let e : start - start ≡ 0 = omega arith in rw e

  pub bytes-turn : (i : ℕ) {t o : List ℕ} {b : ℕ} → start ≤ i → o ≡ set t i b → t ≡ text_stores ws start (i - start) d → b ≡ text_byte ws i
      → o ≡ text_stores ws start (i + 1 - start) d
  unfolding text_stores
  bytes-turn i h p q r =
      let e : i + 1 - start ≡ suc (i - start) = omega arith in let f : start + (i - start) ≡ i = omega arith in rw (e, f) cc

  pub bytes-done : (i end : ℕ) {t : List ℕ} → t ≡ text_stores ws start (i - start) d → i - start ≤ end - start → end ≤ i
      → t ≡ text_stores ws start (end - start) d
  bytes-done i end p h k = let e : end - start ≡ i - start = omega arith in rw e p

bytes_on : (ws : List ℕ) (n : ℕ) (d : List ℕ) (k : ℕ) → text_stores ws n k (stores n (text_byte ws) d) ≡ stores (n + k) (text_byte ws) d
unfolding text_stores stores
bytes_on ws n d zero = rw add-zero
bytes_on ws n d (suc k) = rw (add-suc, bytes_on ws n d k)

-- whole words and then the bytes that are left, and where there is no room
pub text_is : (ws : List ℕ) (n : ℕ) (d : List ℕ) {i m : ℕ} {t o : List ℕ} → t ≡ stores i (text_byte ws) d → o ≡ text_stores ws i (m - i) t
    → m ≡ n → i ≤ m → n ≤ length d → o ≡ unpacked_text ws n d
unfolding unpacked_text text_of_words
text_is ws n d {i = i} {m = m} {o = o} p q e l h =
    let f : i + (m - i) ≡ n = omega arith in
    let r : o ≡ stores n (text_byte ws) d = rw (← f) (q ∙ rw p (bytes_on ws i d (m - i))) in
    rw (r, stores-is n (text_byte ws) d h) (simp (le-ltb (length d) n h))

-- the words of a part at the front, as the whole gives their bytes
pub text-front : (ws : List ℕ) (n : ℕ) (d : List ℕ) {t : List ℕ} → n ≤ length ws → t ≡ stores (4 * length (take n ws)) (text_byte (take n ws)) d
    → t ≡ stores (4 * n) (text_byte ws) d
unfolding text_byte
text-front ws n d h e =
    let f = length-take-le n ws h in
    rw f at e
    ∙ stores-ext (4 * n) (text_byte (take n ws)) (text_byte ws) d
    (λ k l. ap (λ w. byte_of w (k % 4)) (get_or-take n ws (k / 4) 0 (omega arith)))

pub text-none : (ws : List ℕ) (n : ℕ) (d : List ℕ) → length d < n → d ≡ unpacked_text ws n d
unfolding unpacked_text
text-none ws n d h = simp (lt-ltb (length d) n h)

-- the part that was written
pub text-part : (ws : List ℕ) (n : ℕ) (d : List ℕ) {t : List ℕ} → n ≤ length d → t ≡ unpacked_text ws n d → name_at t 0 n ≡ text_of_words ws n
unfolding unpacked_text name_at text_of_words
text-part ws n d {t = t} h p =
    let q : t ≡ table n (text_byte ws) ++ drop n d = p ∙ simp (le-ltb (length d) n h) in
    rw q (take_at (table n (text_byte ws)) (drop n d) n (length-table n (text_byte ws)))

-- ---- `same_bytes`

pub same_lengths : (a b : List ℕ) → (length a ≡ length b → ⊥) → same_bytes a b ≡ false
unfolding same_bytes
same_lengths [] [] h = absurd (h refl)
same_lengths [] (y ∷ ys) h = refl
same_lengths (x ∷ xs) [] h = refl
same_lengths (x ∷ xs) (y ∷ ys) h = rw (same_lengths xs ys (λ e. h (ap suc e))) (and-false (eqb x y))

-- what it says
pub same-is : (a b : List ℕ) → same_bytes a b ≡ true → a ≡ b
unfolding same_bytes
same-is [] [] h = refl
same-is [] (y ∷ ys) h = absurd (false≢true h)
same-is (x ∷ xs) [] h = absurd (false≢true h)
same-is (x ∷ xs) (y ∷ ys) h =
    let p = and_both (eqb x y) (same_bytes xs ys) h in
    let e = eqb-true x y p.0 in let f = same-is xs ys p.1 in cc

pub same_refl : (a : List ℕ) → same_bytes a a ≡ true
unfolding same_bytes
same_refl [] = refl
same_refl (x ∷ xs) = rw (eq-eqb x x refl) (same_refl xs)

-- ---- printable, byte by byte

-- what the fold over the bytes makes of one more
abbrev pub print_step : Bool → ℕ → Bool
print_step ok b = ok && leb 33 b && leb b 126

and-chain : (a b c d : Bool) → (a && b && c && d) ≡ (a && (b && c && d))
and-chain true b c d = refl
and-chain false b c d = refl

pub print_fold : (ok : Bool) (s : List ℕ) → std_fold print_step ok s ≡ (ok && printable s)
unfolding printable
print_fold ok [] = sym (and-true ok)
print_fold ok (b ∷ s) = print_fold (print_step ok b) s ∙ and-chain ok (leb 33 b) (leb b 126) (printable s)

-- each part of a printable text is printable
printable-drop : (s : List ℕ) (k : ℕ) → printable s ≡ true → printable (drop k s) ≡ true
unfolding printable
printable-drop s zero h = h
printable-drop [] (suc k) h = refl
printable-drop (b ∷ s) (suc k) h = printable-drop s k (and_3 (leb 33 b) (leb b 126) (printable s) h).2

printable-take : (s : List ℕ) (n : ℕ) → printable s ≡ true → printable (take n s) ≡ true
unfolding printable
printable-take s zero h = refl
printable-take [] (suc n) h = refl
printable-take (b ∷ s) (suc n) h =
    let p = and_3 (leb 33 b) (leb b 126) (printable s) h in rw (p.0, p.1) (printable-take s n p.2)

-- what it says of each byte
printable-at : (s : List ℕ) → printable s ≡ true → (i : ℕ) → i < length s → (33 ≤ get_or s i 0) × (get_or s i 0 ≤ 126)
unfolding printable
printable-at [] h i l = absurd (omega arith)
printable-at (b ∷ s) h zero l = let p = and_3 (leb 33 b) (leb b 126) (printable s) h in (leb-true 33 b p.0, leb-true b 126 p.1)
printable-at (b ∷ s) h (suc i) l = let p = and_3 (leb 33 b) (leb b 126) (printable s) h in printable-at s p.2 i (omega arith)

pub printable-each : (text : List ℕ) (start len : ℕ) → start + len ≤ length text → printable (name_at text start len) ≡ true
    → (i : ℕ) → i < len → (33 ≤ get_or text (start + i) 0) × (get_or text (start + i) 0 ≤ 126)
unfolding name_at
printable-each text start len l h i k =
    rw (← (part_at text start len i 0 k))
    (printable-at (take len (drop start text)) h i (rw (length_part text start len l) k))

-- and what it takes: such bytes only
printable-if : (s : List ℕ) → ((i : ℕ) → i < length s → (33 ≤ get_or s i 0) × (get_or s i 0 ≤ 126)) → printable s ≡ true
unfolding printable
printable-if [] h = refl
printable-if (b ∷ s) h =
    let p = h 0 (omega arith) in
    rw (le-leb 33 b p.0, le-leb b 126 p.1) (printable-if s (λ i l. h (suc i) (omega arith)))

pub printable-all : (text : List ℕ) (start len : ℕ) → start + len ≤ length text
    → ((i : ℕ) → i < len → (33 ≤ get_or text (start + i) 0) × (get_or text (start + i) 0 ≤ 126)) → printable (name_at text start len) ≡ true
unfolding name_at
printable-all text start len l h =
    printable-if (take len (drop start text))
    (λ i k. let j : i < len = rw (length_part text start len l) at k in rw (part_at text start len i 0 j) (h i j))

-- ---- the rule for a part

-- ---- records that begin with a name and a descriptor

-- a record's place is a number of 64 bits
pub product : (a b : ℕ) → a < 2 ^ 32 → b < 2 ^ 32 → a * b + 4 < 2 ^ 64
product a b h k = let p : a * b ≤ 2 ^ 32 * b = mul-le-mul_right b (omega arith) in omega arith

-- where the descriptor's length is not there, it is 0
pub signature_cut : (ws : List ℕ) (at : ℕ) (text : List ℕ) (clean : Bool) → length ws ≤ at + 3 → false ≡ signature_clean ws at text clean
unfolding signature_clean part_clean
signature_cut ws at text clean h =
    let z = past ws (at + 3) h in
    let e : part_clean text clean (get_or ws (at + 2) 0) (get_or ws (at + 3) 0) ≡ false = rw (← z) refl in
    rw e (sym (and-false (part_clean text clean (get_or ws at 0) (get_or ws (at + 1) 0))))

-- told the truth of the text, it is the rule
pub clean_is : (text : List ℕ) {clean : Bool} (start len : ℕ) → clean ≡ printable text → part_clean text clean start len ≡ part_ok text start len
unfolding part_clean part_ok name_at
clean_is text start len e =
    by (printable text)
    (λ h. simp (e, h, printable-take (drop start text) len (printable-drop text start h)))
    (λ h. simp (e, h))

-- so is a name and a descriptor, whose words are named from the record's place on
pub signature-is : (ws text : List ℕ) {clean : Bool} → clean ≡ printable text → (at : ℕ)
    → signature_clean ws at text clean
    ≡ (part_ok text (get_or ws (at + 0) 0) (get_or ws (at + 1) 0) && part_ok text (get_or ws (at + 2) 0) (get_or ws (at + 3) 0))
unfolding signature_clean
signature-is ws text e at =
    rw (add-zero, clean_is text (get_or ws at 0) (get_or ws (at + 1) 0) e, clean_is text (get_or ws (at + 2) 0) (get_or ws (at + 3) 0) e)

-- and a record of the section that begins at `at`
pub member_is : (ws text : List ℕ) {clean : Bool} → clean ≡ printable text → (at width most i : ℕ) {p : List ℕ} → p ≡ drop at ws
    → member_clean p width most text clean i
    ≡ (part_ok text (get_or ws (at + width * i + 0) 0) (get_or ws (at + width * i + 1) 0)
    && part_ok text (get_or ws (at + width * i + 2) 0) (get_or ws (at + width * i + 3) 0)
    && leb (get_or ws (at + width * i + 4) 0) most)
unfolding member_clean
member_is ws text e at width most i f =
    rw (f, signature-is (drop at ws) text e (width * i))
    (simp (get_or-drop, add_assoc))

-- ---- names

pub name_is : (text : List ℕ) (start len : ℕ) {p : List ℕ} {a b : ℕ} → a ≡ start → b ≡ len → p ≡ take b (drop a text) → p ≡ name_at text start len
unfolding name_at
name_is text start len e f g = rw (← e, ← f) g

-- ---- zeros to the end

-- a test of each number, taken apart at the front
all-front : (n : ℕ) (p : ℕ → Bool) → (p 0 && all_of n (λ k. p (k + 1))) ≡ all_of (suc n) p
unfolding all_of
all-front zero p = and-true (p 0)
all-front (suc n) p =
    let e : n + 1 ≡ suc n = add-one n in
    rw e (sym (and_assoc (p 0) (all_of n (λ k. p (k + 1))) (p (suc n))) ∙ ap (λ b. b && p (suc n)) (all-front n p))

-- and of the numbers from a on, as the library goes along them
pub all-range : (p : ℕ → Bool) (a n : ℕ) → list_all p (range_with_len a n) ≡ all_of n (λ k. p (a + k))
unfolding all_of
all-range p a zero = refl
all-range p a (suc n) =
    let z : a + 0 ≡ a = omega arith in
    ap (λ b. p a && b) (all-range p (a + 1) n
    ∙ all-ext n (λ k. p (a + 1 + k)) (λ k. p (a + (k + 1))) (λ i h. let e : a + 1 + i ≡ a + (i + 1) = omega arith in rw e refl))
    ∙ rw z at (all-front n (λ k. p (a + k)))
