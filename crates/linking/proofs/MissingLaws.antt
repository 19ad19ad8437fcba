-- The bits of a table's slots: tables with the same words from the same slots have the same ones; packed into 33 words and read back they are those
-- bits, and the first word is their number; and one class's words in a list that another class's were written into. Assumes nothing.
use mathlib.Core.Path.{◌≡◌, refl, sym, ap, ◌∙◌}
use mathlib.Core.Logic.{◌≢◌}
use mathlib.Core.Bool.{Bool, true, false}
use mathlib.Core.List.{List, [], ◌∷◌, append-nil}
use Prim.Native.Nat.{ℕ, zero, suc, ◌+◌, ◌*◌, ◌/◌, ◌%◌, ◌^◌, ◌≤◌, ◌<◌}
use native.Mathlib.Nat.{pow-succ', div-div-eq-div-mul, div-one}
use native.Mathlib.Omega.{arith}
use lib.ListN.{length, get_or, take, drop, get_or-eq_default}
use lib.Dec.{eqb, ltb}
use borrow.Author.Tests.{ne_eqb, ltb-true, ltb-false}
use Rattle.std.specs.Prelude.{Option, Some, None}
use Rattle.words.proofs.Bools.{by}
use Rattle.words.proofs.Lists.{part_at, part_ext}
use Rattle.words.proofs.ListLaws.{length-list-from, get_d_list_from}
use Rattle.linking.specs.Chain.{on_found}
use Rattle.linking.specs.Vtable.{Entry, empty, Built, built}
use Rattle.linking.specs.Set.{write_at}
use Rattle.linking.specs.Counts.{is_counted, bits_of, missing_width, bit, bit_count, bits_from, pack_bits, missing_at, missing_bit, parent_bit}
use Rattle.linking.specs.Missing.{entries_built}
use Rattle.linking.proofs.Pairs.{none, pair}
use Rattle.linking.proofs.Plans.{built-same, not-built}
use Rattle.linking.proofs.Renumbered.{Tables, SameBuilt, both-built, both-refused}
use Rattle.linking.proofs.Rebuilt.{Any}
use Rattle.linking.proofs.Writes.{length-write, write-before, part-again, write-after}

-- ---- tables with the same words from the same slots

pub bits-same : (f : ℕ → Bool) {T U : List Entry} → Tables Any T U → bits_of f T ≡ bits_of f U
unfolding bits_of
bits-same f none = refl
bits-same f (pair r h) = rw (r.word, r.source, bits-same f h)

pub word_same : {T U : List Entry} → Tables Any T U → (i : ℕ) → (get_or T i empty).word ≡ (get_or U i empty).word
word_same none i = refl
word_same (pair r h) zero = r.word
word_same (pair r h) (suc i) = word_same h i

pub length-same : {T U : List Entry} → Tables Any T U → length T ≡ length U
length-same none = refl
length-same (pair r h) = ap suc (length-same h)

pub bits-built : (f : ℕ → Bool) {b b' : Built} → SameBuilt Any b b' → bits_of f (entries_built b) ≡ bits_of f (entries_built b')
bits-built f (both-built h) = bits-same f h
bits-built f both-refused = refl

-- a table that is built on one side is built on the other
pub record Rebuilds (b : Built) (T : List Entry) : Type 0 where
  pub entries : List Entry
  pub shown : b ≡ built entries
  pub same : Tables Any T entries

pub rebuilds : {b b' : Built} → SameBuilt Any b b' → (T : List Entry) → b ≡ built T → Rebuilds b' T
rebuilds (both-built {T = X} {U = Y} h) T e = let q : X ≡ T = built-same e in record { entries = Y; shown = refl; same = rw q at h }
rebuilds both-refused T e = not-built e

pub bits-ext : (f g : ℕ → Bool) → ((j : ℕ) → f j ≡ g j) → (T : List Entry) → bits_of f T ≡ bits_of g T
unfolding bits_of
bits-ext f g h [] = refl
bits-ext f g h (e ∷ T) = rw (found-ext e.source, bits-ext f g h T)
  where
    found-ext : (s : Option ℕ) → on_found s f false ≡ on_found s g false
    found-ext (Some j) = h j
    found-ext None = refl

pub length-bits : (f : ℕ → Bool) (T : List Entry) → length (bits_of f T) ≡ length T
unfolding bits_of
length-bits f [] = refl
length-bits f (e ∷ T) = ap suc (length-bits f T)

pub bits_at : (f : ℕ → Bool) (T : List Entry) (i : ℕ) → i < length T → get_or (bits_of f T) i false ≡ is_counted f (get_or T i empty)
unfolding bits_of
bits_at f [] i h = absurd (omega arith)
bits_at f (e ∷ T) zero h = refl
bits_at f (e ∷ T) (suc i) h = bits_at f T i (omega arith)

-- ---- packed, and read back

pub bit-small : (b : Bool) → bit b ≤ 1
bit-small true = omega arith
bit-small false = omega arith

bit_is : (b : Bool) → eqb (bit b) 1 ≡ b
bit_is true = refl
bit_is false = refl

bit_at : (bs : List Bool) (i n r : ℕ) → r < n → bits_from bs i n / 2 ^ r % 2 ≡ bit (get_or bs (i + r) false)
unfolding bits_from
bit_at bs i zero r h = absurd (omega arith)
bit_at bs i (suc n) zero h =
    let b : ℕ = bit (get_or bs i false) in
    let e : i + 0 ≡ i = omega arith in
    let s = bit-small (get_or bs i false) in
    rw (e, div-one (b + 2 * bits_from bs (i + 1) n)) (omega arith)
bit_at bs i (suc n) (suc r) h =
    let b : ℕ = bit (get_or bs i false) in
    let x : ℕ = bits_from bs (i + 1) n in
    let s = bit-small (get_or bs i false) in
    let e : i + suc r ≡ i + 1 + r = omega arith in
    let half : (b + 2 * x) / 2 ≡ x = omega arith in
    rw (e, pow-succ' 2 r, ← div-div-eq-div-mul (b + 2 * x) 2 (2 ^ r), half) (bit_at bs (i + 1) n r (omega arith))

pub length_pack : (bs : List Bool) → length (pack_bits bs) ≡ missing_width
unfolding pack_bits
length_pack bs = ap suc (length-list-from (λ k. bits_from bs (32 * k) 32) 0 32)

pub packed-bit : (bs : List Bool) (j : ℕ) → j < 1024 → eqb (get_or (pack_bits bs) (1 + j / 32) 0 / 2 ^ (j % 32) % 2) 1 ≡ get_or bs j false
unfolding pack_bits
packed-bit bs j h =
    let s : 1 + j / 32 ≡ suc (j / 32) = omega arith in
    let k : 0 + j / 32 ≡ j / 32 = omega arith in
    let e : 32 * (j / 32) + j % 32 ≡ j = omega arith in
    rw (s, get_d_list_from (λ k. bits_from bs (32 * k) 32) 0 32 (j / 32) 0 (omega arith), k, bit_at bs (32 * (j / 32)) 32 (j % 32) (omega arith), e)
    (bit_is (get_or bs j false))

-- ---- a class's words in the list

module _ (list xs : List ℕ) (c : ℕ) (many : length xs ≡ missing_width) (room : missing_at c + missing_width ≤ length list) where
  pub own-words : take missing_width (drop (missing_at c) (write_at list (missing_at c) xs)) ≡ xs
  own-words = rw (append-nil xs) at (part-again list (missing_at c) xs [] (omega arith) missing_width (sym many))

  pub other_words : (d : ℕ) → 1 ≤ c → 1 ≤ d → d ≢ c
      → take missing_width (drop (missing_at d) (write_at list (missing_at c) xs)) ≡ take missing_width (drop (missing_at d) list)
  other_words d some one n =
      part_ext 0 (write_at list (missing_at c) xs) list (missing_at d) missing_width (length-write list (missing_at c) xs (omega arith))
      (λ i h b.
      by (ltb i (missing_at c))
      (λ t. write-before list (missing_at c) xs (omega arith) i (ltb-true i (missing_at c) t))
      (λ t. let l = ltb-false i (missing_at c) t in
      write-after list (missing_at c) xs (omega arith) i
      (by (ltb d c) (λ u. let v = ltb-true d c u in absurd (omega arith)) (λ u. let v = ltb-false d c u in omega arith))))

-- ---- read back

module _ (list : List ℕ) (c : ℕ) (bs : List Bool) (words : take missing_width (drop (missing_at c) list) ≡ pack_bits bs) where
  word_at : (k : ℕ) → k < missing_width → get_or list (missing_at c + k) 0 ≡ get_or (pack_bits bs) k 0
  word_at k h = sym (part_at list (missing_at c) missing_width k 0 h) ∙ ap (λ (x : List ℕ). get_or x k 0) words

  pub count-read : get_or list (missing_at c) 0 ≡ bit_count bs
  unfolding pack_bits
  count-read = let e : missing_at c + 0 ≡ missing_at c = omega arith in rw e at (word_at 0 (omega arith))

  pub bit-read : (j : ℕ) → j < 1024 → missing_bit list c j ≡ get_or bs j false
  unfolding missing_bit
  bit-read j h = rw (word_at (1 + j / 32) (omega arith)) (packed-bit bs j h)

  pub parent-read : length bs ≤ 1024 → c ≢ 0 → (j : ℕ) → parent_bit list c j ≡ get_or bs j false
  unfolding parent_bit
  parent-read short n j =
      by (ltb j 1024)
      (λ t. rw (ne_eqb c 0 n, t) (bit-read j (ltb-true j 1024 t)))
      (λ t. let l = ltb-false j 1024 t in rw (ne_eqb c 0 n, t) (sym (get_or-eq_default bs false (omega arith))))

pub no_parent : (list : List ℕ) (j : ℕ) → parent_bit list 0 j ≡ false
unfolding parent_bit
no_parent list j = refl
