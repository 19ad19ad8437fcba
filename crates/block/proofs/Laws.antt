-- Laws of the block form. Assumes nothing.
use Rattle.std.proofs.Common.{◌≡◌, ℕ, zero, suc, ◌+◌, ◌-◌, ◌*◌, ◌/◌, ◌%◌, ◌<◌, ◌≤◌, true, not, ◌&&◌, eqb, ltb, leb, List, [], ◌++◌, length, take, drop, refl, ◌∙◌, append_assoc, append-nil, add-one, arith, length-append, length-drop, drop_of_length-le, length-take-le, drop-drop, take_at, drop_at, ltb-true, le-ltb, lt-ltb, ne_eqb, eqb-true, le-leb, leb-true}
use borrow.Author.Tests.{eqb-false, not-true}
use Rattle.words.proofs.FoldLaws.{length-table, stores-is}
use Rattle.words.proofs.Bools.{and_both, and_4}
use Rattle.words.specs.Folds.{table, stores}
use Rattle.block.specs.Block.{word_of, block, content, unpacked, shape_ok, least_fit, blocks_for}

pub content_none : (bs : List ℕ) (d : List ℕ) → d ≡ content bs 0 ++ drop (127 * 0) d
unfolding content
content_none bs d = refl

pub length-content : (bs : List ℕ) (n : ℕ) → length (content bs n) ≡ 127 * n
unfolding content
length-content bs zero = refl
length-content bs (suc n) =
    let e = length-append (content bs n) (table 127 (word_of (block bs n))) in
    let f = length-table 127 (word_of (block bs n)) in
    let g = length-content bs n in
    omega (arith, add-one n)

-- a part of w elements from p on, stored by a turn of a loop in the part that is lent, comes back into the whole
pub part_filled : (P d : List ℕ) (p w : ℕ) (f : ℕ → ℕ) {o y : List ℕ} → length P ≡ p → p + w ≤ length d → o ≡ P ++ drop p d
    → y ≡ stores w f (take (p + w - p) (drop p o))
    → take p o ++ (y ++ drop (p + w - p) (drop p o)) ≡ (P ++ table w f) ++ drop (p + w) d
part_filled P d p w f {o = o} {y = y} h room e r =
    let n : p + w - p ≡ w = omega arith in
    let t : take p o ≡ P = rw e (take_at P (drop p d) p h) in
    let u : drop p o ≡ drop p d = rw e (drop_at P (drop p d) p h) in
    let l : length (take w (drop p d)) ≡ w = length-take-le w (drop p d) (rw length-drop (omega arith)) in
    let z : drop w (take w (drop p d)) ≡ [] = drop_of_length-le (take w (drop p d)) {i = w} (omega arith) in
    let s : y ≡ table w f = r ∙ rw (n, u) (stores-is w f (take w (drop p d)) (omega arith) ∙ rw z (append-nil (table w f))) in
    rw (t, n, u, s, drop-drop, append_assoc)

-- a turn of the loop that unpacks: block k's words
pub content_turn : (bs d : List ℕ) (k : ℕ) {o y b : List ℕ} → 127 * k + 127 ≤ length d → o ≡ content bs k ++ drop (127 * k) d
    → b ≡ take 512 (drop (k * 512) bs) → y ≡ stores 127 (word_of b) (take (127 * k + 127 - 127 * k) (drop (127 * k) o))
    → take (127 * k) o ++ (y ++ drop (127 * k + 127 - 127 * k) (drop (127 * k) o)) ≡ content bs (k + 1) ++ drop (127 * (k + 1)) d
unfolding content block
content_turn bs d k {b = b} room p q r =
    let e : 127 * (k + 1) ≡ 127 * k + 127 = omega arith in
    rw (e, add-one k) (rw q at (part_filled (content bs k) d (127 * k) 127 (word_of b) (length-content bs k) room p r))

-- ---- the laws of `unpacked`

pub unpacked_none : (bs : List ℕ) (n : ℕ) (ws : List ℕ) → length ws < 127 * n → ws ≡ unpacked bs n ws
unfolding unpacked
unpacked_none bs n ws h = simp (lt-ltb (length ws) (127 * n) h)

pub unpacked_all : (bs : List ℕ) (n k : ℕ) (ws : List ℕ) {o : List ℕ} → o ≡ content bs k ++ drop (127 * k) ws → n ≤ k → k ≤ n → 127 * n ≤ length ws
    → o ≡ unpacked bs n ws
unfolding unpacked
unpacked_all bs n k ws p g l h = let e : k ≡ n = omega arith in p ∙ simp (le-ltb (length ws) (127 * n) h, e)

pub unpacked-is : (bs : List ℕ) (n : ℕ) (ws : List ℕ) → 127 * n ≤ length ws → unpacked bs n ws ≡ content bs n ++ drop (127 * n) ws
unfolding unpacked
unpacked-is bs n ws h = simp (le-ltb (length ws) (127 * n) h)

-- ---- the laws of `shape_ok`

pub shape_fits : (len room limit : ℕ) → shape_ok len room limit ≡ true → (len / 512 ≤ limit) × (127 * (len / 512) ≤ room)
unfolding shape_ok
shape_fits len room limit h =
    let p = and_both (not (eqb len 0) && eqb (len % 512) 0 && leb (len / 512) limit) (leb (127 * (len / 512)) room) h in
    let q = and_both (not (eqb len 0) && eqb (len % 512) 0) (leb (len / 512) limit) p.0 in
    (leb-true (len / 512) limit q.1, leb-true (127 * (len / 512)) room p.1)

-- and they are some whole blocks
pub shape_whole : (len room limit : ℕ) → shape_ok len room limit ≡ true → (0 < len) × (len ≡ 512 * (len / 512))
unfolding shape_ok
shape_whole len room limit h =
    let p = and_4 (not (eqb len 0)) (eqb (len % 512) 0) (leb (len / 512) limit) (leb (127 * (len / 512)) room) h in
    let n = eqb-false len 0 (not-true _ p.0) in
    let z = eqb-true (len % 512) 0 p.1 in
    (omega arith, omega arith)

pub shape_if : (n room limit : ℕ) → 0 < n → n ≤ limit → 127 * n ≤ room → shape_ok (512 * n) room limit ≡ true
unfolding shape_ok
shape_if n room limit s l r =
    let q : 512 * n / 512 ≡ n = omega arith in
    let z : 512 * n % 512 ≡ 0 = omega arith in
    rw (ne_eqb (512 * n) 0 (λ e. omega arith), z, q, le-leb n limit l, le-leb (127 * n) room r)

-- ---- the least number of blocks

pub blocks-least : (end : ℕ) → least_fit end (127 * blocks_for end) ≡ true
unfolding least_fit blocks_for
blocks-least end = rw (le-leb end (127 * ((end + 126) / 127)) (omega arith), lt-ltb (127 * ((end + 126) / 127)) (end + 127) (omega arith))

pub least-blocks : (end n : ℕ) → least_fit end (127 * n) ≡ true → (end ≤ 127 * n) × (blocks_for end ≡ n)
unfolding least_fit blocks_for
least-blocks end n h =
    let p = and_both (leb end (127 * n)) (ltb (127 * n) (end + 127)) h in
    let a = leb-true end (127 * n) p.0 in
    let b = ltb-true (127 * n) (end + 127) p.1 in
    (a, omega arith)
