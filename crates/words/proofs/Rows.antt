-- Laws of rows: what is joined from rows of one width is cut into them again, and word k of row i lies at w * i + k. Assumes nothing.
use mathlib.Core.Path.{◌≡◌, refl, sym, ap, ◌∙◌}
use mathlib.Core.Logic.{◌≢◌}
use mathlib.Core.List.{List, [], ◌∷◌, ◌++◌, append_assoc}
use Prim.Native.Nat.{ℕ, zero, suc, ◌+◌, ◌*◌, ◌≤◌, ◌<◌}
use native.Mathlib.Omega.{arith}
use native.Mathlib.Nat.{mul-zero, mul-suc}
use lib.ListN.{length, get_or, take, drop, set, length-append, length-drop, length-set, get_or-append}
use lib.Seq.{take_at, drop_at, length-take-le, get_or-append-add, set-append_left, take-append-add, drop-append-add, take-add, set_out, set-set, set_comm, get_or-set_same, get_or-set_other}
use lib.Dec.{ltb}
use borrow.Author.Tests.{ltb-true, ltb-false}
use Rattle.words.proofs.Bools.{by}
use Rattle.words.specs.Rows.{Rows, no_rows, a_row, joined, cut, row_word, set_word}

-- ---- rows of lists of rows

pub rows_append : {w : ℕ} {a b : List (List ℕ)} → Rows w a → Rows w b → Rows w (a ++ b)
rows_append no_rows q = q
rows_append (a_row e p) q = a_row e (rows_append p q)

pub rows_take : (n : ℕ) {w : ℕ} {a : List (List ℕ)} → Rows w a → Rows w (take n a)
rows_take zero p = no_rows
rows_take (suc n) no_rows = no_rows
rows_take (suc n) (a_row e p) = a_row e (rows_take n p)

pub rows_drop : (n : ℕ) {w : ℕ} {a : List (List ℕ)} → Rows w a → Rows w (drop n a)
rows_drop zero p = p
rows_drop (suc n) no_rows = no_rows
rows_drop (suc n) (a_row e p) = rows_drop n p

pub rows-set : {w : ℕ} (i : ℕ) {a : List (List ℕ)} (r : List ℕ) → length r ≡ w → Rows w a → Rows w (set a i r)
rows-set i r e no_rows = no_rows
rows-set zero r e (a_row f p) = a_row e p
rows-set (suc i) r e (a_row f p) = a_row f (rows-set i r e p)

pub row-length : {w : ℕ} (i : ℕ) {a : List (List ℕ)} → Rows w a → i < length a → length (get_or a i []) ≡ w
row-length i no_rows h = absurd (omega arith)
row-length zero (a_row e p) h = e
row-length (suc i) (a_row e p) h = row-length i p (omega arith)

-- ---- a store to a row's word; outside the rows it changes nothing

pub rows-word : {w : ℕ} {rs : List (List ℕ)} → Rows w rs → (i k v : ℕ) → Rows w (set_word rs i k v)
rows-word {rs = rs} r i k v =
    by (ltb i (length rs))
    (λ t. rows-set i (set (get_or rs i []) k v) (length-set (get_or rs i []) k v ∙ row-length i r (ltb-true i (length rs) t)) r)
    (λ t. rw (set_out rs i (set (get_or rs i []) k v) (ltb-false i (length rs) t)) r)

module _ (rs : List (List ℕ)) (i k v : ℕ) where
  pub length-word : length (set_word rs i k v) ≡ length rs
  length-word = length-set rs i (set (get_or rs i []) k v)

  pub word_same : i < length rs → k < length (get_or rs i []) → row_word (set_word rs i k v) i k ≡ v
  word_same h g =
      ap (λ (r : List ℕ). get_or r k 0) (get_or-set_same rs i (set (get_or rs i []) k v) [] h) ∙ get_or-set_same (get_or rs i []) k v 0 g

  pub word-other : (j : ℕ) → j ≢ k → row_word (set_word rs i k v) i j ≡ row_word rs i j
  word-other j n =
      by (ltb i (length rs))
      (λ t. ap (λ (r : List ℕ). get_or r j 0) (get_or-set_same rs i (set (get_or rs i []) k v) [] (ltb-true i (length rs) t))
      ∙ get_or-set_other (get_or rs i []) k j v 0 n)
      (λ t. rw (set_out rs i (set (get_or rs i []) k v) (ltb-false i (length rs) t)))

  pub row_other : (d j : ℕ) → d ≢ i → row_word (set_word rs i k v) d j ≡ row_word rs d j
  row_other d j n = ap (λ (r : List ℕ). get_or r j 0) (get_or-set_other rs i d (set (get_or rs i []) k v) [] n)

-- two stores to one row, and their order
module _ (rs : List (List ℕ)) (i k v j u : ℕ) where
  word-word : set_word (set_word rs i k v) i j u ≡ set rs i (set (set (get_or rs i []) k v) j u)
  word-word =
      let r : List ℕ = set (get_or rs i []) k v in
      by (ltb i (length rs))
      (λ t. rw (get_or-set_same rs i r [] (ltb-true i (length rs) t)) (set-set rs i r (set r j u)))
      (λ t. let g = ltb-false i (length rs) t in
      rw (set_out rs i r g) (set_out rs i (set (get_or rs i []) j u) g ∙ sym (set_out rs i (set r j u) g)))

pub word_comm : (rs : List (List ℕ)) (i k v j u : ℕ) → k ≢ j → set_word (set_word rs i k v) i j u ≡ set_word (set_word rs i j u) i k v
word_comm rs i k v j u n =
    word-word rs i k v j u ∙ ap (λ (r : List ℕ). set rs i r) (set_comm (get_or rs i []) k j v u n) ∙ sym (word-word rs i j u k v)

-- ---- joined

pub length-joined : {w : ℕ} {a : List (List ℕ)} → Rows w a → length (joined a) ≡ w * length a
unfolding joined
length-joined {w} no_rows = sym (mul-zero w)
length-joined {w} (a_row {r = r} {rs = rs} e p) =
    length-append r (joined rs) ∙ omega (arith, length-joined p, mul-suc w (length rs))

pub joined-append : (a b : List (List ℕ)) → joined (a ++ b) ≡ joined a ++ joined b
unfolding joined
joined-append [] b = refl
joined-append (r ∷ a) b = rw (joined-append a b) (sym (append_assoc r (joined a) (joined b)))

pub take-joined : (n : ℕ) {w : ℕ} {a : List (List ℕ)} → Rows w a → (l : List ℕ) → n ≤ length a → take (w * n) (joined a ++ l) ≡ joined (take n a)
unfolding joined
take-joined zero {w} p l h = rw (mul-zero w)
take-joined (suc n) no_rows l h = absurd (omega arith)
take-joined (suc n) {w} (a_row {r = r} {rs = rs} e p) l h =
    let k : w * suc n ≡ length r + w * n = omega (arith, mul-suc w n) in
    rw (append_assoc r (joined rs) l, k, take-append-add r (joined rs ++ l) (w * n)) (ap (λ (x : List ℕ). r ++ x) (take-joined n p l (omega arith)))

pub drop-joined : (n : ℕ) {w : ℕ} {a : List (List ℕ)} → Rows w a → (l : List ℕ) → n ≤ length a → drop (w * n) (joined a ++ l) ≡ joined (drop n a) ++ l
unfolding joined
drop-joined zero {w} p l h = rw (mul-zero w)
drop-joined (suc n) no_rows l h = absurd (omega arith)
drop-joined (suc n) {w} (a_row {r = r} {rs = rs} e p) l h =
    let k : w * suc n ≡ length r + w * n = omega (arith, mul-suc w n) in
    rw (append_assoc r (joined rs) l, k, drop-append-add r (joined rs ++ l) (w * n)) (drop-joined n p l (omega arith))

-- word k of row i
pub joined_word : {w : ℕ} (i k : ℕ) {a : List (List ℕ)} → Rows w a → (l : List ℕ) → i < length a → k < w
    → get_or (joined a ++ l) (w * i + k) 0 ≡ row_word a i k
unfolding joined
joined_word i k no_rows l h g = absurd (omega arith)
joined_word {w} zero k (a_row {r = r} {rs = rs} e p) l h g =
    let z : w * 0 + k ≡ k = omega arith in
    rw (append_assoc r (joined rs) l, z) (get_or-append r (joined rs ++ l) 0 k (omega arith))
joined_word {w} (suc i) k (a_row {r = r} {rs = rs} e p) l h g =
    let z : w * suc i + k ≡ length r + (w * i + k) = omega (arith, mul-suc w i) in
    rw (append_assoc r (joined rs) l, z, get_or-append-add r (joined rs ++ l) (w * i + k) 0) (joined_word i k p l (omega arith) g)

-- a store to it
set_append_right : (xs ys : List ℕ) (i v : ℕ) → set (xs ++ ys) (length xs + i) v ≡ xs ++ set ys i v
set_append_right [] ys i v = let e : 0 + i ≡ i = omega arith in rw e
set_append_right (x ∷ xs) ys i v =
    let e : suc (length xs) + i ≡ suc (length xs + i) = omega arith in rw e (ap (λ (l : List ℕ). x ∷ l) (set_append_right xs ys i v))

pub set-skip : (xs ys : List ℕ) (n i v : ℕ) → n ≡ length xs + i → set (xs ++ ys) n v ≡ xs ++ set ys i v
set-skip xs ys n i v e = rw e (set_append_right xs ys i v)

pub joined-set : {w : ℕ} (i k v : ℕ) {a : List (List ℕ)} → Rows w a → (l : List ℕ) → i < length a → k < w
    → set (joined a ++ l) (w * i + k) v ≡ joined (set_word a i k v) ++ l
unfolding joined
joined-set i k v no_rows l h g = absurd (omega arith)
joined-set {w} zero k v (a_row {r = r} {rs = rs} e p) l h g =
    let z : w * 0 + k ≡ k = omega arith in
    rw (append_assoc r (joined rs) l, z, append_assoc (set r k v) (joined rs) l) (set-append_left r (joined rs ++ l) k v (omega arith))
joined-set {w} (suc i) k v (a_row {r = r} {rs = rs} e p) l h g =
    let z : w * suc i + k ≡ length r + (w * i + k) = omega (arith, mul-suc w i) in
    rw (append_assoc r (joined rs) l, z, set_append_right r (joined rs ++ l) (w * i + k) v, append_assoc r (joined (set_word rs i k v)) l)
    (ap (λ (x : List ℕ). r ++ x) (joined-set i k v p l (omega arith) g))

-- ---- cut

pub length_cut : (w n : ℕ) (l : List ℕ) → length (cut w n l) ≡ n
unfolding cut
length_cut w zero l = refl
length_cut w (suc n) l = ap suc (length_cut w n (drop w l))

pub rows_cut : (w n : ℕ) (l : List ℕ) → w * n ≤ length l → Rows w (cut w n l)
unfolding cut
rows_cut w zero l h = no_rows
rows_cut w (suc n) l h =
    let m = mul-suc w n in
    a_row (length-take-le w l (omega arith)) (rows_cut w n (drop w l) (omega (arith, length-drop w l)))

-- cut and joined are inverse
pub joined-cut : (w n : ℕ) (l : List ℕ) → joined (cut w n l) ≡ take (w * n) l
unfolding joined cut
joined-cut w zero l = rw (mul-zero w)
joined-cut w (suc n) l =
    let k : w * suc n ≡ w + w * n = omega (arith, mul-suc w n) in
    rw (k, take-add w (w * n) l) (ap (λ (x : List ℕ). take w l ++ x) (joined-cut w n (drop w l)))

pub cut-joined : {w : ℕ} {a : List (List ℕ)} → Rows w a → (l : List ℕ) → cut w (length a) (joined a ++ l) ≡ a
unfolding joined cut
cut-joined no_rows l = refl
cut-joined {w} (a_row {r = r} {rs = rs} e p) l =
    rw (append_assoc r (joined rs) l, take_at r (joined rs ++ l) w e, drop_at r (joined rs ++ l) w e)
    (ap (λ (x : List (List ℕ)). r ∷ x) (cut-joined p l))
