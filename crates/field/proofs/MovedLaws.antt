-- Laws of a generated class's fields: their words, fields that stand one after the other, and indices with the base added.
-- Assumes nothing.
use Rattle.std.proofs.Common.{◌≡◌, ℕ, zero, suc, ◌+◌, ◌-◌, ◌*◌, ◌<◌, ◌≤◌, Bool, true, false, ◌||◌, eqb, List, [], ◌∷◌, ◌++◌, length, refl, sym, ◌∙◌, ◌%◌, ◌^◌, append_assoc, append-nil, arith, le-ltb, lt-ltb, eqb-true}
use Rattle.words.specs.Lists.{list_from, numbers, fold}
use Rattle.words.proofs.Bools.{by, and_both}
use Rattle.class_sheet.specs.ClassSheet.{class_first_field, class_field_count, field_descriptor, field_flags, field_index, field_limit}
use Rattle.linking.specs.Chain.{list_count, own_fields, is_static}
use Rattle.linking.specs.Fields.{instance_words, add_static, add_width, declared_words, stand_from, generated_refusal, moved_index, indices_plus, generated_indices}
use Rattle.std.specs.Prelude.{Result, Ok, Err}
use Rattle.field.specs.Numbers.{add_words, Fits, Movable, numbering_of, generated_fields}
use Rattle.field.specs.declared.Numbered.{Numbered}
use Rattle.field.proofs.RuntimeLaws.{width_room}

-- ---- one field

pub add-room : (ws text : List ℕ) (n f : ℕ) → add_width ws text n f ≤ n + 2
unfolding add_width
add-room ws text n f =
    let r = width_room (field_descriptor ws text f) in
    by (is_static (field_flags ws f)) (λ t. rw t (omega arith)) (λ q. rw q (omega arith))

add-few : (ws text : List ℕ) (b : Bool) (n f : ℕ) → add_words ws text b n f ≤ n + 2
unfolding add_static
add-few ws text true n f =
    let r = width_room (field_descriptor ws text f) in
    by (is_static (field_flags ws f)) (λ t. rw t (omega arith)) (λ q. rw q (omega arith))
add-few ws text false n f = add-room ws text n f

-- a word stays as it is
pub same_word : (n : ℕ) → n < 2 ^ 32 → n ≡ n % 2 ^ 32
same_word n h = omega arith

-- a sum of few words does not wrap
pub fold-wraps : (ws text : List ℕ) (b : Bool) (s : ℕ) (xs : List ℕ) → s + 2 * length xs < 2 ^ 32
    → fold (λ n f. add_words ws text b n f % 2 ^ 32) s xs ≡ fold (add_words ws text b) s xs
unfolding fold
fold-wraps ws text b s [] h = refl
fold-wraps ws text b s (x ∷ xs) h =
    let r = add-few ws text b s x in
    let e : add_words ws text b s x % 2 ^ 32 ≡ add_words ws text b s x = omega arith in
    rw e (fold-wraps ws text b (add_words ws text b s x) xs (omega arith))

-- ---- fields that stand one after the other

module _ (ws text : List ℕ) where
  -- what is left at field f, of those below `end`
  unfoldable pub stand_at : ℕ → ℕ → ℕ → Bool
  stand_at end at f = stand_from ws text at (numbers f (end - f))

  pub stand-start : (c at : ℕ) {m n : ℕ} → m ≡ class_first_field ws c → n ≡ list_count (class_first_field ws c) (class_field_count ws c) field_limit
      → stand_at (m + n) at m ≡ stand_from ws text at (own_fields ws c)
  unfolding stand_at own_fields
  stand-start c at {m = m} {n = n} e f = let z : m + n - m ≡ n = omega arith in rw (z, f, e)

  module _ (end at f : ℕ) {b : Bool} (h : f < end) (here : b ≡ (is_static (field_flags ws f) || eqb (field_index ws f) at)) where
    more : end - f ≡ suc (end - (f + 1))
    more = omega arith

    pub stand-stop : b ≡ false → false ≡ stand_at end at f
    unfolding stand_at stand_from list_from
    stand-stop t = rw (more, ← here, t)

    pub stand-turn : {r : ℕ} → b ≡ true → r ≡ add_width ws text at f → stand_at end r (f + 1) ≡ stand_at end at f
    unfolding stand_at stand_from list_from
    stand-turn t e = rw (more, ← here, t, e)

  pub stand-end : (end at f : ℕ) → end ≤ f → true ≡ stand_at end at f
  unfolding stand_at stand_from list_from
  stand-end end at f h = let z : end - f ≡ 0 = omega arith in rw z

  -- their indices are then not far above where they start
  stand-index : (m n at i : ℕ) → stand_from ws text at (numbers m n) ≡ true → i < n → is_static (field_flags ws (m + i)) ≡ false
      → field_index ws (m + i) ≤ at + 2 * i
  unfolding stand_from list_from
  stand-index m zero at i t h s = absurd (omega arith)
  stand-index m (suc n) at zero t h s =
      let z : m + 0 ≡ m = omega arith in
      let p = and_both (is_static (field_flags ws m) || eqb (field_index ws m) at) (stand_from ws text (add_width ws text at m) (numbers (m + 1) n)) t in
      let q : eqb (field_index ws m) at ≡ true = rw (rw z at s) at p.0 in
      rw z (omega (arith, eqb-true (field_index ws m) at q))
  stand-index m (suc n) at (suc i) t h s =
      let z : m + suc i ≡ m + 1 + i = omega arith in
      let p = and_both (is_static (field_flags ws m) || eqb (field_index ws m) at) (stand_from ws text (add_width ws text at m) (numbers (m + 1) n)) t in
      let r = stand-index (m + 1) n (add_width ws text at m) i p.1 (omega arith) (rw z at s) in
      rw z (omega (arith, add-room ws text at m))

  pub stand_movable : (c at base : ℕ) {b : Bool} → b ≡ stand_from ws text at (own_fields ws c) → b ≡ true → at ≤ 65535 → base ≤ 65535 → Movable ws c base
  unfolding own_fields
  stand_movable c at base e t h k i l s =
      let r = stand-index (class_first_field ws c) (list_count (class_first_field ws c) (class_field_count ws c) field_limit) at i (sym e ∙ t) l s in
      omega arith

-- ---- indices with the base added

-- one index, which stays a word
module _ (ws : List ℕ) (base f : ℕ) {b : Bool} (static : b ≡ is_static (field_flags ws f)) {i : ℕ} (index : i ≡ field_index ws f) where
  pub index_static : b ≡ true → i ≡ moved_index ws base f
  unfolding moved_index
  index_static t = rw (← static, t, index)

  pub index_moved : b ≡ false → Fits ws base f → (base + i) % 2 ^ 32 ≡ moved_index ws base f
  unfolding moved_index
  index_moved t fits = let h = fits (sym static ∙ t) in rw (← static, t, index) (omega arith)

module _ (ws : List ℕ) (base : ℕ) where
  -- what is there at field f, and what is to come, of those below `end`
  unfoldable pub moved_at : ℕ → List ℕ → ℕ → List ℕ
  moved_at end l f = l ++ indices_plus ws base (numbers f (end - f))

  pub moved-start : (c : ℕ) {l : List ℕ} {m n : ℕ} → m ≡ class_first_field ws c
      → n ≡ list_count (class_first_field ws c) (class_field_count ws c) field_limit → l ≡ []
      → moved_at (m + n) l m ≡ indices_plus ws base (own_fields ws c)
  unfolding moved_at own_fields
  moved-start c {m = m} {n = n} e f g = let z : m + n - m ≡ n = omega arith in rw (g, z, f, e)

  pub moved-turn : (end f : ℕ) (l : List ℕ) {l' : List ℕ} {v : ℕ} → f < end → v ≡ moved_index ws base f → l' ≡ l ++ (v ∷ [])
      → moved_at end l' (f + 1) ≡ moved_at end l f
  unfolding moved_at indices_plus list_from
  moved-turn end f l h e g =
      let more : end - f ≡ suc (end - (f + 1)) = omega arith in
      rw (more, g, e) (append_assoc l (moved_index ws base f ∷ []) (indices_plus ws base (numbers (f + 1) (end - (f + 1)))))

  pub moved-end : (end f : ℕ) (l : List ℕ) → end ≤ f → moved_at end l f ≡ l
  unfolding moved_at indices_plus list_from
  moved-end end f l h = let z : end - f ≡ 0 = omega arith in rw z (append-nil l)

-- ---- what the fields come to

module _ (ws text : List ℕ) (c : ℕ) {t o : ℕ} (total : t ≡ instance_words ws c)
    (own : o ≡ fold (add_width ws text) 0 (own_fields ws c)) where
  pub row_8 : t < o → ◌≡◌ {A = Result Numbered ℕ} (Err 8) (generated_fields ws text c)
  unfolding generated_fields generated_refusal declared_words
  row_8 h = rw (← total, ← own, lt-ltb t o h)

  module _ (h : o ≤ t) {a : Bool} (absolute : a ≡ stand_from ws text (t - o) (own_fields ws c)) where
    pub all_absolute : {f : Numbered} → a ≡ true → f ≡ numbering_of (indices_plus ws 0 (own_fields ws c)) 0
        → ◌≡◌ {A = Result Numbered ℕ} (Ok f) (generated_fields ws text c)
    unfolding generated_fields generated_refusal generated_indices declared_words
    all_absolute e f = rw (f, ← total, ← own, le-ltb t o h, ← absolute, e)

    module _ {r : Bool} (relative : r ≡ stand_from ws text 0 (own_fields ws c)) (n : a ≡ false) where
      pub all-relative : {f : Numbered} → r ≡ true → f ≡ numbering_of (indices_plus ws (t - o) (own_fields ws c)) 0
          → ◌≡◌ {A = Result Numbered ℕ} (Ok f) (generated_fields ws text c)
      unfolding generated_fields generated_refusal generated_indices declared_words
      all-relative e f = rw (f, ← total, ← own, le-ltb t o h, ← absolute, n, ← relative, e)

      pub row_9 : r ≡ false → ◌≡◌ {A = Result Numbered ℕ} (Err 9) (generated_fields ws text c)
      unfolding generated_fields generated_refusal declared_words
      row_9 e = rw (← total, ← own, le-ltb t o h, ← absolute, n, ← relative, e)
