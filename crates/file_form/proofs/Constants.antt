-- A constant that was taken is one of the eleven, by its tag, with the entries that the walk goes on by; and each of the eleven is taken. Assumes nothing.
use mathlib.Core.Path.{◌≡◌, refl, sym}
use mathlib.Core.Bool.{true, false, not, ◌&&◌}
use mathlib.Core.List.{List, [], ◌∷◌, ◌++◌}
use Prim.Native.Nat.{ℕ, suc, ◌+◌, ◌≤◌, ◌<◌}
use native.Mathlib.Omega.{arith}
use lib.ListN.{length, get_or, take, drop}
use lib.Dec.{eqb, leb}
use borrow.Author.Tests.{eqb-true, eqb-false, ne_eqb, leb-true, not-true}
use Rattle.words.proofs.Bools.{by, and_both}
use Rattle.words.specs.Words.{AreBytes}
use Rattle.std.specs.Prelude.{Ok}
use Rattle.class_form.specs.Form.{u2, u4, is_tag, is_wide, places, body_size, tag_ok, after_constant}
use Rattle.file_form.specs.Grammar.{u2_bytes, u4_bytes, Constant, Utf8, Integer, Float, Long, Double, Class, String, Fieldref, Methodref, InterfaceMethodref, NameAndType, tag_of, info_of, constant_spelling, entries_of}
use Rattle.file_form.proofs.Items.{constant_to}
use Rattle.file_form.proofs.Spelled.{Spelled, join, split, ends_at, first_byte, spelled-taken, spelled-u2, some_bytes, some-length, some_byte, some-u2, some-u4}

-- ---- each of the eleven is taken

tag-passes : (c : Constant) (count i : ℕ) → i + entries_of c ≤ count → tag_ok count i (tag_of c) ≡ true
unfolding tag_ok is_tag is_wide tag_of entries_of
tag-passes (Utf8 s) count i h = refl
tag-passes (Integer n) count i h = refl
tag-passes (Float n) count i h = refl
tag-passes (Long a b) count i h = rw (ne_eqb (i + 1) count (λ e. omega arith))
tag-passes (Double a b) count i h = rw (ne_eqb (i + 1) count (λ e. omega arith))
tag-passes (Class n) count i h = refl
tag-passes (String n) count i h = refl
tag-passes (Fieldref a b) count i h = refl
tag-passes (Methodref a b) count i h = refl
tag-passes (InterfaceMethodref a b) count i h = refl
tag-passes (NameAndType a b) count i h = refl

size_is : {bs : List ℕ} {p q : ℕ} (c : Constant) → Spelled bs p (info_of c) q → body_size bs (tag_of c) p ≡ length (info_of c)
unfolding body_size is_wide tag_of info_of u2_bytes u4_bytes
size_is {bs} {p} (Utf8 s) a =
    let m = split (u2_bytes (length s)) s a in omega (arith, (spelled-u2 (length s) m.left).0)
size_is (Integer n) a = refl
size_is (Float n) a = refl
size_is (Long h l) a = refl
size_is (Double h l) a = refl
size_is (Class n) a = refl
size_is (String n) a = refl
size_is (Fieldref c n) a = refl
size_is (Methodref c n) a = refl
size_is (InterfaceMethodref c n) a = refl
size_is (NameAndType n d) a = refl

pub constant-taken : {bs : List ℕ} {p q : ℕ} (c : Constant) (count i : ℕ) → i + entries_of c ≤ count → Spelled bs p (constant_spelling c) q
    → after_constant bs count i p ≡ Ok q
unfolding after_constant constant_spelling
constant-taken {bs} {p} {q} c count i h a =
    let m = split (tag_of c ∷ []) (info_of c) a in
    rw (spelled-taken m.left, first_byte a, tag-passes c count i h, size_is c m.right) (spelled-taken m.right)

-- ---- its entries

pub entries_are : (c : Constant) → entries_of c ≡ places (tag_of c)
unfolding entries_of places is_wide tag_of
entries_are (Utf8 s) = refl
entries_are (Integer n) = refl
entries_are (Float n) = refl
entries_are (Long a b) = refl
entries_are (Double a b) = refl
entries_are (Class n) = refl
entries_are (String n) = refl
entries_are (Fieldref a b) = refl
entries_are (Methodref a b) = refl
entries_are (InterfaceMethodref a b) = refl
entries_are (NameAndType a b) = refl

pub spelled-entries : {bs : List ℕ} {p q : ℕ} (c : Constant) → Spelled bs p (constant_spelling c) q → places (get_or bs p 0) ≡ entries_of c
unfolding constant_spelling
spelled-entries c a = rw (first_byte a) (sym (entries_are c))

-- a constant that takes two entries is not at the last place
pub entries_fit : (count i t : ℕ) → i < count → tag_ok count i t ≡ true → i + places t ≤ count
unfolding tag_ok places
entries_fit count i t h ok =
    let k = not-true (is_wide t && eqb (i + 1) count) (and_both (is_tag t) (not (is_wide t && eqb (i + 1) count)) ok).1 in
    by (is_wide t)
    (λ w. let n = eqb-false (i + 1) count (rw w at k) in rw w (omega arith))
    (λ w. rw w (omega arith))

-- ---- one of the eleven, by its tag

above : (k t : ℕ) → k ≤ t → eqb t k ≡ false → suc k ≤ t
above k t h e = let n = eqb-false t k e in omega arith

by-tag : (P : ℕ → Type 0) → P 1 → P 3 → P 4 → P 5 → P 6 → P 7 → P 8 → P 9 → P 10 → P 11 → P 12 → (t : ℕ) → is_tag t ≡ true → P t
unfolding is_tag
by-tag P p₁ p₃ p₄ p₅ p₆ p₇ p₈ p₉ p₁₀ p₁₁ p₁₂ t h =
    by (eqb t 1) (λ e. rw (eqb-true t 1 e) p₁)
    (λ n₁.
    let r = and_both (leb 3 t) (leb t 12) (rw n₁ at h) in
    let high = leb-true t 12 r.1 in
    let k₃ = leb-true 3 t r.0 in
    by (eqb t 3) (λ e. rw (eqb-true t 3 e) p₃) (λ n. let k₄ = above 3 t k₃ n in
    by (eqb t 4) (λ e. rw (eqb-true t 4 e) p₄) (λ n. let k₅ = above 4 t k₄ n in
    by (eqb t 5) (λ e. rw (eqb-true t 5 e) p₅) (λ n. let k₆ = above 5 t k₅ n in
    by (eqb t 6) (λ e. rw (eqb-true t 6 e) p₆) (λ n. let k₇ = above 6 t k₆ n in
    by (eqb t 7) (λ e. rw (eqb-true t 7 e) p₇) (λ n. let k₈ = above 7 t k₇ n in
    by (eqb t 8) (λ e. rw (eqb-true t 8 e) p₈) (λ n. let k₉ = above 8 t k₈ n in
    by (eqb t 9) (λ e. rw (eqb-true t 9 e) p₉) (λ n. let k₁₀ = above 9 t k₉ n in
    by (eqb t 10) (λ e. rw (eqb-true t 10 e) p₁₀) (λ n. let k₁₁ = above 10 t k₁₀ n in
    by (eqb t 11) (λ e. rw (eqb-true t 11 e) p₁₁) (λ n. let k₁₂ = above 11 t k₁₁ n in
    let last : t ≡ 12 = omega arith in rw last p₁₂))))))))))

module _ (bs : List ℕ) (bytes : AreBytes bs) where
  -- what follows the tag t at p
  record Info (t p q : ℕ) : Type 0 where
    constant : Constant
    tag : tag_of constant ≡ t
    info : Spelled bs p (info_of constant) q

  abbrev Sized : ℕ → Type 0
  Sized t = (p q : ℕ) → q ≡ p + body_size bs t p → q ≤ length bs → Info t p q

  utf8-info : Sized 1
  unfolding body_size tag_of info_of
  utf8-info p q e h =
      let n = u2 bs p in
      let s = take n (drop (p + 2) bs) in
      let l : length s ≡ n = some-length bs (p + 2) n (omega arith) in
      record {
        constant = Utf8 s;
        tag = refl;
        info =
            rw l (ends_at (omega arith) (join (some-u2 bs bytes p (omega arith)) (some_bytes bs (p + 2) n (omega arith))));
      }

  four-info : (p q : ℕ) → q ≡ p + 4 → q ≤ length bs → Spelled bs p (u4_bytes (u4 bs p)) q
  four-info p q e h = ends_at (sym e) (some-u4 bs bytes p (omega arith))

  two-info : (p q : ℕ) → q ≡ p + 2 → q ≤ length bs → Spelled bs p (u2_bytes (u2 bs p)) q
  two-info p q e h = ends_at (sym e) (some-u2 bs bytes p (omega arith))

  pair-info : (p q : ℕ) → q ≡ p + 4 → q ≤ length bs → Spelled bs p (u2_bytes (u2 bs p) ++ u2_bytes (u2 bs (p + 2))) q
  pair-info p q e h = ends_at (omega arith) (join (some-u2 bs bytes p (omega arith)) (some-u2 bs bytes (p + 2) (omega arith)))

  wide_info : (p q : ℕ) → q ≡ p + 8 → q ≤ length bs → Spelled bs p (u4_bytes (u4 bs p) ++ u4_bytes (u4 bs (p + 4))) q
  wide_info p q e h = ends_at (omega arith) (join (some-u4 bs bytes p (omega arith)) (some-u4 bs bytes (p + 4) (omega arith)))

  info-of : (t : ℕ) → is_tag t ≡ true → Sized t
  unfolding body_size is_wide tag_of info_of
  info-of =
      by-tag Sized utf8-info
      (λ p q e h. record { constant = Integer _; tag = refl; info = four-info p q e h })
      (λ p q e h. record { constant = Float _; tag = refl; info = four-info p q e h })
      (λ p q e h. record { constant = Long _ _; tag = refl; info = wide_info p q e h })
      (λ p q e h. record { constant = Double _ _; tag = refl; info = wide_info p q e h })
      (λ p q e h. record { constant = Class _; tag = refl; info = two-info p q e h })
      (λ p q e h. record { constant = String _; tag = refl; info = two-info p q e h })
      (λ p q e h. record { constant = Fieldref _ _; tag = refl; info = pair-info p q e h })
      (λ p q e h. record { constant = Methodref _ _; tag = refl; info = pair-info p q e h })
      (λ p q e h. record { constant = InterfaceMethodref _ _; tag = refl; info = pair-info p q e h })
      (λ p q e h. record { constant = NameAndType _ _; tag = refl; info = pair-info p q e h })

  pub record Read (count i p q : ℕ) : Type 0 where
    pub constant : Constant
    pub spelled : Spelled bs p (constant_spelling constant) q
    pub fits : i + entries_of constant ≤ count

  pub constant-read : (count i p q : ℕ) → i < count → after_constant bs count i p ≡ Ok q → Read count i p q
  unfolding constant_spelling tag_ok
  constant-read count i p q h e =
      let c = constant_to bs count i p q e in
      let t = get_or bs p 0 in
      let r = info-of t (and_both (is_tag t) (not (is_wide t && eqb (i + 1) count)) c.tag-ok).0 (p + 1) q c.end c.there in
      let b = some_byte bs p (omega (arith, c.end, c.there)) in
      record {
        constant = r.constant;
        spelled = rw r.tag (join b r.info);
        fits = rw (entries_are r.constant, r.tag) (entries_fit count i t h c.tag-ok);
      }
