-- Bytes that stand at a place, and what is read there: parts follow one another, and a number that is spelled at p is the number read at p. Assumes nothing.
use mathlib.Core.Path.{◌≡◌, refl, sym, ap, ◌∙◌}
use mathlib.Core.List.{List, [], ◌∷◌, ◌++◌, append_assoc, append-nil}
use Prim.Native.Nat.{ℕ, ◌+◌, ◌*◌, ◌/◌, ◌%◌, ◌≤◌, ◌<◌}
use native.Mathlib.Omega.{arith}
use native.Mathlib.Numerals.{add-one}
use lib.ListN.{length, get_or, take, drop, length-append, length-drop, length-take, take-append-drop, get_or-append}
use lib.Seq.{drop-drop, drop-cons, get_or-drop, drop-append_seam, drop-length}
use borrow.Author.Tests.{le-leb}
use Rattle.words.specs.Words.{AreBytes}
use Rattle.std.specs.Prelude.{Ok}
use Rattle.class_form.specs.Form.{u2, u4, taken}
use Rattle.file_form.specs.Grammar.{u2_bytes, u4_bytes}

-- s stands in bs from p to q
pub record Spelled (bs : List ℕ) (p : ℕ) (s : List ℕ) (q : ℕ) : Type 0 where
  pub is : drop p bs ≡ s ++ drop q bs
  pub end : q ≡ p + length s
  pub there : q ≤ length bs

-- where the first of two parts ends
pub record Split (bs : List ℕ) (p : ℕ) (s t : List ℕ) (r : ℕ) : Type 0 where
  pub mid : ℕ
  pub left : Spelled bs p s mid
  pub right : Spelled bs mid t r

pub nothing : (bs : List ℕ) (p : ℕ) → p ≤ length bs → Spelled bs p [] p
nothing bs p h = record { is = refl; end = omega arith; there = h }

pub join : {bs s t : List ℕ} {p q r : ℕ} → Spelled bs p s q → Spelled bs q t r → Spelled bs p (s ++ t) r
join {bs} {s} {t} {p} {q} {r} a b =
    record {
      is = a.is ∙ ap (λ (l : List ℕ). s ++ l) b.is ∙ sym (append_assoc s t (drop r bs));
      end = omega (arith, a.end, b.end, length-append s t);
      there = b.there;
    }

pub split : {bs : List ℕ} {p r : ℕ} (s t : List ℕ) → Spelled bs p (s ++ t) r → Split bs p s t r
split {bs} {p} {r} s t a =
    let e : drop (p + length s) bs ≡ t ++ drop r bs =
    sym (drop-drop (length s) p bs) ∙ ap (drop (length s)) (a.is ∙ append_assoc s t (drop r bs)) ∙ drop-append_seam s (t ++ drop r bs) in
    record {
      mid = p + length s;
      left =
          record {
            is = a.is ∙ append_assoc s t (drop r bs) ∙ ap (λ (l : List ℕ). s ++ l) (sym e);
            end = refl;
            there = omega (arith, a.end, a.there, length-append s t);
          };
      right = record { is = e; end = omega (arith, a.end, length-append s t); there = a.there };
    }

pub ends_at : {bs s : List ℕ} {p q r : ℕ} → q ≡ r → Spelled bs p s q → Spelled bs p s r
ends_at e a = rw e at a

pub begins-at : {bs s : List ℕ} {p q r : ℕ} → p ≡ q → Spelled bs p s r → Spelled bs q s r
begins-at e a = rw e at a

-- the bytes themselves
pub whole : (bs s : List ℕ) → s ≡ bs → Spelled bs 0 s (length bs)
whole bs s e =
    record {
      is = sym e ∙ sym (append-nil s) ∙ ap (λ (l : List ℕ). s ++ l) (sym (drop-length bs));
      end = omega (arith, ap length e);
      there = omega arith;
    }

pub all_of : (bs s : List ℕ) → Spelled bs 0 s (length bs) → s ≡ bs
all_of bs s a = sym (a.is ∙ ap (λ (l : List ℕ). s ++ l) (drop-length bs) ∙ append-nil s)

pub byte_at : {bs s : List ℕ} {p q : ℕ} → Spelled bs p s q → (i : ℕ) → i < length s → get_or bs (p + i) 0 ≡ get_or s i 0
byte_at {bs} {s} {p} {q} a i h =
    sym (get_or-drop p bs i 0) ∙ ap (λ (l : List ℕ). get_or l i 0) a.is ∙ get_or-append s (drop q bs) 0 i h

pub first_byte : {bs s : List ℕ} {b p q : ℕ} → Spelled bs p (b ∷ s) q → get_or bs p 0 ≡ b
first_byte {bs} {s} {b} {p} {q} a = ap (λ (i : ℕ). get_or bs i 0) (none p) ∙ byte_at a 0 (omega arith)
  where
    none : (p : ℕ) → p ≡ p + 0
    none p = omega arith

pub spelled-taken : {bs s : List ℕ} {p q : ℕ} → Spelled bs p s q → taken bs p (length s) ≡ Ok q
unfolding taken
spelled-taken {bs} {s} {p} {q} a =
    rw (le-leb (p + length s) (length bs) (omega (arith, a.end, a.there))) (ap Ok (sym a.end))

-- ---- numbers

pub spelled-u2 : {bs : List ℕ} {p q : ℕ} (n : ℕ) → Spelled bs p (u2_bytes n) q → (u2 bs p ≡ n) × (q ≡ p + 2)
unfolding u2 u2_bytes
spelled-u2 {bs} {p} {q} n a =
    let x = first_byte a in
    let y = byte_at a 1 (omega arith) in
    (rw (x, y) (omega arith), omega (arith, a.end))

pub spelled-u4 : {bs : List ℕ} {p q : ℕ} (n : ℕ) → Spelled bs p (u4_bytes n) q → (u4 bs p ≡ n) × (q ≡ p + 4)
unfolding u4 u4_bytes
spelled-u4 {bs} {p} {q} n a =
    let s = split (u2_bytes (n / 65536)) (u2_bytes (n % 65536)) a in
    let x = spelled-u2 (n / 65536) s.left in
    let y = spelled-u2 (n % 65536) s.right in
    let z : u2 bs (p + 2) ≡ n % 65536 = ap (u2 bs) (sym x.1) ∙ y.0 in
    (rw (x.0, z) (omega arith), omega (arith, x.1, y.1))

-- ---- what stands where bytes were taken

pub some_bytes : (bs : List ℕ) (p n : ℕ) → p + n ≤ length bs → Spelled bs p (take n (drop p bs)) (p + n)
some_bytes bs p n h =
    record {
      is = sym (take-append-drop n (drop p bs)) ∙ ap (λ (l : List ℕ). take n (drop p bs) ++ l) (drop-drop n p bs);
      end = omega (arith, length-take n (drop p bs), length-drop p bs);
      there = h;
    }

pub some-length : (bs : List ℕ) (p n : ℕ) → p + n ≤ length bs → length (take n (drop p bs)) ≡ n
some-length bs p n h = omega (arith, length-take n (drop p bs), length-drop p bs)

pub some_byte : (bs : List ℕ) (p : ℕ) → p + 1 ≤ length bs → Spelled bs p (get_or bs p 0 ∷ []) (p + 1)
some_byte bs p h = record { is = rw (add-one p) (drop-cons bs p 0 (omega arith)); end = omega arith; there = h }

module _ (bs : List ℕ) (bytes : AreBytes bs) where
  u2-small : (p : ℕ) → p + 2 ≤ length bs → u2 bs p < 65536
  unfolding u2
  u2-small p h = omega (arith, bytes p, bytes (p + 1))

  two_bytes : (p : ℕ) → p + 2 ≤ length bs → Spelled bs p (get_or bs p 0 ∷ get_or bs (p + 1) 0 ∷ []) (p + 2)
  two_bytes p h = ends_at (omega arith) (join (some_byte bs p (omega arith)) (some_byte bs (p + 1) (omega arith)))

  pub some-u2 : (p : ℕ) → p + 2 ≤ length bs → Spelled bs p (u2_bytes (u2 bs p)) (p + 2)
  unfolding u2 u2_bytes
  some-u2 p h =
      let low = bytes (p + 1) in
      let e : (256 * get_or bs p 0 + get_or bs (p + 1) 0) / 256 ≡ get_or bs p 0 = omega arith in
      let f : (256 * get_or bs p 0 + get_or bs (p + 1) 0) % 256 ≡ get_or bs (p + 1) 0 = omega arith in
      rw (e, f) (two_bytes p h)

  pub some-u4 : (p : ℕ) → p + 4 ≤ length bs → Spelled bs p (u4_bytes (u4 bs p)) (p + 4)
  unfolding u4 u4_bytes
  some-u4 p h =
      let low = u2-small (p + 2) (omega arith) in
      let e : (65536 * u2 bs p + u2 bs (p + 2)) / 65536 ≡ u2 bs p = omega arith in
      let f : (65536 * u2 bs p + u2 bs (p + 2)) % 65536 ≡ u2 bs (p + 2) = omega arith in
      rw (e, f) (ends_at (omega arith) (join (some-u2 p (omega arith)) (some-u2 (p + 2) (omega arith))))
