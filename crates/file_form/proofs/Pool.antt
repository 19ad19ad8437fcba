-- The pool's constants, and a constant by its index: the walk goes by the entries that each takes, so it meets the constant of index i just where the list
-- has it. Assumes nothing.
use mathlib.Core.Path.{◌≡◌, refl, sym, ap, ◌∙◌}
use mathlib.Core.Bool.{cond, ◌&&◌}
use mathlib.Core.List.{List, [], ◌∷◌}
use Prim.Native.Nat.{ℕ, zero, suc, ◌+◌, ◌≤◌, ◌<◌}
use native.Mathlib.Omega.{arith}
use lib.ListN.{length, get_or}
use lib.Dec.{eqb, leb, ltb}
use borrow.Author.Tests.{eqb-true, eq-eqb, ne_eqb, ltb-true, ltb-false, lt-ltb, le-ltb, le-leb}
use Rattle.words.proofs.Bools.{by, and_both}
use Rattle.words.specs.Words.{AreBytes}
use Rattle.std.specs.Prelude.{Ok, Err}
use Rattle.refusal.specs.declared.Refusal.TheVariants.{WrongPool}
use Rattle.class_form.specs.Form.{Step, u2, taken, places, after_constant, after_constants, pool_count, after_pool, constant_from, constant_at, tagged_at, utf8_at, class_at}
use Rattle.file_form.specs.Grammar.{u2_bytes, each, Constant, Utf8, Integer, Float, Long, Double, Class, String, Fieldref, Methodref, InterfaceMethodref, NameAndType, tag_of, info_of, constant_spelling, entries_of, pool_entries, pool_spelling, Stands, here, there, IsUtf8, IsClassInfo}
use Rattle.class_form.proofs.Laws.{ok_same, not_ok, step_to, taken_to}
use Rattle.file_form.proofs.Spelled.{Spelled, nothing, join, split, ends_at, begins-at, first_byte, spelled-taken, spelled-u2, some-u2}
use Rattle.file_form.proofs.Constants.{constant-taken, spelled-entries, constant-read}

pub some-entries : (c : Constant) → 1 ≤ entries_of c
unfolding entries_of
some-entries (Utf8 s) = omega arith
some-entries (Integer n) = omega arith
some-entries (Float n) = omega arith
some-entries (Long a b) = omega arith
some-entries (Double a b) = omega arith
some-entries (Class n) = omega arith
some-entries (String n) = omega arith
some-entries (Fieldref a b) = omega arith
some-entries (Methodref a b) = omega arith
some-entries (InterfaceMethodref a b) = omega arith
some-entries (NameAndType a b) = omega arith

-- ---- constants of index j on, spelled at p to q, with the count that they lead to

pub record Constants (bs : List ℕ) (count j p : ℕ) (cs : List Constant) (q : ℕ) : Type 0 where
  pub spelled : Spelled bs p (each constant_spelling cs) q
  pub last : count ≡ j + pool_entries cs

-- the first of them, and the others
pub record Next (bs : List ℕ) (count j p : ℕ) (c : Constant) (cs : List Constant) (q : ℕ) : Type 0 where
  pub place : ℕ
  pub spelled : Spelled bs p (constant_spelling c) place
  pub taken : after_constant bs count j p ≡ Ok place
  pub index : j + places (get_or bs p 0) ≡ j + entries_of c
  pub low : j < count
  pub others : Constants bs count (j + entries_of c) place cs q

pub next : {bs : List ℕ} {count j p q : ℕ} (c : Constant) (cs : List Constant) → Constants bs count j p (c ∷ cs) q → Next bs count j p c cs q
unfolding each pool_entries
next {bs} {count} {j} {p} {q} c cs a =
    let m = split (constant_spelling c) (each constant_spelling cs) a.spelled in
    record {
      place = m.mid;
      spelled = m.left;
      taken = constant-taken c count j (omega (arith, a.last)) m.left;
      index = ap (λ (n : ℕ). j + n) (spelled-entries c m.left);
      low = omega (arith, a.last, some-entries c);
      others = record { spelled = m.right; last = omega (arith, a.last) };
    }

-- all are taken
pub constants-taken : {bs : List ℕ} {count q : ℕ} (cs : List Constant) (k j p : ℕ) → count ≤ j + k → Constants bs count j p cs q
    → after_constants bs count k j p ≡ Ok q
unfolding after_constants each pool_entries
constants-taken [] zero j p h a = ap Ok (omega (arith, a.spelled.end))
constants-taken {count = count} [] (suc k) j p h a =
    rw (le-ltb j count (omega (arith, a.last))) (ap Ok (omega (arith, a.spelled.end)))
constants-taken (c ∷ cs) zero j p h a = let n = next c cs a in absurd (omega (arith, n.low))
constants-taken {count = count} (c ∷ cs) (suc k) j p h a =
    let n = next c cs a in
    rw (lt-ltb j count n.low, n.taken, n.index)
    (constants-taken cs k (j + entries_of c) n.place (omega (arith, some-entries c)) n.others)

-- and what was taken are constants
pub constants-read : (bs : List ℕ) → AreBytes bs → (count k j p q : ℕ) → p ≤ length bs → j ≤ count → count ≤ j + k → after_constants bs count k j p ≡ Ok q
    → (cs : List Constant) × Constants bs count j p cs q
unfolding after_constants each pool_entries
constants-read bs bytes count zero j p q fit h g e =
    ([], record { spelled = ends_at (ok_same e) (nothing bs p fit); last = omega arith })
constants-read bs bytes count (suc k) j p q fit h g e =
    by (ltb j count)
    (λ t.
    let low = ltb-true j count t in
    let a = step_to (after_constant bs count j p) _ (rw t at e) in
    let r = constant-read bs bytes count j p a.0 low a.1 in
    let f : j + places (get_or bs p 0) ≡ j + entries_of r.constant = ap (λ (n : ℕ). j + n) (spelled-entries r.constant r.spelled) in
    let rest =
    constants-read bs bytes count k (j + entries_of r.constant) a.0 q r.spelled.there r.fits
    (omega (arith, some-entries r.constant)) (ap (λ (n : ℕ). after_constants bs count k n a.0) (sym f) ∙ a.2) in
    let cs = rest.0 in
    (r.constant ∷ cs, record { spelled = join {t = each constant_spelling cs} r.spelled rest.1.spelled; last = omega (arith, rest.1.last) }))
    (λ t. ([], record { spelled = ends_at (ok_same (rw t at e)) (nothing bs p fit); last = omega (arith, ltb-false j count t) }))

-- ---- a constant by its index

-- the step s finds c
pub record FoundAt (bs : List ℕ) (c : Constant) (s : Step) : Type 0 where
  pub place : ℕ
  pub end : ℕ
  pub at : s ≡ Ok place
  pub spelled : Spelled bs place (constant_spelling c) end

pub stands-low : {c : Constant} {i j : ℕ} {cs : List Constant} → Stands c i j cs → j ≤ i
stands-low here = omega arith
stands-low (there {d = d} s) = omega (arith, stands-low s)

stands_high : {c : Constant} {i j : ℕ} {cs : List Constant} → Stands c i j cs → i < j + pool_entries cs
unfolding pool_entries
stands_high {c} (here) = omega (arith, some-entries c)
stands_high (there {d = d} s) = omega (arith, stands_high s)

-- the walk stands at constant i
arrived : (bs : List ℕ) (i n j p : ℕ) → j ≡ i → constant_from bs i n j p ≡ Ok p
unfolding constant_from
arrived bs i zero j p e = rw (eq-eqb j i e)
arrived bs i (suc n) j p e = rw (le-ltb j i (omega arith), eq-eqb j i e)

stands-walk : {bs : List ℕ} {c : Constant} {i j : ℕ} {cs : List Constant} {p q : ℕ} (n : ℕ) → Stands c i j cs
    → Constants bs (pool_count bs) j p cs q → i ≤ j + n → FoundAt bs c (constant_from bs i n j p)
unfolding constant_from
stands-walk {bs} {c} {i} {p = p} n (here {cs = cs}) a h =
    let m = next c cs a in
    record { place = p; end = m.place; at = arrived bs i n i p refl; spelled = m.spelled }
stands-walk zero (there {d = d} s) a h = absurd (omega (arith, stands-low s, some-entries d))
stands-walk {bs} {i = i} {j = j} (suc n) (there {d = d} {cs = cs} s) a h =
    let m = next d cs a in
    rw (lt-ltb j i (omega (arith, stands-low s, some-entries d)), m.taken, m.index)
    (stands-walk n s m.others (omega (arith, some-entries d)))

-- what a walk found
pub record Stood (bs : List ℕ) (i j : ℕ) (cs : List Constant) (r : ℕ) : Type 0 where
  pub constant : Constant
  pub end : ℕ
  pub stands : Stands constant i j cs
  pub spelled : Spelled bs r (constant_spelling constant) end

stood-here : {bs : List ℕ} {i j p q r : ℕ} (cs : List Constant) → Constants bs (pool_count bs) j p cs q → i < pool_count bs
    → cond (eqb j i) (Ok p) (Err WrongPool) ≡ Ok r → Stood bs i j cs r
unfolding pool_entries
stood-here {bs} {i} {j} [] a h e = not_ok (rw (ne_eqb j i (λ f. omega (arith, a.last))) at e)
stood-here {bs} {i} {j} {p} {q} {r} (c ∷ cs) a h e =
    by (eqb j i)
    (λ t.
    let k = eqb-true j i t in
    let m = next c cs a in
    let f : p ≡ r = ok_same (rw t at e) in
    record { constant = c; end = m.place; stands = rw k here; spelled = begins-at f m.spelled })
    (λ t. not_ok (rw t at e))

walk-stands : {bs : List ℕ} {i p q r : ℕ} (cs : List Constant) (n j : ℕ) → Constants bs (pool_count bs) j p cs q → i < pool_count bs
    → constant_from bs i n j p ≡ Ok r → Stood bs i j cs r
unfolding constant_from pool_entries
walk-stands cs zero j a h e = stood-here cs a h e
walk-stands {i = i} [] (suc n) j a h e = stood-here [] a h (rw (le-ltb j i (omega (arith, a.last))) at e)
walk-stands {bs} {i} {p} (c ∷ cs) (suc n) j a h e =
    by (ltb j i)
    (λ t.
    let m = next c cs a in
    let w = walk-stands {p = m.place} cs n (j + entries_of c) m.others h (rw (t, m.taken, m.index) at e) in
    record { constant = w.constant; end = w.end; stands = there w.stands; spelled = w.spelled })
    (λ t. stood-here (c ∷ cs) a h (rw t at e))

-- ---- by its tag

utf8-of : (c : Constant) → tag_of c ≡ 1 → (s : List ℕ) × (c ≡ Utf8 s)
unfolding tag_of
utf8-of (Utf8 s) e = (s, refl)
utf8-of (Integer n) e = absurd (omega arith)
utf8-of (Float n) e = absurd (omega arith)
utf8-of (Long a b) e = absurd (omega arith)
utf8-of (Double a b) e = absurd (omega arith)
utf8-of (Class n) e = absurd (omega arith)
utf8-of (String n) e = absurd (omega arith)
utf8-of (Fieldref a b) e = absurd (omega arith)
utf8-of (Methodref a b) e = absurd (omega arith)
utf8-of (InterfaceMethodref a b) e = absurd (omega arith)
utf8-of (NameAndType a b) e = absurd (omega arith)

class_of : (c : Constant) → tag_of c ≡ 7 → (n : ℕ) × (c ≡ Class n)
unfolding tag_of
class_of (Utf8 s) e = absurd (omega arith)
class_of (Integer n) e = absurd (omega arith)
class_of (Float n) e = absurd (omega arith)
class_of (Long a b) e = absurd (omega arith)
class_of (Double a b) e = absurd (omega arith)
class_of (Class n) e = (n, refl)
class_of (String n) e = absurd (omega arith)
class_of (Fieldref a b) e = absurd (omega arith)
class_of (Methodref a b) e = absurd (omega arith)
class_of (InterfaceMethodref a b) e = absurd (omega arith)
class_of (NameAndType a b) e = absurd (omega arith)

class-index : {bs : List ℕ} {p q : ℕ} (n : ℕ) → Spelled bs p (constant_spelling (Class n)) q → u2 bs (p + 1) ≡ n
unfolding constant_spelling info_of tag_of
class-index {bs} {p} n a =
    let m = split (7 ∷ []) (u2_bytes n) a in
    let e : p + 1 ≡ m.mid = omega (arith, m.left.end) in ap (u2 bs) e ∙ (spelled-u2 n m.right).0

-- a class that was found shows that the pool has indices
constant-count : (bs : List ℕ) (i r : ℕ) → constant_at bs i ≡ Ok r → 1 ≤ pool_count bs
unfolding constant_at
constant-count bs i r f =
    by (leb 1 i && ltb i (pool_count bs))
    (λ t. omega (arith, ltb-true i (pool_count bs) (and_both (leb 1 i) (ltb i (pool_count bs)) t).1))
    (λ t. not_ok (rw t at f))

pub number_of_classes : (bs : List ℕ) (i r : ℕ) → class_at bs i ≡ Ok r → 1 ≤ pool_count bs
unfolding class_at tagged_at
number_of_classes bs i r f =
    let a = step_to (tagged_at bs 7 i) _ f in
    let b = step_to (constant_at bs i) _ a.1 in
    constant-count bs i b.0 b.1

-- ---- the pool from its count on

pub pool-taken : {bs : List ℕ} {e : ℕ} (cs : List Constant) → Spelled bs 8 (pool_spelling cs) e
    → (after_pool bs ≡ Ok e) × Constants bs (pool_count bs) 1 10 cs e
unfolding after_pool pool_count pool_spelling u2_bytes
pool-taken {bs} {e} cs a =
    let m = split (u2_bytes (1 + pool_entries cs)) (each constant_spelling cs) a in
    let n = spelled-u2 (1 + pool_entries cs) m.left in
    let c : Constants bs (u2 bs 8) 1 10 cs e = record { spelled = begins-at n.1 m.right; last = n.0 } in
    (rw (spelled-taken m.left, n.1) (constants-taken cs (u2 bs 8) 1 10 (omega arith) c), c)

pub record PoolOf (bs : List ℕ) (e : ℕ) : Type 0 where
  pub pool : List Constant
  pub spelled : Spelled bs 8 (pool_spelling pool) e
  pub has : Constants bs (pool_count bs) 1 10 pool e

pub pool-read : (bs : List ℕ) → AreBytes bs → (e : ℕ) → 1 ≤ pool_count bs → after_pool bs ≡ Ok e → PoolOf bs e
unfolding after_pool pool_count pool_spelling
pool-read bs bytes e some f =
    let a = step_to (taken bs 8 2) _ f in
    let k = taken_to bs 8 2 a.1 in
    let c = constants-read bs bytes (u2 bs 8) (u2 bs 8) 1 10 e (omega (arith, k.1)) some (omega arith) (rw k.0 at a.2) in
    record { pool = c.0; spelled = rw (← c.1.last) (join (some-u2 bs bytes 8 k.1) c.1.spelled); has = c.1 }

-- ---- lookups in a pool that stands from 10 to e

module _ (bs : List ℕ) (pool : List Constant) (e : ℕ) (has : Constants bs (pool_count bs) 1 10 pool e) where
  constant-found : {c : Constant} {i : ℕ} → Stands c i 1 pool → FoundAt bs c (constant_at bs i)
  unfolding constant_at
  constant-found {c} {i} s =
      rw (le-leb 1 i (stands-low s), lt-ltb i (pool_count bs) (omega (arith, stands_high s, has.last)))
      (stands-walk i s has (omega arith))

  constant-stands : (i r : ℕ) → constant_at bs i ≡ Ok r → Stood bs i 1 pool r
  unfolding constant_at
  constant-stands i r f =
      by (leb 1 i && ltb i (pool_count bs))
      (λ t. walk-stands pool i 1 has (ltb-true i (pool_count bs) (and_both (leb 1 i) (ltb i (pool_count bs)) t).1) (rw t at f))
      (λ t. not_ok (rw t at f))

  tagged-found : {c : Constant} {i : ℕ} → Stands c i 1 pool → FoundAt bs c (tagged_at bs (tag_of c) i)
  unfolding tagged_at constant_spelling
  tagged-found {c} {i} s =
      let f = constant-found s in
      record {
        place = f.place;
        end = f.end;
        at = rw (f.at, eq-eqb (get_or bs f.place 0) (tag_of c) (first_byte f.spelled));
        spelled = f.spelled;
      }

  record Tagged (t i r : ℕ) : Type 0 where
    stood : Stood bs i 1 pool r
    tag : tag_of stood.constant ≡ t

  tagged-stands : (t i r : ℕ) → tagged_at bs t i ≡ Ok r → Tagged t i r
  unfolding tagged_at constant_spelling
  tagged-stands t i r f =
      let a = step_to (constant_at bs i) _ f in
      by (eqb (get_or bs a.0 0) t)
      (λ h.
      let k : a.0 ≡ r = ok_same (rw h at a.2) in
      let w = constant-stands i r (a.1 ∙ ap Ok k) in
      record { stood = w; tag = sym (first_byte w.spelled) ∙ ap (λ (x : ℕ). get_or bs x 0) (sym k) ∙ eqb-true (get_or bs a.0 0) t h })
      (λ h. not_ok (rw h at a.2))

  pub utf8-found : {s : List ℕ} {i : ℕ} → IsUtf8 pool i s → FoundAt bs (Utf8 s) (utf8_at bs i)
  unfolding utf8_at tag_of
  utf8-found h = tagged-found h

  -- a Utf8 that was looked up
  pub record Utf8At (i r : ℕ) : Type 0 where
    pub bytes : List ℕ
    pub utf8 : IsUtf8 pool i bytes
    pub end : ℕ
    pub spelled : Spelled bs r (constant_spelling (Utf8 bytes)) end

  pub utf8-stands : (i r : ℕ) → utf8_at bs i ≡ Ok r → Utf8At i r
  unfolding utf8_at
  utf8-stands i r f =
      let w = tagged-stands 1 i r f in
      let u = utf8-of w.stood.constant w.tag in
      record { bytes = u.0; utf8 = rw u.1 at w.stood.stands; end = w.stood.end; spelled = rw u.1 at w.stood.spelled }

  pub class-found : {s : List ℕ} {i : ℕ} → IsClassInfo pool i s → FoundAt bs (Utf8 s) (class_at bs i)
  unfolding class_at tag_of
  class-found {s} {i} h =
      let f = tagged-found h.class in
      let g = utf8-found h.name in
      record {
        place = g.place;
        end = g.end;
        at = rw (f.at, class-index h.index f.spelled) g.at;
        spelled = g.spelled;
      }

  pub record ClassAt (i r : ℕ) : Type 0 where
    pub bytes : List ℕ
    pub class : IsClassInfo pool i bytes
    pub end : ℕ
    pub spelled : Spelled bs r (constant_spelling (Utf8 bytes)) end

  pub class-stands : (i r : ℕ) → class_at bs i ≡ Ok r → ClassAt i r
  unfolding class_at
  class-stands i r f =
      let a = step_to (tagged_at bs 7 i) _ f in
      let w = tagged-stands 7 i a.0 a.1 in
      let n = class_of w.stood.constant w.tag in
      let spelled : Spelled bs a.0 (constant_spelling (Class n.0)) w.stood.end = rw n.1 at w.stood.spelled in
      let u = utf8-stands n.0 r (rw (class-index n.0 spelled) at a.2) in
      record {
        bytes = u.bytes;
        class = record { index = n.0; class = rw n.1 at w.stood.stands; name = u.utf8 };
        end = u.end;
        spelled = u.spelled;
      }
