-- The form is the Specification's: of an accepted file each part is what a structure spells, and what a structure spells is accepted. Assumes nothing.
use mathlib.Core.Path.{◌≡◌, refl, ap, ◌∙◌}
use mathlib.Core.Bool.{true}
use mathlib.Core.List.{List, ◌++◌}
use Prim.Native.Nat.{ℕ, ◌≤◌}
use native.Mathlib.Omega.{arith}
use lib.ListN.{length}
use lib.Dec.{eqb, leb}
use borrow.Author.Tests.{eqb-true, eq-eqb, leb-true, le-leb}
use Rattle.words.proofs.Bools.{by, and_3}
use Rattle.words.specs.Words.{AreBytes}
use Rattle.std.specs.Prelude.{Ok, Err}
use Rattle.class_form.specs.Form.{Step, u2, u4, pool_count, after_pool, after_head, after_file, version_ok, end_refusal, form_refusal}
use Rattle.file_form.specs.Grammar.{u2_bytes, u4_bytes, counted, attribute_spelling, member_spelling, pool_spelling, ClassFile, file_spelling, Holds, Derivation}
use Rattle.file_form.specs.Derived.{Derived}
use Rattle.class_form.proofs.Laws.{step_to}
use Rattle.refusal.proofs.Rows.{row_above}
use Rattle.file_form.proofs.Spelled.{Spelled, join, split, begins-at, whole, all_of, spelled-u2, spelled-u4, some-u2, some-u4}
use Rattle.file_form.proofs.Pool.{Constants, pool-taken, PoolOf, pool-read}
use Rattle.file_form.proofs.Formed.{head-taken, body-taken, HeadAt, BodyAt, head_read_lem, body-read, head-count}
use Rattle.file_form.proofs.Unique.{file-unique, one_constant}

-- ---- an accepted file, by its tests

record Accepted (bs : List ℕ) : Type 0 where
  eight : 8 ≤ length bs
  magic : u4 bs 0 ≡ 0xCAFEBABE
  oldest : 45 ≤ u2 bs 6
  newest : u2 bs 6 ≤ 48
  ends : after_file bs ≡ Ok (length bs)

version-passed : (bs : List ℕ) → version_ok bs ≡ true → (u4 bs 0 ≡ 0xCAFEBABE) × (45 ≤ u2 bs 6) × (u2 bs 6 ≤ 48)
unfolding version_ok
version-passed bs v =
    let p = and_3 (eqb (u4 bs 0) 0xCAFEBABE) (leb 45 (u2 bs 6)) (leb (u2 bs 6) 48) v in
    (eqb-true (u4 bs 0) 0xCAFEBABE p.0, leb-true 45 (u2 bs 6) p.1, leb-true (u2 bs 6) 48 p.2)

version-right : (bs : List ℕ) → u4 bs 0 ≡ 0xCAFEBABE → 45 ≤ u2 bs 6 → u2 bs 6 ≤ 48 → version_ok bs ≡ true
unfolding version_ok
version-right bs m o n = rw (eq-eqb (u4 bs 0) 0xCAFEBABE m, le-leb 45 (u2 bs 6) o, le-leb (u2 bs 6) 48 n)

end-accepted : (bs : List ℕ) (s : Step) → end_refusal bs s ≡ 0 → s ≡ Ok (length bs)
end-accepted bs (Ok p) z = by (eqb p (length bs)) (λ t. ap Ok (eqb-true p (length bs) t)) (λ t. absurd (omega (arith, rw t at z)))
end-accepted bs (Err r) z = absurd (omega (arith, row_above r, z))

accepted : (bs : List ℕ) → form_refusal bs ≡ 0 → Accepted bs
unfolding form_refusal
accepted bs z =
    by (leb 8 (length bs))
    (λ t.
    let eight = leb-true 8 (length bs) t in
    by (version_ok bs)
    (λ v.
    let p = version-passed bs v in
    record {
      eight = eight;
      magic = p.0;
      oldest = p.1;
      newest = p.2;
      ends = end-accepted bs (after_file bs) (rw (t, v) at z);
    })
    (λ v. absurd (omega (arith, rw (t, v) at z))))
    (λ t. absurd (omega (arith, rw t at z)))

accept : (bs : List ℕ) → 8 ≤ length bs → version_ok bs ≡ true → after_file bs ≡ Ok (length bs) → form_refusal bs ≡ 0
unfolding form_refusal
accept bs h v e = rw (le-leb 8 (length bs) h, v, e, eq-eqb (length bs) (length bs) refl)

-- ---- what a class file spells is accepted

abbrev start_of : ℕ → ℕ → List ℕ
start_of minor major = u4_bytes 0xCAFEBABE ++ u2_bytes minor ++ u2_bytes major

abbrev pub head_of : ClassFile → List ℕ
head_of f = u2_bytes f.flags ++ u2_bytes f.this ++ u2_bytes f.super ++ counted u2_bytes f.interfaces

abbrev pub body_of : ClassFile → List ℕ
body_of f = counted member_spelling f.fields ++ counted member_spelling f.methods ++ counted attribute_spelling f.attributes

start_is : {bs : List ℕ} {q : ℕ} (minor major : ℕ) → Spelled bs 0 (start_of minor major) q → (u4 bs 0 ≡ 0xCAFEBABE) × (u2 bs 6 ≡ major) × (q ≡ 8)
start_is {bs} minor major a =
    let m = split (u4_bytes 0xCAFEBABE ++ u2_bytes minor) (u2_bytes major) a in
    let n = split (u4_bytes 0xCAFEBABE) (u2_bytes minor) m.left in
    let x = spelled-u4 0xCAFEBABE n.left in
    let y = spelled-u2 minor n.right in
    let z = spelled-u2 major m.right in
    let e : 6 ≡ m.mid = omega (arith, x.1, y.1) in
    (x.0, ap (u2 bs) e ∙ z.0, omega (arith, x.1, y.1, z.1))

-- where the parts of a class file lie
pub record Laid (bs : List ℕ) (f : ClassFile) : Type 0 where
  pub pool-end : ℕ
  pub head-end : ℕ
  pub version : version_ok bs ≡ true
  pub pool-ends : after_pool bs ≡ Ok pool-end
  pub has : Constants bs (pool_count bs) 1 10 f.pool pool-end
  pub head : Spelled bs pool-end (head_of f) head-end
  pub body : Spelled bs head-end (body_of f) (length bs)

pub laid : (bs : List ℕ) (f : ClassFile) → Holds f → Spelled bs 0 (file_spelling f) (length bs) → Laid bs f
unfolding file_spelling
laid bs f holds a =
    let b = split (start_of f.minor f.major ++ pool_spelling f.pool ++ head_of f) (body_of f) a in
    let h = split (start_of f.minor f.major ++ pool_spelling f.pool) (head_of f) b.left in
    let p = split (start_of f.minor f.major) (pool_spelling f.pool) h.left in
    let s = start_is f.minor f.major p.left in
    let q = pool-taken f.pool (begins-at s.2 p.right) in
    record {
      pool-end = h.mid;
      head-end = b.mid;
      version = version-right bs s.0 (rw s.1 holds.oldest) (rw s.1 holds.newest);
      pool-ends = q.0;
      has = q.1;
      head = h.right;
      body = b.right;
    }

pub head-ends : (bs : List ℕ) (f : ClassFile) → Holds f → (l : Laid bs f) → after_head bs l.pool-end ≡ Ok l.head-end
head-ends bs f holds l =
    head-taken bs f.pool l.pool-end l.has f.flags f.this f.super f.interfaces holds.this holds.super l.head

file-ends : (bs : List ℕ) (f : ClassFile) → Holds f → Laid bs f → after_file bs ≡ Ok (length bs)
unfolding after_file
file-ends bs f holds l =
    rw (l.pool-ends, head-ends bs f holds l)
    (body-taken bs f.pool l.pool-end l.has f.fields f.methods f.attributes holds.fields holds.methods l.body)

complete : (bs : List ℕ) → Derivation bs → form_refusal bs ≡ 0
complete bs d =
    let l = laid bs d.file d.holds (whole bs (file_spelling d.file) d.spells) in
    accept bs (omega (arith, l.has.spelled.end, l.head.end, l.head.there)) l.version (file-ends bs d.file d.holds l)

-- ---- what is accepted, a class file spells

some-start : (bs : List ℕ) → AreBytes bs → 8 ≤ length bs → u4 bs 0 ≡ 0xCAFEBABE → Spelled bs 0 (start_of (u2 bs 4) (u2 bs 6)) 8
some-start bs bytes h m =
    join (join (rw m at (some-u4 bs bytes 0 (omega arith))) (some-u2 bs bytes 4 (omega arith))) (some-u2 bs bytes 6 (omega arith))

put_together : (bs : List ℕ) (e q : ℕ) (p : PoolOf bs e) → AreBytes bs → Accepted bs → HeadAt bs p.pool e p.has e q
    → BodyAt bs p.pool e p.has q (length bs) → Derivation bs
unfolding file_spelling
put_together bs e q p bytes a h b =
    record {
      file =
          record {
            minor = u2 bs 4;
            major = u2 bs 6;
            pool = p.pool;
            flags = h.flags;
            this = h.this;
            super = h.super;
            interfaces = h.interfaces;
            fields = b.fields;
            methods = b.methods;
            attributes = b.attributes;
          };
      spells = all_of bs _ (join (join (join (some-start bs bytes a.eight a.magic) p.spelled) h.spelled) b.spelled);
      holds =
          record {
            oldest = a.oldest;
            newest = a.newest;
            this = h.this-holds;
            super = h.super-holds;
            fields = b.fields_hold;
            methods = b.methods_hold;
          };
    }

sound : (bs : List ℕ) → AreBytes bs → form_refusal bs ≡ 0 → Derivation bs
unfolding after_file
sound bs bytes z =
    let a = accepted bs z in
    let p = step_to (after_pool bs) _ a.ends in
    let h = step_to (after_head bs p.0) _ p.2 in
    let pool = pool-read bs bytes p.0 (head-count bs bytes p.0 h.0 h.1) p.1 in
    put_together bs p.0 h.0 pool bytes a
    (head_read_lem bs pool.pool p.0 pool.has bytes p.0 h.0 h.1)
    (body-read bs pool.pool p.0 pool.has bytes h.0 (length bs) h.2)

pub derived : Derived
derived = record { sound = sound; complete = complete; unique = file-unique; one_constant = one_constant }
