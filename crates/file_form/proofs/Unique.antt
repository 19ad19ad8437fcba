-- Only one structure spells the bytes: each is read back from what it spells, whatever follows. Assumes nothing.
use mathlib.Core.Path.{◌≡◌, refl, sym, ap, ◌∙◌}
use mathlib.Core.Bool.{cond}
use mathlib.Core.List.{List, [], ◌∷◌, ◌++◌, append_assoc}
use Prim.Native.Nat.{ℕ, ◌+◌}
use native.Mathlib.Omega.{arith}
use lib.ListN.{length, get_or, take, drop}
use lib.Seq.{drop-append_seam, take-append_seam, take_at}
use lib.Dec.{eqb}
use borrow.Author.Tests.{eq-eqb, ne_eqb}
use Rattle.class_form.specs.Form.{u2, u4}
use Rattle.file_form.specs.Grammar.{u2_bytes, u4_bytes, each, counted, Constant, Utf8, Integer, Float, Long, Double, Class, String, Fieldref, Methodref, InterfaceMethodref, NameAndType, tag_of, info_of, constant_spelling, entries_of, pool_entries, pool_spelling, Attribute, Member, attribute_spelling, member_spelling, ClassFile, file_spelling, Stands, here, there}
use Rattle.file_form.proofs.Spelled.{split, whole, spelled-u2, spelled-u4}
use Rattle.file_form.proofs.Pool.{some-entries, stands-low}

-- a spelling is read back, whatever follows it
abbrev Unique : (A : Type 0) → (A → List ℕ) → Type 0
Unique A spelling = (x y : A) (k l : List ℕ) → spelling x ++ k ≡ spelling y ++ l → (x ≡ y) × (k ≡ l)

-- what follows a spelling
rest-same : (s k l : List ℕ) → s ++ k ≡ s ++ l → k ≡ l
rest-same s k l e = sym (drop-append_seam s k) ∙ ap (drop (length s)) e ∙ drop-append_seam s l

-- ---- numbers

u2-back : (n : ℕ) (k : List ℕ) → u2 (u2_bytes n ++ k) 0 ≡ n
u2-back n k = let m = split (u2_bytes n) k (whole (u2_bytes n ++ k) (u2_bytes n ++ k) refl) in (spelled-u2 n m.left).0

u4-back : (n : ℕ) (k : List ℕ) → u4 (u4_bytes n ++ k) 0 ≡ n
u4-back n k = let m = split (u4_bytes n) k (whole (u4_bytes n ++ k) (u4_bytes n ++ k) refl) in (spelled-u4 n m.left).0

u2-unique : Unique ℕ u2_bytes
u2-unique m n k l e =
    let f : m ≡ n = sym (u2-back m k) ∙ ap (λ (s : List ℕ). u2 s 0) e ∙ u2-back n l in
    (f, rest-same (u2_bytes m) k l (e ∙ ap (λ (x : ℕ). u2_bytes x ++ l) (sym f)))

u4-unique : Unique ℕ u4_bytes
u4-unique m n k l e =
    let f : m ≡ n = sym (u4-back m k) ∙ ap (λ (s : List ℕ). u4 s 0) e ∙ u4-back n l in
    (f, rest-same (u4_bytes m) k l (e ∙ ap (λ (x : ℕ). u4_bytes x ++ l) (sym f)))

-- two parts, the second of which is read once the first is
abbrev both : {A B : Type 0} → (A → List ℕ) → (B → List ℕ) → A × B → List ℕ
both s t p = s p.0 ++ t p.1

both-unique : {A B : Type 0} (s : A → List ℕ) (t : B → List ℕ) → Unique A s → Unique B t → Unique (A × B) (both s t)
both-unique s t us ut p q k l e =
    let f = us p.0 q.0 (t p.1 ++ k) (t q.1 ++ l) (sym (append_assoc (s p.0) (t p.1) k) ∙ e ∙ append_assoc (s q.0) (t q.1) l) in
    let g = ut p.1 q.1 k l f.1 in
    (λ i. (f.0 i, g.0 i), g.1)

-- bytes of a given number
bytes-unique : (s t k l : List ℕ) → length s ≡ length t → s ++ k ≡ t ++ l → (s ≡ t) × (k ≡ l)
bytes-unique s t k l n e =
    let f : s ≡ t = sym (take-append_seam s k) ∙ ap (take (length s)) e ∙ take_at t l (length s) (sym n) in
    (f, rest-same s k l (e ∙ ap (λ (x : List ℕ). x ++ l) (sym f)))

-- ---- lists

each-unique : {A : Type 0} (spelling : A → List ℕ) → Unique A spelling → (xs ys : List A) (k l : List ℕ) → length xs ≡ length ys
    → each spelling xs ++ k ≡ each spelling ys ++ l → (xs ≡ ys) × (k ≡ l)
unfolding each
each-unique spelling u [] [] k l n e = (refl, e)
each-unique spelling u [] (y ∷ ys) k l n e = absurd (omega arith)
each-unique spelling u (x ∷ xs) [] k l n e = absurd (omega arith)
each-unique spelling u (x ∷ xs) (y ∷ ys) k l n e =
    let f =
    u x y (each spelling xs ++ k) (each spelling ys ++ l)
    (sym (append_assoc (spelling x) (each spelling xs) k) ∙ e ∙ append_assoc (spelling y) (each spelling ys) l) in
    let g = each-unique spelling u xs ys k l (omega arith) f.1 in
    (λ i. f.0 i ∷ g.0 i, g.1)

counted-unique : {A : Type 0} (spelling : A → List ℕ) → Unique A spelling → Unique (List A) (counted spelling)
unfolding counted
counted-unique spelling u xs ys k l e =
    let f =
    u2-unique (length xs) (length ys) (each spelling xs ++ k) (each spelling ys ++ l)
    (sym (append_assoc (u2_bytes (length xs)) (each spelling xs) k) ∙ e ∙ append_assoc (u2_bytes (length ys)) (each spelling ys) l) in
    each-unique spelling u xs ys k l f.0 f.1

-- ---- constants

-- the constant whose tag is t and whose info the bytes begin with
constant_of : ℕ → List ℕ → Constant
constant_of t k =
    cond (eqb t 1) (Utf8 (take (u2 k 0) (drop 2 k)))
    (cond (eqb t 3) (Integer (u4 k 0))
    (cond (eqb t 4) (Float (u4 k 0))
    (cond (eqb t 5) (Long (u4 k 0) (u4 (drop 4 k) 0))
    (cond (eqb t 6) (Double (u4 k 0) (u4 (drop 4 k) 0))
    (cond (eqb t 7) (Class (u2 k 0))
    (cond (eqb t 8) (String (u2 k 0))
    (cond (eqb t 9) (Fieldref (u2 k 0) (u2 (drop 2 k) 0))
    (cond (eqb t 10) (Methodref (u2 k 0) (u2 (drop 2 k) 0))
    (cond (eqb t 11) (InterfaceMethodref (u2 k 0) (u2 (drop 2 k) 0))
    (NameAndType (u2 k 0) (u2 (drop 2 k) 0)))))))))))

u2-drop : (n : ℕ) (k : List ℕ) → drop 2 (u2_bytes n ++ k) ≡ k
unfolding u2_bytes
u2-drop n k = refl

u4-drop : (n : ℕ) (k : List ℕ) → drop 4 (u4_bytes n ++ k) ≡ k
unfolding u4_bytes u2_bytes
u4-drop n k = refl

-- two numbers, read back
u2-second : (m n : ℕ) (k : List ℕ) → u2 (drop 2 (u2_bytes m ++ u2_bytes n ++ k)) 0 ≡ n
u2-second m n k = ap (λ (s : List ℕ). u2 (drop 2 s) 0) (append_assoc (u2_bytes m) (u2_bytes n) k) ∙ rw (u2-drop m (u2_bytes n ++ k)) (u2-back n k)

u2-first : (m n : ℕ) (k : List ℕ) → u2 (u2_bytes m ++ u2_bytes n ++ k) 0 ≡ m
u2-first m n k = ap (λ (s : List ℕ). u2 s 0) (append_assoc (u2_bytes m) (u2_bytes n) k) ∙ u2-back m (u2_bytes n ++ k)

u4-second : (m n : ℕ) (k : List ℕ) → u4 (drop 4 (u4_bytes m ++ u4_bytes n ++ k)) 0 ≡ n
u4-second m n k = ap (λ (s : List ℕ). u4 (drop 4 s) 0) (append_assoc (u4_bytes m) (u4_bytes n) k) ∙ rw (u4-drop m (u4_bytes n ++ k)) (u4-back n k)

u4-first : (m n : ℕ) (k : List ℕ) → u4 (u4_bytes m ++ u4_bytes n ++ k) 0 ≡ m
u4-first m n k = ap (λ (s : List ℕ). u4 s 0) (append_assoc (u4_bytes m) (u4_bytes n) k) ∙ u4-back m (u4_bytes n ++ k)

utf8-back : (s k : List ℕ) → take (u2 (u2_bytes (length s) ++ s ++ k) 0) (drop 2 (u2_bytes (length s) ++ s ++ k)) ≡ s
utf8-back s k =
    rw (append_assoc (u2_bytes (length s)) s k, u2-back (length s) (s ++ k), u2-drop (length s) (s ++ k)) (take-append_seam s k)

constant-back : (c : Constant) (k : List ℕ) → constant_of (tag_of c) (info_of c ++ k) ≡ c
unfolding constant_of tag_of info_of
constant-back (Utf8 s) k = ap Utf8 (utf8-back s k)
constant-back (Integer n) k = ap Integer (u4-back n k)
constant-back (Float n) k = ap Float (u4-back n k)
constant-back (Long a b) k = λ i. Long (u4-first a b k i) (u4-second a b k i)
constant-back (Double a b) k = λ i. Double (u4-first a b k i) (u4-second a b k i)
constant-back (Class n) k = ap Class (u2-back n k)
constant-back (String n) k = ap String (u2-back n k)
constant-back (Fieldref a b) k = λ i. Fieldref (u2-first a b k i) (u2-second a b k i)
constant-back (Methodref a b) k = λ i. Methodref (u2-first a b k i) (u2-second a b k i)
constant-back (InterfaceMethodref a b) k = λ i. InterfaceMethodref (u2-first a b k i) (u2-second a b k i)
constant-back (NameAndType a b) k = λ i. NameAndType (u2-first a b k i) (u2-second a b k i)

constant-unique : Unique Constant constant_spelling
unfolding constant_spelling
constant-unique c d k l e =
    let tag : tag_of c ≡ tag_of d = ap (λ (s : List ℕ). get_or s 0 0) e in
    let info : info_of c ++ k ≡ info_of d ++ l = ap (drop 1) e in
    let f : c ≡ d = sym (constant-back c k) ∙ ap (λ (t : ℕ). constant_of t (info_of c ++ k)) tag ∙ ap (constant_of (tag_of d)) info ∙ constant-back d l in
    (f, rest-same (info_of c) k l (info ∙ ap (λ (x : Constant). info_of x ++ l) (sym f)))

-- a pool ends where its entries are as many as the count says
constants-unique : (cs ds : List Constant) (k l : List ℕ) → pool_entries cs ≡ pool_entries ds
    → each constant_spelling cs ++ k ≡ each constant_spelling ds ++ l → (cs ≡ ds) × (k ≡ l)
unfolding each pool_entries
constants-unique [] [] k l n e = (refl, e)
constants-unique [] (d ∷ ds) k l n e = absurd (omega (arith, some-entries d))
constants-unique (c ∷ cs) [] k l n e = absurd (omega (arith, some-entries c))
constants-unique (c ∷ cs) (d ∷ ds) k l n e =
    let f =
    constant-unique c d (each constant_spelling cs ++ k) (each constant_spelling ds ++ l)
    (sym (append_assoc (constant_spelling c) (each constant_spelling cs) k) ∙ e ∙ append_assoc (constant_spelling d) (each constant_spelling ds) l) in
    let g = constants-unique cs ds k l (omega (arith, ap entries_of f.0)) f.1 in
    (λ i. f.0 i ∷ g.0 i, g.1)

pool-unique : Unique (List Constant) pool_spelling
unfolding pool_spelling
pool-unique cs ds k l e =
    let a = u2_bytes (1 + pool_entries cs) in
    let b = u2_bytes (1 + pool_entries ds) in
    let f =
    u2-unique (1 + pool_entries cs) (1 + pool_entries ds) (each constant_spelling cs ++ k) (each constant_spelling ds ++ l)
    (sym (append_assoc a (each constant_spelling cs) k) ∙ e ∙ append_assoc b (each constant_spelling ds) l) in
    constants-unique cs ds k l (omega (arith, f.0)) f.1

-- an index names one constant: the one that a search from the front finds
constant_of_index : List Constant → ℕ → ℕ → List Constant
constant_of_index [] j i = []
constant_of_index (c ∷ cs) j i = cond (eqb j i) (c ∷ []) (constant_of_index cs (j + entries_of c) i)

stands-first : {c : Constant} {i j : ℕ} {cs : List Constant} → Stands c i j cs → constant_of_index cs j i ≡ c ∷ []
unfolding constant_of_index
stands-first {i = i} here = rw (eq-eqb i i refl)
stands-first {i = i} {j = j} (there {d = d} s) = rw (ne_eqb j i (λ e. omega (arith, stands-low s, some-entries d))) (stands-first s)

pub one_constant : (pool : List Constant) (i : ℕ) (c d : Constant) → Stands c i 1 pool → Stands d i 1 pool → c ≡ d
one_constant pool i c d s t = ap (λ (l : List Constant). get_or l 0 c) (sym (stands-first s) ∙ stands-first t)

-- ---- attributes and members

attribute-unique : Unique Attribute attribute_spelling
unfolding attribute_spelling
attribute-unique a b k l e =
    let f =
    both-unique u2_bytes u4_bytes u2-unique u4-unique (a.name, length a.info) (b.name, length b.info) (a.info ++ k) (b.info ++ l)
    (sym (append_assoc (u2_bytes a.name ++ u4_bytes (length a.info)) a.info k) ∙ e
    ∙ append_assoc (u2_bytes b.name ++ u4_bytes (length b.info)) b.info l) in
    let g = bytes-unique a.info b.info k l (λ i. (f.0 i).1) f.1 in
    (λ i. record { name = (f.0 i).0; info = g.0 i }, g.1)

member-unique : Unique Member member_spelling
unfolding member_spelling
member-unique m n k l e =
    let u =
    both-unique (both (both u2_bytes u2_bytes) u2_bytes) (counted attribute_spelling)
    (both-unique (both u2_bytes u2_bytes) u2_bytes (both-unique u2_bytes u2_bytes u2-unique u2-unique) u2-unique)
    (counted-unique attribute_spelling attribute-unique) in
    let f = u (((m.flags, m.name), m.descriptor), m.attributes) (((n.flags, n.name), n.descriptor), n.attributes) k l e in
    (λ i. record { flags = (f.0 i).0.0.0; name = (f.0 i).0.0.1; descriptor = (f.0 i).0.1; attributes = (f.0 i).1 }, f.1)

-- ---- the file, in its four parts

abbrev Start : Type 0
Start = (ℕ × ℕ) × ℕ

abbrev start_bytes : Start → List ℕ
start_bytes = both (both u4_bytes u2_bytes) u2_bytes

abbrev Head : Type 0
Head = ((ℕ × ℕ) × ℕ) × List ℕ

abbrev head_bytes : Head → List ℕ
head_bytes = both (both (both u2_bytes u2_bytes) u2_bytes) (counted u2_bytes)

abbrev Body : Type 0
Body = (List Member × List Member) × List Attribute

abbrev body_bytes : Body → List ℕ
body_bytes = both (both (counted member_spelling) (counted member_spelling)) (counted attribute_spelling)

abbrev File : Type 0
File = ((Start × List Constant) × Head) × Body

abbrev file_bytes : File → List ℕ
file_bytes = both (both (both start_bytes pool_spelling) head_bytes) body_bytes

start-unique : Unique Start start_bytes
start-unique = both-unique (both u4_bytes u2_bytes) u2_bytes (both-unique u4_bytes u2_bytes u4-unique u2-unique) u2-unique

head-unique : Unique Head head_bytes
head-unique =
    both-unique (both (both u2_bytes u2_bytes) u2_bytes) (counted u2_bytes)
    (both-unique (both u2_bytes u2_bytes) u2_bytes (both-unique u2_bytes u2_bytes u2-unique u2-unique) u2-unique) (counted-unique u2_bytes u2-unique)

body-unique : Unique Body body_bytes
body-unique =
    let members = counted-unique member_spelling member-unique in
    both-unique (both (counted member_spelling) (counted member_spelling)) (counted attribute_spelling)
    (both-unique (counted member_spelling) (counted member_spelling) members members) (counted-unique attribute_spelling attribute-unique)

parts-unique : Unique File file_bytes
parts-unique =
    both-unique (both (both start_bytes pool_spelling) head_bytes) body_bytes
    (both-unique (both start_bytes pool_spelling) head_bytes (both-unique start_bytes pool_spelling start-unique pool-unique) head-unique) body-unique

abbrev parts_of : ClassFile → File
parts_of f = (
  ((((0xCAFEBABE, f.minor), f.major), f.pool), (((f.flags, f.this), f.super), f.interfaces)),
  ((f.fields, f.methods), f.attributes),
)

pub file-unique : (f g : ClassFile) → file_spelling f ≡ file_spelling g → f ≡ g
unfolding file_spelling
file-unique f g e =
    let u = parts-unique (parts_of f) (parts_of g) [] [] (ap (λ (s : List ℕ). s ++ []) e) in
    λ i. record {
      minor = (u.0 i).0.0.0.0.1;
      major = (u.0 i).0.0.0.1;
      pool = (u.0 i).0.0.1;
      flags = (u.0 i).0.1.0.0.0;
      this = (u.0 i).0.1.0.0.1;
      super = (u.0 i).0.1.0.1;
      interfaces = (u.0 i).0.1.1;
      fields = (u.0 i).1.0.0;
      methods = (u.0 i).1.0.1;
      attributes = (u.0 i).1.1;
    }
