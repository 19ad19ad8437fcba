-- The items after the pool as structures: what is taken is what a structure spells, and its references hold just where the lookups find. Assumes nothing.
use mathlib.Core.Path.{◌≡◌, refl, sym, ap, ◌∙◌}
use mathlib.Core.Logic.{◌⊎◌, inl, inr}
use mathlib.Core.List.{List, [], ◌∷◌, ◌++◌}
use Prim.Native.Nat.{ℕ, zero, suc, ◌+◌, ◌*◌, ◌≤◌}
use native.Mathlib.Omega.{arith}
use lib.ListN.{length, take, drop}
use lib.Dec.{eqb}
use borrow.Author.Tests.{eqb-true, eq-eqb}
use Rattle.words.proofs.Bools.{by}
use Rattle.words.specs.Words.{AreBytes}
use Rattle.std.specs.Prelude.{Ok}
use Rattle.class_form.specs.Form.{Step, u2, u4, ◌>>=◌, taken, pool_count, utf8_at, class_at, after_name, after_class, after_parent, after_interfaces, after_attribute, after_each, after_counted, after_attributes, after_member, after_members, after_head, after_body}
use Rattle.file_form.specs.Grammar.{u2_bytes, u4_bytes, each, counted, Constant, Attribute, Member, attribute_spelling, member_spelling, IsUtf8, IsClassInfo, MemberHolds, All, all_none, all_more}
use Rattle.class_form.proofs.Laws.{ok_same, step_to, taken_to}
use Rattle.file_form.proofs.Spelled.{Spelled, nothing, join, split, ends_at, spelled-taken, spelled-u2, spelled-u4, some_bytes, some-length, some-u2, some-u4}
use Rattle.file_form.proofs.Pool.{Constants, utf8-found, utf8-stands, class-found, class-stands, number_of_classes}

-- ---- a number that was taken

pub u2-taken : {bs : List ℕ} {p q : ℕ} (n : ℕ) → Spelled bs p (u2_bytes n) q → taken bs p 2 ≡ Ok q
unfolding u2_bytes
u2-taken n a = spelled-taken a

pub u2-read : (bs : List ℕ) → AreBytes bs → (p q : ℕ) → taken bs p 2 ≡ Ok q → Spelled bs p (u2_bytes (u2 bs p)) q
u2-read bs bytes p q e = let k = taken_to bs p 2 e in ends_at (sym k.0) (some-u2 bs bytes p k.1)

-- ---- structures one after the other, each of which has what `Good` says

pub any : {A : Type 0} (xs : List A) → All (λ x. Unit {0}) xs
any [] = all_none
any (x ∷ xs) = all_more tt (any xs)

-- a structure at p
pub record Item (A : Type 0) (spelling : A → List ℕ) (Good : A → Type 0) (bs : List ℕ) (p q : ℕ) : Type 0 where
  pub value : A
  pub spelled : Spelled bs p (spelling value) q
  pub good : Good value

pub record Items (A : Type 0) (spelling : A → List ℕ) (Good : A → Type 0) (bs : List ℕ) (n p q : ℕ) : Type 0 where
  pub values : List A
  pub spelled : Spelled bs p (each spelling values) q
  pub good : All Good values
  pub number : length values ≡ n

module _ {A : Type 0} (spelling : A → List ℕ) (Good : A → Type 0) (bs : List ℕ) (item : ℕ → Step) where
  module _ (one : (x : A) (p q : ℕ) → Good x → Spelled bs p (spelling x) q → item p ≡ Ok q) where
    each-taken : {xs : List A} (p q : ℕ) → All Good xs → Spelled bs p (each spelling xs) q → after_each item (length xs) p ≡ Ok q
    unfolding after_each each
    each-taken p q all_none a = ap Ok (omega (arith, a.end))
    each-taken p q (all_more {x = x} {xs = xs} g gs) a =
        let m = split (spelling x) (each spelling xs) a in rw (one x p m.mid g m.left) (each-taken m.mid q gs m.right)

    pub counted-taken : {xs : List A} (p q : ℕ) → All Good xs → Spelled bs p (counted spelling xs) q → after_counted bs item p ≡ Ok q
    unfolding after_counted counted
    counted-taken {xs} p q gs a =
        let m = split (u2_bytes (length xs)) (each spelling xs) a in
        rw (u2-taken (length xs) m.left, (spelled-u2 (length xs) m.left).0) (each-taken m.mid q gs m.right)

  module _ (bytes : AreBytes bs) (one : (p q : ℕ) → item p ≡ Ok q → Item A spelling Good bs p q) where
    each_read : (n p q : ℕ) → p ≤ length bs → after_each item n p ≡ Ok q → Items A spelling Good bs n p q
    unfolding after_each each
    each_read zero p q h e = record { values = []; spelled = ends_at (ok_same e) (nothing bs p h); good = all_none; number = refl }
    each_read (suc n) p q h e =
        let a = step_to (item p) _ e in
        let x = one p a.0 a.1 in
        let xs = each_read n a.0 q x.spelled.there a.2 in
        record {
          values = x.value ∷ xs.values;
          spelled = join x.spelled xs.spelled;
          good = all_more x.good xs.good;
          number = ap suc xs.number;
        }

    pub counted-read : (p q : ℕ) → after_counted bs item p ≡ Ok q
        → Item (List A) (counted spelling) (All Good) bs p q
    unfolding after_counted counted
    counted-read p q e =
        let a = step_to (taken bs p 2) _ e in
        let n = u2-read bs bytes p a.0 a.1 in
        let xs = each_read (u2 bs p) a.0 q n.there a.2 in
        record { value = xs.values; spelled = rw xs.number (join n xs.spelled); good = xs.good }

-- ---- attributes

pub attribute-taken : {bs : List ℕ} (a : Attribute) (p q : ℕ) → Unit {0} → Spelled bs p (attribute_spelling a) q → after_attribute bs p ≡ Ok q
unfolding after_attribute attribute_spelling u2_bytes u4_bytes
attribute-taken {bs} a p q g s =
    let m = split (u2_bytes a.name ++ u4_bytes (length a.info)) a.info s in
    let k = split (u2_bytes a.name) (u4_bytes (length a.info)) m.left in
    let e : p + 2 ≡ k.mid = omega (arith, k.left.end) in
    rw (spelled-taken m.left, ap (u4 bs) e ∙ (spelled-u4 (length a.info) k.right).0) (spelled-taken m.right)

module _ (bs : List ℕ) (bytes : AreBytes bs) where
  pub attribute-read : (p q : ℕ) → after_attribute bs p ≡ Ok q → Item Attribute attribute_spelling (λ a. Unit {0}) bs p q
  unfolding after_attribute attribute_spelling
  attribute-read p q e =
      let a = step_to (taken bs p 6) _ e in
      let k = taken_to bs p 6 a.1 in
      let n = u4 bs (p + 2) in
      let l = taken_to bs a.0 n a.2 in
      let fits : p + 6 + n ≤ length bs = omega (arith, k.0, l.1) in
      let info = some_bytes bs (p + 6) n fits in
      let head = ends_at {r = p + 6} (omega arith) (join (some-u2 bs bytes p (omega arith)) (some-u4 bs bytes (p + 2) (omega arith))) in
      record {
        value = record { name = u2 bs p; info = take n (drop (p + 6) bs) };
        spelled = rw (some-length bs (p + 6) n fits) (ends_at (omega (arith, k.0, l.0)) (join head info));
        good = tt;
      }

  pub attributes-read : (p q : ℕ) → after_attributes bs p ≡ Ok q → Item (List Attribute) (counted attribute_spelling) (All (λ a. Unit {0})) bs p q
  unfolding after_attributes
  attributes-read p q e = counted-read attribute_spelling (λ a. Unit {0}) bs (after_attribute bs) bytes attribute-read p q e

pub attributes-taken : {bs : List ℕ} (xs : List Attribute) (p q : ℕ) → Spelled bs p (counted attribute_spelling xs) q → after_attributes bs p ≡ Ok q
unfolding after_attributes
attributes-taken {bs} xs p q a =
    counted-taken attribute_spelling (λ x. Unit {0}) bs (after_attribute bs) attribute-taken p q (any xs) a

-- ---- interfaces

interfaces-length : (xs : List ℕ) → length (each u2_bytes xs) ≡ 2 * length xs
unfolding each u2_bytes
interfaces-length [] = refl
interfaces-length (x ∷ xs) = omega (arith, interfaces-length xs)

pub interfaces-taken : {bs : List ℕ} (xs : List ℕ) (p q : ℕ) → Spelled bs p (counted u2_bytes xs) q → after_interfaces bs p ≡ Ok q
unfolding after_interfaces counted
interfaces-taken {bs} xs p q a =
    let m = split (u2_bytes (length xs)) (each u2_bytes xs) a in
    rw (u2-taken (length xs) m.left, (spelled-u2 (length xs) m.left).0, ← (interfaces-length xs)) (spelled-taken m.right)

module _ (bs : List ℕ) (bytes : AreBytes bs) where
  numbers-read : (n p q : ℕ) → p ≤ length bs → q ≡ p + 2 * n → q ≤ length bs → Items ℕ u2_bytes (λ x. Unit {0}) bs n p q
  unfolding each
  numbers-read zero p q h e l = record { values = []; spelled = ends_at (omega arith) (nothing bs p h); good = all_none; number = refl }
  numbers-read (suc n) p q h e l =
      let x = some-u2 bs bytes p (omega arith) in
      let xs = numbers-read n (p + 2) q (omega arith) (omega arith) l in
      record {
        values = u2 bs p ∷ xs.values;
        spelled = join x xs.spelled;
        good = all_more tt xs.good;
        number = ap suc xs.number;
      }

  pub interfaces-read : (p q : ℕ) → after_interfaces bs p ≡ Ok q → Item (List ℕ) (counted u2_bytes) (λ xs. Unit {0}) bs p q
  unfolding after_interfaces counted
  interfaces-read p q e =
      let a = step_to (taken bs p 2) _ e in
      let n = u2-read bs bytes p a.0 a.1 in
      let k = taken_to bs a.0 (2 * u2 bs p) a.2 in
      let xs = numbers-read (u2 bs p) a.0 q n.there k.0 (omega (arith, k.0, k.1)) in
      record { value = xs.values; spelled = rw xs.number (join n xs.spelled); good = tt }

-- ---- a reference, looked up once it has been taken

abbrev looked : List ℕ → (ℕ → Step) → ℕ → Step
looked bs look p = taken bs p 2 >>= (λ q. look (u2 bs p) >>= (λ name. Ok q))

looked-taken : {bs : List ℕ} {p q : ℕ} (look : ℕ → Step) (i r : ℕ) → Spelled bs p (u2_bytes i) q → look i ≡ Ok r → looked bs look p ≡ Ok q
looked-taken look i r a e = rw (u2-taken i a, (spelled-u2 i a).0, e)

looked-read : (bs : List ℕ) → AreBytes bs → (look : ℕ → Step) (p q : ℕ) → looked bs look p ≡ Ok q
    → Spelled bs p (u2_bytes (u2 bs p)) q × ((r : ℕ) × (look (u2 bs p) ≡ Ok r))
looked-read bs bytes look p q e =
    let a = step_to (taken bs p 2) _ e in
    let b = step_to (look (u2 bs p)) _ a.2 in
    (ends_at (ok_same b.2) (u2-read bs bytes p a.0 a.1), (b.0, b.1))

module _ (bs : List ℕ) (pool : List Constant) (end : ℕ) (has : Constants bs (pool_count bs) 1 10 pool end) where
  abbrev Named : ℕ → Type 0
  Named i = (s : List ℕ) × IsUtf8 pool i s

  abbrev Classed : ℕ → Type 0
  Classed i = (s : List ℕ) × IsClassInfo pool i s

  name-taken : {p q : ℕ} (i : ℕ) → Named i → Spelled bs p (u2_bytes i) q → after_name bs p ≡ Ok q
  unfolding after_name
  name-taken i n a = let f = utf8-found bs pool end has n.1 in looked-taken (utf8_at bs) i f.place a f.at

  pub class-taken : {p q : ℕ} (i : ℕ) → Classed i → Spelled bs p (u2_bytes i) q → after_class bs p ≡ Ok q
  unfolding after_class
  class-taken i n a = let f = class-found bs pool end has n.1 in looked-taken (class_at bs) i f.place a f.at

  pub parent-taken : {p q : ℕ} (i : ℕ) → (i ≡ 0) ⊎ Classed i → Spelled bs p (u2_bytes i) q → after_parent bs p ≡ Ok q
  unfolding after_parent
  parent-taken {p} i (inl z) a = rw (eq-eqb (u2 bs p) 0 ((spelled-u2 i a).0 ∙ z)) (u2-taken i a)
  parent-taken {p} i (inr n) a =
      by (eqb (u2 bs p) 0) (λ t. rw t (u2-taken i a)) (λ t. rw t (class-taken i n a))

  pub member-taken : (m : Member) (p q : ℕ) → MemberHolds pool m → Spelled bs p (member_spelling m) q → after_member bs p ≡ Ok q
  unfolding after_member member_spelling
  member-taken m p q g a =
      let c = split (u2_bytes m.flags ++ u2_bytes m.name ++ u2_bytes m.descriptor) (counted attribute_spelling m.attributes) a in
      let d = split (u2_bytes m.flags ++ u2_bytes m.name) (u2_bytes m.descriptor) c.left in
      let n = split (u2_bytes m.flags) (u2_bytes m.name) d.left in
      rw (
        u2-taken m.flags n.left,
        name-taken m.name g.name n.right,
        name-taken m.descriptor g.descriptor d.right,
      )
      (attributes-taken m.attributes c.mid q c.right)

  pub members-taken : {ms : List Member} (p q : ℕ) → All (MemberHolds pool) ms → Spelled bs p (counted member_spelling ms) q → after_members bs p ≡ Ok q
  unfolding after_members
  members-taken p q gs a = counted-taken member_spelling (MemberHolds pool) bs (after_member bs) member-taken p q gs a

  pub head-taken : {p q : ℕ} (flags this super : ℕ) (xs : List ℕ) → Classed this → (super ≡ 0) ⊎ Classed super
      → Spelled bs p (u2_bytes flags ++ u2_bytes this ++ u2_bytes super ++ counted u2_bytes xs) q → after_head bs p ≡ Ok q
  unfolding after_head
  head-taken {p} {q} flags this super xs g h a =
      let c = split (u2_bytes flags ++ u2_bytes this ++ u2_bytes super) (counted u2_bytes xs) a in
      let d = split (u2_bytes flags ++ u2_bytes this) (u2_bytes super) c.left in
      let n = split (u2_bytes flags) (u2_bytes this) d.left in
      rw (u2-taken flags n.left, class-taken this g n.right, parent-taken super h d.right) (interfaces-taken xs c.mid q c.right)

  pub body-taken : {p q : ℕ} (fields methods : List Member) (xs : List Attribute) → All (MemberHolds pool) fields → All (MemberHolds pool) methods
      → Spelled bs p (counted member_spelling fields ++ counted member_spelling methods ++ counted attribute_spelling xs) q → after_body bs p ≡ Ok q
  unfolding after_body
  body-taken {p} {q} fields methods xs g h a =
      let c = split (counted member_spelling fields ++ counted member_spelling methods) (counted attribute_spelling xs) a in
      let d = split (counted member_spelling fields) (counted member_spelling methods) c.left in
      rw (members-taken p d.mid g d.left, members-taken d.mid c.mid h d.right) (attributes-taken xs c.mid q c.right)

  -- ---- what was taken

  pub record HeadAt (p q : ℕ) : Type 0 where
    pub flags : ℕ
    pub this : ℕ
    pub super : ℕ
    pub interfaces : List ℕ
    pub spelled : Spelled bs p (u2_bytes flags ++ u2_bytes this ++ u2_bytes super ++ counted u2_bytes interfaces) q
    pub this-holds : Classed this
    pub super-holds : (super ≡ 0) ⊎ Classed super

  pub record BodyAt (p q : ℕ) : Type 0 where
    pub fields : List Member
    pub methods : List Member
    pub attributes : List Attribute
    pub spelled : Spelled bs p (counted member_spelling fields ++ counted member_spelling methods ++ counted attribute_spelling attributes) q
    pub fields_hold : All (MemberHolds pool) fields
    pub methods_hold : All (MemberHolds pool) methods

  module _ (bytes : AreBytes bs) where
    name-read : (p q : ℕ) → after_name bs p ≡ Ok q → Item ℕ u2_bytes Named bs p q
    unfolding after_name
    name-read p q e =
        let a = looked-read bs bytes (utf8_at bs) p q e in
        let u = utf8-stands bs pool end has (u2 bs p) a.1.0 a.1.1 in
        record { value = u2 bs p; spelled = a.0; good = (u.bytes, u.utf8) }

    pub class-read : (p q : ℕ) → after_class bs p ≡ Ok q → Item ℕ u2_bytes Classed bs p q
    unfolding after_class
    class-read p q e =
        let a = looked-read bs bytes (class_at bs) p q e in
        let u = class-stands bs pool end has (u2 bs p) a.1.0 a.1.1 in
        record { value = u2 bs p; spelled = a.0; good = (u.bytes, u.class) }

    pub parent-read : (p q : ℕ) → after_parent bs p ≡ Ok q → Item ℕ u2_bytes (λ i. (i ≡ 0) ⊎ Classed i) bs p q
    unfolding after_parent
    parent-read p q e =
        by (eqb (u2 bs p) 0)
        (λ t. record { value = u2 bs p; spelled = u2-read bs bytes p q (rw t at e); good = inl (eqb-true (u2 bs p) 0 t) })
        (λ t.
        let a = class-read p q (rw t at e) in record { value = a.value; spelled = a.spelled; good = inr a.good })

    pub member-read : (p q : ℕ) → after_member bs p ≡ Ok q → Item Member member_spelling (MemberHolds pool) bs p q
    unfolding after_member member_spelling
    member-read p q e =
        let a = step_to (taken bs p 2) _ e in
        let b = step_to (after_name bs a.0) _ a.2 in
        let c = step_to (after_name bs b.0) _ b.2 in
        let flags = u2-read bs bytes p a.0 a.1 in
        let name = name-read a.0 b.0 b.1 in
        let descriptor = name-read b.0 c.0 c.1 in
        let attributes = attributes-read bs bytes c.0 q c.2 in
        record {
          value = record { flags = u2 bs p; name = name.value; descriptor = descriptor.value; attributes = attributes.value };
          spelled = join (join (join flags name.spelled) descriptor.spelled) attributes.spelled;
          good = record { name = name.good; descriptor = descriptor.good };
        }

    pub members-read : (p q : ℕ) → after_members bs p ≡ Ok q → Item (List Member) (counted member_spelling) (All (MemberHolds pool)) bs p q
    unfolding after_members
    members-read p q e = counted-read member_spelling (MemberHolds pool) bs (after_member bs) bytes member-read p q e

    pub head_read_lem : (p q : ℕ) → after_head bs p ≡ Ok q → HeadAt p q
    unfolding after_head
    head_read_lem p q e =
        let a = step_to (taken bs p 2) _ e in
        let b = step_to (after_class bs a.0) _ a.2 in
        let c = step_to (after_parent bs b.0) _ b.2 in
        let flags = u2-read bs bytes p a.0 a.1 in
        let this = class-read a.0 b.0 b.1 in
        let super = parent-read b.0 c.0 c.1 in
        let interfaces = interfaces-read bs bytes c.0 q c.2 in
        record {
          flags = u2 bs p;
          this = this.value;
          super = super.value;
          interfaces = interfaces.value;
          spelled = join (join (join flags this.spelled) super.spelled) interfaces.spelled;
          this-holds = this.good;
          super-holds = super.good;
        }

    pub body-read : (p q : ℕ) → after_body bs p ≡ Ok q → BodyAt p q
    unfolding after_body
    body-read p q e =
        let a = step_to (after_members bs p) _ e in
        let b = step_to (after_members bs a.0) _ a.2 in
        let fields = members-read p a.0 a.1 in
        let methods = members-read a.0 b.0 b.1 in
        let attributes = attributes-read bs bytes b.0 q b.2 in
        record {
          fields = fields.value;
          methods = methods.value;
          attributes = attributes.value;
          spelled = join (join fields.spelled methods.spelled) attributes.spelled;
          fields_hold = fields.good;
          methods_hold = methods.good;
        }

-- a head that was taken found its class
pub head-count : (bs : List ℕ) → AreBytes bs → (p q : ℕ) → after_head bs p ≡ Ok q → 1 ≤ pool_count bs
unfolding after_head after_class
head-count bs bytes p q e =
    let a = step_to (taken bs p 2) _ e in
    let b = step_to (after_class bs a.0) _ a.2 in
    let c = looked-read bs bytes (class_at bs) a.0 b.0 b.1 in
    number_of_classes bs (u2 bs a.0) c.1.0 c.1.1
