-- Each number is read where the class file spells it, and each string where the pool has it, so what is yielded is the class file's own. Assumes nothing.
use mathlib.Core.Path.{◌≡◌, ap, ◌∙◌}
use mathlib.Core.Logic.{◌⊎◌, inl, inr, ◌≢◌}
use mathlib.Core.List.{List, [], ◌∷◌, ◌++◌}
use Prim.Native.Nat.{ℕ, ◌+◌}
use native.Mathlib.Omega.{arith}
use lib.ListN.{length, get_or, drop}
use lib.Seq.{take-append_seam}
use borrow.Author.Tests.{eq-eqb, ne_eqb}
use Rattle.text.specs.Text.{name_at}
use Rattle.std.specs.Prelude.{Ok}
use Rattle.class_form.specs.Form.{u2, pool_count}
use Rattle.class_form.specs.Parts.{member_at}
use Rattle.class_members.specs.Members.{head_place, fields_place, methods_place, places_from, member_places, field_places, method_places, string_at, utf8_bytes, class_bytes, file_flags, file_name, parent_index, file_parent, new_of, members_at, file_fields, file_methods}
use Rattle.file_form.specs.Grammar.{u2_bytes, each, counted, Constant, Utf8, tag_of, info_of, constant_spelling, Member, ClassFile, attribute_spelling, member_spelling, file_spelling, IsUtf8, IsClassInfo, MemberHolds, All, all_none, all_more, Holds, Derivation}
use Rattle.file_form.proofs.Spelled.{Spelled, split, begins-at, whole, spelled-u2}
use Rattle.file_form.proofs.Pool.{Constants, utf8-found, class-found}
use Rattle.file_form.proofs.Formed.{attributes-taken, members-taken}
use Rattle.file_form.proofs.Derived.{Laid, laid, head-ends}
use Rattle.file_members.specs.Own.{IsMember, AreMembers, no_members, a_member, Own}

-- ---- strings

string_is : {bs : List ℕ} {r q : ℕ} (s : List ℕ) → Spelled bs r (constant_spelling (Utf8 s)) q → string_at bs (Ok r) ≡ s
unfolding constant_spelling tag_of info_of name_at
string_is {bs} {r} {q} s a =
    let m = split (1 ∷ []) (u2_bytes (length s) ++ s) a in
    let n = split (u2_bytes (length s)) s m.right in
    let k = spelled-u2 (length s) n.left in
    let f : r + 1 ≡ m.mid = omega (arith, m.left.end) in
    let g : r + 3 ≡ n.mid = omega (arith, m.left.end, k.1) in
    rw (g, ap (u2 bs) f ∙ k.0, n.right.is) (take-append_seam s (drop q bs))

module _ (bs : List ℕ) (pool : List Constant) (end : ℕ) (has : Constants bs (pool_count bs) 1 10 pool end) where
  utf8-own : (i : ℕ) → (s : List ℕ) × IsUtf8 pool i s → IsUtf8 pool i (utf8_bytes bs i)
  unfolding utf8_bytes
  utf8-own i n = let f = utf8-found bs pool end has n.1 in rw (f.at, string_is n.0 f.spelled) n.1

  class-own : (i : ℕ) → (s : List ℕ) × IsClassInfo pool i s → IsClassInfo pool i (class_bytes bs i)
  unfolding class_bytes
  class-own i n = let f = class-found bs pool end has n.1 in rw (f.at, string_is n.0 f.spelled) n.1

  -- ---- members

  record OwnAt (m : Member) (p q last : ℕ) : Type 0 where
    is : IsMember pool m (new_of bs (member_at bs p) last)
    ends : (member_at bs p).next ≡ q

  member-own : (m : Member) (p q last : ℕ) → MemberHolds pool m → Spelled bs p (member_spelling m) q → OwnAt m p q last
  unfolding member_spelling member_at
  member-own m p q last g a =
      let c = split (u2_bytes m.flags ++ u2_bytes m.name ++ u2_bytes m.descriptor) (counted attribute_spelling m.attributes) a in
      let d = split (u2_bytes m.flags ++ u2_bytes m.name) (u2_bytes m.descriptor) c.left in
      let n = split (u2_bytes m.flags) (u2_bytes m.name) d.left in
      let x = spelled-u2 m.flags n.left in
      let y = spelled-u2 m.name n.right in
      let z = spelled-u2 m.descriptor d.right in
      let at_name : p + 2 ≡ n.mid = omega (arith, x.1) in
      let at-descriptor : p + 4 ≡ d.mid = omega (arith, x.1, y.1) in
      let at-attributes : c.mid ≡ p + 6 = omega (arith, x.1, y.1, z.1) in
      record {
        is =
            record {
              name = rw (ap (u2 bs) at_name ∙ y.0) (utf8-own m.name g.name);
              descriptor = rw (ap (u2 bs) at-descriptor ∙ z.0) (utf8-own m.descriptor g.descriptor);
              flags = x.0;
            };
        ends = rw (attributes-taken m.attributes (p + 6) q (begins-at at-attributes c.right));
      }

  members-own : {ms : List Member} (lasts : List ℕ) (k p q : ℕ) → All (MemberHolds pool) ms → Spelled bs p (each member_spelling ms) q
      → AreMembers pool ms (members_at bs lasts k (places_from bs (length ms) p))
  unfolding each members_at places_from
  members-own lasts k p q all_none a = no_members
  members-own lasts k p q (all_more {x = x} {xs = xs} g gs) a =
      let m = split (member_spelling x) (each member_spelling xs) a in
      let o = member-own x p m.mid (get_or lasts k 0) g m.left in
      rw o.ends (a_member o.is (members-own lasts (k + 1) m.mid q gs m.right))

  counted-own : (ms : List Member) (lasts : List ℕ) (p q : ℕ) → All (MemberHolds pool) ms → Spelled bs p (counted member_spelling ms) q
      → AreMembers pool ms (members_at bs lasts 0 (member_places bs p))
  unfolding counted
  counted-own ms lasts p q gs a =
      let m = split (u2_bytes (length ms)) (each member_spelling ms) a in
      let n = spelled-u2 (length ms) m.left in
      rw n.0 (members-own lasts 0 (p + 2) q gs (begins-at n.1 m.right))

-- ---- the class

head-numbers : {bs : List ℕ} {p q : ℕ} (flags this super : ℕ) (xs : List ℕ)
    → Spelled bs p (u2_bytes flags ++ u2_bytes this ++ u2_bytes super ++ counted u2_bytes xs) q
    → (u2 bs p ≡ flags) × (u2 bs (p + 2) ≡ this) × (u2 bs (p + 4) ≡ super)
head-numbers {bs} {p} flags this super xs a =
    let c = split (u2_bytes flags ++ u2_bytes this ++ u2_bytes super) (counted u2_bytes xs) a in
    let d = split (u2_bytes flags ++ u2_bytes this) (u2_bytes super) c.left in
    let n = split (u2_bytes flags) (u2_bytes this) d.left in
    let x = spelled-u2 flags n.left in
    let y = spelled-u2 this n.right in
    let z = spelled-u2 super d.right in
    let at-this : p + 2 ≡ n.mid = omega (arith, x.1) in
    let at-super : p + 4 ≡ d.mid = omega (arith, x.1, y.1) in
    (x.0, ap (u2 bs) at-this ∙ y.0, ap (u2 bs) at-super ∙ z.0)

module _ (bs : List ℕ) (f : ClassFile) (holds : Holds f) (l : Laid bs f) where
  head_at : head_place bs ≡ l.pool-end
  unfolding head_place
  head_at = rw l.pool-ends

  fields-at : fields_place bs ≡ l.head-end
  unfolding fields_place
  fields-at = rw (head_at, head-ends bs f holds l)

  -- the fields, then the methods
  record Bodies : Type 0 where
    middle : ℕ
    end : ℕ
    fields : Spelled bs l.head-end (counted member_spelling f.fields) middle
    methods : Spelled bs middle (counted member_spelling f.methods) end

  bodies : Bodies
  bodies =
      let c = split (counted member_spelling f.fields ++ counted member_spelling f.methods) (counted attribute_spelling f.attributes) l.body in
      let d = split (counted member_spelling f.fields) (counted member_spelling f.methods) c.left in
      record { middle = d.mid; end = c.mid; fields = d.left; methods = d.right }

  methods-at : methods_place bs ≡ bodies.middle
  unfolding methods_place
  methods-at =
      rw (fields-at, members-taken bs f.pool l.pool-end l.has l.head-end bodies.middle holds.fields bodies.fields)

  numbers : (u2 bs l.pool-end ≡ f.flags) × (u2 bs (l.pool-end + 2) ≡ f.this) × (u2 bs (l.pool-end + 4) ≡ f.super)
  numbers = head-numbers f.flags f.this f.super f.interfaces l.head

  own_name : IsClassInfo f.pool f.this (file_name bs)
  unfolding file_name
  own_name = rw (head_at, numbers.1) (class-own bs f.pool l.pool-end l.has f.this holds.this)

  own-flags : file_flags bs ≡ f.flags
  unfolding file_flags
  own-flags = rw head_at numbers.0

  parent_is : parent_index bs ≡ f.super
  unfolding parent_index
  parent_is = rw head_at numbers.2

  own_no_parent : f.super ≡ 0 → file_parent bs ≡ []
  unfolding file_parent
  own_no_parent z = rw (parent_is, eq-eqb f.super 0 z)

  parent-class : (f.super ≡ 0) ⊎ ((s : List ℕ) × IsClassInfo f.pool f.super s) → f.super ≢ 0
      → IsClassInfo f.pool f.super (class_bytes bs f.super)
  parent-class (inl z) n = absurd (n z)
  parent-class (inr c) n = class-own bs f.pool l.pool-end l.has f.super c

  own-parent : f.super ≢ 0 → IsClassInfo f.pool f.super (file_parent bs)
  unfolding file_parent
  own-parent n = rw (parent_is, ne_eqb f.super 0 n) (parent-class holds.super n)

  fields_own : AreMembers f.pool f.fields (file_fields bs)
  unfolding file_fields field_places
  fields_own =
      rw fields-at
      (counted-own bs f.pool l.pool-end l.has f.fields [] l.head-end bodies.middle holds.fields bodies.fields)

  methods_own : (targets : List ℕ) → AreMembers f.pool f.methods (file_methods bs targets)
  unfolding file_methods method_places
  methods_own targets =
      rw methods-at
      (counted-own bs f.pool l.pool-end l.has f.methods targets bodies.middle bodies.end holds.methods bodies.methods)

pub parent-index : (bs : List ℕ) (d : Derivation bs) → parent_index bs ≡ d.file.super
parent-index bs d =
    parent_is bs d.file d.holds (laid bs d.file d.holds (whole bs (file_spelling d.file) d.spells))

pub own : Own
own bs targets d =
    let l = laid bs d.file d.holds (whole bs (file_spelling d.file) d.spells) in
    record {
      name = own_name bs d.file d.holds l;
      no_parent = own_no_parent bs d.file d.holds l;
      parent = own-parent bs d.file d.holds l;
      flags = own-flags bs d.file d.holds l;
      fields = fields_own bs d.file d.holds l;
      methods = methods_own bs d.file d.holds l targets;
    }
