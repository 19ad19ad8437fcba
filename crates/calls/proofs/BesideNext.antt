-- The relation of two sets in which some classes are alike (`Beside`) can be turned round and put together, so a call that leaves these classes as they were
-- keeps it "in each run for itself". Assumes nothing.
use mathlib.Core.Path.{◌≡◌, refl, sym, ap, ◌∙◌}
use mathlib.Core.Logic.{◌≢◌}
use mathlib.Core.Bool.{Bool, true, false, true≢false}
use mathlib.Core.List.{List, Memᴰ}
use Prim.Native.Nat.{ℕ, zero, suc, ◌+◌, ◌≤◌, ◌<◌}
use native.Mathlib.Omega.{arith}
use lib.ListN.{length, get_or}
use lib.Dec.{eqb, leb}
use borrow.Author.Tests.{eqb-true, eqb-false, leb-false, lt-leb}
use Rattle.words.proofs.Bools.{by}
use Rattle.words.proofs.Lists.{part_ext}
use Rattle.class_sheet.specs.ClassSheet.{class_width, member_width, method_word, method_count_word, field_count_word, first_method_word, first_field_word, slot_count_word, table_place_word, method_count, class_word, class_first_method, class_method_count, class_first_field, class_field_count, class_table_place}
use Rattle.set_rules.specs.Valid.{IsClass, Valid}
use Rattle.linking.specs.Chain.{chain}
use Rattle.linking.specs.Link.{HasTable, next_free}
use Rattle.linking.specs.Ask.{Walk, hit, missed, broken, walk}
use Rattle.linking.proofs.LinkRead.{After, record_name, record_descriptor, class-name}
use Rattle.linking.proofs.LinkedBack.{Untouched}
use Rattle.linking.proofs.Rows.{Sound}
use Rattle.linking.proofs.RenumberedPackages.{Held}
use Rattle.calls.specs.Calls.{table_at}
use Rattle.calls.proofs.BesideAsk.{SameWalk, both-hit, both-missed}
use Rattle.calls.proofs.Beside.{SameMethod, SameField, Sets, chain_same}

module _ (abi : List ℕ) (E : ℕ → Type 0) where
  pub method_turned : {ws ws' : List ℕ} {m k : ℕ} → SameMethod ws ws' abi E m k → SameMethod ws' ws abi E k m
  method_turned r = record { name = sym r.name; descriptor = sym r.descriptor; flags = sym r.flags; target = sym r.target }

  pub field_turned : {ws ws' : List ℕ} {m k : ℕ} → SameField ws ws' abi E m k → SameField ws' ws abi E k m
  field_turned r = record { name = sym r.name; descriptor = sym r.descriptor; flags = sym r.flags; index = sym r.index }

  pub method_then : {ws ws' ws'' : List ℕ} {m k l : ℕ} → SameMethod ws ws' abi E m k → SameMethod ws' ws'' abi E k l → SameMethod ws ws'' abi E m l
  method_then r q = record { name = r.name ∙ q.name; descriptor = r.descriptor ∙ q.descriptor; flags = r.flags ∙ q.flags; target = r.target ∙ q.target }

  pub field_then : {ws ws' ws'' : List ℕ} {m k l : ℕ} → SameField ws ws' abi E m k → SameField ws' ws'' abi E k l → SameField ws ws'' abi E m l
  field_then r q = record { name = r.name ∙ q.name; descriptor = r.descriptor ∙ q.descriptor; flags = r.flags ∙ q.flags; index = r.index ∙ q.index }

  module _ (ws ws' : List ℕ) (a : Sets ws ws' abi E) where
    back : (d : ℕ) → IsClass ws' d → IsClass ws d
    back d l = (l.0, omega (arith, l.1, a.classes))

    forth : (d : ℕ) → IsClass ws d → IsClass ws' d
    forth d l = (l.0, omega (arith, l.1, a.classes))

    methods-many : (d : ℕ) → IsClass ws d → E d → class_method_count ws d ≡ class_method_count ws' d
    methods-many d l e = a.word d method_count_word l e (omega arith) (record { method = omega arith; field = omega arith; place = omega arith })

    fields-many : (d : ℕ) → IsClass ws d → E d → class_field_count ws d ≡ class_field_count ws' d
    fields-many d l e = a.word d field_count_word l e (omega arith) (record { method = omega arith; field = omega arith; place = omega arith })

    pub sets_turned : Sets ws' ws abi E
    sets_turned = record {
      valid = a.valid';
      valid' = a.valid;
      classes = sym a.classes;
      name = λ d l. sym (a.name d (back d l));
      untouched = λ d k l b u. sym (a.untouched d k (back d l) b u);
      interfaces = sym a.interfaces;
      interface = λ i h. sym (a.interface i (omega (arith, h, a.interfaces)));
      compilers = sym a.compilers;
      compiler = λ i h. sym (a.compiler i (omega (arith, h, a.compilers)));
      up = λ d e l c i. a.up d e (back d l) c (rw (chain_same ws ws' abi E a d (back d l).1) i);
      linked = λ d l c. sym (a.linked d (back d l) c);
      word = λ d k l c b u. sym (a.word d k (back d l) c b u);
      method = λ d j l c h. method_turned (a.method d j (back d l) c (omega (arith, h, methods-many d (back d l) c)));
      field = λ d j l c h. field_turned (a.field d j (back d l) c (omega (arith, h, fields-many d (back d l) c)));
    }

    module _ (ws'' : List ℕ) (b : Sets ws' ws'' abi E) where
      pub sets_then : Sets ws ws'' abi E
      sets_then = record {
        valid = a.valid;
        valid' = b.valid';
        classes = a.classes ∙ b.classes;
        name = λ d l. a.name d l ∙ b.name d (forth d l);
        untouched = λ d k l n u. a.untouched d k l n u ∙ b.untouched d k (forth d l) n u;
        interfaces = a.interfaces ∙ b.interfaces;
        interface = λ i h. a.interface i h ∙ b.interface i (omega (arith, h, a.interfaces));
        compilers = a.compilers ∙ b.compilers;
        compiler = λ i h. a.compiler i h ∙ b.compiler i (omega (arith, h, a.compilers));
        up = a.up;
        linked = λ d l c. a.linked d l c ∙ b.linked d (forth d l) c;
        word = λ d k l c n u. a.word d k l c n u ∙ b.word d k (forth d l) c n u;
        method = λ d j l c h. method_then (a.method d j l c h) (b.method d j (forth d l) c (omega (arith, h, methods-many d l c)));
        field = λ d j l c h. field_then (a.field d j l c h) (b.field d j (forth d l) c (omega (arith, h, fields-many d l c)));
      }

pub held_turned : {ws ws' area area' : List ℕ} {d : ℕ} → Held ws ws' area area' d → Held ws' ws area' area d
held_turned h = record { linked = sym h.linked; slots = sym h.slots; words = λ i l. sym (h.words i (omega (arith, l, h.slots))) }

pub held_then : {ws ws' ws'' area area' area'' : List ℕ} {d : ℕ} → Held ws ws' area area' d → Held ws' ws'' area' area'' d → Held ws ws'' area area'' d
held_then h g = record {
  linked = h.linked ∙ g.linked;
  slots = h.slots ∙ g.slots;
  words = λ i l. h.words i l ∙ g.words i (omega (arith, l, h.slots));
}

-- ---- a link of a class that is none of these leaves them

module _ (ws ws' abi : List ℕ) (E : ℕ → Type 0) (c : ℕ) (valid : Valid ws) (after : After ws ws' c) where
  pub left_word : (d k : ℕ) → IsClass ws d → k < class_width → Untouched k → class_word ws d k ≡ class_word ws' d k
  left_word d k l b u =
      by (eqb d c) (λ t. let e : d ≡ c = eqb-true d c t in rw e (sym (after.own k b u)))
      (λ t. sym (after.others d k l.0 l.1 b (eqb-false d c t)))

  -- a method whose record is there again
  pub method-left : (m k : ℕ) → m < method_count ws → ((v : ℕ) → v < member_width → method_word ws' k v ≡ method_word ws m v) → SameMethod ws ws' abi E m k
  method-left m k h same = record {
    name = sym (record_name ws ws' c valid after m k h same);
    descriptor = sym (record_descriptor ws ws' c valid after m k h same);
    flags = sym (same 4 (omega arith));
    target = sym (same 5 (omega arith));
  }

module _ (ws ws' abi : List ℕ) (E : ℕ → Type 0) (c : ℕ) (valid : Valid ws) (valid' : Valid ws') (after : After ws ws' c) (other : (d : ℕ) → E d → d ≢ c)
    (up : (d e : ℕ) → IsClass ws d → E d → Memᴰ e (chain ws d) → E e)
    (fields : (d j : ℕ) → IsClass ws d → E d → j < class_field_count ws d
    → SameField ws ws' abi E (class_first_field ws d + j) (class_first_field ws d + j)) where
  same_word_lem : (d k : ℕ) → IsClass ws d → E d → k < class_width → class_word ws d k ≡ class_word ws' d k
  same_word_lem d k l e b = sym (after.others d k l.0 l.1 b (other d e))

  pub after-sets : Sets ws ws' abi E
  after-sets = record {
    valid = valid;
    valid' = valid';
    classes = sym after.classes;
    name = λ d l. sym (class-name ws ws' c valid after d l.0 l.1);
    untouched = left_word ws ws' abi E c valid after;
    interfaces = sym after.interfaces;
    interface = λ i h. sym (after.interface i h);
    compilers = sym after.compilers;
    compiler = λ i h. sym (after.compiler i h);
    up = up;
    linked = λ d l e. ap (λ (p : ℕ). eqb p 0) (same_word_lem d table_place_word l e (omega arith));
    word = λ d k l e b u. same_word_lem d k l e b;
    method = λ d j l e h.
        let v = (valid.class d l).methods in
        rw (← same_word_lem d first_method_word l e (omega arith))
        (method-left ws ws' abi E c valid after (class_first_method ws d + j) (class_first_method ws d + j) (omega arith)
        (λ k b. after.method (class_first_method ws d + j) k (omega arith) b));
    field = λ d j l e h. rw (← same_word_lem d first_field_word l e (omega arith)) (fields d j l e h);
  }

  -- and their tables, which lie below the next free word
  pub after-held : (area area' : List ℕ) → ((j : ℕ) → 0 < j → j < next_free area → get_or area' j 0 ≡ get_or area j 0) → Sound ws area
      → (d : ℕ) → E d → HasTable ws d → Held ws ws' area area' d
  after-held area area' agree s d e l =
      let k : IsClass ws d = (l.some, l.among) in
      let p : class_table_place ws d ≡ class_table_place ws' d = same_word_lem d table_place_word k e (omega arith) in
      let b = s.below d l in
      record {
        linked = ap (λ (p : ℕ). eqb p 0) p;
        slots = same_word_lem d slot_count_word k e (omega arith);
        words = λ i h. rw (← p) (sym (agree (class_table_place ws d + 1 + i) (omega arith) (omega arith)));
      }

-- ---- a walk reads words below the next free one

walk_kept : (area area' : List ℕ) → ((j : ℕ) → 0 < j → j < next_free area → get_or area' j 0 ≡ get_or area j 0) → next_free area ≤ next_free area'
    → (i left read n : ℕ) → (walk area i left read n ≡ broken → ⊥) → walk area' i left read n ≡ walk area i left read n
unfolding walk
walk_kept area area' agree more i zero read n h = refl
walk_kept area area' agree more i (suc left) read n h =
    by (eqb n 0) (λ t. rw t refl)
    (λ t.
    let z = eqb-false n 0 t in
    by (leb (next_free area) (n + 1)) (λ u. absurd (h (rw (t, u) refl)))
    (λ u.
    let b = leb-false (next_free area) (n + 1) u in
    let u' = lt-leb (next_free area') (n + 1) (omega arith) in
    by (eqb (get_or area (n + 1) 0) i)
    (λ w. rw (t, u, u', agree (n + 1) (omega arith) (omega arith), w) refl)
    (λ w.
    rw (t, u, u', agree (n + 1) (omega arith) (omega arith), agree n (omega arith) (omega arith), w)
    (walk_kept area area' agree more i left (read + 1) (get_or area n 0) (λ q. h (rw (t, u, w) q))))))

-- a walk that is not broken off, and whose node lies below the next free word
pub data Safe (area : List ℕ) (slots : ℕ) : Walk → Type 0 where
  safe_hit : {n r : ℕ} → n + 2 + slots ≤ next_free area → Safe area slots (hit n r)
  safe_missed : {r : ℕ} → Safe area slots (missed r)

pub safe_of : {area area' : List ℕ} {slots : ℕ} {w w' : Walk} → SameWalk area area' slots w w' → Safe area slots w
safe_of (both-hit h a b) = safe_hit a
safe_of both-missed = safe_missed

abbrev is_broken : Walk → Bool
is_broken (hit n r) = false
is_broken (missed r) = false
is_broken broken = true

not-broken : {area : List ℕ} {slots : ℕ} {w : Walk} → Safe area slots w → w ≡ broken → ⊥
not-broken (safe_hit a) e = true≢false (sym (ap is_broken e))
not-broken safe_missed e = true≢false (sym (ap is_broken e))

pub walk_turned : {area area' : List ℕ} {slots : ℕ} {w w' : Walk} → SameWalk area area' slots w w' → SameWalk area' area slots w' w
walk_turned (both-hit h a b) = both-hit (sym h) b a
walk_turned both-missed = both-missed

pub walk_then : {area area' area'' : List ℕ} {slots : ℕ} {w w' w'' : Walk} → SameWalk area area' slots w w' → SameWalk area' area'' slots w' w''
    → SameWalk area area'' slots w w''
walk_then (both-hit h a b) (both-hit g a' b') = both-hit (h ∙ g) a b'
walk_then both-missed both-missed = both-missed

module _ (area area' : List ℕ) (agree : (j : ℕ) → 0 < j → j < next_free area → get_or area' j 0 ≡ get_or area j 0) (more : next_free area ≤ next_free area')
    (long : length area' ≡ length area) (slots : ℕ) where
  same-node : {w : Walk} → Safe area slots w → SameWalk area area' slots w w
  same-node (safe_hit {n} {r} a) =
      let b : n + 2 + slots ≤ next_free area' = omega arith in
      let e : table_at area (n + 1) slots ≡ table_at area' (n + 1) slots =
      sym (part_ext 0 area' area (n + 1 + 1) slots long (λ j h k. agree j (omega arith) (omega arith))) in
      both-hit e a b
  same-node safe_missed = both-missed

  pub walk-next : (i head : ℕ) → 0 < head → head < next_free area → Safe area slots (walk area i 64 0 (get_or area head 0))
      → SameWalk area area' slots (walk area i 64 0 (get_or area head 0)) (walk area' i 64 0 (get_or area' head 0))
  walk-next i head p b s =
      let e : walk area' i 64 0 (get_or area' head 0) ≡ walk area i 64 0 (get_or area head 0) =
      ap (walk area' i 64 0) (agree head p b) ∙ walk_kept area area' agree more i 64 0 (get_or area head 0) (not-broken s) in
      rw e (same-node s)
