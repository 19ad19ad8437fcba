-- Laws of the classes that Reading gives: a slot has a class exactly if it has a mark, so what a class marked in its turn is what it claims
-- after it. Assumes nothing.
use mathlib.Core.Path.{◌≡◌, refl, sym, ap, ◌∙◌}
use mathlib.Core.Bool.{true, false}
use mathlib.Core.List.{List}
use Prim.Native.Nat.{ℕ, ◌+◌, ◌≤◌, ◌<◌}
use native.Mathlib.Omega.{arith}
use lib.ListN.{length, get_or, set, take, drop}
use lib.Seq.{ext_get_or, take_at}
use lib.Dec.{eqb}
use borrow.Author.Tests.{eqb-true, ne_eqb, lt-ltb}
use Rattle.words.specs.Folds.{table, stores}
use Rattle.words.specs.Lists.{list_from}
use Rattle.std.specs.Option.{option_or}
use Rattle.std.specs.Prelude.{Option, Some, None}
use Rattle.words.proofs.Bools.{by}
use Rattle.words.proofs.FoldLaws.{length-table, get_d_table, stores-turn, stores-is, length-stores, stores_at}
use Rattle.words.proofs.ListLaws.{length-list-from, get_d_list_from}
use Rattle.class_sheet.specs.ClassSheet.{class_first_method, class_method_count, class_table_place, method_limit}
use Rattle.linking.specs.declared.Declared.{Declared}
use Rattle.linking.specs.Whose.{declared, method_of, declaring_class, declared_in, first_declared, declared_by_target, declared_by_index, read_declared, slot_class}
use Rattle.linking.specs.Signature.{Same}
use Rattle.linking.specs.Chain.{parent_of, chain, own_target, find_by_target}
use Rattle.linking.specs.Vtable.{own_fixed}
use Rattle.linking.proofs.ChainLaws.{chain-none, chain_more, own-target-room, own-fixed-room}
use Rattle.linking.proofs.Whose.{nearest-counts, declared-class, target_found}
use Rattle.chain.specs.Records.{method_records, first_target}
use Rattle.chain.proofs.RecordLaws.{record_target}
use Rattle.reading.specs.Arrays.{mark_of, or_mark, marks_with}
use Rattle.reading.specs.Classes.{claimed, claims, or_class, classes_with, Paired}
use Rattle.reading.proofs.MarkLaws.{stores-rest, stores-ext, stores-past, stores-twice, stores_same, marks_at_lem, list-from-ext}

-- ---- one slot

-- what is answered for a slot: a class above 0, and one of the sheet's methods
abbrev pub Sound : Option Declared → Type 0
Sound a = (d m : ℕ) → a ≡ declared d m → (0 < d) × (m < method_limit)

mark-above : (m : ℕ) → m < method_limit → eqb (mark_of (Some m)) 0 ≡ false
unfolding mark_of
mark-above m h = rw (lt-ltb m 4095 (omega arith)) (ne_eqb (m + 1) 0 (λ (z : m + 1 ≡ 0). absurd (omega arith)))

-- what class c marked it claims
claim-slot : (c k d : ℕ) (f : Option ℕ) → ((m : ℕ) → f ≡ Some m → m < method_limit) → eqb d 0 ≡ eqb k 0
    → claimed c (or_mark k f) d ≡ or_class d (declared_in c f)
unfolding claimed or_mark or_class mark_of
claim-slot c k d (Some m) h e =
    by (eqb k 0) (λ t. let u : eqb d 0 ≡ true = e ∙ t in rw (t, u, mark-above m (h m refl))) (λ t. let u : eqb d 0 ≡ false = e ∙ t in rw u)
claim-slot c k d None h e =
    by (eqb k 0) (λ t. let u : eqb d 0 ≡ true = e ∙ t in rw (t, u) (eqb-true d 0 u)) (λ t. let u : eqb d 0 ≡ false = e ∙ t in rw u)

-- a slot that has a class exactly if it has a mark keeps to that
pair-slot : (k d : ℕ) (a : Option Declared) → Sound a → eqb d 0 ≡ eqb k 0 → eqb (or_class d a) 0 ≡ eqb (or_mark k (method_of a)) 0
unfolding or_mark or_class mark_of
pair-slot k d (Some a) h e =
    let x = a.class in
    let s = h a.class a.method refl in
    by (eqb k 0)
    (λ t. let u : eqb d 0 ≡ true = e ∙ t in rw (t, u, mark-above a.method s.1) (ne_eqb x 0 (λ (z : x ≡ 0). absurd (omega arith))))
    (λ t. let u : eqb d 0 ≡ false = e ∙ t in rw (t, u) e)
pair-slot k d None h e =
    by (eqb k 0) (λ t. let u : eqb d 0 ≡ true = e ∙ t in rw (t, u)) (λ t. let u : eqb d 0 ≡ false = e ∙ t in rw (t, u) e)

class-none : (d : ℕ) (a : Option Declared) → a ≡ None → or_class d a ≡ d
unfolding or_class
class-none d a e = by (eqb d 0) (λ t. rw (e, t) (sym (eqb-true d 0 t))) (λ t. rw t)

-- a search after another
class-then : (d : ℕ) (a b : Option Declared) → Sound a → or_class (or_class d a) b ≡ or_class d (option_or a b)
unfolding or_class
class-then d (Some a) b h =
    let x = a.class in
    let s = h a.class a.method refl in
    by (eqb d 0) (λ t. rw t (rw (ne_eqb x 0 (λ (z : x ≡ 0). absurd (omega arith))))) (λ t. rw t (rw t refl))
class-then d None b h = by (eqb d 0) (λ t. rw t) (λ t. rw t (rw t refl))

-- ---- the loop that claims

pub claims-start : (c : ℕ) (ms cs : List ℕ) → cs ≡ claims c 0 ms cs
unfolding claims stores
claims-start c ms cs = refl

pub claims-turn : (c i : ℕ) (ms cs : List ℕ) {ds es : List ℕ} {v : ℕ} → ds ≡ claims c i ms cs → v ≡ claimed c (get_or ms i 0) (get_or ds i 0)
    → es ≡ set ds i v → es ≡ claims c (i + 1) ms cs
unfolding claims
claims-turn c i ms cs e v u =
    let f : ℕ → ℕ = λ j. claimed c (get_or ms j 0) (get_or cs j 0) in
    stores-turn i f cs u e (v ∙ rw (e, stores-rest i f cs i (omega arith)))

-- ---- n classes

module _ (f : ℕ → Option Declared) (n : ℕ) (cs : List ℕ) where
  classes-at : (i : ℕ) → i < n → n ≤ length cs → get_or (classes_with f n cs) i 0 ≡ or_class (get_or cs i 0) (f i)
  unfolding classes_with
  classes-at i h g = stores_at n (λ j. or_class (get_or cs j 0) (f j)) cs i h g

  classes-past : n ≤ length cs → drop n (classes_with f n cs) ≡ drop n cs
  unfolding classes_with
  classes-past h = stores-past n (λ i. or_class (get_or cs i 0) (f i)) cs h

  classes-taken : n ≤ length cs → take n (classes_with f n cs) ≡ list_from (λ i. or_class (get_or cs i 0) (f i)) 0 n
  unfolding classes_with
  classes-taken h =
      let v : ℕ → ℕ = λ i. or_class (get_or cs i 0) (f i) in
      let t = length-table n v in
      let l = length-list-from v 0 n in
      rw (stores-is n v cs h) (take_at (table n v) (drop n cs) n t ∙ ext_get_or 0 (table n v) (list_from v 0 n) (omega arith)
      (λ i j. let z : 0 + i ≡ i = omega arith in get_d_table n v i (omega arith) ∙ sym (get_d_list_from v 0 n i 0 (omega arith) ∙ ap v z)))

  classes-none : ((i : ℕ) → f i ≡ None) → cs ≡ classes_with f n cs
  unfolding classes_with
  classes-none h = sym (stores_same n (λ i. or_class (get_or cs i 0) (f i)) cs (λ i. class-none (get_or cs i 0) (f i) (h i)))

  classes-then : (g h : ℕ → Option Declared) → n ≤ length cs → ((i : ℕ) → Sound (f i)) → ((i : ℕ) → option_or (f i) (g i) ≡ h i)
      → classes_with g n (classes_with f n cs) ≡ classes_with h n cs
  unfolding classes_with
  classes-then g h l s e =
      let v : ℕ → ℕ = λ i. or_class (get_or cs i 0) (f i) in
      stores-ext n (λ i. or_class (get_or (stores n v cs) i 0) (g i)) (λ i. or_class (get_or cs i 0) (h i)) (stores n v cs)
      (λ i j. rw (stores_at n v cs i j l, ← e i) (class-then (get_or cs i 0) (f i) (g i) (s i)))
      ∙ stores-twice n v (λ i. or_class (get_or cs i 0) (h i)) cs l

-- ---- marks and classes together

pub paired_start : (n : ℕ) (ms cs : List ℕ) {ns ds : List ℕ} → ns ≡ stores n (λ i. 0) ms → ds ≡ stores n (λ i. 0) cs → n ≤ length ms
    → n ≤ length cs → Paired n ns ds
unfolding Paired
paired_start n ms cs e f h g = λ i l. rw (e, f, stores_at n (λ i. 0) ms i l h, stores_at n (λ i. 0) cs i l g)

paired_with : (f : ℕ → Option ℕ) (g : ℕ → Option Declared) (n : ℕ) (ms cs : List ℕ) {ns ds : List ℕ} → ((i : ℕ) → method_of (g i) ≡ f i)
    → ((i : ℕ) → Sound (g i)) → n ≤ length ms → n ≤ length cs → Paired n ms cs → ns ≡ marks_with f n ms → ds ≡ classes_with g n cs → Paired n ns ds
unfolding Paired
paired_with f g n ms cs m s h k p e d =
    λ i l. rw (e, d, marks_at_lem f n ms i l h, classes-at g n cs i l k, ← m i) (pair-slot (get_or ms i 0) (get_or cs i 0) (g i) (s i) (p i l))

in_method : (c : ℕ) (f : Option ℕ) → method_of (declared_in c f) ≡ f
in_method c (Some m) = refl
in_method c None = refl

in_sound : (c : ℕ) (f : Option ℕ) → 0 < c → ((m : ℕ) → f ≡ Some m → m < method_limit) → Sound (declared_in c f)
in_sound c (Some k) h r d m e =
    let x : c ≡ d = ap declaring_class e in let y : ◌≡◌ {A = Option ℕ} (Some k) (Some m) = ap method_of e in (omega arith, r m y)
in_sound c None h r d m e = absurd (let z : ◌≡◌ {A = ℕ} 0 1 = cc in omega arith)

-- a class's turn: it marks by its own search, and claims
module _ (c n : ℕ) (own : ℕ → Option ℕ) (ms cs : List ℕ) {ns ds : List ℕ} (some : 0 < c) (room : (i m : ℕ) → own i ≡ Some m → m < method_limit)
    (h : n ≤ length ms) (g : n ≤ length cs) (paired : Paired n ms cs) (marks : ns ≡ marks_with own n ms) (classes : ds ≡ claims c n ns cs) where
  turn_is : ds ≡ classes_with (λ i. declared_in c (own i)) n cs
  unfolding classes_with claims Paired
  turn_is =
      classes ∙ stores-ext n (λ i. claimed c (get_or ns i 0) (get_or cs i 0)) (λ i. or_class (get_or cs i 0) (declared_in c (own i))) cs
      (λ i l. rw (marks, marks_at_lem own n ms i l h) (claim-slot c (get_or ms i 0) (get_or cs i 0) (own i) (room i) (paired i l)))

  turn-sound : (i : ℕ) → Sound (declared_in c (own i))
  turn-sound i = in_sound c (own i) some (room i)

  turn_paired : Paired n ns ds
  turn_paired = paired_with own (λ i. declared_in c (own i)) n ms cs (λ i. in_method c (own i)) turn-sound h g paired marks turn_is

  turn-then : (up all : ℕ → Option Declared) {es : List ℕ} → ((i : ℕ) → option_or (declared_in c (own i)) (up i) ≡ all i) → es ≡ classes_with up n ds
      → es ≡ classes_with all n cs
  turn-then up all e u = u ∙ rw turn_is (classes-then (λ i. declared_in c (own i)) n cs up all g turn-sound e)

-- ---- searches along the chain

module _ (f : ℕ → Option ℕ) (ws : List ℕ) (c : ℕ) where
  pub declared-none : c ≡ 0 → first_declared f (chain ws c) ≡ None
  unfolding first_declared
  declared-none e = rw (chain-none ws c e)

  pub declared-step : 0 < c → option_or (declared_in c (f c)) (first_declared f (chain ws (parent_of ws c))) ≡ first_declared f (chain ws c)
  unfolding first_declared
  declared-step h = rw (chain_more ws c h)

  declared-sound : ((x m : ℕ) → f x ≡ Some m → m < method_limit) → Sound (first_declared f (chain ws c))
  declared-sound r d m e = ((declared-class f ws c d m e).0, r d m (nearest-counts f (chain ws c) d m e).finds)

-- ---- by target

module _ (ws ts : List ℕ) (c n : ℕ) (ms cs : List ℕ) where
  pub targets-nobody : c ≡ 0 → cs ≡ classes_with (λ i. declared_by_target ws c (get_or ts i 0)) n cs
  unfolding declared_by_target
  targets-nobody e =
      classes-none (λ i. first_declared (own_target ws (get_or ts i 0)) (chain ws c)) n cs (λ i. declared-none (own_target ws (get_or ts i 0)) ws c e)

  module _ {r ns ds : List ℕ} {first count : ℕ} (records : r ≡ method_records ws) (from : first ≡ class_first_method ws c)
      (many : count ≡ class_method_count ws c) (marks : ns ≡ marks_with (λ i. first_target r first count (get_or ts i 0)) n ms)
      (classes : ds ≡ claims c n ns cs) (some : 0 < c) (h : n ≤ length ms) (g : n ≤ length cs) (paired : Paired n ms cs) where
    own_marks : ns ≡ marks_with (λ i. own_target ws (get_or ts i 0) c) n ms
    unfolding marks_with
    own_marks =
        marks ∙ stores-ext n (λ i. or_mark (get_or ms i 0) (first_target r first count (get_or ts i 0)))
        (λ i. or_mark (get_or ms i 0) (own_target ws (get_or ts i 0) c)) ms (λ i l. rw (record_target ws (get_or ts i 0) c records from many))

    pub targets_paired : Paired n ns ds
    targets_paired =
        turn_paired c n (λ i. own_target ws (get_or ts i 0) c) ms cs some (λ i. own-target-room ws (get_or ts i 0) c) h g paired own_marks classes

    pub targets-declared : {es : List ℕ} {p : ℕ} → p ≡ parent_of ws c → es ≡ classes_with (λ i. declared_by_target ws p (get_or ts i 0)) n ds
        → es ≡ classes_with (λ i. declared_by_target ws c (get_or ts i 0)) n cs
    unfolding declared_by_target
    targets-declared {p = p} e u =
        turn-then c n (λ i. own_target ws (get_or ts i 0) c) ms cs some (λ i. own-target-room ws (get_or ts i 0) c) h g paired own_marks classes
        (λ i. first_declared (own_target ws (get_or ts i 0)) (chain ws p)) (λ i. first_declared (own_target ws (get_or ts i 0)) (chain ws c))
        (λ i. rw e (declared-step (own_target ws (get_or ts i 0)) ws c some)) u

-- ---- by index

module _ (same : Same) (ws text abi labels : List ℕ) (c n : ℕ) (ms cs : List ℕ) where
  pub indices-nobody : c ≡ 0 → cs ≡ classes_with (declared_by_index same ws text abi labels c) n cs
  unfolding declared_by_index
  indices-nobody e =
      classes-none (λ i. first_declared (own_fixed same ws text abi labels i) (chain ws c)) n cs
      (λ i. declared-none (own_fixed same ws text abi labels i) ws c e)

  module _ {ns ds : List ℕ} (marks : ns ≡ marks_with (λ i. own_fixed same ws text abi labels i c) n ms) (classes : ds ≡ claims c n ns cs) (some : 0 < c)
      (h : n ≤ length ms) (g : n ≤ length cs) (paired : Paired n ms cs) where
    pub indices_paired : Paired n ns ds
    indices_paired =
        turn_paired c n (λ i. own_fixed same ws text abi labels i c) ms cs some (λ i. own-fixed-room same ws text abi labels i c) h g paired marks classes

    pub indices-declared : {es : List ℕ} {p : ℕ} → p ≡ parent_of ws c → es ≡ classes_with (declared_by_index same ws text abi labels p) n ds
        → es ≡ classes_with (declared_by_index same ws text abi labels c) n cs
    unfolding declared_by_index
    indices-declared {p = p} e u =
        turn-then c n (λ i. own_fixed same ws text abi labels i c) ms cs some (λ i. own-fixed-room same ws text abi labels i c) h g paired marks classes
        (λ i. first_declared (own_fixed same ws text abi labels i) (chain ws p)) (λ i. first_declared (own_fixed same ws text abi labels i) (chain ws c))
        (λ i. rw e (declared-step (own_fixed same ws text abi labels i) ws c some)) u

-- ---- a whole table

target_sound : (ws : List ℕ) (c t : ℕ) → Sound (declared_by_target ws c t)
unfolding declared_by_target
target_sound ws c t = declared-sound (own_target ws t) ws c (λ x m e. own-target-room ws t x m e)

-- its words copied, then marked and claimed by target
module _ (ws area : List ℕ) (place c n : ℕ) (ts ms cs : List ℕ) {us ns ds ks es : List ℕ} (t : us ≡ stores n (λ i. get_or area (place + 1 + i) 0) ts)
    (z : ns ≡ stores n (λ i. 0) ms) (y : ds ≡ stores n (λ i. 0) cs) (k : ks ≡ marks_with (λ i. find_by_target ws c (get_or us i 0)) n ns)
    (e : es ≡ classes_with (λ i. declared_by_target ws c (get_or us i 0)) n ds) (r : n ≤ length ts) (s : n ≤ length ms) (q : n ≤ length cs) where
  marks_room : n ≤ length ns
  marks_room = let l = length-stores n (λ i. 0) ms in rw z (omega arith)

  classes-room : n ≤ length ds
  classes-room = let l = length-stores n (λ i. 0) cs in rw y (omega arith)

  pub read_paired : Paired n ks es
  read_paired =
      paired_with (λ i. find_by_target ws c (get_or us i 0)) (λ i. declared_by_target ws c (get_or us i 0)) n ns ds
      (λ i. target_found ws c (get_or us i 0)) (λ i. target_sound ws c (get_or us i 0)) marks_room classes-room (paired_start n ms cs z y s q) k e

  -- and then by index
  module _ (same : Same) (text abi labels : List ℕ) {fs : List ℕ}
      (f : fs ≡ classes_with (declared_by_index same ws text abi labels c) n es) (at : place ≡ class_table_place ws c) where
    abbrev both : ℕ → Option Declared
    both i = option_or (declared_by_target ws c (get_or us i 0)) (declared_by_index same ws text abi labels c i)

    both_is : fs ≡ classes_with both n ds
    both_is =
        f ∙ rw e (classes-then (λ i. declared_by_target ws c (get_or us i 0)) n ds (declared_by_index same ws text abi labels c) both classes-room
        (λ i. target_sound ws c (get_or us i 0)) (λ i. refl))

    slot_is_lem : (i : ℕ) → i < n → or_class (get_or ds i 0) (both i) ≡ slot_class same ws text abi labels area c i
    unfolding or_class slot_class read_declared
    slot_is_lem i h =
        let a : get_or ds i 0 ≡ 0 = rw y (stores_at n (λ i. 0) cs i h q) in
        let b : get_or us i 0 ≡ get_or area (class_table_place ws c + 1 + i) 0 = rw (t, ← at) (stores_at n (λ i. get_or area (place + 1 + i) 0) ts i h r) in
        rw (a, b)

    pub read_classes : (take n fs ≡ list_from (slot_class same ws text abi labels area c) 0 n) × (drop n fs ≡ drop n cs)
    read_classes = (
      rw both_is (classes-taken both n ds classes-room
          ∙ list-from-ext (λ i. or_class (get_or ds i 0) (both i)) (slot_class same ws text abi labels area c) 0 n (λ i h. slot_is_lem i (omega arith))),
      rw both_is (classes-past both n ds classes-room ∙ rw y (stores-past n (λ i. 0) cs q)),
    )
