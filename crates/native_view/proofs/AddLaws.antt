-- Laws of the methods that compiler targets add. Assumes nothing.
use mathlib.Core.Path.{◌≡◌, refl, sym, ap, ◌∙◌}
use mathlib.Core.Bool.{Bool, true, false, ◌||◌}
use mathlib.Core.List.{List, [], ◌∷◌, ◌++◌, append_assoc, append-nil}
use Prim.Native.Nat.{ℕ, ◌+◌, ◌-◌, ◌≤◌, ◌<◌, min, ◌/◌, ◌%◌}
use native.Mathlib.Omega.{arith}
use lib.ListN.{length, get_or, take, length-append, length-take}
use lib.Dec.{eqb}
use borrow.Author.Tests.{eq-eqb, ne_eqb}
use Rattle.words.specs.Lists.{first_found, all_found, some}
use Rattle.std.specs.Option.{option_or, option_and_then}
use Rattle.std.specs.Prelude.{Option, Some, None}
use Rattle.words.proofs.Bools.{by}
use Rattle.words.proofs.ListLaws.{by-found, found_from, found-start, rest_from, rest-start, rest-turn, rest_end}
use Rattle.class_sheet.specs.ClassSheet.{class_first_interface, class_interface_count, class_compiler_table, class_compiler_slots, compiler_word, interface_word, method_flags, interface_limit}
use Rattle.linking.specs.Signature.{Same, of_method}
use Rattle.linking.specs.Chain.{list_count, own_methods, own_interfaces}
use Rattle.linking.specs.Abi.{slot_at, class_abi}
use Rattle.linking.specs.Vtable.{Entry, empty}
use Rattle.linking.specs.Compiler.{Taken, signature_sources, from_method, from_slot, is_declared, add_named, add_from, added_from, compiler_targets, native_view, added_methods}
use Rattle.linking.proofs.ChainLaws.{own-interfaces-length, own-interface-at}
use Rattle.growth.specs.declared.news.Member.{Member}
use Rattle.growth.specs.declared.news.Named.{Named}
use Rattle.growth.specs.declared.news.Named.TheVariants.{Method, Slot, Field}
use Rattle.growth.specs.News.{ref_place, ref_name, ref_descriptor, new_of, taken_of}
use Rattle.native_view.specs.Native.{interface_slot, source_ref, ref_flags, member_of, added_at}
use Rattle.native_view.proofs.FoundLaws.{found-cons, found_all}

pub pushed_count : (xs : List Member) (m : Member) {ys : List Member} → ys ≡ take 1024 (xs ++ m ∷ []) → length ys ≤ length xs + 1
pushed_count xs m e = rw e (omega (arith, length-take 1024 (xs ++ m ∷ []), length-append xs (m ∷ [])))

pub interface-end : (ws : List ℕ) (c k : ℕ) {n : ℕ} → n ≤ k → n ≡ list_count (class_first_interface ws c) (class_interface_count ws c) interface_limit
    → length (own_interfaces ws c) ≤ k
interface-end ws c k h e = omega (arith, own-interfaces-length ws c)

pub interface-start : (p : ℕ → Option ℕ) (xs : List ℕ) (f : ℕ) → found_from p xs (f - f) ≡ first_found p xs
interface-start p xs f = let z : f - f ≡ 0 = omega arith in rw z (found-start p xs)

-- ---- flags

module _ (ws : List ℕ) {r : Named} where
  pub flags_slot : {s : ℕ} → r ≡ Slot s → 1 ≡ ref_flags ws r
  unfolding ref_flags
  flags_slot h = rw h refl

  pub flags_field : {f : ℕ} → r ≡ Field f → 1 ≡ ref_flags ws r
  unfolding ref_flags
  flags_field h = rw h refl

  pub flags_abstract : (m : ℕ) {f : ℕ} → r ≡ Method m → f ≡ method_flags ws m → f / 1024 % 2 ≡ 1 → f - 1024 ≡ ref_flags ws r
  unfolding ref_flags
  flags_abstract m {f = f} h e a = rw h (rw (← e) (simp (eq-eqb (f / 1024 % 2) 1 a)))

  pub flags_same : (m : ℕ) {f : ℕ} → r ≡ Method m → f ≡ method_flags ws m → (f / 1024 % 2 ≡ 1 → ⊥) → f ≡ ref_flags ws r
  unfolding ref_flags
  flags_same m {f = f} h e a = rw h (rw (← e) (simp (ne_eqb (f / 1024 % 2) 1 a)))

abbrev pub target_at : List ℕ → ℕ → ℕ → ℕ
target_at ws c i = compiler_word ws (class_compiler_table ws c - 1 + i)

module _ (ws text abi labels : List ℕ) where
  -- ---- what a target takes its signature from

  module _ (i c : ℕ) where
    -- a turn of the loop along the interfaces
    interface-is : (k : ℕ) {f n d : ℕ} {r : Option ℕ} → k < n → n ≡ list_count (class_first_interface ws c) (class_interface_count ws c) interface_limit
        → f ≡ class_first_interface ws c → d ≡ interface_word ws (f + k) → r ≡ option_and_then (slot_at abi i) (class_abi ws text abi labels d)
        → (k < length (own_interfaces ws c)) × (r ≡ interface_slot ws text abi labels i (get_or (own_interfaces ws c) k 0))
    unfolding interface_slot
    interface-is k h e g p q =
        let l : k < length (own_interfaces ws c) = omega (arith, own-interfaces-length ws c) in
        (l, rw (own-interface-at ws c k l, q, p, g))

    -- the same by the interface word's number
    pub interface-at : (j : ℕ) {f n d : ℕ} {r : Option ℕ} → f ≤ j → j < f + n
        → n ≡ list_count (class_first_interface ws c) (class_interface_count ws c) interface_limit
        → f ≡ class_first_interface ws c → d ≡ interface_word ws j → r ≡ option_and_then (slot_at abi i) (class_abi ws text abi labels d)
        → (j - f < length (own_interfaces ws c)) × (r ≡ interface_slot ws text abi labels i (get_or (own_interfaces ws c) (j - f) 0))
    interface-at j {f = f} {n = n} low h e g p q =
        let z : f + (j - f) ≡ j = omega arith in
        let k : j - f < n = omega arith in
        interface-is (j - f) k e g (rw z p) q

    sources_are : first_found (slot_at abi i) (signature_sources ws text abi labels c)
        ≡ option_or (option_and_then (slot_at abi i) (class_abi ws text abi labels c)) (first_found (interface_slot ws text abi labels i) (own_interfaces ws c))
    unfolding signature_sources interface_slot
    sources_are =
        found-cons (slot_at abi i) (class_abi ws text abi labels c)
        (all_found (λ k. class_abi ws text abi labels (interface_word ws k)) (own_interfaces ws c))
        ∙ ap (option_or (option_and_then (slot_at abi i) (class_abi ws text abi labels c)))
        (found_all (slot_at abi i) (λ k. class_abi ws text abi labels (interface_word ws k)) (own_interfaces ws c))

    module _ {r : Option ℕ} (own : r ≡ option_and_then (slot_at abi i) (class_abi ws text abi labels c)) where
      pub source_own : (s : ℕ) → r ≡ Some s → Some s ≡ first_found (slot_at abi i) (signature_sources ws text abi labels c)
      source_own s e = rw (sources_are, ← own, e)

      pub source_next : {q : Option ℕ} → r ≡ None → q ≡ first_found (interface_slot ws text abi labels i) (own_interfaces ws c)
          → q ≡ first_found (slot_at abi i) (signature_sources ws text abi labels c)
      source_next e g = rw (sources_are, ← own, e) g

    module _ (f : Option ℕ) {o : Option ℕ} (h : o ≡ f) where
      pub ref_method : (m : ℕ) → o ≡ Some m → Some (Method m) ≡ source_ref ws text abi labels c i f
      unfolding source_ref
      ref_method m e = rw (← h, e)

      module _ (z : o ≡ None) {r : Option ℕ} (e : r ≡ first_found (slot_at abi i) (signature_sources ws text abi labels c)) where
        pub ref_slot : (s : ℕ) → r ≡ Some s → Some (Slot s) ≡ source_ref ws text abi labels c i f
        unfolding source_ref
        ref_slot s t = rw (← h, z) (rw (← e, t))

        pub ref_none : r ≡ None → None ≡ source_ref ws text abi labels c i f
        unfolding source_ref
        ref_none t = rw (← h, z) (rw (← e, t))

  -- ---- a method that is added, by what names it

  abbrev pub taken_by : Named → ℕ → Taken
  taken_by r t = taken_of ws text abi labels (member_of ws r t)

  of-method : (m t : ℕ) → taken_by (Method m) t ≡ from_method ws text m t
  unfolding taken_of new_of ref_place ref_name ref_descriptor ref_flags
  of-method m t = refl

  of-slot : (s t : ℕ) → taken_by (Slot s) t ≡ from_slot abi labels s t
  unfolding taken_of new_of ref_place ref_name ref_descriptor ref_flags
  of-slot s t = refl

module _ (same : Same) (ws text abi labels : List ℕ) where
  -- ---- it is added unless it is declared

  module _ (c : ℕ) (r : Named) (t : ℕ) (xs : List Taken) {b : Bool} (e : b ≡ some (λ m. same (of_method m) (ref_place r)) (own_methods ws c)) where
    declared-is : b ≡ is_declared same ws c (taken_by ws text abi labels r t)
    unfolding is_declared taken_of
    declared-is = e

    pub named-old : b ≡ true → xs ≡ xs ++ add_named same ws c (taken_by ws text abi labels r t) []
    unfolding add_named
    named-old h = rw (← declared-is, h) (sym (append-nil xs))

    pub named_new : {ys : List Taken} {fl : ℕ} → b ≡ false → fl ≡ ref_flags ws r
        → ys ≡ xs ++ (taken_of ws text abi labels (record { names = r; flags = fl; last = t }) ∷ [])
        → ys ≡ xs ++ add_named same ws c (taken_by ws text abi labels r t) []
    unfolding add_named
    named_new h k m = rw (← declared-is, h) (m ∙ rw k)

  -- ---- what one target adds

  abbrev named_by : ℕ → ℕ → Option Named → List Taken
  named_by c t (Some r) = add_named same ws c (taken_by ws text abi labels r t) []
  named_by c t None = []

  add-from : (c i t : ℕ) (e : Entry) → add_from same ws text abi labels c i t e.method [] ≡ named_by c t (source_ref ws text abi labels c i e.method)
  unfolding source_ref
  add-from c i t e =
      by-found e.method
      (λ m q. rw q (ap (λ (x : Taken). add_named same ws c x []) (sym (of-method ws text abi labels m t))))
      (λ q.
      rw q
      (by-found (first_found (slot_at abi i) (signature_sources ws text abi labels c))
      (λ s p. rw p (ap (λ (x : Taken). add_named same ws c x []) (sym (of-slot ws text abi labels s t))))
      (λ p. rw p)))

  module _ (c i t : ℕ) (e : Entry) (xs : List Taken) where
    pub add_skip : (eqb t 0 || eqb t e.word) ≡ true → xs ≡ xs ++ added_at same ws text abi labels c i t e
    unfolding added_at
    add_skip h = rw h (sym (append-nil xs))

    module _ (h : (eqb t 0 || eqb t e.word) ≡ false) {q : Option Named} (f : q ≡ source_ref ws text abi labels c i e.method) where
      pub add_at : (r : Named) {ys : List Taken} → q ≡ Some r → ys ≡ xs ++ add_named same ws c (taken_by ws text abi labels r t) []
          → ys ≡ xs ++ added_at same ws text abi labels c i t e
      unfolding added_at
      add_at r g m = rw (h, add-from c i t e, ← f, g) m

      pub add_none : q ≡ None → xs ≡ xs ++ added_at same ws text abi labels c i t e
      unfolding added_at
      add_none g = rw (h, add-from c i t e, ← f, g) (sym (append-nil xs))

  -- ---- the loop along the targets

  unfoldable pub add_rest : ℕ → List Entry → ℕ → ℕ → List Taken
  add_rest c view count i = added_from same ws text abi labels c view i (rest_from (target_at ws c) 0 count i)

  add-cons : (c : ℕ) (view : List Entry) (i t : ℕ) (ts : List ℕ) → added_from same ws text abi labels c view i (t ∷ ts)
      ≡ added_at same ws text abi labels c i t (get_or view i empty) ++ added_from same ws text abi labels c view (i + 1) ts
  unfolding added_from added_at add_named
  add-cons c view i t ts =
      by (eqb t 0 || eqb t (get_or view i empty).word) (λ q. rw q)
      (λ q.
      rw q
      (by-found (get_or view i empty).method
      (λ m p. rw p (by (is_declared same ws c (from_method ws text m t)) (λ d. rw d) (λ d. rw d)))
      (λ p.
      rw p
      (by-found (first_found (slot_at abi i) (signature_sources ws text abi labels c))
      (λ s o. rw o (by (is_declared same ws c (from_slot abi labels s t)) (λ d. rw d) (λ d. rw d)))
      (λ o. rw o)))))

  module _ (c : ℕ) (view : List Entry) where
    -- the loop's entry, where there are none
    pub rest_begin : (count : ℕ) {xs : List Taken} → xs ≡ [] → count ≡ min (class_compiler_slots ws c) 1024
        → xs ++ add_rest c view count 0 ≡ added_from same ws text abi labels c view 0 (compiler_targets ws c)
    unfolding add_rest compiler_targets
    rest_begin count f e = rw (f, rest-start (target_at ws c) 0 count, e)

    -- a turn, by what the callees ensure: the members before and after
    pub rest-turned : (count i : ℕ) (A xs : List Taken) {ys : List Taken} {t : ℕ} {e : Entry} → i < count → t ≡ target_at ws c i → e ≡ get_or view i empty
        → ys ≡ xs ++ added_at same ws text abi labels c i t e → xs ++ add_rest c view count i ≡ A → ys ++ add_rest c view count (i + 1) ≡ A
    unfolding add_rest
    rest-turned count i A xs {t = t} {e = e} h et ee f g =
        let z : 0 + i ≡ i = omega arith in
        let r : rest_from (target_at ws c) 0 count i ≡ t ∷ rest_from (target_at ws c) 0 count (i + 1) =
        rw et (rest-turn (target_at ws c) 0 count i h ∙ rw z) in
        let o : added_from same ws text abi labels c view i (rest_from (target_at ws c) 0 count i)
        ≡ added_at same ws text abi labels c i t e ++ added_from same ws text abi labels c view (i + 1) (rest_from (target_at ws c) 0 count (i + 1)) =
        rw (r, ee) (add-cons c view i t (rest_from (target_at ws c) 0 count (i + 1))) in
        rw f
        (append_assoc xs (added_at same ws text abi labels c i t e)
        (added_from same ws text abi labels c view (i + 1) (rest_from (target_at ws c) 0 count (i + 1))))
        ∙ ap (λ (l : List Taken). xs ++ l) (sym o) ∙ g

    pub rest-none : (count i : ℕ) (A : List Taken) {xs : List Taken} → count ≤ i → xs ++ add_rest c view count i ≡ A → xs ≡ A
    unfolding add_rest added_from
    rest-none count i A {xs = xs} h g = sym (append-nil xs) ∙ (rw (rest_end (target_at ws c) 0 count i h) at g)

    pub added_are : (area : List ℕ) {xs : List Taken} → view ≡ native_view same ws text abi labels area c
        → xs ≡ added_from same ws text abi labels c view 0 (compiler_targets ws c) → xs ≡ added_methods same ws text abi labels area c
    unfolding added_methods
    added_are area e g = g ∙ rw e
