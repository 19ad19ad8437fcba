-- Two sets with methods that are alike (`Renumbered`): the table of a class of kind 3 is alike in both, where different methods of one set are different
-- ones in the other. Assumes nothing.
use mathlib.Core.Path.{◌≡◌, refl, sym, ap, ◌∙◌}
use mathlib.Core.Logic.{⊎_elim}
use mathlib.Core.Bool.{Bool, true, false, not, true≢false}
use mathlib.Core.List.Memᴰ
use mathlib.Core.List.{List, [], ◌∷◌, Memᴰ}
use Prim.Native.Nat.{ℕ, ◌+◌, ◌<◌, min}
use native.Mathlib.Omega.{arith}
use lib.ListN.{length, get_or, set}
use lib.Dec.{eqb, ltb}
use borrow.Author.Tests.{ltb-true, ltb-false}
use Rattle.words.specs.Lists.{numbers, fold, keep, some}
use Rattle.std.specs.Prelude.{Option, Some, None}
use Rattle.words.proofs.Bools.{by, and_both}
use Rattle.words.proofs.ListLaws.{by-found}
use Rattle.class_sheet.specs.ClassSheet.{class_limit, class_table_place, class_slot_count, method_flags}
use Rattle.linking.specs.Signature.{Same, Place, methods_same}
use Rattle.linking.specs.Chain.{on_found, parent_of, chain, is_private, is_virtual, eligible}
use Rattle.linking.specs.Vtable.{Entry, read_slot}
use Rattle.linking.specs.Packages.{open_to, is_overridden, overridden_in, reached_with, overridden_along, overridden, topmost, table_has, introducing, taken_slots, put_taken, take_slots, packages_over, build_packages}
use Rattle.linking.proofs.Pairs.{Both, neither, by_both, Pairs, none, pair, pairs-length, pairs-append, pairs_set, pairs-some, pairs-keep, pairs-fold}
use Rattle.linking.proofs.Plans.{packages-within, packages-beyond}
use Rattle.linking.proofs.Renumbered.{SameEntry, Tables, SameParent, Keeps, SameClass, SameChain, methods-same, eligible-same, method-entry, read_same, parents-same}

-- ---- tests that agree on the elements of a list

pub keep-ext : {A : Type 0} (p q : A → Bool) (xs : List A) → ((x : A) → Memᴰ x xs → p x ≡ q x) → keep p xs ≡ keep q xs
unfolding keep
keep-ext p q [] h = refl
keep-ext p q (x ∷ xs) h = rw (h x (Memᴰ.head refl), keep-ext p q xs (λ y i. h y (Memᴰ.tail i)))

pub some-ext : {A : Type 0} (p q : A → Bool) (xs : List A) → ((x : A) → Memᴰ x xs → p x ≡ q x) → some p xs ≡ some q xs
unfolding some
some-ext p q [] h = refl
some-ext p q (x ∷ xs) h = rw (h x (Memᴰ.head refl), some-ext p q xs (λ y i. h y (Memᴰ.tail i)))

pub last-ext : (p q : ℕ → Bool) (ds : List ℕ) → ((d : ℕ) → Memᴰ d ds → p d ≡ q d) → topmost p ds ≡ topmost q ds
unfolding topmost
last-ext p q [] h = refl
last-ext p q (d ∷ ds) h = rw (last-ext p q ds (λ e i. h e (Memᴰ.tail i)), h d (Memᴰ.head refl))

abbrev found_or : ℕ → Option ℕ → ℕ
found_or d (Some m) = m
found_or d None = d

abbrev is_found : Option ℕ → Bool
is_found (Some m) = true
is_found None = false

-- what is found passes, and is on the list
pub last_of : (p : ℕ → Bool) (ds : List ℕ) (k : ℕ) → topmost p ds ≡ Some k → Memᴰ k ds × (p k ≡ true)
unfolding topmost
last_of p [] k e = absurd (true≢false (sym (ap is_found e)))
last_of p (d ∷ ds) k e =
    by-found (topmost p ds)
    (λ j q. let r = last_of p ds k (q ∙ (rw q at e)) in (Memᴰ.tail r.0, r.1))
    (λ q.
    let g = rw q at e in
    by (p d) (λ t. let s : d ≡ k = ap (found_or 0) (rw t at g) in (Memᴰ.head (sym s), rw (← s) t)) (λ t. absurd (true≢false (sym (ap is_found (rw t at g))))))

-- a slot that a class's table has is below its count
pub has-below : (ws : List ℕ) (i d : ℕ) → table_has ws i d ≡ true → i < class_slot_count ws d
unfolding table_has
has-below ws i d h =
    let l = ltb-true i (min (class_slot_count ws d) 1024) (and_both (not (eqb (class_table_place ws d) 0)) (ltb i (min (class_slot_count ws d) 1024)) h).1 in
    omega arith

-- a table that both areas hold, of a class linked in both
pub record Held (ws ws' area area' : List ℕ) (d : ℕ) : Type 0 where
  pub linked : eqb (class_table_place ws d) 0 ≡ eqb (class_table_place ws' d) 0
  pub slots : class_slot_count ws d ≡ class_slot_count ws' d
  pub words : (i : ℕ) → i < class_slot_count ws d → get_or area (class_table_place ws d + 1 + i) 0 ≡ get_or area' (class_table_place ws' d + 1 + i) 0

module _ {same same' : Same} {P : Place → Place → Type 0} {ws text ws' text' abi labels : List ℕ} {R : ℕ → ℕ → Type 0}
    (keeps : Keeps same same' P ws text ws' text' abi labels R) where
  abbrev Class : ℕ → Type 0
  Class d = SameClass keeps d

  abbrev Chain : ℕ → Type 0
  Chain d = SameChain keeps d

  abbrev Classes : List ℕ → Type 0
  Classes ds = (d : ℕ) → Memᴰ d ds → Class d

  -- ---- what a method overrides

  open_same : (m k : ℕ) → R m k → (a c : ℕ) → Class a → Class c → open_to ws text m a c ≡ open_to ws' text' k a c
  unfolding open_to
  open_same m k r a c s t = rw (keeps.alike.flags m k r, s.name, t.name)

  module _ (m k : ℕ) (r : R m k) where
    abbrev in_old : List ℕ → ℕ → List ℕ
    in_old reached a = overridden_in (methods_same same) ws text m reached a

    abbrev with_old : List ℕ → ℕ → List ℕ
    with_old reached a = reached_with (methods_same same) ws text m reached a

    is_same : (reached : List ℕ) → Classes reached → (a : ℕ) → Class a → (x y : ℕ) → R x y
        → is_overridden (methods_same same) ws text m reached a x ≡ is_overridden (methods_same same') ws' text' k reached a y
    unfolding is_overridden
    is_same reached ok a s x y q =
        rw (
          keeps.alike.flags x y q,
          methods-same keeps x y m k q r,
          some-ext (open_to ws text x a) (open_to ws' text' y a) reached (λ e j. open_same x y q a e s (ok e j)),
        )

    in_same : (reached : List ℕ) → Classes reached → (a : ℕ) → Class a
        → Pairs R (in_old reached a) (overridden_in (methods_same same') ws' text' k reached a)
    unfolding overridden_in
    in_same reached ok a s =
        pairs-keep (is_overridden (methods_same same) ws text m reached a) (is_overridden (methods_same same') ws' text' k reached a)
        (is_same reached ok a s) s.own

    with_same : (reached : List ℕ) → Classes reached → (a : ℕ) → Class a → with_old reached a ≡ reached_with (methods_same same') ws' text' k reached a
    unfolding reached_with
    with_same reached ok a s =
        rw
        (pairs-some (λ x. not (is_private (method_flags ws x))) (λ x. not (is_private (method_flags ws' x))) (λ x y q. rw (keeps.alike.flags x y q))
        (in_same reached ok a s))

    with_classes_lem : (reached : List ℕ) → Classes reached → (a : ℕ) → Class a → Classes (with_old reached a)
    unfolding reached_with
    with_classes_lem reached ok a s e i =
        by (some (λ x. not (is_private (method_flags ws x))) (in_old reached a))
        (λ t. ⊎_elim (λ j. ok e j) (λ j. let q : e ≡ a = Memᴰ.eq_of_singleton j in rw q s) (Memᴰ.append_cases reached (rw t at i)))
        (λ t. ok e (rw t at i))

    along-same : (ds reached : List ℕ) → Classes reached → Classes ds
        → Pairs R (overridden_along (methods_same same) ws text m reached ds) (overridden_along (methods_same same') ws' text' k reached ds)
    unfolding overridden_along
    along-same [] reached ok all = none
    along-same (a ∷ ds) reached ok all =
        let s = all a (Memᴰ.head refl) in
        rw (← with_same reached ok a s)
        (pairs-append (in_same reached ok a s)
        (along-same ds (with_old reached a) (with_classes_lem reached ok a s) (λ d i. all d (Memᴰ.tail i))))

    overridden-same : (c : ℕ) → Class c → parent_of ws c ≡ parent_of ws' c → Chain (parent_of ws c)
        → Pairs R (overridden (methods_same same) ws text c m) (overridden (methods_same same') ws' text' c k)
    unfolding overridden
    overridden-same c s p above =
        rw (← keeps.alike.flags m k r, ← p, ← above.along)
        (by (is_virtual (method_flags ws m))
        (λ t.
        rw t
        (along-same (chain ws (parent_of ws c)) (c ∷ []) (λ e i. let q : e ≡ c = Memᴰ.eq_of_singleton i in rw q s) above.class))
        (λ t. rw t none))

  -- ---- the slots that it takes

  sets_same : {e e' : Entry} → SameEntry R e e' → (is : List ℕ) {T U : List Entry} → Tables R T U
      → Tables R (fold (λ (W : List Entry) j. set W j e) T is) (fold (λ (W : List Entry) j. set W j e') U is)
  unfolding fold
  sets_same s [] h = h
  sets_same s (i ∷ is) h = sets_same s is (pairs_set h i s)

  put_same : {e e' : Entry} → SameEntry R e e' → {T U : List Entry} → Tables R T U → (is : List ℕ) → Tables R (put_taken e T is) (put_taken e' U is)
  unfolding put_taken
  put_same s h [] = pairs-append h (pair s none)
  put_same s h (i ∷ is) = sets_same s is (pairs_set h i s)

  module _ (one : (m k n l : ℕ) → R m k → R n l → eqb m n ≡ eqb k l) (first first' : ℕ → Option ℕ) (firsts : (i : ℕ) → Both R (first i) (first' i)) where
    taken-same : {js ks : List ℕ} → Pairs R js ks → (n : ℕ) → taken_slots first js n ≡ taken_slots first' ks n
    unfolding taken_slots
    taken-same {js} {ks} h n =
        keep-ext (λ i. on_found (first i) (λ m. some (λ j. eqb j m) js) false) (λ i. on_found (first' i) (λ k. some (λ j. eqb j k) ks) false) (numbers 0 n)
        (λ i l.
        by_both (firsts i) (λ m k e f r. rw (e, f) (pairs-some (λ j. eqb j m) (λ j. eqb j k) (λ x y q. one x y m k q r) h)) (λ e f. rw (e, f)))

    module _ (c : ℕ) (here : Class c) (parent : parent_of ws c ≡ parent_of ws' c) (above : Chain (parent_of ws c)) where
      take_same : (n : ℕ) (T U : List Entry) (m k : ℕ) → Tables R T U → R m k
          → Tables R (take_slots (methods_same same) ws text first n c T m) (take_slots (methods_same same') ws' text' first' n c U k)
      unfolding take_slots
      take_same n T U m k h r =
          rw (eligible-same keeps m k r, taken-same (overridden-same m k r c here parent above) n)
          (by (eligible ws' text' k)
          (λ t.
          rw t
          (put_same (method-entry keeps m k r) h (taken_slots first' (overridden (methods_same same') ws' text' c k) n)))
          (λ t. rw t h))

      pub over-same : {T U : List Entry} → Tables R T U
          → Tables R (packages_over (methods_same same) ws text first c T) (packages_over (methods_same same') ws' text' first' c U)
      unfolding packages_over
      over-same {T} {U} h =
          rw (pairs-length h)
          (pairs-fold (Tables R) (take_slots (methods_same same) ws text first (length U) c)
          (take_slots (methods_same same') ws' text' first' (length U) c) (take_same (length U)) here.own h)

  -- ---- what the area holds

  has_same : (area area' : List ℕ) (i d : ℕ) → Held ws ws' area area' d → table_has ws i d ≡ table_has ws' i d
  unfolding table_has
  has_same area area' i d h = rw (h.linked, h.slots)

  module _ (area area' : List ℕ) (p : ℕ) (along : Chain p) (chains : (d : ℕ) → Memᴰ d (chain ws p) → Chain d)
      (held : (d : ℕ) → Memᴰ d (chain ws p) → Held ws ws' area area' d) where
    slot_same : (d i : ℕ) → Memᴰ d (chain ws p) → i < class_slot_count ws d
        → SameEntry R (read_slot same ws text abi labels area d i) (read_slot same' ws' text' abi labels area' d i)
    unfolding read_slot
    slot_same d i j l = rw ((held d j).words i l) (read_same keeps d (chains d j) i _)

    pub introducing-same : (i : ℕ) → Both R (introducing same ws text abi labels area p i) (introducing same' ws' text' abi labels area' p i)
    unfolding introducing
    introducing-same i =
        rw (← along.along, ← last-ext (table_has ws i) (table_has ws' i) (chain ws p) (λ d j. has_same area area' i d (held d j)))
        (by-found (topmost (table_has ws i) (chain ws p))
        (λ d e. let r = last_of (table_has ws i) (chain ws p) d e in rw e (slot_same d i r.0 (has-below ws i d r.1)).method)
        (λ e. rw e neither))

  module _ (one : (m k n l : ℕ) → R m k → R n l → eqb m n ≡ eqb k l) (area area' : List ℕ) (c : ℕ) (here : Class c)
      (parent : SameParent ws ws' area area' c) (above : Chain (parent_of ws c))
      (chains : (d : ℕ) → Memᴰ d (chain ws (parent_of ws c)) → Chain d)
      (held : (d : ℕ) → Memᴰ d (chain ws (parent_of ws c)) → Held ws ws' area area' d) where
    pub packages-same : Tables R (build_packages same ws text abi labels area c)
        (build_packages same' ws' text' abi labels area' c)
    packages-same =
        by (ltb class_limit c)
        (λ t. let l = ltb-true class_limit c t in
        rw (packages-beyond same ws text abi labels area c l, packages-beyond same' ws' text' abi labels area' c l) none)
        (λ t. let l = ltb-false class_limit c t in
        rw (
          packages-within same ws text abi labels area c l,
          packages-within same' ws' text' abi labels area' c l,
          ← parent.parent,
        )
        (over-same one (introducing same ws text abi labels area (parent_of ws c)) (introducing same' ws' text' abi labels area' (parent_of ws c))
        (introducing-same area area' (parent_of ws c) above chains held) c here parent.parent above
        (parents-same keeps area area' c parent above)))
