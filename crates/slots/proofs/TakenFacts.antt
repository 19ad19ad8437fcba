-- A class of kind 3 over its parent's entries: each eligible method stands at the slots that it takes, or in a new last one. So every entry is a
-- method's of the chain, and one that was inherited keeps its signature. Assumes nothing.
use Rattle.std.proofs.lemmas.Grind.{common_steps}
use Rattle.std.proofs.Common.{rules, ◌≡◌, refl, sym, ap, ◌∙◌, ◌⊎◌, inl, inr, ⊎_elim, true, false, List, [], ◌∷◌, ◌++◌, ℕ, zero, suc, ◌+◌, ◌≤◌, ◌<◌, arith, length, set, length-set, eqb, eqb-true, eq-eqb, Option, Some}
use mathlib.Core.Bool.{false≢true}
use mathlib.Core.List.Memᴰ
use mathlib.Core.List.{Memᴰ}
use borrow.Author.Tests.{eqb-false}
use Rattle.words.specs.Lists.{list_from, numbers, fold, some}
use Rattle.words.proofs.Bools.{by}
use Rattle.words.proofs.ListLaws.{by-found, numbers-within}
use Rattle.class_sheet.specs.ClassSheet.{method_target}
use Rattle.linking.specs.Signature.{methods_same, by_bytes}
use Rattle.linking.specs.Chain.{on_found, own_methods, eligible}
use Rattle.linking.specs.Vtable.{Entry, empty, method_entry}
use Rattle.linking.specs.Packages.{overridden, taken_slots, put_taken, take_slots, packages_over}
use Rattle.linking.proofs.Overriding.{keep-of, keep_in, some_of, some_in, overridden-same}
use Rattle.slots.specs.Slots.{ChainMethod}
use Rattle.slots.proofs.ListFacts.{found-same, set_at}
use Rattle.slots.proofs.ChainFacts.{method-here}
use Rattle.slots.proofs.FixedFacts.{method_signature, same_signature_lem}
use Rattle.slots.proofs.EntryFacts.{at}
use Rattle.slots.proofs.AddFacts.{Stays, stays_same, stays-own}

-- ---- the slots that are taken

pub record Taken (first : ℕ → Option ℕ) (ks : List ℕ) (n x : ℕ) : Type 0 where
  pub below : x < n
  pub method : ℕ
  pub introduces : first x ≡ Some method
  pub among : Memᴰ method ks

pub taken_of : (first : ℕ → Option ℕ) (ks : List ℕ) (n x : ℕ) → Memᴰ x (taken_slots first ks n) → Taken first ks n x
unfolding taken_slots
taken_of first ks n x h =
    let r = keep-of (λ i. on_found (first i) (λ k. some (λ j. eqb j k) ks) false) (numbers 0 n) h in
    let w = numbers-within 0 n x r.0 in
    by-found (first x)
    (λ k q.
    let s = some_of (λ j. eqb j k) ks (rw q at r.1) in
    record { below = omega arith; method = k; introduces = q; among = rw (eqb-true s.0 k s.2) at s.1 })
    (λ q. absurd (false≢true (rw q at r.1)))

number_in : (m n x : ℕ) → m ≤ x → x < m + n → Memᴰ x (numbers m n)
unfolding list_from
number_in m zero x l h = absurd (omega arith)
number_in m (suc n) x l h =
    by (eqb x m) (λ t. Memᴰ.head (eqb-true x m t))
    (λ t. let q = eqb-false x m t in Memᴰ.tail (number_in (m + 1) n x (omega arith) (omega arith)))

pub taken_in_lem : (first : ℕ → Option ℕ) (ks : List ℕ) (n x : ℕ) → Taken first ks n x → Memᴰ x (taken_slots first ks n)
unfolding taken_slots
taken_in_lem first ks n x t =
    keep_in (λ i. on_found (first i) (λ k. some (λ j. eqb j k) ks) false) (numbers 0 n) (number_in 0 n x (omega arith) (omega (arith, t.below)))
    (rw t.introduces (some_in (λ j. eqb j t.method) ks t.among (eq-eqb t.method t.method refl)))

-- ---- an entry stored at several places, or appended

module _ (e : Entry) where
  pub stores-length : (js : List ℕ) (T : List Entry) → length (fold (λ U j. set U j e) T js) ≡ length T
  unfolding fold
  stores-length [] T = refl
  stores-length (j ∷ js) T = stores-length js (set T j e) ∙ length-set T j e

  stores_at : (js : List ℕ) (T : List Entry) (x : ℕ) → ((j : ℕ) → Memᴰ j js → j < length T)
      → (Memᴰ x js × (at (fold (λ U j. set U j e) T js) x ≡ e)) ⊎ ((Memᴰ x js → ⊥) × (at (fold (λ U j. set U j e) T js) x ≡ at T x))
  unfolding fold
  stores_at [] T x below = inr (Memᴰ.not-nil, refl)
  stores_at (j ∷ js) T x below =
      elim (stores_at js (set T j e) x (λ i k. rw (length-set T j e) (below i (Memᴰ.tail k)))) [
        | inl p ↦ inl (Memᴰ.tail p.0, p.1)
        | inr p ↦ elim (set_at T j x e empty (below j (Memᴰ.head refl))) [
          | inl q ↦ inl (Memᴰ.head q.0, p.1 ∙ q.1)
          | inr q ↦ inr (λ i. ⊎_elim q.0 p.0 (Memᴰ.cases_cons i), p.1 ∙ q.1)
        ]
      ]

  snoc_cases : (T : List Entry) (x : ℕ) → x < length (T ++ (e ∷ []))
      → ((x < length T) × (at (T ++ (e ∷ [])) x ≡ at T x)) ⊎ ((x ≡ length T) × (at (T ++ (e ∷ [])) x ≡ e))
  snoc_cases [] zero h = grind arith
  snoc_cases [] (suc x) h = grind arith
  snoc_cases (y ∷ T) zero h = grind arith
  snoc_cases (y ∷ T) (suc x) h = grind (arith, common_steps)

  -- what stands at a place of the new table: the entry where it was stored, the old one, or the entry after the last
  pub data PutAt (T : List Entry) (js : List ℕ) (x : ℕ) (f : Entry) : Type 0 where
    stored : x < length T → Memᴰ x js → f ≡ e → PutAt T js x f
    left : x < length T → (Memᴰ x js → ⊥) → f ≡ at T x → PutAt T js x f
    added : x ≡ length T → js ≡ [] → f ≡ e → PutAt T js x f

  pub put-at : (T : List Entry) (js : List ℕ) → ((j : ℕ) → Memᴰ j js → j < length T) → (x : ℕ) → x < length (put_taken e T js)
      → PutAt T js x (at (put_taken e T js) x)
  unfolding put_taken
  put-at T [] below x h = elim (snoc_cases T x h) [ inl p ↦ left p.0 Memᴰ.not-nil p.1 | inr p ↦ added p.0 refl p.1 ]
  put-at T (j ∷ js) below x h =
      let l : x < length T = rw (stores-length js (set T j e), length-set T j e) at h in
      elim (stores_at (j ∷ js) T x below) [ inl p ↦ stored l p.0 (unfold fold in p.1) | inr p ↦ left l p.0 (unfold fold in p.1) ]

  pub put-length : (T : List Entry) (js : List ℕ) → length T ≤ length (put_taken e T js)
  unfolding put_taken
  put-length T [] = grind (arith, common_steps)
  put-length T (j ∷ js) = search (rules, stores-length)

-- ---- a class's own methods, one after the other

module _ (ws text abi labels : List ℕ) where
  -- the entry is a method's of the chain of class c
  pub record Ours (c : ℕ) (e : Entry) : Type 0 where
    pub method : ℕ
    pub along : ChainMethod ws c method
    pub holds : e.method ≡ Some method
    pub word : e.word ≡ method_target ws method

  -- the introducing method of an inherited slot has the signature of the entry there
  abbrev pub Introduces : (ℕ → Option ℕ) → List Entry → Type 0
  Introduces first P =
      (x p : ℕ) → x < length P → (at P x).method ≡ Some p → (k : ℕ) × (first x ≡ Some k) × (method_signature ws text k ≡ method_signature ws text p)

  module _ (c : ℕ) (h : 0 < c) (first : ℕ → Option ℕ) (P : List Entry) (introduces : Introduces first P)
      (inherited : (x : ℕ) → x < length P → Ours c (at P x)) where
    pub record Over (T : List Entry) : Type 0 where
      pub longer : length P ≤ length T
      pub ours : (x : ℕ) → x < length T → Ours c (at T x)
      pub stays : (x p : ℕ) → x < length P → (at P x).method ≡ Some p
          → Stays ws text abi labels (own_methods ws c) (method_signature ws text p) (at P x) (at T x)

    pub over-start : Over P
    over-start = record {
      longer = omega arith;
      ours = inherited;
      stays = λ x p l e. stays_same ws text abi labels (own_methods ws c) (at P x) (at P x) p e refl;
    }

    mine : (m : ℕ) → Memᴰ m (own_methods ws c) → (e : Entry) → e ≡ method_entry ws m → Ours c e
    mine m i e q =
        rw q (record { method = m; along = method-here ws c h i; holds = refl; word = refl })

    abbrev pub slots : ℕ → List ℕ
    slots m = taken_slots first (overridden (methods_same (by_bytes ws text abi labels)) ws text c m) (length P)

    pub taken-signature : (m x p : ℕ) → Memᴰ m (own_methods ws c) → Memᴰ x (slots m) → (at P x).method ≡ Some p
        → method_signature ws text m ≡ method_signature ws text p
    taken-signature m x p i j e =
        let t = taken_of first (overridden (methods_same (by_bytes ws text abi labels)) ws text c m) (length P) x j in
        let r = introduces x p t.below e in
        let q : t.method ≡ r.0 = found-same (sym t.introduces ∙ r.1) in
        let s = overridden-same ws text abi labels c m t.method i t.among in
        same_signature_lem ws text s ∙ ap (method_signature ws text) q ∙ r.2

    over-put : (T : List Entry) (m : ℕ) → Memᴰ m (own_methods ws c) → eligible ws text m ≡ true → Over T
        → Over (put_taken (method_entry ws m) T (slots m))
    over-put T m i el o = record {
      longer = omega (arith, o.longer, put-length e T (slots m));
      ours = λ x l. each x (put-at e T (slots m) below x l);
      stays = λ x p l q. kept x p l q (put-at e T (slots m) below x (omega (arith, l, o.longer, put-length e T (slots m))));
    }
      where
        e : Entry
        e = method_entry ws m

        below : (j : ℕ) → Memᴰ j (slots m) → j < length T
        below j k =
            let t = taken_of first (overridden (methods_same (by_bytes ws text abi labels)) ws text c m) (length P) j k in omega (arith, t.below, o.longer)

        each : (x : ℕ) {f : Entry} → PutAt e T (slots m) x f → Ours c f
        each x {f} (stored l k q) = mine m i f q
        each x {f} (left l n q) = rw q (o.ours x l)
        each x {f} (added l k q) = mine m i f q

        kept : (x p : ℕ) → x < length P → (at P x).method ≡ Some p → {f : Entry} → PutAt e T (slots m) x f
            → Stays ws text abi labels (own_methods ws c) (method_signature ws text p) (at P x) f
        kept x p l q {f} (stored b k r) =
            stays-own ws text abi labels (own_methods ws c) (method_signature ws text p) (at P x) f m i el (taken-signature m x p i k q) r
        kept x p l q {f} (left b n r) = rw r (o.stays x p l q)
        kept x p l q {f} (added b k r) = absurd (omega (arith, o.longer))

    pub over-take : (T : List Entry) (m : ℕ) → Memᴰ m (own_methods ws c) → Over T
        → Over (take_slots (methods_same (by_bytes ws text abi labels)) ws text first (length P) c T m)
    unfolding take_slots
    over-take T m i o = by (eligible ws text m) (λ t. rw t (over-put T m i t o)) (λ t. rw t o)

    over-all : (ms : List ℕ) → ((m : ℕ) → Memᴰ m ms → Memᴰ m (own_methods ws c)) → (T : List Entry) → Over T
        → Over (fold (take_slots (methods_same (by_bytes ws text abi labels)) ws text first (length P) c) T ms)
    unfolding fold
    over-all [] sub T o = o
    over-all (m ∷ ms) sub T o =
        over-all ms (λ k i. sub k (Memᴰ.tail i)) (take_slots (methods_same (by_bytes ws text abi labels)) ws text first (length P) c T m)
        (over-take T m (sub m (Memᴰ.head refl)) o)

    pub packages-over : Over (packages_over (methods_same (by_bytes ws text abi labels)) ws text first c P)
    unfolding packages_over
    packages-over = over-all (own_methods ws c) (λ m i. i) P over-start
