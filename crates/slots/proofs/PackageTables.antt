-- The table half of demand 3 for a chain of kind 3, class by class from its root: every slot is known, by the target of a chain method; its introducing
-- method has its signature; so a child keeps its parent's slots. Assumes nothing.
use Rattle.std.proofs.Common.{rules, ◌≡◌, refl, sym, ap, ◌∙◌, inl, inr, ⊎_elim, ◌≢◌, Bool, true, false, List, [], ◌∷◌, ℕ, zero, suc, ◌≤◌, ◌<◌, arith, length, get_or, eqb, ltb, eqb-true, lt-ltb, ltb-true, ltb-false, Option, Some, None}
use mathlib.Core.List.Memᴰ
use mathlib.Core.List.{Memᴰ}
use borrow.Author.Tests.{eqb-false}
use Rattle.words.proofs.Bools.{by}
use Rattle.words.proofs.ListLaws.{by-found, not_found}
use Rattle.class_sheet.specs.ClassSheet.{class_kind, method_target}
use Rattle.linking.specs.Signature.{by_bytes}
use Rattle.linking.specs.Chain.{own_methods, parent_of, chain}
use Rattle.linking.specs.Vtable.{Entry, read_entry, slot_words}
use Rattle.linking.specs.Packages.{topmost}
use Rattle.linking.proofs.ChainLaws.{parent_below, parent-within, chain-none, chain_more}
use Rattle.slots.specs.Slots.{PackageRule, Known, Redeclares, Keeps, Kept, ChainMethod}
use Rattle.slots.specs.Made.{read_words, inherited_from, introduced_from, packages_from, made_from, Made}
use Rattle.slots.proofs.ListFacts.{found-same}
use Rattle.slots.proofs.ChainFacts.{chain-here, chain-up, chain-cases, method-up, target-own}
use Rattle.slots.proofs.FixedFacts.{method_signature, signature-same}
use Rattle.slots.proofs.EntryFacts.{at, own-word}
use Rattle.slots.proofs.AddFacts.{Declared, Stays}
use Rattle.slots.proofs.ReadFacts.{length-words, word_at, length-read, read_at, read_word}
use Rattle.slots.proofs.TakenFacts.{Ours, Introduces, Over, packages-over}

-- ---- the topmost class of a chain that passes a test

pub last_up : (p : ℕ → Bool) (d : ℕ) (ds : List ℕ) (k : ℕ) → topmost p ds ≡ Some k → topmost p (d ∷ ds) ≡ Some k
unfolding topmost
last_up p d ds k e = rw e

pub last-here : (p : ℕ → Bool) (d : ℕ) (ds : List ℕ) → topmost p ds ≡ None → p d ≡ true → topmost p (d ∷ ds) ≡ Some d
unfolding topmost
last-here p d ds e t = rw (e, t)

pub last_none : (p : ℕ → Bool) (ds : List ℕ) → ((d : ℕ) → Memᴰ d ds → p d ≡ false) → topmost p ds ≡ None
unfolding topmost
last_none p [] h = refl
last_none p (d ∷ ds) h =
    rw (last_none p ds (λ e i. h e (Memᴰ.tail i)), h d (Memᴰ.head refl))

pub last_some : (p : ℕ → Bool) (ds : List ℕ) (d : ℕ) → Memᴰ d ds → p d ≡ true → (k : ℕ) × (topmost p ds ≡ Some k)
unfolding topmost
last_some p [] d i t = absurd (Memᴰ.not-nil i)
last_some p (x ∷ ds) d i t =
    by-found (topmost p ds) (λ k q. (k, rw q))
    (λ q.
    ⊎_elim (λ (e : d ≡ x). (x, rw (q, ← e, t)))
    (λ j. let r = last_some p ds d j t in not_found (sym q ∙ r.1)) (Memᴰ.cases_cons i))

module _ (ws text abi labels : List ℕ) where
  -- "the chain's method targets and all stubs lent are nonzero", of the targets, and "the targets all different"
  pub record Targets (c : ℕ) : Type 0 where
    pub nonzero : (m : ℕ) → ChainMethod ws c m → method_target ws m ≢ 0
    pub different : (m k : ℕ) → ChainMethod ws c m → ChainMethod ws c k → method_target ws m ≡ method_target ws k → m ≡ k

  pub targets-up : (c : ℕ) → 0 < c → Targets c → Targets (parent_of ws c)
  targets-up c h t = record {
    nonzero = λ m i. t.nonzero m (method-up ws c h i);
    different = λ m k i j. t.different m k (method-up ws c h i) (method-up ws c h j);
  }

  -- a word that is a chain method's target reads as that method
  pub reads : (c i w m : ℕ) → Targets c → ChainMethod ws c m → w ≡ method_target ws m
      → (read_entry (by_bytes ws text abi labels) ws text abi labels c i w).method ≡ Some m
  unfolding read_entry
  reads c i w m t k e = search (rules, target-own)

  module _ (tables : ℕ → List ℕ) (P : ℕ → Type 0) where
    abbrev pub first : ℕ → ℕ → Option ℕ
    first p = introduced_from ws text abi labels tables p

    pub record Introduced (c i m : ℕ) : Type 0 where
      pub method : ℕ
      pub is : first c i ≡ Some method
      pub signature : method_signature ws text method ≡ method_signature ws text m

    -- what the table of a class has, for its children and for the claim
    pub record Chained (c : ℕ) : Type 0 where
      pub origin : (i : ℕ) → i < length (tables c) → (m : ℕ) × ChainMethod ws c m × (get_or (tables c) i 0 ≡ method_target ws m)
      pub longest : (d : ℕ) → Memᴰ d (chain ws c) → length (tables d) ≤ length (tables c)
      pub introduced : (i m : ℕ) → Known ws text abi labels c (tables c) i m → Introduced c i m
      pub kept : parent_of ws c ≢ 0 → Kept ws text abi labels c (tables c) (tables (parent_of ws c))

    -- what one class of the chain is over its parent

    pub record Step (c : ℕ) (h : 0 < c) : Type 0 where
      pub no_parent : parent_of ws c ≡ 0 → ◌≡◌ {A = List Entry} (inherited_from ws text abi labels tables c) []
      pub some-parent : parent_of ws c ≢ 0
          → inherited_from ws text abi labels tables c ≡ read_words ws text abi labels (parent_of ws c) (tables (parent_of ws c))
      pub with_parent : (x : ℕ) → x < length (inherited_from ws text abi labels tables c) → parent_of ws c ≢ 0
      pub inherited-length : parent_of ws c ≢ 0 → length (inherited_from ws text abi labels tables c) ≡ length (tables (parent_of ws c))
      pub ours : (x : ℕ) → x < length (inherited_from ws text abi labels tables c)
          → Ours ws text abi labels c (at (inherited_from ws text abi labels tables c) x)
      pub introduces : Introduces ws text abi labels (first (parent_of ws c)) (inherited_from ws text abi labels tables c)
      pub over : Over ws text abi labels c h (first (parent_of ws c)) (inherited_from ws text abi labels tables c) introduces ours
          (packages_from ws text abi labels tables c)
      -- its words
      pub words-length : length (tables c) ≡ length (packages_from ws text abi labels tables c)
      pub word-is : (x : ℕ) → x < length (packages_from ws text abi labels tables c)
          → get_or (tables c) x 0 ≡ (at (packages_from ws text abi labels tables c) x).word
      pub known : (x m : ℕ) → x < length (packages_from ws text abi labels tables c) → (at (packages_from ws text abi labels tables c) x).method ≡ Some m
          → Known ws text abi labels c (tables c) x m
      pub known_is : (x m : ℕ) → Known ws text abi labels c (tables c) x m → (at (packages_from ws text abi labels tables c) x).method ≡ Some m
      -- an inherited slot has the introducing method that it has in the parent, a new one its own
      pub introduced-above : (i : ℕ) → i < length (inherited_from ws text abi labels tables c) → first c i ≡ first (parent_of ws c) i
      pub introduced-below : (i : ℕ) → length (inherited_from ws text abi labels tables c) ≤ i → i < length (tables c)
          → first c i ≡ (read_entry (by_bytes ws text abi labels) ws text abi labels c i (get_or (tables c) i 0)).method

    -- ---- one class over its parent

    module _ (c : ℕ) (h : 0 < c) (kind : class_kind ws c ≡ 3) (t : Targets c) (made : Made ws text abi labels tables P c)
        (parent : parent_of ws c ≢ 0 → Chained (parent_of ws c)) where
      abbrev inherited : List Entry
      inherited = inherited_from ws text abi labels tables c

      abbrev T : List Entry
      T = packages_from ws text abi labels tables c

      no_parent : parent_of ws c ≡ 0 → ◌≡◌ {A = List Entry} inherited []
      unfolding inherited_from
      no_parent e = cc

      some-parent : parent_of ws c ≢ 0 → inherited ≡ read_words ws text abi labels (parent_of ws c) (tables (parent_of ws c))
      unfolding inherited_from
      some-parent n = search rules

      -- an inherited slot has a parent
      with_parent : (x : ℕ) → x < length inherited → parent_of ws c ≢ 0
      with_parent x l e = search (rules, no_parent)

      inherited-length : parent_of ws c ≢ 0 → length inherited ≡ length (tables (parent_of ws c))
      inherited-length n = search (rules, some-parent, length-read)

      inherited-at : (n : parent_of ws c ≢ 0) (x : ℕ) → x < length inherited
          → at inherited x ≡ read_entry (by_bytes ws text abi labels) ws text abi labels (parent_of ws c) x (get_or (tables (parent_of ws c)) x 0)
      inherited-at n x l = grind (arith, some-parent n, read_at ws text abi labels (parent_of ws c) (tables (parent_of ws c)) x, inherited-length n)

      inherited-ours : (x : ℕ) → x < length inherited → Ours ws text abi labels c (at inherited x)
      inherited-ours x l =
          let n = with_parent x l in
          let o = (parent n).origin x (omega (arith, l, inherited-length n)) in
          let e = inherited-at n x l in
          record {
            method = o.0;
            along = method-up ws c h o.1;
            holds = ap (λ (y : Entry). y.method) e
                ∙ reads (parent_of ws c) x (get_or (tables (parent_of ws c)) x 0) o.0 (targets-up c h t) o.1 o.2;
            word = ap (λ (y : Entry). y.word) e ∙ read_word ws text abi labels (parent_of ws c) x (get_or (tables (parent_of ws c)) x 0) ∙ o.2;
          }

      inherited-known : (x p : ℕ) → x < length inherited → (at inherited x).method ≡ Some p
          → Known ws text abi labels (parent_of ws c) (tables (parent_of ws c)) x p
      inherited-known x p l e =
          let n = with_parent x l in
          record {
            slot = omega (arith, l, inherited-length n);
            reads = ap (λ (y : Entry). y.method) (sym (inherited-at n x l)) ∙ e;
          }

      introduces : Introduces ws text abi labels (first (parent_of ws c)) inherited
      introduces x p l e =
          let n = with_parent x l in
          let r = (parent n).introduced x p (inherited-known x p l e) in
          (r.method, r.is, r.signature)

      over : Over ws text abi labels c h (first (parent_of ws c)) inherited introduces inherited-ours T
      unfolding packages_from
      over = packages-over ws text abi labels c h (first (parent_of ws c)) inherited introduces inherited-ours

      -- ---- its words

      entries_are : made.entries ≡ T
      unfolding made_from
      entries_are = cc

      words : tables c ≡ slot_words made.stubs 0 T
      words = grind (arith, entries_are)

      words-length : length (tables c) ≡ length T
      words-length = ap length words ∙ length-words made.stubs 0 T

      word-is : (x : ℕ) → x < length T → get_or (tables c) x 0 ≡ (at T x).word
      word-is x l =
          let o = over.ours x l in
          ap (λ (y : List ℕ). get_or y x 0) words ∙ word_at made.stubs T x l
          ∙ own-word (at T x).word (get_or made.stubs x 0) (λ z. t.nonzero o.method o.along (sym o.word ∙ z))

      -- what a slot holds is known there
      known : (x m : ℕ) → x < length T → (at T x).method ≡ Some m → Known ws text abi labels c (tables c) x m
      known x m l e =
          let o = over.ours x l in
          let q : o.method ≡ m = found-same (sym o.holds ∙ e) in
          record {
            slot = omega (arith, l, words-length);
            reads = reads c x (get_or (tables c) x 0) o.method t o.along (word-is x l ∙ o.word) ∙ ap Some q;
          }

      known_is : (x m : ℕ) → Known ws text abi labels c (tables c) x m → (at T x).method ≡ Some m
      known_is x m k = search (rules, words-length, over, reads, word-is)

      -- ---- what is claimed

      origin-one : (i : ℕ) → i < length (tables c) → (m : ℕ) × ChainMethod ws c m × (get_or (tables c) i 0 ≡ method_target ws m)
      origin-one i l =
          let b : i < length T = omega (arith, words-length) in
          let o = over.ours i b in
          (o.method, o.along, word-is i b ∙ o.word)

      longer : parent_of ws c ≢ 0 → length (tables (parent_of ws c)) ≤ length (tables c)
      longer n = omega (arith, over.longer, words-length, inherited-length n)

      longest-one : (d : ℕ) → Memᴰ d (chain ws c) → length (tables d) ≤ length (tables c)
      longest-one d i = search (rules, chain-cases, chain-none, longer)

      kept-one : parent_of ws c ≢ 0 → Kept ws text abi labels c (tables c) (tables (parent_of ws c))
      kept-one n i m k = keep (over.stays i m below holds)
        where
          below : i < length inherited
          below = omega (arith, k.slot, inherited-length n)

          holds : (at inherited i).method ≡ Some m
          holds = ap (λ (y : Entry). y.method) (inherited-at n i below) ∙ k.reads

          inside : i < length T
          inside = omega (arith, below, over.longer)

          word : (at inherited i).word ≡ get_or (tables (parent_of ws c)) i 0
          word =
              ap (λ (y : Entry). y.word) (inherited-at n i below)
              ∙ read_word ws text abi labels (parent_of ws c) i (get_or (tables (parent_of ws c)) i 0)

          redeclares : (w : ℕ) → Declared ws text abi labels (own_methods ws c) (method_signature ws text m) w → Redeclares ws text c m w
          redeclares w d = record {
            method = d.method;
            own = d.own;
            eligible = d.eligible;
            signature = signature-same ws text d.is;
            target_is = d.target;
          }

          keep : Stays ws text abi labels (own_methods ws c) (method_signature ws text m) (at inherited i) (at T i)
              → Keeps ws text abi labels c (tables c) (tables (parent_of ws c)) i m
          keep s = record {
            method = s.method;
            known = known i s.method inside s.holds;
            signature = signature-same ws text s.is;
            target = elim s.word [
              | inl e ↦ inl (word-is i inside ∙ e ∙ word)
              | inr d ↦ inr (rw (word-is i inside) (redeclares (at T i).word d))
            ];
          }

      -- the topmost class whose table has the slot is the parent's, or the class itself

      introduced-up : (i k : ℕ) → topmost (λ d. ltb i (length (tables d))) (chain ws (parent_of ws c)) ≡ Some k → first c i ≡ first (parent_of ws c) i
      unfolding introduced_from
      introduced-up i k e = search (rules, chain_more, last_up)

      introduced-here : (i : ℕ) → topmost (λ d. ltb i (length (tables d))) (chain ws (parent_of ws c)) ≡ None → i < length (tables c)
          → first c i ≡ (read_entry (by_bytes ws text abi labels) ws text abi labels c i (get_or (tables c) i 0)).method
      unfolding introduced_from
      introduced-here i e l = search (rules, chain_more, last-here)

      introduced-above : (i : ℕ) → i < length inherited → first c i ≡ first (parent_of ws c) i
      introduced-above i l =
          let n = with_parent i l in
          let f = last_some (λ d. ltb i (length (tables d))) (chain ws (parent_of ws c)) (parent_of ws c)
          (rw (chain_more ws (parent_of ws c) (omega arith)) (Memᴰ.head refl))
          (lt-ltb i (length (tables (parent_of ws c))) (omega (arith, l, inherited-length n))) in
          introduced-up i f.0 f.1

      introduced-old : (i m : ℕ) → Known ws text abi labels c (tables c) i m → i < length inherited → Introduced c i m
      introduced-old i m k l =
          let n = with_parent i l in
          let o = inherited-ours i l in
          let p = o.method in
          let r = (parent n).introduced i p (inherited-known i p l o.holds) in
          let s = over.stays i p l o.holds in
          let q : s.method ≡ m = found-same (sym s.holds ∙ known_is i m k) in
          record {
            method = r.method;
            is = introduced-above i l ∙ r.is;
            signature = r.signature ∙ sym s.is ∙ ap (method_signature ws text) q;
          }

      -- no table of the parent's chain has a slot past the inherited ones
      short : (i : ℕ) → length inherited ≤ i → (d : ℕ) → Memᴰ d (chain ws (parent_of ws c)) → ltb i (length (tables d)) ≡ false
      short i l d j =
          by (ltb i (length (tables d)))
          (λ u.
          by (eqb (parent_of ws c) 0)
          (λ q. absurd (Memᴰ.not-nil (rw (chain-none ws (parent_of ws c) (eqb-true (parent_of ws c) 0 q)) at j)))
          (λ q.
          let n = eqb-false (parent_of ws c) 0 q in
          let v = ltb-true i (length (tables d)) u in
          absurd (omega (arith, (parent n).longest d j, inherited-length n))))
          (λ u. u)

      introduced-below : (i : ℕ) → length inherited ≤ i → i < length (tables c)
          → first c i ≡ (read_entry (by_bytes ws text abi labels) ws text abi labels c i (get_or (tables c) i 0)).method
      introduced-below i l b = search (rules, introduced-here, last_none, short)

      introduced-new : (i m : ℕ) → Known ws text abi labels c (tables c) i m → length inherited ≤ i → Introduced c i m
      introduced-new i m k l = record { method = m; is = introduced-below i l k.slot ∙ k.reads; signature = refl }

      chained-one : Chained c
      chained-one = record {
        origin = origin-one;
        longest = longest-one;
        introduced = λ i m k.
            by (ltb i (length inherited)) (λ u. introduced-old i m k (ltb-true i (length inherited) u))
            (λ u. introduced-new i m k (ltb-false i (length inherited) u));
        kept = kept-one;
      }

      step-one : Step c h
      step-one = record {
        no_parent = no_parent;
        some-parent = some-parent;
        with_parent = with_parent;
        inherited-length = inherited-length;
        ours = inherited-ours;
        introduces = introduces;
        over = over;
        words-length = words-length;
        word-is = word-is;
        known = known;
        known_is = known_is;
        introduced-above = introduced-above;
        introduced-below = introduced-below;
      }

    -- ---- along the chain, from its root

    pub chained : (bound c : ℕ) → c ≤ bound → 0 < c → PackageRule ws c → Targets c
        → ((d : ℕ) → Memᴰ d (chain ws c) → Made ws text abi labels tables P d) → Chained c
    chained zero c b h kinds t made = absurd (omega arith)
    chained (suc bound) c b h kinds t made =
        let f = parent_below ws c h in
        chained-one c h (kinds c (chain-here ws c h)) t (made c (chain-here ws c h))
        (λ n.
        chained bound (parent_of ws c) (omega arith) (omega arith) (λ d i. kinds d (chain-up ws c h i)) (targets-up c h t)
        (λ d i. made d (chain-up ws c h i)))

    -- "that a known slot keeps its signature covers both"
    pub packages-kept : (c : ℕ) → PackageRule ws c → Targets c
        → ((d : ℕ) → Memᴰ d (chain ws c) → Made ws text abi labels tables P d) → parent_of ws c ≢ 0
        → Kept ws text abi labels c (tables c) (tables (parent_of ws c))
    packages-kept c kinds t made n =
        let f = parent-within ws c in (chained c c (omega arith) (omega arith) kinds t made).kept n

    pub stepped : (c : ℕ) (h : 0 < c) → PackageRule ws c → Targets c → ((d : ℕ) → Memᴰ d (chain ws c) → Made ws text abi labels tables P d) → Step c h
    stepped c h kinds t made =
        step-one c h (kinds c (chain-here ws c h)) t (made c (chain-here ws c h))
        (λ n.
        chained c (parent_of ws c) (let f = parent_below ws c h in omega arith) (omega arith) (λ d i. kinds d (chain-up ws c h i)) (targets-up c h t)
        (λ d i. made d (chain-up ws c h i)))
