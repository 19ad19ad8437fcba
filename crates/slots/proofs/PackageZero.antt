-- Kind 3 beside kind 0, the table half: where the chain has no ABI entry, every eligible method is public or protected and no class declares a signature
-- twice, the slots that a method takes are the slot of its signature or none. So both rules make the same tables. Assumes nothing.
use Rattle.std.proofs.Common.{rules, ◌≡◌, refl, sym, ap, ◌∙◌, ◌⊎◌, inl, inr, ◌≢◌, true, not, List, [], ◌∷◌, ◌++◌, ℕ, zero, suc, ◌+◌, ◌≤◌, ◌<◌, arith, length, get_or, set, set-set, ext_get_or, eqb, ltb, eqb-true, ltb-true, ltb-false, Option, Some, None}
use mathlib.Core.List.Memᴰ
use mathlib.Core.List.{Memᴰ}
use borrow.Author.Tests.{eqb-false}
use Rattle.words.specs.Lists.{list_from, numbers, first_found, fold}
use Rattle.words.proofs.Bools.{by, and_both}
use Rattle.words.proofs.ListLaws.{by-found, not_found}
use Rattle.class_sheet.specs.ClassSheet.{class_first_method, class_method_count, method_name, method_flags, method_limit}
use Rattle.linking.specs.Signature.{methods_same, by_bytes}
use Rattle.linking.specs.Chain.{list_count, own_methods, parent_of, chain, is_virtual, is_eligible, eligible}
use Rattle.linking.specs.Abi.{fixed_index}
use Rattle.linking.specs.Vtable.{Entry, built, fixed_of, method_entry, put_method, add_method, add_methods, slot_words}
use Rattle.linking.specs.Packages.{is_public, is_protected, Virtual, Open, public, protected, open_method, overridden, put_taken, take_slots, packages_over}
use Rattle.linking.proofs.Overriding.{virtual_of, overrides-overridden}
use Rattle.linking.proofs.ChainLaws.{parent_below}
use Rattle.slots.specs.Slots.{PackageRule, ChainMethod}
use Rattle.slots.specs.Made.{read_words, inherited_from, introduced_from, packages_from, Made}
use Rattle.slots.proofs.ListFacts.{found-same}
use Rattle.slots.proofs.ChainFacts.{chain-here, chain-up, method-here, method-up}
use Rattle.slots.proofs.PlaceFacts.{Signature, Good, good_less, good_none}
use Rattle.slots.proofs.FixedFacts.{method_signature, signature-same}
use Rattle.slots.proofs.EntryFacts.{at, own-word, Shows, set-good, append-good, slot_for, slot-below, slot-shows, slot-none}
use Rattle.slots.proofs.ReadFacts.{length-words, word_at, read_known}
use Rattle.slots.proofs.PackageTables.{Targets, targets-up, Step, stepped}
use Rattle.slots.proofs.TakenFacts.{taken_of, taken_in_lem, PutAt, stored, left, added, put-at, Over, over-start, over-take, slots, taken-signature}

-- ---- what eligible methods are to JVMS 5.4.5

abbrev pub Never : Signature → ℕ → Type 0
Never s i = ⊥

eligible_virtual : (ws text : List ℕ) (c m : ℕ) → Memᴰ m (own_methods ws c) → eligible ws text m ≡ true → Virtual ws c m
unfolding eligible is_eligible
eligible_virtual ws text c m i e =
    virtual_of ws text c m i (and_both (is_virtual (method_flags ws m)) (not (eqb (get_or (method_name ws text m) 0 0) 60)) e).0

open_marked : (ws text : List ℕ) (k a c : ℕ) → (is_public (method_flags ws k) ≡ true) ⊎ (is_protected (method_flags ws k) ≡ true) → Open ws text k a c
open_marked ws text k a c (inl e) = public e
open_marked ws text k a c (inr e) = protected e

-- ---- one place taken, or none

put-again : (e : Entry) (T : List Entry) (j : ℕ) (ys : List ℕ) → ((y : ℕ) → Memᴰ y ys → y ≡ j)
    → fold (λ U i. set U i e) (set T j e) ys ≡ set T j e
unfolding fold
put-again e T j [] h = refl
put-again e T j (y ∷ ys) h = rw (h y (Memᴰ.head refl), set-set T j e e) (put-again e T j ys (λ z k. h z (Memᴰ.tail k)))

put_same : (e : Entry) (T : List Entry) (js : List ℕ) (j : ℕ) → Memᴰ j js → ((x : ℕ) → Memᴰ x js → x ≡ j) → put_taken e T js ≡ set T j e
unfolding put_taken
put_same e T [] j i one = absurd (Memᴰ.not-nil i)
put_same e T (x ∷ js) j i one = rw (one x (Memᴰ.head refl)) (put-again e T j js (λ y k. one y (Memᴰ.tail k)))

no_members : (js : List ℕ) → ((x : ℕ) → Memᴰ x js → ⊥) → js ≡ []
no_members [] h = refl
no_members (x ∷ js) h = absurd (h x (Memᴰ.head refl))

module _ (ws text abi labels : List ℕ) where
  -- "every eligible method is public", or protected; "no class declares a signature twice", of eligible methods
  abbrev pub Opens : ℕ → Type 0
  Opens c =
      (m : ℕ) → ChainMethod ws c m → eligible ws text m ≡ true
      → (is_public (method_flags ws m) ≡ true) ⊎ (is_protected (method_flags ws m) ≡ true)

  abbrev pub Once : ℕ → Type 0
  Once c =
      (d m k : ℕ) → Memᴰ d (chain ws c) → Memᴰ m (own_methods ws d) → Memᴰ k (own_methods ws d) → eligible ws text m ≡ true → eligible ws text k ≡ true
      → method_signature ws text m ≡ method_signature ws text k → m ≡ k

  module _ (tables : ℕ → List ℕ) (P : ℕ → Type 0) where
    -- ---- tables that the old rule made of the same methods

    module _ (zeros : ℕ → List ℕ) where
      -- class c's table is what the old rule makes of its parent's, where no class of the chain has an ABI entry
      pub record MadeZero (c : ℕ) : Type 0 where
        pub entries : List Entry
        pub stubs : List ℕ
        pub from : add_methods (by_bytes ws text abi labels) ws text abi [] (own_methods ws c) (inherited_from ws text abi labels zeros c) ≡ built entries
        pub words : zeros c ≡ slot_words stubs 0 entries

      -- the same table; its signatures are pairwise different, and each slot was introduced by an eligible method
      pub record Same (c : ℕ) : Type 0 where
        pub equal : tables c ≡ zeros c
        pub good : Good Never (Shows ws text (read_words ws text abi labels c (tables c)))
        pub introducers : (i : ℕ) → i < length (tables c)
            → (k : ℕ) × (introduced_from ws text abi labels tables c i ≡ Some k) × ChainMethod ws c k × (eligible ws text k ≡ true)

    -- ---- one class over its parent

    module _ (c : ℕ) (h : 0 < c) (t : Targets ws text abi labels c) (step : Step ws text abi labels tables P c h) (zeros : ℕ → List ℕ)
        (made-zero : MadeZero zeros c) (same : parent_of ws c ≢ 0 → Same zeros (parent_of ws c)) (opens : Opens c) (once : Once c) where
      abbrev inherited : List Entry
      inherited = inherited_from ws text abi labels tables c

      abbrev T : List Entry
      T = packages_from ws text abi labels tables c

      abbrev first : ℕ → Option ℕ
      first = introduced_from ws text abi labels tables (parent_of ws c)

      abbrev Inherits : List Entry → Type 0
      Inherits U = Over ws text abi labels c h first inherited step.introduces step.ours U

      abbrev take-one : List Entry → ℕ → List Entry
      take-one U m = take_slots (methods_same (by_bytes ws text abi labels)) ws text first (length inherited) c U m

      -- the table once the methods below a have been added: what stands past the inherited slots are eligible ones of these
      record Between (a : ℕ) (U : List Entry) : Type 0 where
        inherits : Inherits U
        good : Good Never (Shows ws text U)
        new : (x : ℕ) → length inherited ≤ x → x < length U
            → (p : ℕ) × ((at U x).method ≡ Some p) × Memᴰ p (own_methods ws c) × (eligible ws text p ≡ true) × (p < a)

      between_start : (a : ℕ) → Between a inherited
      between_start a = record {
        inherits = over-start ws text abi labels c h first inherited step.introduces step.ours;
        good = by (eqb (parent_of ws c) 0)
            (λ q. rw (step.no_parent (eqb-true (parent_of ws c) 0 q)) (good_none (λ i s r. not_found r.holds)))
            (λ q. let n = eqb-false (parent_of ws c) 0 q in rw (step.some-parent n) (same n).good);
        new = λ x l b. absurd (omega arith);
      }

      module _ (a : ℕ) (own : Memᴰ a (own_methods ws c)) (U : List Entry) (z : Between a U) where
        abbrev e : Entry
        e = method_entry ws a

        abbrev js : List ℕ
        js = slots ws text abi labels c h first inherited step.introduces step.ours a

        -- the signature at a slot that a takes
        taken-shows : (x : ℕ) → Memᴰ x js → Shows ws text U x (method_signature ws text a)
        taken-shows x i =
            let t = taken_of first (overridden (methods_same (by_bytes ws text abi labels)) ws text c a) (length inherited) x i in
            let o = step.ours x t.below in
            let s = z.inherits.stays x o.method t.below o.holds in
            record {
              method = s.method;
              holds = s.holds;
              is = s.is
                  ∙ sym (taken-signature ws text abi labels c h first inherited step.introduces step.ours a x o.method own i o.holds);
            }

        -- a's signature is at no slot that this class appended
        not_new : eligible ws text a ≡ true → (j : ℕ) → j < length U → Shows ws text U j (method_signature ws text a) → j < length inherited
        not_new el j l s =
            by (ltb j (length inherited)) (λ t. ltb-true j (length inherited) t)
            (λ t.
            let r = z.new j (ltb-false j (length inherited) t) l in
            let q : s.method ≡ r.0 = found-same (sym s.holds ∙ r.1) in
            let d : r.0 ≡ a = once c r.0 a (chain-here ws c h) r.2 own r.3 el (ap (method_signature ws text) (sym q) ∙ s.is) in
            let b = r.4 in absurd (omega arith))

        -- an inherited slot of its signature was introduced by a method that a overrides
        takes : eligible ws text a ≡ true → (j : ℕ) → j < length inherited → Shows ws text U j (method_signature ws text a) → Memᴰ j js
        takes el j l s =
            let n = step.with_parent j l in
            let o = step.ours j l in
            let y = z.inherits.stays j o.method l o.holds in
            let r = step.introduces j o.method l o.holds in
            let g = (same n).introducers j (omega (arith, l, step.inherited-length n)) in
            let k : g.0 ≡ r.0 = found-same (sym g.1 ∙ r.1) in
            let m : y.method ≡ s.method = found-same (sym y.holds ∙ s.holds) in
            let q : method_signature ws text a ≡ method_signature ws text g.0 =
            sym s.is ∙ ap (method_signature ws text) (sym m) ∙ y.is ∙ sym r.2 ∙ ap (method_signature ws text) (sym k) in
            taken_in_lem first (overridden (methods_same (by_bytes ws text abi labels)) ws text c a) (length inherited) j (record {
              below = l;
              method = g.0;
              introduces = g.1;
              among = overrides-overridden ws text abi labels c a h
                  (open_method g.2.along (eligible_virtual ws text c a own el)
                  (eligible_virtual ws text g.2.owner g.0 g.2.own g.3).declared (signature-same ws text q)
                  (open_marked ws text g.0 g.2.owner c
                  (opens g.0 (record { owner = g.2.owner; along = chain-up ws c h g.2.along; own = g.2.own }) g.3)));
            })

        stored_same : eligible ws text a ≡ true → (j : ℕ) → slot_for ws text abi labels a U ≡ Some j → put_taken e U js ≡ set U j e
        stored_same el j q = search (rules, slot-shows, not_new, slot-below, put_same, takes, taken-shows)

        added-same : slot_for ws text abi labels a U ≡ None → js ≡ []
        added-same q = no_members js (λ x i. slot-none ws text abi labels a U q x (taken-shows x i))

        add_same : add_method (by_bytes ws text abi labels) ws text abi [] a U ≡ built (take-one U a)
        unfolding add_method take_slots put_method fixed_of fixed_index first_found
        add_same =
            by (eligible ws text a)
            (λ t.
            rw t
            (by-found (slot_for ws text abi labels a U)
            (λ j q. rw (q, stored_same t j q))
            (λ q. let d : put_taken e U js ≡ U ++ (e ∷ []) = ap (put_taken e U) (added-same q) ∙ unfold put_taken in refl in rw (q, d))))
            (λ t. rw t)

        good-next : Good Never (Shows ws text (take-one U a))
        unfolding take_slots
        good-next =
            by (eligible ws text a)
            (λ t.
            rw t
            (by-found (slot_for ws text abi labels a U)
            (λ j q.
            let s = slot-shows ws text abi labels a U j q in
            rw (stored_same t j q)
            (set-good ws text U e a refl j (slot-below ws text abi labels a U j q) (λ i x. absurd x)
            (λ i k. z.good.unique i j (method_signature ws text a) k s) z.good))
            (λ q.
            let d : put_taken e U js ≡ U ++ (e ∷ []) = ap (put_taken e U) (added-same q) ∙ unfold put_taken in refl in
            rw d (append-good ws text U e a refl (λ i x. absurd x) (slot-none ws text abi labels a U q) z.good))))
            (λ t. rw t z.good)

        new-next : (x : ℕ) → length inherited ≤ x → x < length (take-one U a)
            → (p : ℕ) × ((at (take-one U a) x).method ≡ Some p) × Memᴰ p (own_methods ws c) × (eligible ws text p ≡ true) × (p < a + 1)
        unfolding take_slots
        new-next x l b =
            by (eligible ws text a)
            (λ t. rw t (placed t (put-at e U js below x (rw t at b))))
            (λ t. rw t (older (z.new x l (rw t at b))))
          where
            older : (p : ℕ) × ((at U x).method ≡ Some p) × Memᴰ p (own_methods ws c) × (eligible ws text p ≡ true) × (p < a)
                → (p : ℕ) × ((at U x).method ≡ Some p) × Memᴰ p (own_methods ws c) × (eligible ws text p ≡ true) × (p < a + 1)
            older r = (r.0, r.1, r.2, r.3, omega (arith, r.4))

            below : (j : ℕ) → Memᴰ j js → j < length U
            below j k =
                let t = taken_of first (overridden (methods_same (by_bytes ws text abi labels)) ws text c a) (length inherited) j k in
                omega (arith, t.below, z.inherits.longer)

            placed : eligible ws text a ≡ true → {f : Entry} → PutAt e U js x f
                → (p : ℕ) × (f.method ≡ Some p) × Memᴰ p (own_methods ws c) × (eligible ws text p ≡ true) × (p < a + 1)
            placed el {f} (stored i k q) =
                let t = taken_of first (overridden (methods_same (by_bytes ws text abi labels)) ws text c a) (length inherited) x k in
                absurd (omega (arith, t.below))
            placed el {f} (left i n q) = rw q (older (z.new x l i))
            placed el {f} (added i k q) = (a, ap (λ (y : Entry). y.method) q, own, el, omega arith)

        between_next : Between (a + 1) (take-one U a)
        between_next = record {
          inherits = over-take ws text abi labels c h first inherited step.introduces step.ours U a own z.inherits;
          good = good-next;
          new = new-next;
        }

      adds_same : (n a : ℕ) → ((m : ℕ) → Memᴰ m (numbers a n) → Memᴰ m (own_methods ws c)) → (U : List Entry) → Between a U
          → (add_methods (by_bytes ws text abi labels) ws text abi [] (numbers a n) U ≡ built (fold take-one U (numbers a n)))
          × Between (a + n) (fold take-one U (numbers a n))
      unfolding add_methods fold list_from
      adds_same zero a sub U z = let q : a + 0 ≡ a = omega arith in (refl, rw q z)
      adds_same (suc n) a sub U z =
          let own = sub a (Memᴰ.head refl) in
          let r = adds_same n (a + 1) (λ m i. sub m (Memᴰ.tail i)) (take-one U a) (between_next a own U z) in
          let q : a + 1 + n ≡ a + suc n = omega arith in
          (rw (add_same a own U z) r.0, rw q at r.1)

      both : (add_methods (by_bytes ws text abi labels) ws text abi [] (own_methods ws c) inherited ≡ built T) × (top : ℕ) × Between top T
      unfolding own_methods packages_from packages_over
      both =
          let k = list_count (class_first_method ws c) (class_method_count ws c) method_limit in
          let r = adds_same k (class_first_method ws c) (λ m i. unfold own_methods in i) inherited (between_start (class_first_method ws c)) in
          (r.0, class_first_method ws c + k, r.1)

      inherited-zero : inherited_from ws text abi labels zeros c ≡ inherited
      unfolding inherited_from
      inherited-zero = search rules

      entries-zero : made-zero.entries ≡ T
      entries-zero = search (rules, inherited-zero, both)

      zero_word : (x : ℕ) → x < length T → get_or (zeros c) x 0 ≡ (at T x).word
      zero_word x l =
          let o = step.over.ours x l in
          ap (λ (y : List ℕ). get_or y x 0) (made-zero.words ∙ ap (λ (y : List Entry). slot_words made-zero.stubs 0 y) entries-zero)
          ∙ word_at made-zero.stubs T x l
          ∙ own-word (at T x).word (get_or made-zero.stubs x 0) (λ z. t.nonzero o.method o.along (sym o.word ∙ z))

      zero-length : length (zeros c) ≡ length T
      zero-length = grind (arith, entries-zero, length-words made-zero.stubs 0 T)

      equal-one : tables c ≡ zeros c
      equal-one =
          ext_get_or 0 (tables c) (zeros c) (step.words-length ∙ sym zero-length)
          (λ x l. let b : x < length T = omega (arith, l, step.words-length) in step.word-is x b ∙ sym (zero_word x b))

      introducers-one : (i : ℕ) → i < length (tables c)
          → (k : ℕ) × (introduced_from ws text abi labels tables c i ≡ Some k) × ChainMethod ws c k × (eligible ws text k ≡ true)
      introducers-one i l =
          by (ltb i (length inherited))
          (λ u.
          let b = ltb-true i (length inherited) u in
          let n = step.with_parent i b in
          let r = (same n).introducers i (omega (arith, b, step.inherited-length n)) in
          (r.0, step.introduced-above i b ∙ r.1, method-up ws c h r.2, r.3))
          (λ u.
          let r = both.2.new i (ltb-false i (length inherited) u) (omega (arith, l, step.words-length)) in
          let k = step.known i r.0 (omega (arith, l, step.words-length)) r.1 in (
            r.0,
            step.introduced-below i (ltb-false i (length inherited) u) l ∙ k.reads,
            method-here ws c h r.2,
            r.3,
          ))

      same-one : Same zeros c
      same-one = record {
        equal = equal-one;
        good = good_less
            (λ i s k.
            let q = read_known ws text abi labels c (tables c) i k.method k.holds in
            record { method = k.method; holds = step.known_is i k.method q; is = k.is })
            both.2.good;
        introducers = introducers-one;
      }

    -- "gets the same slots as kind 0 throughout"
    pub same_tables : (zeros : ℕ → List ℕ) (bound c : ℕ) → c ≤ bound → 0 < c → PackageRule ws c → Targets ws text abi labels c → Opens c → Once c
        → ((d : ℕ) → Memᴰ d (chain ws c) → Made ws text abi labels tables P d) → ((d : ℕ) → Memᴰ d (chain ws c) → MadeZero zeros d) → Same zeros c
    same_tables zeros zero c b h kinds t opens once made zero-made = absurd (omega arith)
    same_tables zeros (suc bound) c b h kinds t opens once made zero-made =
        let f = parent_below ws c h in
        same-one c h t (stepped ws text abi labels tables P c h kinds t made) zeros (zero-made c (chain-here ws c h))
        (λ n.
        same_tables zeros bound (parent_of ws c) (omega arith) (omega arith) (λ d i. kinds d (chain-up ws c h i)) (targets-up ws text abi labels c h t)
        (λ m i. opens m (method-up ws c h i)) (λ d m k i. once d m k (chain-up ws c h i))
        (λ d i. made d (chain-up ws c h i)) (λ d i. zero-made d (chain-up ws c h i)))
        opens once
