-- The table of a class of kind 3 (specs/Takes.antt): of one method what it does to each slot, then of all of them in turn; and the slots that the
-- walk gives a method are those whose introducing method it overrides. Assumes nothing.
use Rattle.std.proofs.Common.{◌≡◌, refl, sym, ap, subst, ◌∙◌, ◌⊎◌, inl, inr, ⊎_elim, Bool, true, false, true≢false, List, [], ◌∷◌, ◌++◌, append_assoc, append-nil, ℕ, zero, suc, ◌+◌, ◌≤◌, ◌<◌, arith, length, set, drop, length-append, drop-set-lt, Option}
use mathlib.Core.List.Memᴰ
use mathlib.Core.List.{Memᴰ}
use Rattle.words.specs.Lists.{list_from, numbers, fold}
use Rattle.words.proofs.Bools.{by}
use Rattle.words.proofs.ListLaws.{numbers-within}
use Rattle.class_sheet.specs.ClassSheet.{class_limit, text_of, class_kind, class_first_method, class_method_count, method_limit}
use Rattle.abi_sheet.specs.AbiSheet.{abi_text_of}
use Rattle.set_rules.proofs.Valid.{valid}
use Rattle.linking.specs.Signature.{Same, methods_same, by_sheets}
use Rattle.linking.specs.Chain.{list_count, own_methods, parent_of, eligible}
use Rattle.linking.specs.Vtable.{Entry, method_entry, method_entries}
use Rattle.linking.specs.Packages.{overridden, introducing, taken_slots, put_taken, take_slots, packages_over, build_packages}
use Rattle.linking.specs.Link.{Outcome, LinkOutcome, link_def}
use Rattle.linking.proofs.Overriding.{overridden-overrides, overrides-overridden}
use Rattle.linking.proofs.Plans.{packages-within, plans}
use Rattle.slots.proofs.EntryFacts.{at}
use Rattle.slots.proofs.TakenFacts.{taken_of, taken_in_lem, PutAt, stored, left, added, put-at, put-length, stores-length}
use Rattle.matching.proofs.Numbered.{link_numbered_agrees}
use Rattle.calls.specs.Takes as spec
use Rattle.calls.specs.Takes.{Picked, none, pick, skip, TakesSlot, Stands, taken, Takes, LinkTakes, TakenSlots}
use Rattle.calls.proofs.Rows.{Accepted, link-cases}

-- ---- lists

by-list : {A : Type 0} (xs : List ℕ) → (xs ≡ [] → A) → ((y : ℕ) (ys : List ℕ) → xs ≡ y ∷ ys → A) → A
by-list [] f g = f refl
by-list (y ∷ ys) f g = g y ys refl

drop_snoc : {A : Type 0} (n : ℕ) (xs : List A) (x : A) → n ≤ length xs → drop n (xs ++ (x ∷ [])) ≡ drop n xs ++ (x ∷ [])
drop_snoc zero xs x h = refl
drop_snoc (suc n) [] x h = absurd (omega arith)
drop_snoc (suc n) (y ∷ xs) x h = drop_snoc n xs x (omega arith)

drop-whole : {A : Type 0} (xs : List A) → drop (length xs) xs ≡ []
drop-whole [] = refl
drop-whole (x ∷ xs) = drop-whole xs

stores-drop : (e : Entry) (n : ℕ) (js : List ℕ) (T : List Entry) → ((j : ℕ) → Memᴰ j js → j < n)
    → drop n (fold (λ U j. set U j e) T js) ≡ drop n T
unfolding fold
stores-drop e n [] T below = refl
stores-drop e n (j ∷ js) T below =
    stores-drop e n js (set T j e) (λ i k. below i (Memᴰ.tail k)) ∙ drop-set-lt n T j e (below j (Memᴰ.head refl))

-- what is picked by one property is picked by another that holds of the same elements
picked-by : {P Q : ℕ → Type 0} (xs : List ℕ) {ys : List ℕ} → ((x : ℕ) → Memᴰ x xs → P x → Q x) → ((x : ℕ) → Memᴰ x xs → Q x → P x)
    → Picked P xs ys → Picked Q xs ys
picked-by [] f g none = none
picked-by (x ∷ xs) f g (pick p r) =
    pick (f x (Memᴰ.head refl) p) (picked-by xs (λ y i. f y (Memᴰ.tail i)) (λ y i. g y (Memᴰ.tail i)) r)
picked-by (x ∷ xs) f g (skip n r) =
    skip (λ q. n (g x (Memᴰ.head refl) q)) (picked-by xs (λ y i. f y (Memᴰ.tail i)) (λ y i. g y (Memᴰ.tail i)) r)

-- ---- by the walk

module _ (alike : ℕ → ℕ → Bool) (ws text : List ℕ) (c : ℕ) (introduced : ℕ → Option ℕ) (P : List Entry) where
  abbrev entry : ℕ → Entry
  entry m = method_entry ws m

  abbrev slots : ℕ → List ℕ
  slots m = taken_slots introduced (overridden alike ws text c m) (length P)

  abbrev takes : List Entry → ℕ → List Entry
  takes = take_slots alike ws text introduced (length P) c

  record Taker (m i : ℕ) : Type 0 where
    it_is_eligible : eligible ws text m ≡ true
    slot : Memᴰ i (slots m)

  record Newly (m : ℕ) : Type 0 where
    it_is_eligible : eligible ws text m ≡ true
    takes_none : (i : ℕ) → Taker m i → ⊥

  slot-below : (m j : ℕ) → Memᴰ j (slots m) → j < length P
  slot-below m j k = (taken_of introduced (overridden alike ws text c m) (length P) j k).below

  -- one method

  puts : (T : List Entry) (m : ℕ) → eligible ws text m ≡ true → takes T m ≡ put_taken (entry m) T (slots m)
  unfolding take_slots
  puts T m t = rw t

  passes : (T : List Entry) (m : ℕ) → eligible ws text m ≡ false → takes T m ≡ T
  unfolding take_slots
  passes T m f = rw f

  longer : (T : List Entry) (m : ℕ) → length P ≤ length T → length P ≤ length (takes T m)
  longer T m l =
      by (eligible ws text m) (λ t. rw (puts T m t) (omega (arith, put-length (entry m) T (slots m)))) (λ f. rw (passes T m f) l)

  put_one : (T : List Entry) (m i : ℕ) → eligible ws text m ≡ true → i < length P → length P ≤ length T → {f : Entry} → PutAt (entry m) T (slots m) i f
      → (Taker m i × (f ≡ entry m)) ⊎ ((Taker m i → ⊥) × (f ≡ at T i))
  put_one T m i t h l (stored b k q) = inl (record { it_is_eligible = t; slot = k }, q)
  put_one T m i t h l (left b n q) = inr (λ k. n k.slot, q)
  put_one T m i t h l (added b k q) = absurd (omega arith)

  one_at : (T : List Entry) (m i : ℕ) → i < length P → length P ≤ length T
      → (Taker m i × (at (takes T m) i ≡ entry m)) ⊎ ((Taker m i → ⊥) × (at (takes T m) i ≡ at T i))
  one_at T m i h l =
      by (eligible ws text m)
      (λ t.
      rw (puts T m t)
      (put_one T m i t h l
      (put-at (entry m) T (slots m) (λ j k. omega (arith, slot-below m j k)) i (omega (arith, put-length (entry m) T (slots m))))))
      (λ f. rw (passes T m f) (inr (λ k. true≢false (sym k.it_is_eligible ∙ f), refl)))

  one-new : (T : List Entry) (m : ℕ) → length P ≤ length T
      → (Newly m × (takes T m ≡ T ++ (entry m ∷ [])))
      ⊎ ((Newly m → ⊥) × (drop (length P) (takes T m) ≡ drop (length P) T) × (length (takes T m) ≡ length T))
  unfolding put_taken
  one-new T m l =
      by (eligible ws text m)
      (λ t.
      by-list (slots m)
      (λ e. inl (record { it_is_eligible = t; takes_none = λ i k. Memᴰ.not-nil (rw e at k.slot) }, puts T m t ∙ rw e))
      (λ j js e.
      let below : (i : ℕ) → Memᴰ i (j ∷ js) → i < length P = λ i k. slot-below m i (rw e k) in
      let s : takes T m ≡ fold (λ U i. set U i (entry m)) T (j ∷ js) = puts T m t ∙ (unfold fold in rw e) in
      inr (
        λ n. n.takes_none j (record { it_is_eligible = t; slot = rw e (Memᴰ.head refl) }),
        ap (drop (length P)) s ∙ stores-drop (entry m) (length P) (j ∷ js) T below,
        ap length s ∙ stores-length (entry m) (j ∷ js) T,
      )))
      (λ f.
      inr (λ n. true≢false (sym n.it_is_eligible ∙ f), ap (drop (length P)) (passes T m f), ap length (passes T m f)))

  -- all of them, in order: an inherited slot goes to the last that takes it

  record Won (a k i : ℕ) (f : Entry) : Type 0 where
    winner : ℕ
    among : Memᴰ winner (numbers a k)
    taker : Taker winner i
    last : (n : ℕ) → Memᴰ n (numbers a k) → Taker n i → n ≤ winner
    is : f ≡ entry winner

  abbrev Either : ℕ → ℕ → ℕ → Entry → Entry → Type 0
  Either a k i f g = Won a k i f ⊎ (((n : ℕ) → Memᴰ n (numbers a k) → Taker n i → ⊥) × (f ≡ g))

  all-at : (k a : ℕ) (T : List Entry) (i : ℕ) → i < length P → length P ≤ length T → Either a k i (at (fold takes T (numbers a k)) i) (at T i)
  unfolding fold list_from
  all-at zero a T i h l = inr (λ n j. absurd (Memᴰ.not-nil j), refl)
  all-at (suc k) a T i h l =
      elim (all-at k (a + 1) (takes T a) i h (longer T a l)) [
        | inl w ↦ (let b = numbers-within (a + 1) k w.winner w.among in
            inl (record {
              winner = w.winner;
              among = Memᴰ.tail w.among;
              taker = w.taker;
              last = λ n j t. ⊎_elim (λ (e : n ≡ a). omega arith) (λ j. w.last n j t) (Memᴰ.cases_cons j);
              is = w.is;
            }))
        | inr r ↦ elim (one_at T a i h l) [
          | inl t ↦ inl (record {
            winner = a;
            among = Memᴰ.head refl;
            taker = t.0;
            last = λ n j u. ⊎_elim (λ (e : n ≡ a). omega arith) (λ j. absurd (r.0 n j u)) (Memᴰ.cases_cons j);
            is = r.1 ∙ t.1;
          })
          | inr t ↦ inr (λ n j u. ⊎_elim (λ (e : n ≡ a). t.0 (rw e at u)) (λ j. r.0 n j u) (Memᴰ.cases_cons j), r.1 ∙ t.1)
        ]
      ]

  -- and the new slots come after

  record Added (ms : List ℕ) (T U : List Entry) : Type 0 where
    new : List ℕ
    picked : Picked Newly ms new
    last_slots : drop (length P) U ≡ drop (length P) T ++ method_entries ws new
    count : length U ≡ length T + length new

  all_new : (ms : List ℕ) (T : List Entry) → length P ≤ length T → Added ms T (fold takes T ms)
  unfolding fold method_entries
  all_new [] T l = record { new = []; picked = none; last_slots = sym (append-nil (drop (length P) T)); count = omega arith }
  all_new (m ∷ ms) T l =
      let r = all_new ms (takes T m) (longer T m l) in
      elim (one-new T m l) [
        | inl n ↦ record {
          new = m ∷ r.new;
          picked = pick n.0 r.picked;
          last_slots = r.last_slots
              ∙ ap (λ (x : List Entry). drop (length P) x ++ method_entries ws r.new) n.1
              ∙ ap (λ (x : List Entry). x ++ method_entries ws r.new) (drop_snoc (length P) T (entry m) l)
              ∙ append_assoc (drop (length P) T) (entry m ∷ []) (method_entries ws r.new);
          count = omega (arith, r.count, ap length n.1, length-append T (entry m ∷ []));
        }
        | inr n ↦ record {
          new = r.new;
          picked = skip n.0 r.picked;
          last_slots = r.last_slots ∙ ap (λ (x : List Entry). x ++ method_entries ws r.new) n.1;
          count = omega (arith, r.count, n.2);
        }
      ]

-- ---- by the section

module _ (ws abi area : List ℕ) (c : ℕ) (some : 0 < c) (room : c ≤ class_limit) where
  abbrev text : List ℕ
  text = text_of ws

  abbrev labels : List ℕ
  labels = abi_text_of abi

  abbrev same : Same
  same = by_sheets ws abi

  abbrev alike : ℕ → ℕ → Bool
  alike = methods_same same

  abbrev first : ℕ → Option ℕ
  first = introducing same ws text abi labels area (parent_of ws c)

  abbrev inherited : List Entry
  inherited = spec.inherited ws abi area c

  abbrev ByWalk : ℕ → ℕ → Type 0
  ByWalk = Taker alike ws text c first inherited

  by_section : (m i : ℕ) → Memᴰ m (own_methods ws c) → ByWalk m i → TakesSlot ws abi area c m i
  by_section m i own t =
      let k = taken_of first (overridden alike ws text c m) (length inherited) i t.slot in
      let o = overridden-overrides ws text abi labels c m k.method own k.among in
      record {
        own = own;
        it_is_eligible = t.it_is_eligible;
        slot = k.below;
        introducer = k.method;
        introduced = k.introduces;
        owner = o.0;
        overrides = o.2;
      }

  by-walk : (m i : ℕ) → TakesSlot ws abi area c m i → ByWalk m i
  by-walk m i t = record {
    it_is_eligible = t.it_is_eligible;
    slot = taken_in_lem first (overridden alike ws text c m) (length inherited) i
        (record {
          below = t.slot;
          method = t.introducer;
          introduces = t.introduced;
          among = overrides-overridden ws text abi labels c m some t.overrides;
        });
  }

  stands : (T : List Entry) (a k i : ℕ) → own_methods ws c ≡ numbers a k
      → Either alike ws text c first inherited a k i (at T i) (at inherited i) → Stands ws abi area c T i
  stands T a k i e (inl w) =
      taken w.winner (by_section w.winner i (rw e w.among) w.taker)
      (λ n t. w.last n (rw e at t.own) (by-walk n i t)) w.is
  stands T a k i e (inr r) = spec.left (λ n t. r.0 n (rw e at t.own) (by-walk n i t)) r.1

  own-numbers : own_methods ws c ≡ numbers (class_first_method ws c) (list_count (class_first_method ws c) (class_method_count ws c) method_limit)
  unfolding own_methods
  own-numbers = refl

  abbrev build : List Entry
  build = build_packages same ws text abi labels area c

  build-is : build ≡ fold (take_slots alike ws text first (length inherited) c) inherited (own_methods ws c)
  unfolding packages_over
  build-is = packages-within same ws text abi labels area c room

  abbrev first-own : ℕ
  first-own = class_first_method ws c

  abbrev own-count : ℕ
  own-count = list_count (class_first_method ws c) (class_method_count ws c) method_limit

  abbrev all : List ℕ → List Entry
  all ms = fold (take_slots alike ws text first (length inherited) c) inherited ms

  table-takes : (T : List Entry) → build ≡ T → Takes ws abi area c T
  table-takes T e =
      let f : all (own_methods ws c) ≡ T = sym build-is ∙ e in
      let g : all (numbers first-own own-count) ≡ T = ap all (sym own-numbers) ∙ f in
      let a = rw f at (all_new alike ws text c first inherited (own_methods ws c) inherited (omega arith)) in
      record {
        stands = λ i h.
            stands T first-own own-count i own-numbers
            (rw g at (all-at alike ws text c first inherited own-count first-own inherited i h (omega arith)));
        new = a.new;
        methods_added = picked-by (own_methods ws c)
            (λ m own n. record { it_is_eligible = n.it_is_eligible; takes_none = λ i t. n.takes_none i (by-walk m i t) })
            (λ m own n. record { it_is_eligible = n.it_is_eligible; takes_none = λ i t. n.takes_none i (by_section m i own t) })
            a.picked;
        last_slots = a.last_slots ∙ ap (λ (x : List Entry). x ++ method_entries ws a.new) (drop-whole inherited);
        slots = a.count;
      }

-- ---- THE THEOREM

accepted-takes : (ws abi : List ℕ) (c : ℕ) (area stubs missing : List ℕ) → class_kind ws c ≡ 3
    → Accepted ws abi c area stubs missing (link_def ws abi c area stubs missing)
    → LinkTakes ws abi c area stubs (link_def ws abi c area stubs missing).outcome
accepted-takes ws abi c area stubs missing kind a = record {
  table = a.coming.table;
  takes = table-takes ws abi area c a.class.some (omega (arith, a.class.among, (valid ws abi a.valid).0.number_of_classes)) a.coming.table
      ((plans (by_sheets ws abi) ws (text_of ws) abi (abi_text_of abi) area c a.coming a.comes).packaged kind);
  answered = a.answers-slots;
  written = a.new-area;
}

taken_by_bytes : (ws abi : List ℕ) (c : ℕ) (area stubs missing : List ℕ) → class_kind ws c ≡ 3
    → (link_def ws abi c area stubs missing).outcome.refusal ≡ 0 → LinkTakes ws abi c area stubs (link_def ws abi c area stubs missing).outcome
taken_by_bytes ws abi c area stubs missing kind e =
    elim (link-cases ws abi c area stubs missing) [ inl r ↦ absurd (r.number e) | inr a ↦ accepted-takes ws abi c area stubs missing kind a ]

pub taken-slots : TakenSlots
taken-slots ws abi ns c area stubs missing f kind e =
    let o = ap (λ (x : LinkOutcome). x.outcome) (link_numbered_agrees ws abi ns f c area stubs missing) in
    subst (LinkTakes ws abi c area stubs) (sym o)
    (taken_by_bytes ws abi c area stubs missing kind (sym (ap (λ (x : Outcome). x.refusal) o) ∙ e))
