-- A class's own methods, added to a table one by one: each takes a slot where it may stand, or a new last one. So a good table stays good,
-- each entry is an old one or a method's, and a known entry keeps its signature. Assumes nothing.
use Rattle.std.proofs.lemmas.Grind.{common_steps}
use Rattle.std.proofs.Common.{rules, ◌≡◌, refl, sym, ap, ◌∙◌, ◌⊎◌, inl, inr, true, false, not, List, [], ◌∷◌, ◌++◌, ℕ, ◌≤◌, ◌<◌, arith, length, set, eqb, eqb-true, Some, None}
use mathlib.Core.List.{Memᴰ}
use borrow.Author.Tests.{not-false}
use Rattle.words.proofs.Bools.{by}
use Rattle.words.proofs.ListLaws.{by-found}
use Rattle.class_sheet.specs.ClassSheet.{method_target}
use Rattle.linking.specs.Signature.{of_method, by_bytes}
use Rattle.linking.specs.Chain.{on_found, eligible}
use Rattle.linking.specs.Abi.{chain_abi, minimum_size}
use Rattle.linking.specs.Vtable.{Entry, empty, Built, built, refused, on_built, fixed_of, entry_is_other, method_entry, put_method, add_method, add_methods}
use Rattle.linking.proofs.Plans.{built-same, not-built}
use Rattle.slots.proofs.ListFacts.{found-same, set_at, snoc_at}
use Rattle.slots.proofs.PlaceFacts.{Signature, OneIndex, Placed, Good}
use Rattle.slots.proofs.FixedFacts.{method_signature, Fixes, Live, fixed-some, fixed-none, fixed-room}
use Rattle.slots.proofs.EntryFacts.{at, Shows, shows, known-below, set-good, append-good, slot_for, slot-below, slot-shows, slot-none, not-other}

pub built_on : (b : Built) (f : List Entry → Built) (T : List Entry) → on_built b f ≡ built T → (U : List Entry) × (b ≡ built U) × (f U ≡ built T)
built_on (built U) f T e = (U, refl, e)
built_on (refused n) f T e = not-built e

module _ (ws text abi labels : List ℕ) where
  -- index i of T is where method m may stand: no other slot has its signature, this one has no other, and it is where the chain of class c fixes
  -- it, if at all
  pub record Seat (c m : ℕ) (T : List Entry) (i : ℕ) : Type 0 where
    pub below : i < length T
    pub alone : ((j k : ℕ) (s : Signature) → Shows ws text T j s → Shows ws text T k s → j ≡ k)
        → (j : ℕ) → Shows ws text T j (method_signature ws text m) → j ≡ i
    pub same : (s : Signature) → Shows ws text T i s → s ≡ method_signature ws text m
    pub placed : Good (Live ws text abi labels c) (Shows ws text T) → Placed (Live ws text abi labels c) (method_signature ws text m) i

  -- what one accepted method did
  pub data Did (c m : ℕ) (T U : List Entry) : Type 0 where
    stored : (i : ℕ) → Seat c m T i → set T i (method_entry ws m) ≡ U → Did c m T U
    added : Placed (Live ws text abi labels c) (method_signature ws text m) (length T) → ((j : ℕ) → Shows ws text T j (method_signature ws text m) → ⊥)
        → T ++ (method_entry ws m ∷ []) ≡ U → Did c m T U

  -- "each eligible method takes its fixed slot, else the slot of its signature, else a new last one"; rows 11 and 12 refuse the rest
  module _ (c : ℕ) (within : c ≤ 64) (one : OneIndex (Fixes ws text abi labels c)) (m : ℕ) (T : List Entry)
      (room : minimum_size abi (chain_abi ws text abi labels c) ≤ length T) where
    fixed_seat : (i : ℕ) → Fixes ws text abi labels c (method_signature ws text m) i
        → on_found (slot_for ws text abi labels m T) (λ j. not (eqb j i)) false ≡ false
        → entry_is_other (by_bytes ws text abi labels) (of_method m) (at T i) ≡ false → Seat c m T i
    fixed_seat i f slot other = record {
      below = let r = fixed-room ws text abi labels c within (method_signature ws text m) i f in omega arith;
      alone = λ unique j k. by-found (slot_for ws text abi labels m T)
          (λ n q.
          let e : n ≡ i = eqb-true n i (not-false (eqb n i) (rw q at slot)) in
          unique j n (method_signature ws text m) k (slot-shows ws text abi labels m T n q) ∙ e)
          (λ q. absurd (slot-none ws text abi labels m T q j k));
      same = not-other ws text abi labels m T i other;
      placed = λ g j l. one (method_signature ws text m) j i l.fixes f;
    }

    own_seat : (i : ℕ) → slot_for ws text abi labels m T ≡ Some i → Seat c m T i
    own_seat i e =
        let k = slot-shows ws text abi labels m T i e in
        record {
          below = slot-below ws text abi labels m T i e;
          alone = λ unique j l. unique j i (method_signature ws text m) l k;
          same = λ s l. sym l.is ∙ ap (method_signature ws text) (found-same (sym l.holds ∙ k.holds)) ∙ k.is;
          placed = λ g. g.placed i (method_signature ws text m) k;
        }

    last-placed : fixed_of (by_bytes ws text abi labels) abi (chain_abi ws text abi labels c) m ≡ None
        → Placed (Live ws text abi labels c) (method_signature ws text m) (length T)
    last-placed e j f = absurd (fixed-none ws text abi labels c within m j e f.fixes)

    did : (U : List Entry)
        → put_method (by_bytes ws text abi labels) ws (fixed_of (by_bytes ws text abi labels) abi (chain_abi ws text abi labels c) m)
        (slot_for ws text abi labels m T) m T ≡ built U
        → Did c m T U
    unfolding put_method
    did U e =
        by-found (fixed_of (by_bytes ws text abi labels) abi (chain_abi ws text abi labels c) m)
        (λ i q.
        by (on_found (slot_for ws text abi labels m T) (λ j. not (eqb j i)) false)
        (λ t. not-built (rw (q, t) at e))
        (λ t.
        by (entry_is_other (by_bytes ws text abi labels) (of_method m) (at T i))
        (λ u. not-built (rw (q, t, u) at e))
        (λ u. stored i (fixed_seat i (fixed-some ws text abi labels c within m i q) t u) (built-same (rw (q, t, u) at e)))))
        (λ q.
        by-found (slot_for ws text abi labels m T)
        (λ i r. stored i (own_seat i r) (built-same (rw (q, r) at e)))
        (λ r. added (last-placed q) (slot-none ws text abi labels m T r) (built-same (rw (q, r) at e))))

  did-longer : {c m : ℕ} {T U : List Entry} → Did c m T U → length T ≤ length U
  did-longer {m = m} {T = T} (stored i s e) = search rules
  did-longer {m = m} {T = T} (added p n e) = grind (arith, common_steps)

  did-good : {c m : ℕ} {T U : List Entry} → Did c m T U
      → Good (Live ws text abi labels c) (Shows ws text T) → Good (Live ws text abi labels c) (Shows ws text U)
  did-good {m = m} {T = T} (stored i s e) g =
      rw (← e) (set-good ws text T (method_entry ws m) m refl i s.below (s.placed g) (s.alone g.unique) g)
  did-good {m = m} {T = T} (added p n e) g = rw (← e) (append-good ws text T (method_entry ws m) m refl p n g)

  -- ---- method by method

  pub data Adds (c : ℕ) : List ℕ → List Entry → List Entry → Type 0 where
    done : {T : List Entry} → Adds c [] T T
    skip : {m : ℕ} {ms : List ℕ} {T U : List Entry} → Adds c ms T U → Adds c (m ∷ ms) T U
    add : {m : ℕ} {ms : List ℕ} {T U W : List Entry} → eligible ws text m ≡ true → Did c m T U → Adds c ms U W → Adds c (m ∷ ms) T W

  pub adds : (c : ℕ) → c ≤ 64 → OneIndex (Fixes ws text abi labels c) → (ms : List ℕ) (T U : List Entry)
      → minimum_size abi (chain_abi ws text abi labels c) ≤ length T
      → add_methods (by_bytes ws text abi labels) ws text abi (chain_abi ws text abi labels c) ms T ≡ built U → Adds c ms T U
  unfolding add_methods add_method
  adds c within one [] T U room e = rw (built-same e) done
  adds c within one (m ∷ ms) T U room e =
      by (eligible ws text m)
      (λ q.
      let b =
      built_on (put_method (by_bytes ws text abi labels) ws (fixed_of (by_bytes ws text abi labels) abi (chain_abi ws text abi labels c) m)
      (slot_for ws text abi labels m T) m T)
      (add_methods (by_bytes ws text abi labels) ws text abi (chain_abi ws text abi labels c) ms) U (rw q at e) in
      let d = did c within one m T room b.0 b.1 in
      add q d (adds c within one ms b.0 U (omega (arith, did-longer d)) b.2))
      (λ q. skip (adds c within one ms T U room (rw q at e)))

  pub adds-good : {c : ℕ} {ms : List ℕ} {T U : List Entry} → Adds c ms T U
      → Good (Live ws text abi labels c) (Shows ws text T) → Good (Live ws text abi labels c) (Shows ws text U)
  adds-good done g = g
  adds-good (skip a) g = adds-good a g
  adds-good (add q d a) g = adds-good a (did-good d g)

  -- ---- what holds of each entry, and of each method's, holds of each entry after

  module _ (R : ℕ → Entry → Type 0) where
    did-each : {c m : ℕ} {T U : List Entry} → ((i : ℕ) → R i (method_entry ws m)) → Did c m T U
        → ((i : ℕ) → R i (at T i)) → (i : ℕ) → R i (at U i)
    did-each {m = m} {T = T} own (stored i s e) h j =
        rw (← e)
        (elim (set_at T i j (method_entry ws m) empty s.below) [ inl q ↦ rw q.1 (own j) | inr q ↦ rw q.1 (h j) ])
    did-each {m = m} {T = T} own (added p n e) h j =
        rw (← e) (elim (snoc_at T (method_entry ws m) j empty) [ inl q ↦ rw q.1 (own j) | inr q ↦ rw q (h j) ])

    pub adds-each : {c : ℕ} {ms : List ℕ} {T U : List Entry} → Adds c ms T U → ((m i : ℕ) → Memᴰ m ms → R i (method_entry ws m))
        → ((i : ℕ) → R i (at T i)) → (i : ℕ) → R i (at U i)
    adds-each done own h = h
    adds-each (skip a) own h = adds-each a (λ m i k. own m i (Memᴰ.tail k)) h
    adds-each (add {m = m} q d a) own h = adds-each a (λ n i k. own n i (Memᴰ.tail k)) (did-each (λ i. own m i (Memᴰ.head refl)) d h)

  -- ---- what a known entry keeps

  -- an eligible method of the list has the signature, and its target is the word
  pub record Declared (ms : List ℕ) (s : Signature) (word : ℕ) : Type 0 where
    pub method : ℕ
    pub own : Memᴰ method ms
    pub eligible : eligible ws text method ≡ true
    pub is : method_signature ws text method ≡ s
    pub target : method_target ws method ≡ word

  -- entry e, which showed s, is now f
  pub record Stays (ms : List ℕ) (s : Signature) (e f : Entry) : Type 0 where
    pub method : ℕ
    pub holds : f.method ≡ Some method
    pub is : method_signature ws text method ≡ s
    pub word : (f.word ≡ e.word) ⊎ Declared ms s f.word

  pub stays_same : (ms : List ℕ) (e f : Entry) (m : ℕ) → e.method ≡ Some m → f ≡ e → Stays ms (method_signature ws text m) e f
  stays_same ms e f m k q = rw q (record { method = m; holds = k; is = refl; word = inl refl })

  pub stays-own : (ms : List ℕ) (s : Signature) (e f : Entry) (m : ℕ) → Memᴰ m ms → eligible ws text m ≡ true → method_signature ws text m ≡ s
      → f ≡ method_entry ws m → Stays ms s e f
  stays-own ms s e f m i q k r =
      rw r (record { method = m; holds = refl; is = k; word = inr (record { method = m; own = i; eligible = q; is = k; target = refl }) })

  stays_then : (ms : List ℕ) (s : Signature) (e f g : Entry) → Stays ms s e f
      → ((m : ℕ) → f.method ≡ Some m → Stays ms (method_signature ws text m) f g) → Stays ms s e g
  stays_then ms s e f g k next = go (next k.method k.holds)
    where
      which : (g.word ≡ f.word) ⊎ Declared ms s g.word → (f.word ≡ e.word) ⊎ Declared ms s f.word
          → (g.word ≡ e.word) ⊎ Declared ms s g.word
      which (inr d) q = inr d
      which (inl p) (inl q) = inl (p ∙ q)
      which (inl p) (inr d) = inr (rw p d)

      go : Stays ms (method_signature ws text k.method) f g → Stays ms s e g
      go l = record { method = l.method; holds = l.holds; is = l.is ∙ k.is; word = which (rw k.is at l.word) k.word }

  module _ (own : List ℕ) where
    did-stays : {c m : ℕ} {T U : List Entry} → Memᴰ m own → eligible ws text m ≡ true → Did c m T U
        → (i n : ℕ) → (at T i).method ≡ Some n → Stays own (method_signature ws text n) (at T i) (at U i)
    did-stays {m = m} {T = T} k q (stored j s e) i n h =
        rw (← e)
        (elim (set_at T j i (method_entry ws m) empty s.below) [
          | inl p ↦ (let g : (at T j).method ≡ Some n = rw p.0 at h in
              stays-own own (method_signature ws text n) (at T i) (at (set T j (method_entry ws m)) i) m k q
              (sym (s.same (method_signature ws text n) (shows ws text T j n g))) p.1)
          | inr p ↦ stays_same own (at T i) (at (set T j (method_entry ws m)) i) n h p.1
        ])
    did-stays {m = m} {T = T} k q (added p s e) i n h =
        rw (← e)
        (elim (snoc_at T (method_entry ws m) i empty) [
          | inl r ↦ (let z = r.0 in absurd (omega (arith, known-below T i n h)))
          | inr r ↦ stays_same own (at T i) (at (T ++ (method_entry ws m ∷ [])) i) n h r
        ])

    pub adds-stays : {c : ℕ} {ms : List ℕ} {T U : List Entry} → Adds c ms T U → ((m : ℕ) → Memᴰ m ms → Memᴰ m own)
        → (i n : ℕ) → (at T i).method ≡ Some n → Stays own (method_signature ws text n) (at T i) (at U i)
    adds-stays (done {T = T}) sub i n h = stays_same own (at T i) (at T i) n h refl
    adds-stays (skip a) sub i n h = adds-stays a (λ m k. sub m (Memᴰ.tail k)) i n h
    adds-stays (add {m = m} {T = T} {U = U} {W = W} q d a) sub i n h =
        stays_then own (method_signature ws text n) (at T i) (at U i) (at W i) (did-stays (sub m (Memᴰ.head refl)) q d i n h)
        (λ k e. adds-stays a (λ m k. sub m (Memᴰ.tail k)) i k e)
