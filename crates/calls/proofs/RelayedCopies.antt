-- A class with an ABI entry of its own has its copies where `relayed` puts the parent's entries (`relayed`, `in_order`, specs/Sources.antt): what is put over
-- them, or behind, is no copy. Assumes nothing.
use Rattle.std.proofs.Common.{◌≡◌, refl, sym, ap, ◌∙◌, subst, inl, inr, ◌⊎◌, Bool, true, false, cond, List, [], ◌∷◌, ◌++◌, ℕ, zero, suc, ◌+◌, ◌-◌, ◌≤◌, ◌<◌, arith, length, get_or, set, drop, ltb, ltb-true, ltb-false, Option, Some}
use mathlib.Core.Bool.{false≢true}
use lib.ListN.{get_or-append, get_or-eq_default, length-drop}
use lib.Seq.{get_or-drop}
use Rattle.words.specs.Lists.{list_from, fold, some}
use Rattle.words.proofs.Bools.{by}
use Rattle.words.proofs.Lists.{skip}
use Rattle.words.proofs.ListLaws.{by-found, length-list-from, get_d_list_from, not_found}
use Rattle.linking.specs.Signature.{Same, methods_same}
use Rattle.linking.specs.Chain.{own_methods}
use Rattle.linking.specs.Abi.{class_abi, chain_abi, minimum_size}
use Rattle.linking.specs.Vtable.{Entry, empty, built, parent_entries, is_of, occurs, last_of, stays, standing, follows, following, laid_out, fixed_of, distance_of, staying_of, relayed, inherited_table, build_methods}
use Rattle.linking.specs.Before.{builds_methods, relays_class}
use Rattle.linking.specs.Relays.{holder}
use Rattle.linking.specs.Link.{built_table, generated_table}
use Rattle.linking.specs.Missing.{table_by}
use Rattle.linking.proofs.Comparing.{Compares}
use Rattle.linking.proofs.Relaying.{found-same, held}
use Rattle.linking.proofs.Relayed.{occurs-same}
use Rattle.linking.proofs.RelayLoop.{signatures, fixed-below, holder-stays}
use Rattle.slots.proofs.ListFacts.{snoc_at}
use Rattle.calls.specs.Sources.{at_index, behind, IsRelayed}
use Rattle.calls.proofs.MovedLinks.{kind-cases}
use Rattle.calls.proofs.Sources.{adds, read-parent}
use Rattle.calls.proofs.SameIndex.{NoCopy, set-either}

-- ---- the last entry of a signature

module _ (same : ℕ → ℕ → Bool) where
  -- x is the last entry of m's signature among es, or l, where there is none
  data Last (m : ℕ) (es : List Entry) (x l : Entry) : Type 0 where
    none : x ≡ l → occurs same m es ≡ false → Last m es x l
    at : (k : ℕ) → k < length es → x ≡ get_or es k empty → is_of same m (get_or es k empty) ≡ true → occurs same m (drop (suc k) es) ≡ false → Last m es x l

  last_this : {m : ℕ} {e x l : Entry} {es : List Entry} → is_of same m e ≡ true → Last m es x e → Last m (e ∷ es) x l
  last_this t (none q o) = at 0 (omega arith) q t o
  last_this t (at k h q b o) = at (suc k) (omega arith) q b o

  last_later : {m : ℕ} {e x l : Entry} {es : List Entry} → is_of same m e ≡ false → Last m es x l → Last m (e ∷ es) x l
  unfolding occurs some
  last_later t (none q o) = none q (rw (t, o) refl)
  last_later t (at k h q b o) = at (suc k) (omega arith) q b o

  last_at : (m : ℕ) (l : Entry) (es : List Entry) → Last m es (last_of same m l es) l
  unfolding last_of fold occurs some
  last_at m l [] = none refl refl
  last_at m l (e ∷ es) =
      by (is_of same m e)
      (λ t. subst (λ (y : Entry). Last m (e ∷ es) (last_of same m y es) l) (sym (ap (λ (b : Bool). cond b e l) t)) (last_this t (last_at m e es)))
      (λ t. subst (λ (y : Entry). Last m (e ∷ es) (last_of same m y es) l) (sym (ap (λ (b : Bool). cond b e l) t)) (last_later t (last_at m l es)))

-- ---- what follows

module _ (same : ℕ → ℕ → Bool) (fixed staying : ℕ → Option ℕ) where
  -- the k-th of es that follow stands in es at a place, and those after it follow of what comes after that
  record Follows (es : List Entry) (k : ℕ) : Type 0 where
    place : ℕ
    below : place < length es
    is : get_or (following same fixed staying es) k empty ≡ get_or es place empty
    goes : follows same fixed staying (get_or es place empty) (drop (suc place) es) ≡ true
    rest : drop (suc k) (following same fixed staying es) ≡ following same fixed staying (drop (suc place) es)

  follows_this : (e : Entry) (es : List Entry) (k : ℕ) → follows same fixed staying e es ≡ true
      → ((i : ℕ) → k ≡ suc i → Follows es i) → Follows (e ∷ es) k
  unfolding following
  follows_this e es zero t f = record { place = 0; below = omega arith; is = rw t refl; goes = t; rest = rw t refl }
  follows_this e es (suc k) t f =
      let r = f k refl in
      let b = r.below in record { place = suc r.place; below = omega arith; is = rw t r.is; goes = r.goes; rest = rw t r.rest }

  follows_later : (e : Entry) (es : List Entry) (k : ℕ) → follows same fixed staying e es ≡ false → Follows es k → Follows (e ∷ es) k
  unfolding following
  follows_later e es k t r =
      let b = r.below in record { place = suc r.place; below = omega arith; is = rw t r.is; goes = r.goes; rest = rw t r.rest }

  following_at : (es : List Entry) (k : ℕ) → k < length (following same fixed staying es) → Follows es k
  unfolding following
  following_at [] k h = absurd (omega arith)
  following_at (e ∷ es) k h =
      by (follows same fixed staying e es)
      (λ t. let l = rw t at h in follows_this e es k t (λ i z. following_at es i (omega arith)))
      (λ t. follows_later e es k t (following_at es k (rw t at h)))

-- ---- of the parent's entries, which are copies of themselves

module _ (same : Same) (compares : Compares same) (ws text abi labels area : List ℕ) (c : ℕ) where
  abbrev abis : List ℕ
  abis = chain_abi ws text abi labels c

  abbrev P : List Entry
  P = parent_entries same ws text abi labels area c

  abbrev alike : ℕ → ℕ → Bool
  alike = methods_same same

  abbrev fixed : ℕ → Option ℕ
  fixed = fixed_of same abi abis

  abbrev distance : ℕ → ℕ
  distance = distance_of same abi abis

  abbrev staying : ℕ → Option ℕ
  staying = staying_of same abi abis P

  abbrev n : ℕ
  n = minimum_size abi abis

  abbrev R : List Entry
  R = relayed same abi abis P

  no_copy : {X : Type 0} (e : Entry) (j : ℕ) → e ≡ empty → e.source ≡ Some j → X
  no_copy e j q s = not_found (sym (ap (λ (x : Entry). x.source) q) ∙ s)

  -- an entry of the parent's that is a copy of entry j is entry j
  at_place : (e : Entry) (k j : ℕ) → k < length P → e ≡ get_or P k empty → e.source ≡ Some j → k ≡ j
  at_place e k j h q s = found-same (sym ((read-parent same ws text abi labels area c k h).0) ∙ ap (λ (x : Entry). x.source) (sym q) ∙ s)

  below-is : (i : ℕ) → i < n → get_or R i empty ≡ standing alike staying P i
  unfolding relayed laid_out
  below-is i h =
      let z : 0 + i ≡ i = omega arith in
      get_or-append (list_from (standing alike staying P) 0 n) (following alike fixed staying P) empty i
      (rw (length-list-from (standing alike staying P) 0 n) h)
      ∙ get_d_list_from (standing alike staying P) 0 n i empty h ∙ ap (standing alike staying P) z

  past-is : (i : ℕ) → n ≤ i → get_or R i empty ≡ get_or (following alike fixed staying P) (i - n) empty
  unfolding relayed laid_out
  past-is i h =
      skip (list_from (standing alike staying P) 0 n) (following alike fixed staying P) i (i - n) empty
      (rw (length-list-from (standing alike staying P) 0 n) (omega arith))

  -- at an index
  stands : (i h j : ℕ) → staying i ≡ Some h → (x : Entry) → Last alike h P x empty → x.source ≡ Some j
      → (x ≡ get_or P j empty) × IsRelayed same ws text abi labels area c i j
  unfolding stays is_of
  stands i h j q x (none e o) s = no_copy x j e s
  stands i h j q x (at k l e b o) s =
      let z = at_place x k j l e s in
      subst (λ (y : ℕ). (x ≡ get_or P y empty) × IsRelayed same ws text abi labels area c i y) z
      (by-found (get_or P k empty).method
      (λ m r.
      let g = signatures same abi compares abis in
      let t : alike m h ≡ true = rw r at b in
      let holds : holder fixed distance P i ≡ Some h = ap (λ (f : ℕ → Option ℕ). f i) (holder-stays same abi abis P) ∙ q in
      let index : fixed m ≡ Some i = g.same_index m h t ∙ (held fixed distance i P h holds).index in (
        e,
        at_index m r index (rw q (g.same_sym m h t))
            (occurs-same alike fixed distance P g n (fixed-below same abi abis) m h t (drop (suc k) P) ∙ o),
      ))
      (λ r. absurd (false≢true (rw r at b))))

  -- behind the indices: within what follows
  within : (i j : ℕ) → (get_or (following alike fixed staying P) i empty).source ≡ Some j → i < length (following alike fixed staying P)
  within i j s =
      by (ltb i (length (following alike fixed staying P))) (λ t. ltb-true i (length (following alike fixed staying P)) t)
      (λ t. no_copy (get_or (following alike fixed staying P) i empty) j
      (get_or-eq_default (following alike fixed staying P) empty (ltb-false i (length (following alike fixed staying P)) t)) s)

  copied : (i j : ℕ) → (get_or R i empty).source ≡ Some j → (get_or R i empty ≡ get_or P j empty) × IsRelayed same ws text abi labels area c i j
  unfolding standing
  copied i j s =
      by (ltb i n)
      (λ t.
      let e = below-is i (ltb-true i n t) in
      by-found (staying i)
      (λ h q. stands i h j q (get_or R i empty) (rw (e, q) (last_at alike h empty P)) s)
      (λ q. no_copy (get_or R i empty) j (e ∙ rw q refl) s))
      (λ t.
      let h = ltb-false i n t in
      let e = past-is i h in
      let f = following_at alike fixed staying P (i - n) (within (i - n) j (ap (λ (x : Entry). x.source) (sym e) ∙ s)) in
      let z = at_place (get_or R i empty) f.place j f.below (e ∙ f.is) s in
      subst (λ (y : ℕ). (get_or R i empty ≡ get_or P y empty) × IsRelayed same ws text abi labels area c i y) z (e ∙ f.is, behind h f.goes))

  ordered : (i k j l : ℕ) → n ≤ i → i < k → (get_or R i empty).source ≡ Some j → (get_or R k empty).source ≡ Some l → j < l
  ordered i k j l h b s t =
      let F : List Entry = following alike fixed staying P in
      let d : ℕ = k - n - suc (i - n) in
      let e = past-is i h in
      let g = past-is k (omega arith) in
      let f = following_at alike fixed staying P (i - n) (within (i - n) j (ap (λ (x : Entry). x.source) (sym e) ∙ s)) in
      let z = at_place (get_or R i empty) f.place j f.below (e ∙ f.is) s in
      let w = within (k - n) l (ap (λ (x : Entry). x.source) (sym g) ∙ t) in
      let y : suc (i - n) + d ≡ k - n = omega arith in
      let u : get_or (following alike fixed staying (drop (suc f.place) P)) d empty ≡ get_or F (k - n) empty =
      ap (λ (x : List Entry). get_or x d empty) (sym f.rest) ∙ get_or-drop (suc (i - n)) F d empty ∙ ap (λ (x : ℕ). get_or F x empty) y in
      let v : d < length (following alike fixed staying (drop (suc f.place) P)) = rw (← f.rest, length-drop (suc (i - n)) F) (omega arith) in
      let a = following_at alike fixed staying (drop (suc f.place) P) d v in
      let o : suc f.place + a.place < length P = let p = rw (length-drop (suc f.place) P) at a.below in omega arith in
      let q = at_place (get_or R k empty) (suc f.place + a.place) l o (g ∙ sym u ∙ a.is ∙ get_or-drop (suc f.place) P a.place empty) t in
      omega arith

  -- ---- own methods over it

  abbrev Kept : List Entry → Type 0
  Kept T = (i j : ℕ) → (get_or T i empty).source ≡ Some j → get_or T i empty ≡ get_or R i empty

  same_one : (T : List Entry) (x e : Entry) (i j : ℕ) → NoCopy e → Kept T → (x ≡ e) ⊎ (x ≡ get_or T i empty) → x.source ≡ Some j → x ≡ get_or R i empty
  same_one T x e i j n p (inl q) s = not_found (sym n ∙ ap (λ (y : Entry). y.source) (sym q) ∙ s)
  same_one T x e i j n p (inr q) s = q ∙ p i j (ap (λ (y : Entry). y.source) (sym q) ∙ s)

  same_store : (e : Entry) (k : ℕ) (T : List Entry) → NoCopy e → Kept T → Kept (set T k e)
  same_store e k T n p i j s = same_one T (get_or (set T k e) i empty) e i j n p (set-either T k i e) s

  same_last : (e : Entry) (T : List Entry) → NoCopy e → Kept T → Kept (T ++ (e ∷ []))
  same_last e T n p i j s =
      same_one T (get_or (T ++ (e ∷ [])) i empty) e i j n p (elim (snoc_at T e i empty) [ inl q ↦ inl q.1 | inr q ↦ inr q ]) s

  module _ (relays : relays_class ws text abi labels c ≡ true) where
    own-entry : (a : ℕ) × (class_abi ws text abi labels c ≡ Some a)
    unfolding relays_class
    own-entry = by-found (class_abi ws text abi labels c) (λ a q. (a, q)) (λ q. absurd (false≢true (rw q at relays)))

    builds : builds_methods ws c ≡ true
    unfolding relays_class
    builds = let e = own-entry in rw e.1 at relays

    table-is : table_by same ws text abi labels area c ≡ build_methods same ws text abi labels area c
    unfolding table_by built_table generated_table
    table-is = kind-cases ws c builds (λ k p i. rw (k, p, i) refl) (λ k g t. rw (k, g, t) refl)

    own-same : (T : List Entry) → table_by same ws text abi labels area c ≡ built T → Kept T
    unfolding build_methods inherited_table
    own-same T e =
        adds same ws text abi NoCopy Kept same_store same_last abis (own_methods ws c) (λ m i. refl) R T
        (rw own-entry.1 at (sym table-is ∙ e)) (λ i j s. refl)

    moved : (T : List Entry) → table_by same ws text abi labels area c ≡ built T → (i j : ℕ) → (get_or T i empty).source ≡ Some j
        → (get_or R i empty).source ≡ Some j
    moved T e i j s = ap (λ (x : Entry). x.source) (sym (own-same T e i j s)) ∙ s

    pub table-copied : (T : List Entry) → table_by same ws text abi labels area c ≡ built T → (i j : ℕ) → (get_or T i empty).source ≡ Some j
        → (get_or T i empty ≡ get_or P j empty) × IsRelayed same ws text abi labels area c i j
    table-copied T e i j s = let r = copied i j (moved T e i j s) in (own-same T e i j s ∙ r.0, r.1)

    pub table-ordered : (T : List Entry) → table_by same ws text abi labels area c ≡ built T → (i k j l : ℕ) → n ≤ i → i < k
        → (get_or T i empty).source ≡ Some j → (get_or T k empty).source ≡ Some l → j < l
    table-ordered T e i k j l h b s t = ordered i k j l h b (moved T e i j s) (moved T e k l t)
