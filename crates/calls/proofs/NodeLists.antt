-- Where tables and nodes lie, in one run from an unlinked sheet: each linked class's list of nodes ends, names no interface twice, and no head of a list
-- lies in another table or in a node. So a call, which writes free words, word 0 and one head, leaves each list but the one it puts a node on. Assumes
-- nothing.
use mathlib.Core.Path.{◌≡◌, refl, sym, ◌∙◌, subst}
use mathlib.Core.Logic.{◌≢◌, ◌⊎◌, inl, inr}
use mathlib.Core.List.Memᴰ
use mathlib.Core.List.{List, [], ◌∷◌, map, Memᴰ}
use Prim.Native.Nat.{ℕ, zero, suc, ◌+◌, ◌≤◌, ◌<◌}
use native.Mathlib.Omega.{arith}
use lib.ListN.{length, get_or, length-map}
use lib.Dec.{eqb}
use borrow.Author.Tests.{eqb-true, ne_eqb, lt-leb}
use Rattle.words.proofs.Bools.{by}
use Rattle.words.proofs.Lists.{part_ext}
use Rattle.class_sheet.specs.ClassSheet.{class_count, class_table_place, class_slot_count}
use Rattle.linking.specs.Link.{HasTable, next_free}
use Rattle.linking.specs.Ask.{Walk, hit, missed, broken, walk, head_place}
use Rattle.slots.proofs.ListFacts.{in_none}
use Rattle.calls.specs.Calls.{State}
use Rattle.calls.specs.Kept.{interface_at, Spells, Different}
use Rattle.calls.proofs.BesideAsk.{SameWalk, both-hit, both-missed}
use Rattle.calls.proofs.Different.{at_most}
use Rattle.calls.proofs.Walk.{missed-hit, ended, hit-one, never-broken, spells-same, interfaces-same, in_map}

-- where one walk misses, so does the other
pub missed_too : {area area' : List ℕ} {slots r : ℕ} {w w' : Walk} → SameWalk area area' slots w w' → w ≡ missed r → (k : ℕ) × (w' ≡ missed k)
missed_too (both-hit h a b) e = absurd (missed-hit (sym e))
missed_too (both-missed {r' = k}) e = (k, refl)

-- ---- a list of nodes

module _ (ws area : List ℕ) where
  -- a node for interface i: below the next free word, and no head lies in it
  pub record Node (n i : ℕ) : Type 0 where
    pub some : n ≢ 0
    pub of : get_or area (n + 1) 0 ≡ i
    pub interface : HasTable ws i
    pub below : n + 2 + class_slot_count ws i ≤ next_free area
    pub apart : (c : ℕ) → HasTable ws c → (head_place ws c < n) ⊎ (n + 2 + class_slot_count ws i ≤ head_place ws c)

  -- from the link n on: these nodes, of different interfaces
  pub record Nodes (n : ℕ) (ps : List ℕ) : Type 0 where
    pub spelt : Spells area n ps
    pub different : Different (map (interface_at area) ps)
    pub each : (k : ℕ) → Memᴰ k ps → Node k (interface_at area k)

  pub none : {n : ℕ} → n ≡ 0 → Nodes n []
  none e = record { spelt = e; different = tt; each = λ k m. in_none refl m }

  pub more : {n i : ℕ} {ps : List ℕ} → Node n i → (Memᴰ i (map (interface_at area) ps) → ⊥) → Nodes (get_or area n 0) ps → Nodes n (n ∷ ps)
  more {n} {i} {ps} m f ns = record {
    spelt = (refl, m.some, ns.spelt);
    different = ((λ j. f (subst (λ (x : ℕ). Memᴰ x (map (interface_at area) ps)) m.of j)), ns.different);
    each = λ k j. elim (Memᴰ.cases_cons j) [ inl e ↦ rw e (subst (λ (x : ℕ). Node n x) (sym m.of) m) | inr x ↦ ns.each k x ];
  }

  within : {n : ℕ} {ps : List ℕ} → Nodes n ps → (x : ℕ) → Memᴰ x (map (interface_at area) ps) → (1 ≤ x) × (x ≤ class_count ws)
  within {n} {ps} ns x i =
      let r = in_map (interface_at area) ps i in
      let h = (ns.each r.0 r.1).interface in
      rw r.2 (h.some, h.among)

  -- so it has at most as many nodes as there are classes, and fewer where an interface is not there
  pub few : {n : ℕ} {ps : List ℕ} → Nodes n ps → length ps ≤ class_count ws
  few {n} {ps} ns =
      let l = length-map ps (interface_at area) in
      omega (arith, at_most (class_count ws) (map (interface_at area) ps) ns.different (within ns))

  pub fewer : {n : ℕ} {ps : List ℕ} (i : ℕ) → Nodes n ps → HasTable ws i → (Memᴰ i (map (interface_at area) ps) → ⊥) → length ps + 1 ≤ class_count ws
  fewer {n} {ps} i ns l f =
      let e = length-map ps (interface_at area) in
      let h =
      at_most (class_count ws) (i ∷ map (interface_at area) ps) (f, ns.different)
      (λ x j. elim (Memᴰ.cases_cons j) [ inl e ↦ rw e (l.some, l.among) | inr k ↦ within ns x k ]) in
      omega arith

  -- row 7 has nothing against it
  pub sound-list : {n : ℕ} {ps : List ℕ} (j left read : ℕ) → Nodes n ps → length ps ≤ left → walk area j left read n ≡ broken → ⊥
  sound-list {n} {ps} j left read ns a = never-broken area j ps left read n ns.spelt a (λ k m. omega (arith, (ns.each k m).below))

  -- a walk for a class that is not linked misses
  misses-by : {n : ℕ} {ps : List ℕ} (j left read : ℕ) → Nodes n ps → length ps ≤ left → (HasTable ws j → ⊥) → (w : Walk) → walk area j left read n ≡ w
      → (r : ℕ) × (walk area j left read n ≡ missed r)
  misses-by {n} {ps} j left read ns a f (hit k r) e =
      let h = hit-one area j ps left read n k r ns.spelt e in
      absurd (f (subst (λ (x : ℕ). HasTable ws x) h.1 (ns.each k h.0).interface))
  misses-by j left read ns a f (missed r) e = (r, e)
  misses-by j left read ns a f broken e = absurd (sound-list j left read ns a e)

  pub misses : {n : ℕ} {ps : List ℕ} (j left read : ℕ) → Nodes n ps → length ps ≤ left → (HasTable ws j → ⊥) → (r : ℕ) × (walk area j left read n ≡ missed r)
  misses {n} j left read ns a f = misses-by j left read ns a f (walk area j left read n) refl

-- ---- two walks that find one node, or none

pub data SameNode (ws area : List ℕ) (j : ℕ) : Walk → Walk → Type 0 where
  one_hit : {n r r' : ℕ} → Node ws area n j → SameNode ws area j (hit n r) (hit n r')
  one-missed : {r r' : ℕ} → SameNode ws area j (missed r) (missed r')

module _ (ws area area' : List ℕ) (more : next_free area ≤ next_free area')
    (agree : (n i : ℕ) → Node ws area n i → (k : ℕ) → n ≤ k → k < n + 2 + class_slot_count ws i → get_or area' k 0 ≡ get_or area k 0) where
  -- the words of a list stay
  walks-along : (ps : List ℕ) (j left left' read read' n : ℕ) → Spells area n ps → ((k : ℕ) → Memᴰ k ps → Node ws area k (interface_at area k))
      → length ps ≤ left → length ps ≤ left' → SameNode ws area j (walk area j left read n) (walk area' j left' read' n)
  unfolding walk
  walks-along [] j left left' read read' n s each a b = rw (ended area j left read n s, ended area' j left' read' n s) one-missed
  walks-along (p ∷ ps) j zero left' read read' n s each a b = absurd (omega arith)
  walks-along (p ∷ ps) j (suc left) zero read read' n s each a b = absurd (omega arith)
  walks-along (p ∷ ps) j (suc left) (suc left') read read' n s each a b =
      let m = each p (Memᴰ.head refl) in
      let l = m.below in
      let u = lt-leb (next_free area) (p + 1) (omega arith) in
      let u' = lt-leb (next_free area') (p + 1) (omega arith) in
      let w = agree p (interface_at area p) m (p + 1) (omega arith) (omega arith) in
      let v = agree p (interface_at area p) m p (omega arith) (omega arith) in
      by (eqb (get_or area (p + 1) 0) j)
      (λ t.
      let e : get_or area (p + 1) 0 ≡ j = eqb-true (get_or area (p + 1) 0) j t in
      let h : Node ws area p j = subst (λ (x : ℕ). Node ws area p x) e m in
      rw (s.0, ne_eqb p 0 s.1, u, u', w, t) (one_hit h))
      (λ t.
      rw (s.0, ne_eqb p 0 s.1, u, u', w, t, v)
      (walks-along ps j left left' (read + 1) (read' + 1) (get_or area p 0) s.2 (λ k i. each k (Memᴰ.tail i)) (omega arith) (omega arith)))

  pub walks_same : {n : ℕ} {ps : List ℕ} (j left left' read read' : ℕ) → Nodes ws area n ps → length ps ≤ left → length ps ≤ left'
      → SameNode ws area j (walk area j left read n) (walk area' j left' read' n)
  walks_same {n} {ps} j left left' read read' ns a b = walks-along ps j left left' read read' n ns.spelt ns.each a b

  pub interfaces-moved : {n : ℕ} {ps : List ℕ} → Nodes ws area n ps → map (interface_at area') ps ≡ map (interface_at area) ps
  interfaces-moved {n} {ps} ns =
      interfaces-same area area' ps (λ k m. agree k (interface_at area k) (ns.each k m) (k + 1) (omega arith) (omega arith))

  pub node-same : (long : length area' ≡ length area) (j : ℕ) {w w' : Walk} → SameNode ws area j w w' → SameWalk area area' (class_slot_count ws j) w w'
  node-same long j (one_hit {n} m) =
      let b = m.below in
      both-hit {n = n} {n' = n}
      (sym (part_ext 0 area' area (n + 1 + 1) (class_slot_count ws j) long (λ k g h. agree n j m k (omega arith) (omega arith)))) b (omega arith)
  node-same long j one-missed = both-missed

  -- and are a list again, in the set that a call leaves
  module _ (ws' : List ℕ) (still : (d : ℕ) → HasTable ws d → HasTable ws' d)
      (slots : (d : ℕ) → HasTable ws d → class_slot_count ws' d ≡ class_slot_count ws d)
      (heads : (n i : ℕ) → Node ws area n i → (c : ℕ) → HasTable ws' c → (head_place ws' c < n) ⊎ (n + 2 + class_slot_count ws i ≤ head_place ws' c)) where
    pub node-moved : (n i : ℕ) → Node ws area n i → Node ws' area' n i
    node-moved n i m =
        let e = slots i m.interface in
        let b = m.below in
        record {
          some = m.some;
          of = agree n i m (n + 1) (omega arith) (omega arith) ∙ m.of;
          interface = still i m.interface;
          below = omega arith;
          apart = λ c l. rw e (heads n i m c l);
        }

    pub nodes-moved : {n : ℕ} {ps : List ℕ} → Nodes ws area n ps → Nodes ws' area' n ps
    nodes-moved {n} {ps} ns = record {
      spelt = spells-same area area' ps n (λ k m. agree k (interface_at area k) (ns.each k m) k (omega arith) (omega arith)) ns.spelt;
      different = rw (interfaces-moved ns) ns.different;
      each = λ k m.
          let e = agree k (interface_at area k) (ns.each k m) (k + 1) (omega arith) (omega arith) in
          subst (λ (x : ℕ). Node ws' area' k x) (sym e) (node-moved k (interface_at area k) (ns.each k m));
    }

-- ---- all lists

pub record Listed (s : State) (c : ℕ) : Type 0 where
  pub places : List ℕ
  pub nodes : Nodes s.set s.area (get_or s.area (head_place s.set c) 0) places

pub record Layout (s : State) : Type 0 where
  -- a head does not lie in another table
  pub heads : (c d : ℕ) → HasTable s.set c → HasTable s.set d → c ≢ d
      → (head_place s.set c < class_table_place s.set d) ⊎ (head_place s.set d < head_place s.set c)
  pub lists : (c : ℕ) → HasTable s.set c → Listed s c
