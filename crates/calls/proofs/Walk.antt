-- The walk from a head, where the head and the links spell a list of places: it misses only where no node there has the interface, when it has read
-- all of them, and finds one of them. Assumes nothing.
use mathlib.Core.Path.{◌≡◌, refl, sym, ◌∙◌}
use mathlib.Core.Logic.{inl, inr}
use mathlib.Core.List.Memᴰ
use mathlib.Core.List.{List, [], ◌∷◌, map, Memᴰ}
use Prim.Native.Nat.{ℕ, zero, suc, ◌+◌, ◌≤◌, ◌<◌}
use native.Mathlib.Omega.{arith}
use lib.ListN.{length, get_or}
use lib.Dec.{eqb, leb}
use borrow.Author.Tests.{eqb-true, eqb-false, eq-eqb, ne_eqb, lt-leb}
use Rattle.words.proofs.Bools.{by}
use Rattle.linking.specs.Link.{next_free}
use Rattle.linking.specs.Ask.{hit, missed, broken, walk}
use Rattle.slots.proofs.ListFacts.{in_none}
use Rattle.calls.specs.Kept.{interface_at, Spells}

pub missed-hit : {r n k : ℕ} → missed r ≡ hit n k → ⊥
missed-hit e = let z : ◌≡◌ {A = ℕ} 0 1 = cc in absurd (omega arith)

broken-hit : {n k : ℕ} → broken ≡ hit n k → ⊥
broken-hit e = let z : ◌≡◌ {A = ℕ} 0 1 = cc in absurd (omega arith)

broken-missed : {r : ℕ} → broken ≡ missed r → ⊥
broken-missed e = let z : ◌≡◌ {A = ℕ} 0 1 = cc in absurd (omega arith)

module _ (area : List ℕ) (i : ℕ) where
  -- an ended list
  pub ended : (left read head : ℕ) → head ≡ 0 → walk area i left read head ≡ missed read
  unfolding walk
  ended zero read head e = rw (eq-eqb head 0 e)
  ended (suc left) read head e = rw (eq-eqb head 0 e)

  pub missed-all : (ns : List ℕ) (left read head k : ℕ) → Spells area head ns → walk area i left read head ≡ missed k
      → (Memᴰ i (map (interface_at area) ns) → ⊥) × (k ≡ read + length ns)
  unfolding walk
  missed-all [] left read head k s e =
      let q : missed read ≡ missed k = sym (ended left read head s) ∙ e in
      let p : read ≡ k = cc in
      (λ j. in_none refl j, omega arith)
  missed-all (n ∷ ns) zero read head k s e = absurd (broken-missed (rw (s.0, ne_eqb n 0 s.1) at e))
  missed-all (n ∷ ns) (suc left) read head k s e =
      let a = rw (s.0, ne_eqb n 0 s.1) at e in
      by (leb (next_free area) (n + 1))
      (λ g. absurd (broken-missed (rw g at a)))
      (λ g.
      by (eqb (get_or area (n + 1) 0) i)
      (λ t. absurd (missed-hit (sym (rw (g, t) at a))))
      (λ f.
      let r = missed-all ns left (read + 1) (get_or area n 0) k s.2 (rw (g, f) at a) in
      let c = r.1 in
      (λ j. elim (Memᴰ.cases_cons j) [ inl q ↦ eqb-false (get_or area (n + 1) 0) i f (sym q) | inr m ↦ r.0 m ], omega arith)))

  pub hit-one : (ns : List ℕ) (left read head node k : ℕ) → Spells area head ns → walk area i left read head ≡ hit node k
      → Memᴰ node ns × (interface_at area node ≡ i) × (k ≤ read + length ns)
  unfolding walk
  hit-one [] left read head node k s e = absurd (missed-hit (sym (ended left read head s) ∙ e))
  hit-one (n ∷ ns) zero read head node k s e = absurd (broken-hit (rw (s.0, ne_eqb n 0 s.1) at e))
  hit-one (n ∷ ns) (suc left) read head node k s e =
      let a = rw (s.0, ne_eqb n 0 s.1) at e in
      by (leb (next_free area) (n + 1))
      (λ g. absurd (broken-hit (rw g at a)))
      (λ g.
      by (eqb (get_or area (n + 1) 0) i)
      (λ t.
      let q : hit n (read + 1) ≡ hit node k = rw (g, t) at a in
      let h : n ≡ node = cc in
      let p : read + 1 ≡ k = cc in
      (rw (← h) (Memᴰ.head refl), rw (← h) (eqb-true (get_or area (n + 1) 0) i t), omega arith))
      (λ f.
      let r = hit-one ns left (read + 1) (get_or area n 0) node k s.2 (rw (g, f) at a) in
      let c = r.2 in
      (Memᴰ.tail r.0, r.1, omega arith)))

  -- it breaks off only at a node that is not below word 0, or at more nodes than may be read
  pub never-broken : (ns : List ℕ) (left read head : ℕ) → Spells area head ns → length ns ≤ left → ((n : ℕ) → Memᴰ n ns → n + 1 < next_free area)
      → walk area i left read head ≡ broken → ⊥
  unfolding walk
  never-broken [] left read head s l below e = broken-missed (sym e ∙ ended left read head s)
  never-broken (n ∷ ns) zero read head s l below e = absurd (omega arith)
  never-broken (n ∷ ns) (suc left) read head s l below e =
      let a = rw (s.0, ne_eqb n 0 s.1, lt-leb (next_free area) (n + 1) (below n (Memᴰ.head refl))) at e in
      by (eqb (get_or area (n + 1) 0) i)
      (λ t. broken-hit (sym (rw t at a)))
      (λ f. never-broken ns left (read + 1) (get_or area n 0) s.2 (omega arith) (λ m j. below m (Memᴰ.tail j)) (rw f at a))

-- ---- a head spells one list

pub spells_one : (area ns ms : List ℕ) (head : ℕ) → Spells area head ns → Spells area head ms → ns ≡ ms
spells_one area [] [] head s t = refl
spells_one area [] (m ∷ ms) head s t = absurd (t.1 (sym t.0 ∙ s))
spells_one area (n ∷ ns) [] head s t = absurd (s.1 (sym s.0 ∙ t))
spells_one area (n ∷ ns) (m ∷ ms) head s t =
    let e : n ≡ m = sym s.0 ∙ t.0 in
    rw (e, spells_one area ns ms (get_or area m 0) (rw e at s.2) t.2)

-- ---- where their links and interfaces are the same, so are the lists

pub spells-same : (a b : List ℕ) (ns : List ℕ) (head : ℕ) → ((n : ℕ) → Memᴰ n ns → get_or b n 0 ≡ get_or a n 0) → Spells a head ns → Spells b head ns
spells-same a b [] head h s = s
spells-same a b (n ∷ ns) head h s = (s.0, s.1, rw (h n (Memᴰ.head refl)) (spells-same a b ns (get_or a n 0) (λ k i. h k (Memᴰ.tail i)) s.2))

pub interfaces-same : (a b : List ℕ) (ns : List ℕ) → ((n : ℕ) → Memᴰ n ns → interface_at b n ≡ interface_at a n)
    → map (interface_at b) ns ≡ map (interface_at a) ns
interfaces-same a b [] h = refl
interfaces-same a b (n ∷ ns) h = rw (h n (Memᴰ.head refl), interfaces-same a b ns (λ k i. h k (Memᴰ.tail i)))

pub in_map : (f : ℕ → ℕ) {x : ℕ} (ns : List ℕ) → Memᴰ x (map f ns) → (n : ℕ) × Memᴰ n ns × (x ≡ f n)
in_map f [] i = in_none refl i
in_map f (n ∷ ns) i =
    elim (Memᴰ.cases_cons i) [
      | inl e ↦ (n, (Memᴰ.head refl), e)
      | inr j ↦ let r = in_map f ns j in (r.0, Memᴰ.tail r.1, r.2)
    ]
