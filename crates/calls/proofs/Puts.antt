-- An ask that puts one node in front of a class's list (`Puts`), by whatever comparison: that list gets the node, and all other words below the next free
-- one stay. Assumes nothing.
use mathlib.Core.Path.{◌≡◌, refl, sym, ap, ◌∙◌}
use mathlib.Core.Logic.{◌≢◌, ◌⊎◌, inl, inr}
use mathlib.Core.Bool.{false}
use mathlib.Core.List.{List, ◌∷◌, map, Memᴰ}
use Prim.Native.Nat.{ℕ, ◌+◌, ◌≤◌, ◌<◌}
use native.Mathlib.Omega.{arith}
use lib.ListN.{length, get_or}
use lib.Dec.{eqb}
use borrow.Author.Tests.{eqb-true, eqb-false, eq-eqb, ne_eqb, lt-leb}
use Rattle.words.proofs.Bools.{by}
use Rattle.class_sheet.specs.ClassSheet.{class_count, class_table_place, class_slot_count, text_of}
use Rattle.abi_sheet.specs.AbiSheet.{abi_text_of}
use Rattle.set_rules.specs.Valid.{Valid}
use Rattle.set_rules.proofs.Valid.{valid}
use Rattle.linking.specs.Signature.{Same}
use Rattle.linking.specs.Link.{HasTable, next_free, bad_area, Outcome}
use Rattle.linking.specs.Ask.{hit, walk, head_place}
use Rattle.calls.specs.Calls.{State}
use Rattle.calls.specs.Kept.{interface_at}
use Rattle.calls.proofs.Area.{asked-length, asked-before, asked-link, asked-interface, asked-head, asked-free}
use Rattle.calls.proofs.Rows.{Puts, silent}
use Rattle.calls.proofs.Dispatch.{built-size}
use Rattle.calls.proofs.BesideAsk.{SameWalk}
use Rattle.calls.proofs.Elsewhere.{walk_of}
use Rattle.calls.proofs.Walk.{missed-all}
use Rattle.calls.proofs.NodeLists.{Node, Nodes, more, few, fewer, walks_same, node-same, interfaces-moved, nodes-moved, Listed, Layout}

-- ---- what it leaves

module _ {same : Same} (abi : List ℕ) (s : State) (c i : ℕ) (stubs : List ℕ) (o : Outcome) (p : Puts same s.set abi c i s.area stubs o) where
  abbrev ws : List ℕ
  ws = s.set

  abbrev new : ℕ
  new = next_free s.area

  pub put-valid : Valid ws
  put-valid = (valid ws abi p.valid).0

  -- as many slots as the interface has
  pub put-size : length p.entries ≡ class_slot_count ws i
  put-size =
      let l = p.interface in
      built-size same ws (text_of ws) abi (abi_text_of abi) s.area c i p.entries ((put-valid.class i (l.some, l.among)).slots l.has) p.builds

  pub head-below : head_place ws c < new
  head-below = let b = p.lent.below c p.class in omega arith

  pub put_next : next_free o.area ≡ new + length p.entries + 2
  put_next =
      ap (λ (x : List ℕ). next_free x) p.new-area
      ∙ asked-free ws s.area c i p.entries stubs p.room.free p.lent.some head-below

  pub put-more : new ≤ next_free o.area
  put-more = let e = put_next in omega arith

  pub put-long : length o.area ≡ length s.area
  put-long = ap (λ (x : List ℕ). length x) p.new-area ∙ asked-length ws s.area c i p.entries stubs p.room.free

  pub put-agree : (j : ℕ) → 0 < j → j < new → j ≢ head_place ws c → get_or o.area j 0 ≡ get_or s.area j 0
  put-agree j a b n = rw p.new-area (asked-before ws s.area c i p.entries stubs p.room.free j a b n)

  node-agree : (n x : ℕ) → Node ws s.area n x → (k : ℕ) → n ≤ k → k < n + 2 + class_slot_count ws x → get_or o.area k 0 ≡ get_or s.area k 0
  node-agree n x m k a b =
      let z = m.some in
      let l = m.below in
      put-agree k (omega arith) (omega arith) (λ e. elim (m.apart c p.class) [ inl q ↦ omega arith | inr q ↦ omega arith ])

  pub new-head : get_or o.area (head_place ws c) 0 ≡ new
  new-head = rw p.new-area (asked-head ws s.area c i p.entries stubs p.room.free p.lent.some head-below)

  pub new-link : get_or o.area new 0 ≡ get_or s.area (head_place ws c) 0
  new-link = rw p.new-area (asked-link ws s.area c i p.entries stubs p.room.free p.lent.some head-below)

  pub new-interface : get_or o.area (new + 1) 0 ≡ i
  new-interface = rw p.new-area (asked-interface ws s.area c i p.entries stubs p.room.free p.lent.some head-below)

  -- row 7 stays silent
  pub put-sound : bad_area ws o.area ≡ false
  put-sound =
      let f = p.room.free in
      let h = p.lent.short in
      let n = put_next in
      let g = put-long in
      silent ws o.area (record {
        some = λ e. omega arith;
        within = omega arith;
        short = omega arith;
        below = λ d l. let b = p.lent.below d l in omega arith;
      })

  pub new-node : Node ws o.area new i
  new-node =
      let e = put_next in
      let g = put-size in
      record {
        some = p.lent.some;
        of = new-interface;
        interface = p.interface;
        below = omega arith;
        apart = λ d l. let b = p.lent.below d l in inl (omega arith);
      }

  module _ (lay : Layout s) where
    other-head : (d : ℕ) → HasTable ws d → d ≢ c → get_or o.area (head_place ws d) 0 ≡ get_or s.area (head_place ws d) 0
    other-head d l n =
        let b = p.lent.below d l in
        put-agree (head_place ws d) (omega arith) (omega arith)
        (λ e. elim (lay.heads c d p.class l (λ q. n (sym q))) [ inl q ↦ omega arith | inr q ↦ omega arith ])

    -- the words of all tables stay
    pub put-table : (d : ℕ) → HasTable ws d → (k : ℕ) → k < class_slot_count ws d
        → get_or o.area (class_table_place ws d + 1 + k) 0 ≡ get_or s.area (class_table_place ws d + 1 + k) 0
    put-table d l k h =
        let b = p.lent.below d l in
        put-agree (class_table_place ws d + 1 + k) (omega arith) (omega arith)
        (λ e.
        by (eqb d c)
        (λ t. let q : d ≡ c = eqb-true d c t in let x : head_place ws d ≡ head_place ws c = ap (head_place ws) q in omega arith)
        (λ t. elim (lay.heads c d p.class l (λ q. eqb-false d c t (sym q))) [ inl q ↦ omega arith | inr q ↦ omega arith ]))

    few-classes : class_count ws ≤ 64
    few-classes = put-valid.number_of_classes

    not_there : (ns : Listed s c) → Memᴰ i (map (interface_at s.area) ns.places) → ⊥
    not_there ns = (missed-all s.area i ns.places 64 0 (get_or s.area (head_place ws c) 0) p.nodes ns.nodes.spelt p.walks).0

    -- the walk for another interface passes the new node
    passed : (j : ℕ) → j ≢ i → walk o.area j 64 0 (get_or o.area (head_place ws c) 0) ≡ walk o.area j 63 1 (get_or s.area (head_place ws c) 0)
    unfolding walk
    passed j n =
        let z = p.lent.some in
        let e = put_next in
        rw (new-head, ne_eqb new 0 z, lt-leb (next_free o.area) (new + 1) (omega arith), new-interface, ne_eqb i j (λ q. n (sym q)), new-link) refl

    -- the walk for this one finds it
    pub put-found : walk o.area i 64 0 (get_or o.area (head_place ws c) 0) ≡ hit new 1
    unfolding walk
    put-found =
        let z = p.lent.some in
        let e = put_next in
        rw (new-head, ne_eqb new 0 z, lt-leb (next_free o.area) (new + 1) (omega arith), new-interface, eq-eqb i i refl) refl

    -- all other walks find what they found
    pub put_walks : (d j : ℕ) → HasTable ws d → (d ≢ c) ⊎ (j ≢ i)
        → SameWalk s.area o.area (class_slot_count ws j) (walk_of s d j) (walk o.area j 64 0 (get_or o.area (head_place ws d) 0))
    put_walks d j l h =
        by (eqb d c)
        (λ t.
        let q : d ≡ c = eqb-true d c t in
        elim h [
          | inl n ↦ absurd (n q)
          | inr n ↦
              let ns = lay.lists c p.class in
              let f = fewer ws s.area i ns.nodes p.interface (not_there ns) in
              let g = few-classes in
              rw (q, passed j n)
              (node-same ws s.area o.area put-more node-agree put-long j
              (walks_same ws s.area o.area put-more node-agree j 64 63 0 1 ns.nodes (omega arith) (omega arith)))
        ])
        (λ t.
        let ns = lay.lists d l in
        let f = few ws s.area ns.nodes in
        let g = few-classes in
        rw (other-head d l (eqb-false d c t))
        (node-same ws s.area o.area put-more node-agree put-long j
        (walks_same ws s.area o.area put-more node-agree j 64 64 0 0 ns.nodes (omega arith) (omega arith))))

    moved : {n : ℕ} {ps : List ℕ} → Nodes ws s.area n ps → Nodes ws o.area n ps
    moved = nodes-moved ws s.area o.area put-more node-agree ws (λ d l. l) (λ d l. refl) (λ n x m e l. m.apart e l)

    still-missed : (ns : Listed s c) → Memᴰ i (map (interface_at o.area) ns.places) → ⊥
    still-missed ns = rw (interfaces-moved ws s.area o.area put-more node-agree ns.nodes) (not_there ns)

    pub put-layout : (missing : List ℕ) → Layout (record { set = ws; area = o.area; missing = missing })
    put-layout missing = record {
      heads = lay.heads;
      lists = λ d l.
          by (eqb d c)
          (λ t.
          let q : d ≡ c = eqb-true d c t in
          let ns = lay.lists c p.class in
          let front : Listed (record { set = ws; area = o.area; missing = missing }) c = record {
            places = new ∷ ns.places;
            nodes = rw new-head (more ws o.area new-node (still-missed ns) (rw new-link (moved ns.nodes)));
          } in
          rw q front)
          (λ t.
          let ns = lay.lists d l in
          record { places = ns.places; nodes = rw (other-head d l (eqb-false d c t)) (moved ns.nodes) });
    }
