-- A link by any way of making the table keeps the layout: its table lies above all that was there, and its list is empty. Assumes nothing.
use mathlib.Core.Path.{◌≡◌, refl, sym, ap, ◌∙◌}
use mathlib.Core.Logic.{◌≢◌, ◌⊎◌, inl, inr}
use mathlib.Core.List.{List, []}
use Prim.Native.Nat.{ℕ, ◌+◌, ◌≤◌, ◌<◌}
use native.Mathlib.Omega.{arith}
use lib.ListN.{length, get_or}
use lib.Dec.{eqb}
use borrow.Author.Tests.{eqb-true, eqb-false}
use Rattle.words.proofs.Bools.{by}
use Rattle.class_sheet.specs.ClassSheet.{table_place_word, slot_count_word, class_count, class_table_place, class_slot_count}
use Rattle.linking.specs.Vtable.{Entry, Built}
use Rattle.linking.specs.Link.{HasTable, next_free, Outcome}
use Rattle.linking.specs.Ask.{head_place}
use Rattle.linking.proofs.LinkRead.{After}
use Rattle.linking.proofs.Rows.{Sound, sound}
use Rattle.calls.specs.Calls.{State}
use Rattle.calls.proofs.Area.{linked-before, linked-length, linked-head, linked-free}
use Rattle.calls.proofs.Linked.{Leaves}
use Rattle.calls.proofs.BesideAsk.{SameWalk}
use Rattle.calls.proofs.Elsewhere.{walk_of}
use Rattle.calls.proofs.Wrote.{plan_from, Wrote, wrote_after, wrote_leaves}
use Rattle.calls.proofs.NodeLists.{Node, Nodes, none, few, walks_same, node-same, nodes-moved, Listed, Layout}

module _ (abi : List ℕ) (s : State) (c : ℕ) (stubs : List ℕ) (B : Built) (o : Outcome)
    (w : Wrote s.set abi c s.area stubs (plan_from s.set abi s.area B c) o) (missing : List ℕ) where
  abbrev T : List Entry
  T = w.coming.table

  abbrev next : State
  next = record { set = o.set; area = o.area; missing = missing }

  was-sound : Sound s.set s.area
  was-sound = sound s.set s.area w.lent

  after : After s.set o.set c
  after = wrote_after s.set abi c s.area stubs B o w

  leaves : Leaves s.set o.set c (next_free s.area) (length T)
  leaves = wrote_leaves s.set abi c s.area stubs B o w

  pub linked-was : (d : ℕ) → d ≢ c → HasTable o.set d → HasTable s.set d
  linked-was d n l =
      let k : d ≤ class_count s.set = omega (arith, l.among, after.classes) in
      let e : class_table_place o.set d ≡ class_table_place s.set d = after.others d table_place_word l.some k (omega arith) n in
      record { some = l.some; among = k; has = λ z. l.has (e ∙ z) }

  not_new : (d : ℕ) → HasTable s.set d → d ≢ c
  not_new d l e = l.has (rw e w.class.new)

  place_same : (d : ℕ) → HasTable s.set d → class_table_place o.set d ≡ class_table_place s.set d
  place_same d l = after.others d table_place_word l.some l.among (omega arith) (not_new d l)

  slots_same : (d : ℕ) → HasTable s.set d → class_slot_count o.set d ≡ class_slot_count s.set d
  slots_same d l = after.others d slot_count_word l.some l.among (omega arith) (not_new d l)

  still : (d : ℕ) → HasTable s.set d → HasTable o.set d
  still d l = record { some = l.some; among = omega (arith, l.among, after.classes); has = λ z. l.has (sym (place_same d l) ∙ z) }

  head-same : (d : ℕ) → HasTable s.set d → head_place o.set d ≡ head_place s.set d
  head-same d l = rw (place_same d l, slots_same d l) refl

  head-new : head_place o.set c ≡ next_free s.area + length T + 1
  head-new = rw (leaves.place, leaves.slots) refl

  free : next_free o.area ≡ next_free s.area + length T + 2
  free = ap (λ (x : List ℕ). next_free x) w.new-area ∙ linked-free s.area c T stubs was-sound.some w.room.free

  more : next_free s.area ≤ next_free o.area
  more = let e = free in omega arith

  long : length o.area ≡ length s.area
  long = ap (λ (x : List ℕ). length x) w.new-area ∙ linked-length s.area c T stubs was-sound.some w.room.free

  pub wrote_agree : (j : ℕ) → 0 < j → j < next_free s.area → get_or o.area j 0 ≡ get_or s.area j 0
  wrote_agree j a b = rw w.new-area (linked-before s.area c T stubs was-sound.some w.room.free j a b)

  node-agree : (n x : ℕ) → Node s.set s.area n x → (k : ℕ) → n ≤ k → k < n + 2 + class_slot_count s.set x → get_or o.area k 0 ≡ get_or s.area k 0
  node-agree n x m k a b = let z = m.some in let l = m.below in wrote_agree k (omega arith) (omega arith)

  node-heads : (n x : ℕ) → Node s.set s.area n x → (d : ℕ) → HasTable o.set d
      → (head_place o.set d < n) ⊎ (n + 2 + class_slot_count s.set x ≤ head_place o.set d)
  node-heads n x m d l =
      by (eqb d c)
      (λ t.
      let q : d ≡ c = eqb-true d c t in
      let h : head_place o.set d ≡ next_free s.area + length T + 1 = ap (head_place o.set) q ∙ head-new in
      let b = m.below in
      inr (omega arith))
      (λ t. let k = linked-was d (eqb-false d c t) l in rw (head-same d k) (m.apart d k))

  moved : {n : ℕ} {ps : List ℕ} → Nodes s.set s.area n ps → Nodes o.set o.area n ps
  moved = nodes-moved s.set s.area o.area more node-agree o.set still slots_same node-heads

  head-word : (d : ℕ) → HasTable s.set d → get_or o.area (head_place o.set d) 0 ≡ get_or s.area (head_place s.set d) 0
  head-word d l = let b = was-sound.below d l in rw (head-same d l) (wrote_agree (head_place s.set d) (omega arith) (omega arith))

  pub new_word : get_or o.area (head_place o.set c) 0 ≡ 0
  new_word =
      ap (λ (p : ℕ). get_or o.area p 0) head-new ∙ ap (λ (x : List ℕ). get_or x (next_free s.area + length T + 1) 0) w.new-area
      ∙ linked-head s.area c T stubs was-sound.some w.room.free

  heads : Layout s → (d e : ℕ) → HasTable o.set d → HasTable o.set e → d ≢ e
      → (head_place o.set d < class_table_place o.set e) ⊎ (head_place o.set e < head_place o.set d)
  heads lay d e l k n =
      by (eqb d c)
      (λ t.
      let q : d ≡ c = eqb-true d c t in
      let m : e ≢ c = λ z. n (q ∙ sym z) in
      let x = linked-was e m k in
      let h : head_place o.set d ≡ next_free s.area + length T + 1 = ap (head_place o.set) q ∙ head-new in
      let g = head-same e x in
      let b = was-sound.below e x in
      inr (omega arith))
      (λ t.
      let x = linked-was d (eqb-false d c t) l in
      let g = head-same d x in
      let b = was-sound.below d x in
      by (eqb e c)
      (λ u.
      let q : e ≡ c = eqb-true e c u in
      let h : class_table_place o.set e ≡ next_free s.area = ap (class_table_place o.set) q ∙ leaves.place in
      inl (omega arith))
      (λ u. let y = linked-was e (eqb-false e c u) k in rw (g, head-same e y, place_same e y) (lay.heads d e x y n)))

  pub wrote_layout : Layout s → Layout next
  wrote_layout lay = record {
    heads = heads lay;
    lists = λ d l.
        by (eqb d c)
        (λ t.
        let q : d ≡ c = eqb-true d c t in
        let bare : Listed next c = record { places = []; nodes = none o.set o.area new_word } in
        rw q bare)
        (λ t.
        let k = linked-was d (eqb-false d c t) l in
        let ns = lay.lists d k in
        record { places = ns.places; nodes = rw (head-word d k) (moved ns.nodes) });
  }

  -- a walk for an interface, whether it was linked or is now
  pub wrote_walks : Layout s → class_count s.set ≤ 64 → (d j : ℕ) → HasTable s.set d
      → SameWalk s.area o.area (class_slot_count s.set j) (walk_of s d j) (walk_of next d j)
  wrote_walks lay small d j l =
      let ns = lay.lists d l in
      let f = few s.set s.area ns.nodes in
      rw (head-word d l)
      (node-same s.set s.area o.area more node-agree long j
      (walks_same s.set s.area o.area more node-agree j 64 64 0 0 ns.nodes (omega arith) (omega arith)))
