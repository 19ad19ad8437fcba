-- Laws of an ask: its rows, and what the code answers at each return. Assumes nothing.
use mathlib.Core.Path.{◌≡◌, sym, ◌∙◌}
use mathlib.Core.Bool.{Bool, true, false, cond}
use mathlib.Core.List.{List}
use Prim.Native.Nat.{ℕ, ◌+◌, ◌<◌}
use native.Mathlib.Omega.{arith}
use lib.ListN.{length, get_or}
use lib.Dec.{eqb}
use borrow.Author.Tests.{eq-eqb, eqb-true}
use Rattle.words.proofs.Bools.{by, passed}
use Rattle.class_sheet.specs.ClassSheet.{text_of}
use Rattle.abi_sheet.specs.AbiSheet.{abi_text_of}
use Rattle.set_rules.specs.SetRules.{set_refusal}
use Rattle.linking.specs.Signature.{Same, by_numbers}
use Rattle.linking.specs.Numbers.{numbers_short}
use Rattle.linking.specs.Numbered.{ask_numbered}
use Rattle.linking.specs.Vtable.{Built, built, refused, table_entries}
use Rattle.linking.specs.Link.{next_free, bad_area, no_room, Outcome, refused_call}
use Rattle.linking.specs.Ask.{Walk, hit, missed, broken, walk, head_place, dispatch_entries, build_node, bad_ask, ask_by}
use Rattle.reading.specs.declared.table.Table.{Table}
use Rattle.reading.specs.Tables.{entries}
use Rattle.reading.proofs.ArrayLaws.{length-entries}
use Rattle.std.proofs.Common.{Ok, refl}
use Rattle.refusal.specs.declared.Refusal.{Refusal}
use Rattle.refusal.specs.Rows.{row}
use Rattle.refusal.proofs.Rows.{row_above}
use Rattle.area.specs.Area.{outcome, node_written}
use Rattle.linking.proofs.Rows.{sound, fits}
use Rattle.area.proofs.AreaLaws.{node-asked}
use Rattle.area.proofs.WalkLaws.{hit-is}
use Rattle.ask.specs.Dispatch.{ask_refusal, finish_ask}

-- ---- rows 3 to 7

module _ (ws abi : List ℕ) (c i : ℕ) (area : List ℕ) where
  -- none of them refuses
  pub record Asks : Type 0 where
    pub accepted : set_refusal ws abi ≡ 0
    pub classes : bad_ask ws c i ≡ false
    pub tables : bad_area ws area ≡ false

  pub asks : ask_refusal ws abi c i area ≡ 0 → Asks
  unfolding ask_refusal
  asks e =
      let z : set_refusal ws abi ≡ 0 = by (eqb (set_refusal ws abi) 0) (λ t. eqb-true (set_refusal ws abi) 0 t) (λ f. rw f at e) in
      let g : ◌≡◌ {A = ℕ} (cond (bad_ask ws c i) 6 (cond (bad_area ws area) 7 0)) 0 = rw (eq-eqb (set_refusal ws abi) 0 z) at e in
      let p = passed (bad_ask ws c i) 6 (cond (bad_area ws area) 7 0) (λ (y : 6 ≡ 0). omega arith) g in
      let q = passed (bad_area ws area) 7 0 (λ (y : 7 ≡ 0). omega arith) p.1 in
      record { accepted = z; classes = p.0; tables = q.0 }

-- ---- row 15, and the node

module _ (ws : List ℕ) (c i : ℕ) (area stubs : List ℕ) (nodes : ℕ) (t : Table 1024) {b : Bool} (room : b ≡ no_room area stubs t.len) where
  room-is : no_room area stubs (length (entries t)) ≡ b
  room-is = rw (length-entries t.words t.marks t.len) (sym room)

  pub finish-full : b ≡ true → refused_call 15 ws area ≡ finish_ask ws c i area stubs nodes (built (entries t))
  unfolding finish_ask
  finish-full e = rw (room-is, e)

  module _ (free : b ≡ false) (bad : bad_area ws area ≡ false) {node : ℕ} (next : node ≡ next_free area) where
    -- the place that is answered is a word
    pub node-fits : node + 1 < 4294967296
    node-fits =
        let s = sound ws area bad in
        let f = fits area stubs t.len (sym room ∙ free) in
        omega (arith, s.short, f.free)

    pub finish-done : {head : ℕ} {area₂ : List ℕ} → head ≡ head_place ws c → area₂ ≡ node_written area head i t.words t.len stubs
        → outcome (Ok (record { first = node + 1; second = nodes })) ws area₂ ≡ finish_ask ws c i area stubs nodes (built (entries t))
    unfolding finish_ask
    finish-done {head = head} e g =
        let k = node-asked area t.words t.marks stubs t.len (sym room ∙ free) (sound ws area bad).short ws c head i e in
        rw (room-is, free, g, k, next)

-- the node's table, as `build_node` has it, or row 16
pub node-built : (same : Same) (ws abi : List ℕ) (c i : ℕ) (area stubs : List ℕ) (nodes : ℕ) {B : Built} {o : Outcome}
    → B ≡ dispatch_entries same ws c (table_entries same ws (text_of ws) abi (abi_text_of abi) area i)
    → o ≡ finish_ask ws c i area stubs nodes B → o ≡ build_node same ws abi c i area stubs nodes
unfolding build_node finish_ask
node-built same ws abi c i area stubs nodes e f = f ∙ rw e

pub node-refused : (same : Same) (ws abi : List ℕ) (c i : ℕ) (area stubs : List ℕ) (nodes n : ℕ)
    → refused n ≡ dispatch_entries same ws c (table_entries same ws (text_of ws) abi (abi_text_of abi) area i)
    → refused_call n ws area ≡ build_node same ws abi c i area stubs nodes
unfolding build_node
node-refused same ws abi c i area stubs nodes n e = rw (← e) refl

-- ---- the call

-- rows 3 to 7, and the walk from the class's head
module _ (ws abi : List ℕ) (c i : ℕ) (area : List ℕ) (rows : 0 ≡ ask_refusal ws abi c i area) where
  pub code-asks : Asks ws abi c i area
  code-asks = asks ws abi c i area (sym rows)

  -- the place that is answered is a word
  pub hit-fits : (head : ℕ) {u : Walk} → u ≡ walk area i 64 0 head → (n nodes : ℕ) → u ≡ hit n nodes → n + 1 < 4294967296
  hit-fits head walked n nodes e =
      let s = sound ws area code-asks.tables in
      omega (arith, (hit-is area i 64 0 head n nodes (sym walked ∙ e)).0, s.within, s.short)

module _ (same : Same) (ws abi : List ℕ) (c i : ℕ) (area stubs : List ℕ) where
  refused-by : (x : ℕ) → ask_refusal ws abi c i area ≡ x → (x ≡ 0 → ⊥) → refused_call x ws area ≡ ask_by same ws abi c i area stubs
  unfolding ask_refusal ask_by
  refused-by x e h =
      by (eqb (set_refusal ws abi) 0)
      (λ t.
      by (bad_ask ws c i)
      (λ u. let p : 6 ≡ x = rw (t, u) at e in rw (t, u, ← p))
      (λ u.
      by (bad_area ws area)
      (λ v. let p : 7 ≡ x = rw (t, u, v) at e in rw (t, u, v, ← p))
      (λ v. let p : 0 ≡ x = rw (t, u, v) at e in absurd (h (sym p)))))
      (λ f. let p : set_refusal ws abi ≡ x = rw f at e in rw (f, p))

  pub ask-refused : (k : Refusal) → row k ≡ ask_refusal ws abi c i area → refused_call (row k) ws area ≡ ask_by same ws abi c i area stubs
  ask-refused k rows = refused-by (row k) (sym rows) (λ z. omega (arith, z, row_above k))

  module _ (rows : 0 ≡ ask_refusal ws abi c i area) {place head : ℕ} {u : Walk} (at : place ≡ head_place ws c) (from : head ≡ get_or area place 0)
      (walked : u ≡ walk area i 64 0 head) where
    head_is : walk area i 64 0 (get_or area (head_place ws c) 0) ≡ u
    head_is = rw (← at, ← from) (sym walked)

    pub ask-hit : (n nodes : ℕ) → u ≡ hit n nodes → outcome (Ok (record { first = n + 1; second = nodes })) ws area ≡ ask_by same ws abi c i area stubs
    unfolding ask_by
    ask-hit n nodes e =
        let a = code-asks ws abi c i area rows in
        rw (eq-eqb (set_refusal ws abi) 0 a.accepted, a.classes, a.tables, head_is, e)

    pub ask-built : (nodes : ℕ) {o : Outcome} → u ≡ missed nodes → o ≡ build_node same ws abi c i area stubs nodes → o ≡ ask_by same ws abi c i area stubs
    unfolding ask_by
    ask-built nodes e f =
        let a = code-asks ws abi c i area rows in
        f ∙ rw (eq-eqb (set_refusal ws abi) 0 a.accepted, a.classes, a.tables, head_is, e)

    pub ask-broken : u ≡ broken → refused_call 7 ws area ≡ ask_by same ws abi c i area stubs
    unfolding ask_by
    ask-broken e =
        let a = code-asks ws abi c i area rows in
        rw (eq-eqb (set_refusal ws abi) 0 a.accepted, a.classes, a.tables, head_is, e)

-- ---- row 3 of the list of numbers

module _ (ws abi numbers : List ℕ) (c i : ℕ) (area stubs : List ℕ) {b : Bool} (short : b ≡ numbers_short numbers) where
  pub ask_short : b ≡ true → refused_call 3 ws area ≡ ask_numbered ws abi numbers c i area stubs
  unfolding ask_numbered
  ask_short e = rw (← short, e)

  pub ask_long : {o : Outcome} → b ≡ false → o ≡ ask_by (by_numbers numbers) ws abi c i area stubs → o ≡ ask_numbered ws abi numbers c i area stubs
  unfolding ask_numbered
  ask_long e f = f ∙ rw (← short, e)
