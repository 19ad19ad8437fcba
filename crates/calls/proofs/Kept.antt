-- A KEPT INTERFACE TABLE IS STILL THE RIGHT ONE (specs/Kept.antt), from what holds after every list of calls (Nodes.antt): the form of a class's
-- list and the nodes read, however the calls compare signatures; the tables' rightness, by bytes. Assumes nothing.
use mathlib.Core.Path.{◌≡◌, refl, sym, ap, ◌∙◌}
use mathlib.Core.Logic.{◌⊎◌, inl, inr, ◌≢◌}
use mathlib.Core.Bool.{true, false}
use mathlib.Core.List.{List, []}
use Prim.Native.Nat.{ℕ, ◌+◌, ◌-◌, ◌≤◌, ◌<◌}
use native.Mathlib.Omega.{arith}
use lib.ListN.{length, get_or, length-set}
use lib.Seq.{get_or-set_same, get_or-set_other}
use lib.Dec.{eqb}
use borrow.Author.Tests.{eqb-true, eqb-false, eq-eqb, ltb-true, le-ltb}
use Rattle.words.proofs.Bools.{by}
use Rattle.words.proofs.Lists.{part-set-other}
use Rattle.class_sheet.specs.ClassSheet.{class_count, text_of, class_table_place, class_slot_count}
use Rattle.abi_sheet.specs.AbiSheet.{abi_text_of}
use Rattle.set_rules.specs.SetRules.{set_refusal}
use Rattle.set_rules.specs.Valid.{Valid}
use Rattle.set_rules.proofs.Valid.{valid}
use Rattle.linking.specs.Signature.{by_sheets}
use Rattle.linking.specs.Vtable.{Entry, built, slot_words}
use Rattle.linking.specs.Link.{HasTable, next_free, ends_below, bad_area, no_room, Outcome}
use Rattle.linking.specs.Ask.{missed, broken, walk, head_place, build_node, bad_ask, ask_def, ask_by}
use Rattle.linking.proofs.Plans.{built-same}
use Rattle.linking.proofs.Rows.{Sound, sound}
use Rattle.slots.proofs.ListFacts.{in_none}
use Rattle.calls.specs.Calls.{left, way_left, Call, ask, Way, bytewise, way_after, ByBytes, State, start, outcome, step, run, Unlinked, table_at}
use Rattle.calls.specs.Kept.{head_of, Once, built_afresh, AllRight, answered, without_list, Full, BuildsSame, AskedIn, asked_now, asked_later, TablesBy, AnswersBy, AfreshBy, OnceOnly, NodesBound}
use Rattle.calls.proofs.Area.{asked-slots}
use Rattle.calls.proofs.Like.{like-same}
use Rattle.calls.proofs.Like as like
use Rattle.calls.proofs.Dispatch.{built-size, built_alike}
use Rattle.calls.proofs.Rows.{Hits, PutsNode, ask-cases}
use Rattle.calls.proofs.Ways.{ask-ends}
use Rattle.calls.proofs.Tables.{none-linked}
use Rattle.calls.proofs.Walk.{ended, missed-all, hit-one}
use Rattle.calls.proofs.NodeLists.{Listed}
use Rattle.calls.proofs.NodeLists as laid
use Rattle.calls.proofs.Nodes.{Stands, stands-start, step-stands, run-stands, StillOn, answered-on, run_on, run-right}

-- ---- the nodes of a list are no more than the classes

module _ (way : Way) (abi : List ℕ) (s : State) (c : ℕ) (ns : Listed s c) where
  pub few : length ns.places ≤ class_count s.set
  few = laid.few s.set s.area ns.nodes

  read : (i : ℕ) (stubs : List ℕ) → (outcome way abi s (ask c i stubs)).refusal ≡ 0 → (outcome way abi s (ask c i stubs)).second ≤ class_count s.set
  read i stubs e =
      let f = few in
      elim (ask-ends way abi s c i stubs) [
        | inl r ↦
            let h = r.hits e in
            let k = (hit-one s.area i ns.places 64 0 (head_of s c) h.node h.nodes ns.nodes.spelt h.walks).2 in
            rw h.answers-nodes (omega arith)
        | inr a ↦
            let k = (missed-all s.area i ns.places 64 0 (head_of s c) a.nodes ns.nodes.spelt a.walks).1 in
            rw a.answers-nodes (omega arith)
      ]

  sound-list : class_count s.set ≤ 64 → (i : ℕ) → walk s.area i 64 0 (head_of s c) ≢ broken
  sound-list h i =
      let f = few in
      laid.sound-list s.set s.area i 64 0 ns.nodes (omega arith)

  once : class_count s.set ≤ 64 → Once way abi (class_count s.set) s c
  once h = record {
    places = ns.places;
    spelt = ns.nodes.spelt;
    different = ns.nodes.different;
    linked = λ n m. (ns.nodes.each n m).interface;
    few = few;
    sound = sound-list h;
    misses = λ i k e. let m = (missed-all s.area i ns.places 64 0 (head_of s c) k ns.nodes.spelt e).1 in omega arith;
    hits = λ i n k e. let m = (hit-one s.area i ns.places 64 0 (head_of s c) n k ns.nodes.spelt e).2 in omega arith;
    nodes_read = read;
  }

-- ---- THE THEOREMS

module _ (way : Way) (ws abi area missing : List ℕ) (unlinked : Unlinked ws) (calls : List Call) where
  pub left-stands : Stands abi (class_count ws) (left way ws abi area missing calls)
  left-stands = run-stands abi way calls (start ws area missing) (stands-start abi ws area missing unlinked)

pub once-only : OnceOnly
once-only way ws abi area missing unlinked calls c l =
    let t = left-stands way ws abi area missing unlinked calls in
    rw (← t.classes)
    (once (way_left way ws abi area missing calls) abi (left way ws abi area missing calls) c (t.lists c l) (omega (arith, t.classes, t.limit c l)))

pub tables_by_bytes : ByBytes TablesBy
tables_by_bytes ws abi area missing stubs unlinked calls same =
    run-right abi stubs calls (start ws area missing) (stands-start abi ws area missing unlinked) (λ c i node l. absurd (none-linked unlinked l)) same

-- ---- what an accepted ask answers

-- its slots are those of entries that would be built afresh
record Answers (abi stubs : List ℕ) (s : State) (c i : ℕ) : Type 0 where
  accepted : set_refusal s.set abi ≡ 0
  asks : bad_ask s.set c i ≡ false
  sits : bad_area s.set s.area ≡ false
  valid-then : Valid s.set
  class : HasTable s.set c
  interface : HasTable s.set i
  entries : List Entry
  afresh : built_afresh abi s c i ≡ built entries
  size : length entries ≡ class_slot_count s.set i
  enough : length entries ≤ length stubs
  slots : answered bytewise abi s c i stubs ≡ slot_words stubs 0 entries

-- where it puts a node
built-answers : (abi stubs : List ℕ) (s : State) (c i : ℕ) → PutsNode s.set abi c i s.area stubs (ask_def s.set abi c i s.area stubs)
    → Answers abi stubs s c i
built-answers abi stubs s c i a =
    let o : Outcome = ask_def s.set abi c i s.area stubs in
    let v = (valid s.set abi a.valid).0 in
    let n = built-size (by_sheets s.set abi) s.set (text_of s.set) abi (abi_text_of abi) s.area c i a.entries
    ((v.class i (a.interface.some, a.interface.among)).slots a.interface.has) a.builds in
    record {
      accepted = a.valid;
      asks = a.asks;
      sits = a.sits;
      valid-then = v;
      class = a.class;
      interface = a.interface;
      entries = a.entries;
      afresh = a.builds;
      size = n;
      enough = a.room.stubbed;
      slots = ap (λ (p : ℕ). table_at o.area p (class_slot_count s.set i)) a.answers-place
          ∙ ap (λ (n : ℕ). table_at o.area (next_free s.area + 1) n) (sym n)
          ∙ ap (λ (x : List ℕ). table_at x (next_free s.area + 1) (length a.entries)) a.new-area
          ∙ asked-slots s.set s.area c i a.entries stubs a.room.free a.lent.some (omega (arith, a.lent.below c a.class));
    }

module _ (abi stubs : List ℕ) (n : ℕ) (s : State) (stands : Stands abi n s) (right : AllRight abi s stubs) (c i : ℕ) where
  -- where it finds one
  found-answers : Hits s.set abi c i s.area (ask_def s.set abi c i s.area stubs)
      → (ask_def s.set abi c i s.area stubs).area ≡ s.area → Answers abi stubs s c i
  found-answers h e =
      let o : Outcome = ask_def s.set abi c i s.area stubs in
      let ns = stands.lists c h.class in
      let w = hit-one s.area i ns.places 64 0 (head_of s c) h.node h.nodes ns.nodes.spelt h.walks in
      let r = right c i h.node h.class (record { places = ns.places; spelt = ns.nodes.spelt; along = w.0; of = w.1 }) in
      record {
        accepted = h.valid;
        asks = h.asks;
        sits = h.sits;
        valid-then = (valid s.set abi h.valid).0;
        class = h.class;
        interface = h.interface;
        entries = r.entries;
        afresh = r.afresh;
        size = r.size;
        enough = r.enough;
        slots = ap (λ (x : List ℕ). table_at x o.first (class_slot_count s.set i)) e
            ∙ ap (λ (p : ℕ). table_at s.area p (class_slot_count s.set i)) h.answers-place
            ∙ ap (λ (n : ℕ). table_at s.area (h.node + 1) n) (sym r.size) ∙ r.slots;
      }

  answers : (outcome bytewise abi s (ask c i stubs)).refusal ≡ 0 → Answers abi stubs s c i
  answers e =
      elim (ask-cases s.set abi c i s.area stubs) [
        | inl u ↦ found-answers (u.hits e) u.same_area
        | inr a ↦ built-answers abi stubs s c i a
      ]

  -- where the list is emptied it always puts one
  abbrev bare : State
  bare = without_list s c

  no_hit : Hits s.set abi c i bare.area (ask_def s.set abi c i bare.area stubs) → ⊥
  no_hit h =
      let b = h.lent.below c h.class in
      let w = h.lent.within in
      let n = length-set s.area (head_place s.set c) 0 in
      let z : get_or bare.area (head_place s.set c) 0 ≡ 0 = get_or-set_same s.area (head_place s.set c) 0 0 (omega arith) in
      in_none refl (hit-one bare.area i [] 64 0 (get_or bare.area (head_place s.set c) 0) h.node h.nodes z h.walks).0

  bare-answers : (outcome bytewise abi bare (ask c i stubs)).refusal ≡ 0 → Answers abi stubs bare c i
  bare-answers e =
      elim (ask-cases s.set abi c i bare.area stubs) [
        | inl u ↦ absurd (no_hit (u.hits e))
        | inr a ↦ built-answers abi stubs bare c i a
      ]

  -- and builds the same: the head is no slot of the interface's table
  no_slot : HasTable s.set c → HasTable s.set i
      → (head_place s.set c < class_table_place s.set i + 1) ⊎ (class_table_place s.set i + 1 + class_slot_count s.set i ≤ head_place s.set c)
  no_slot l k =
      by (eqb c i)
      (λ t. let e : c ≡ i = eqb-true c i t in rw e (inr (omega arith)))
      (λ f. elim (stands.tables.apart c i l k (eqb-false c i f)) [ inl p ↦ inl (omega arith) | inr p ↦ inr (omega arith) ])

  bare-same : Valid s.set → HasTable s.set c → HasTable s.set i → built_afresh abi bare c i ≡ built_afresh abi s c i
  bare-same v l k =
      built_alike s.set s.set v (like.alike (like-same s.set)) abi (abi_text_of abi) s.area bare.area i k.among (λ d j. record { first = refl; many = refl })
      refl refl
      (part-set-other 0 s.area (head_place s.set c) 0 (class_table_place s.set i + 1) (class_slot_count s.set i) (no_slot l k))
      c l.among (λ d j. record { first = refl; many = refl })

  alike : (outcome bytewise abi s (ask c i stubs)).refusal ≡ 0 → (outcome bytewise abi bare (ask c i stubs)).refusal ≡ 0
      → answered bytewise abi s c i stubs ≡ answered bytewise abi bare c i stubs
  alike e f =
      let a = answers e in
      let b = bare-answers f in
      let q : a.entries ≡ b.entries = built-same (sym a.afresh ∙ sym (bare-same a.valid-then a.class a.interface) ∙ b.afresh) in
      a.slots ∙ ap (slot_words stubs 0) q ∙ sym b.slots

  -- it is refused by nothing but 15
  bare-sits : bad_area s.set s.area ≡ false → bad_area s.set bare.area ≡ false
  unfolding bad_area ends_below
  bare-sits e =
      let z : next_free bare.area ≡ next_free s.area = get_or-set_other s.area (head_place s.set c) 0 0 0 (omega arith) in
      rw (length-set s.area (head_place s.set c) 0, z) e

  bare-walks : HasTable s.set c → Sound s.set s.area → walk bare.area i 64 0 (get_or bare.area (head_place s.set c) 0) ≡ missed 0
  bare-walks l w =
      let b = w.below c l in
      let n = w.within in
      ended bare.area i 64 0 (get_or bare.area (head_place s.set c) 0)
      (get_or-set_same s.area (head_place s.set c) 0 0 (omega arith))

  -- where the stubs are enough, it is the area that is full
  too_full : Answers abi stubs s c i → (n : ℕ) → n ≡ class_slot_count s.set i → n ≤ length stubs → no_room bare.area stubs n ≡ true → Full s i
  unfolding no_room
  too_full a n q h e =
      let z : next_free bare.area ≡ next_free s.area = get_or-set_other s.area (head_place s.set c) 0 0 0 (omega arith) in
      let l = length-set s.area (head_place s.set c) 0 in
      let w = (sound s.set s.area a.sits).within in
      let t = ltb-true (length bare.area - next_free bare.area) (n + 2) (rw (le-ltb (length stubs) n h) at e) in
      omega arith

  bare-refusal : Answers abi stubs s c i
      → (((outcome bytewise abi bare (ask c i stubs)).refusal ≡ 15) × Full s i) ⊎ ((outcome bytewise abi bare (ask c i stubs)).refusal ≡ 0)
  unfolding ask_def ask_by build_node
  bare-refusal a =
      rw (
        eq-eqb (set_refusal s.set abi) 0 a.accepted,
        a.asks,
        bare-sits a.sits,
        bare-walks a.class (sound s.set s.area a.sits),
        bare-same a.valid-then a.class a.interface,
        a.afresh,
      )
      (by (no_room bare.area stubs (length a.entries))
      (λ t. rw t (inl (refl, too_full a (length a.entries) a.size a.enough t)))
      (λ f. rw f (inr refl)))

  afresh-or-full : (outcome bytewise abi s (ask c i stubs)).refusal ≡ 0 → BuildsSame bytewise abi s c i stubs
  afresh-or-full e = elim (bare-refusal (answers e)) [ inl f ↦ inl f | inr f ↦ inr (f, alike e f) ]

pub afresh_by_bytes : ByBytes AfreshBy
afresh_by_bytes ws abi area missing stubs unlinked calls same c i e =
    afresh-or-full abi stubs (class_count ws) (left bytewise ws abi area missing calls)
    (left-stands bytewise ws abi area missing unlinked calls) (tables_by_bytes ws abi area missing stubs unlinked calls same) c i e

-- ---- the nodes that an ask of the list reads

module _ (abi : List ℕ) (n c i place nodes : ℕ) where
  asked-class : (way : Way) (s : State) (stubs : List ℕ) → (outcome way abi s (ask c i stubs)).refusal ≡ 0 → HasTable s.set c
  asked-class way s stubs e = elim (ask-ends way abi s c i stubs) [ inl u ↦ (u.hits e).class | inr a ↦ a.class ]

  asked-bound : {way : Way} {s : State} {ks : List Call} → AskedIn abi c i place nodes way s ks → Stands abi n s → nodes ≤ n
  asked-bound {way} {s} (asked_now stubs e f g) t =
      let r = read way abi s c (t.lists c (asked-class way s stubs e)) i stubs e in
      omega (arith, g, t.classes)
  asked-bound {way} {s} (asked_later {k = k} j) t = asked-bound j (step-stands abi way s t k)

pub nodes-bound : NodesBound
nodes-bound way ws abi area missing unlinked calls c i place nodes j =
    asked-bound abi (class_count ws) c i place nodes j (stands-start abi ws area missing unlinked)

-- ---- and what it answered, after the list

kept-answer : (abi : List ℕ) (n c i place nodes : ℕ) {way : Way} {s : State} {ks : List Call} → AskedIn abi c i place nodes way s ks
    → Stands abi n s → (node : ℕ) × (place ≡ node + 1) × StillOn abi (run way abi ks s) c i node
unfolding run
kept-answer abi n c i place nodes {way} {s} (asked_now {ks = ks} lent e f g) t =
    let a = answered-on abi way s t c i lent e in
    let r = run_on abi (way_after way abi s (ask c i lent)) ks (step way abi s (ask c i lent)) (step-stands abi way s t (ask c i lent)) c i a.0 a.2.linked a.2.on in
    (a.0, sym f ∙ a.1, r)
kept-answer abi n c i place nodes {way} {s} (asked_later {k = k} j) t = kept-answer abi n c i place nodes j (step-stands abi way s t k)

pub answers_by_bytes : ByBytes AnswersBy
answers_by_bytes ws abi area missing stubs unlinked calls same c i place nodes j =
    let r = kept-answer abi (class_count ws) c i place nodes j (stands-start abi ws area missing unlinked) in
    record {
      node = r.0;
      at = r.1;
      on = r.2.on;
      right = tables_by_bytes ws abi area missing stubs unlinked calls same c i r.0 r.2.linked r.2.on;
    }
