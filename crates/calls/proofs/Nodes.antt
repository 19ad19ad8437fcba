-- Every list of calls, accepted or refused, however they compare signatures: the list of each linked class is one of `NodeLists`, so that it ends and names
-- no interface twice. A call writes free words, word 0 and heads, nodes lie below word 0, and no head lies in one: so no call writes into a node, and what
-- would be built stays, as no call moves what is read for it (`Moves`). So a table that was right stays right, and by bytes each new one is. Assumes nothing.
use mathlib.Core.Path.{◌≡◌, refl, sym, ap, ◌∙◌, subst}
use mathlib.Core.Logic.{◌⊎◌, inl, inr, ◌≢◌}
use mathlib.Core.Bool.{false}
use mathlib.Core.List.Memᴰ
use mathlib.Core.List.{List, [], ◌∷◌, map, Memᴰ}
use Prim.Native.Nat.{ℕ, ◌+◌, ◌≤◌, ◌<◌}
use native.Mathlib.Omega.{arith}
use lib.ListN.{length, get_or}
use lib.Dec.{eqb}
use borrow.Author.Tests.{eqb-true, eqb-false}
use Rattle.words.proofs.Bools.{by}
use Rattle.words.proofs.Lists.{part_ext}
use Rattle.class_sheet.specs.ClassSheet.{class_count, class_table_place, class_slot_count}
use Rattle.abi_sheet.specs.AbiSheet.{abi_text_of}
use Rattle.set_rules.specs.SetRules.{set_refusal}
use Rattle.linking.specs.Signature.{Same}
use Rattle.linking.specs.Chain.{chain}
use Rattle.linking.specs.Vtable.{Entry}
use Rattle.linking.specs.Link.{HasTable, next_free, bad_area, Outcome, LinkOutcome}
use Rattle.linking.specs.Ask.{head_place}
use Rattle.linking.proofs.Rebuilt.{Unmoved}
use Rattle.matching.proofs.Rows.{Accepted}
use Rattle.matching.proofs.Stays.{link-stands}
use Rattle.slots.proofs.ListFacts.{in_none}
use Rattle.calls.specs.Calls.{Call, link, ask, Way, bytewise, way_after, State, start, outcome, step, run, Unlinked, table_at, stubs_of}
use Rattle.calls.specs.Kept.{SameStubs, head_of, interface_at, Spells, OnList, built_afresh, Right, AllRight}
use Rattle.calls.proofs.Area.{linked-length, linked-before, linked-head, linked-free, asked-slots}
use Rattle.calls.proofs.Linked.{unmoved-other}
use Rattle.calls.proofs.Like.{like-same, alike}
use Rattle.calls.proofs.Dispatch.{built_alike}
use Rattle.calls.proofs.Rows.{Puts, PutsNode}
use Rattle.calls.proofs.Ways.{same_of, left_by, link-ends, ask-ends, asked-state}
use Rattle.calls.proofs.Tables.{Keeps, still, Tables, none-linked, tables_start, chain-linked, valid-now, leaves, link-keeps, new-place, new-slots, was, link-tables, link-sits, ask-next, ask-keeps, ask-tables, same-state}
use Rattle.calls.proofs.Puts.{put-valid, put-size, head-below, put-more, put-long, put-agree, put-sound, new-head, new-link, new-interface, new-node}
use Rattle.calls.proofs.Walk.{missed-all, hit-one, spells_one}
use Rattle.calls.proofs.NodeLists.{Listed}
use Rattle.calls.proofs.NodeLists as laid

-- ---- what a call does to what was there before it

pub record Moves (abi : List ℕ) (s s' : State) : Type 0 where
  pub keeps : Keeps s s'
  pub long : length s'.area ≡ length s.area
  pub free : next_free s.area ≤ next_free s'.area
  -- below word 0 it writes only heads
  pub words : (j : ℕ) → 0 < j → j < next_free s.area → ((d : ℕ) → HasTable s.set d → j ≢ head_place s.set d)
      → get_or s'.area j 0 ≡ get_or s.area j 0
  pub afresh : (c i : ℕ) → HasTable s.set c → HasTable s.set i → built_afresh abi s' c i ≡ built_afresh abi s c i
  -- a new table lies above
  pub tables : (d : ℕ) → HasTable s'.set d → HasTable s.set d ⊎ (next_free s.area ≤ class_table_place s'.set d)

-- ---- a call keeps a list whose head it leaves

module _ (abi : List ℕ) {s s' : State} (moves : Moves abi s s') where
  agree : (n i : ℕ) → laid.Node s.set s.area n i → (k : ℕ) → n ≤ k → k < n + 2 + class_slot_count s.set i → get_or s'.area k 0 ≡ get_or s.area k 0
  agree n i m k a b =
      let z = m.some in
      let l = m.below in
      moves.words k (omega arith) (omega arith) (λ d t e. elim (m.apart d t) [ inl p ↦ omega arith | inr p ↦ omega arith ])

  heads : (n i : ℕ) → laid.Node s.set s.area n i → (d : ℕ) → HasTable s'.set d
      → (head_place s'.set d < n) ⊎ (n + 2 + class_slot_count s.set i ≤ head_place s'.set d)
  heads n i m d t =
      elim (moves.tables d t) [
        | inl o ↦ rw (moves.keeps.place d o, moves.keeps.slots d o) (m.apart d o)
        | inr p ↦ let b = m.below in inr (omega arith)
      ]

  pub still-list : {n : ℕ} {ps : List ℕ} → laid.Nodes s.set s.area n ps → laid.Nodes s'.set s'.area n ps
  still-list = laid.nodes-moved s.set s.area s'.area moves.free agree s'.set (λ d l. still moves.keeps d l) moves.keeps.slots heads

  pub still-interfaces : {n : ℕ} {ps : List ℕ} → laid.Nodes s.set s.area n ps → map (interface_at s'.area) ps ≡ map (interface_at s.area) ps
  still-interfaces = laid.interfaces-moved s.set s.area s'.area moves.free agree

  module _ (c : ℕ) (l : HasTable s.set c) (ns : Listed s c) where
    pub spells-places : (ms : List ℕ) → Spells s.area (head_of s c) ms → Spells s'.area (head_of s c) ms
    spells-places ms t = let e = spells_one s.area ms ns.places (head_of s c) t ns.nodes.spelt in rw e (still-list ns.nodes).spelt

    pub on-interface : {i node : ℕ} (o : OnList s c i node) → interface_at s'.area node ≡ i
    on-interface {i} {node} o =
        let e = spells_one s.area o.places ns.places (head_of s c) o.spelt ns.nodes.spelt in
        agree node (interface_at s.area node) (ns.nodes.each node (rw e at o.along)) (node + 1) (omega arith) (omega arith) ∙ o.of

    pub still-on : {i node : ℕ} → head_of s' c ≡ head_of s c → OnList s c i node → OnList s' c i node
    still-on e o = record { places = o.places; spelt = rw e (spells-places o.places o.spelt); along = o.along; of = on-interface o }

    pub still-listed : head_of s' c ≡ head_of s c → Listed s' c
    still-listed e = record { places = ns.places; nodes = rw e (still-list ns.nodes) }

    -- a right table stays right
    module _ (stubs : List ℕ) (i node : ℕ) (right : (j : ℕ) → OnList s c j node → Right abi stubs s c j node) where
      right-still : Memᴰ node ns.places → interface_at s'.area node ≡ i → Right abi stubs s' c i node
      right-still along of =
          let j : ℕ = interface_at s.area node in
          let m : laid.Node s.set s.area node (interface_at s.area node) = ns.nodes.each node along in
          let k = right (interface_at s.area node) (record { places = ns.places; spelt = ns.nodes.spelt; along = along; of = refl }) in
          let z = k.size in
          let same : interface_at s'.area node ≡ interface_at s.area node = agree node (interface_at s.area node) m (node + 1) (omega arith) (omega arith) in
          let then : Right abi stubs s' c (interface_at s.area node) node = record {
            interface = still moves.keeps (interface_at s.area node) k.interface;
            entries = k.entries;
            afresh = moves.afresh c (interface_at s.area node) l k.interface ∙ k.afresh;
            size = k.size ∙ sym (moves.keeps.slots (interface_at s.area node) k.interface);
            enough = k.enough;
            slots = part_ext 0 s'.area s.area (node + 1 + 1) (length k.entries) moves.long
                (λ x h g. agree node (interface_at s.area node) m x (omega arith) (omega arith)) ∙ k.slots;
          } in
          subst (λ (x : ℕ). Right abi stubs s' c x node) (sym same ∙ of) then

      pub still-right : head_of s' c ≡ head_of s c → OnList s' c i node → Right abi stubs s' c i node
      still-right e on =
          let spelt : Spells s'.area (head_of s' c) ns.places = rw e (still-list ns.nodes).spelt in
          let q = spells_one s'.area on.places ns.places (head_of s' c) on.spelt spelt in
          right-still (rw q at on.along) on.of

module _ (abi : List ℕ) where
  module _ (s : State) (tables : Tables s) where
    -- ---- an accepted link

    module _ {same : Same} (c : ℕ) (stubs : List ℕ) (o : LinkOutcome) (acc : Accepted same s.set abi c s.area stubs s.missing o) where
      abbrev linked : State
      linked = record { set = o.outcome.set; area = o.outcome.area; missing = o.missing }

      abbrev T : List Entry
      T = acc.coming.table

      stills : (d : ℕ) → HasTable s.set d → (e : ℕ) → Memᴰ e (chain s.set d) → Unmoved s.set o.outcome.set e
      stills d l e i =
          let k = chain-linked s tables d l e i in
          unmoved-other (leaves abi s c stubs o acc) e k.some k.among (λ q. k.has (rw q acc.class.new))

      link-moves : Moves abi s linked
      link-moves =
          let keeps = link-keeps abi s c stubs o acc in
          record {
            keeps = keeps;
            long = ap length acc.new-area ∙ linked-length s.area c T stubs acc.lent.some acc.room.free;
            free = rw (acc.new-area, linked-free s.area c T stubs acc.lent.some acc.room.free) (omega arith);
            words = λ j p h n. rw acc.new-area (linked-before s.area c T stubs acc.lent.some acc.room.free j p h);
            afresh = λ d i ld li.
                built_alike s.set o.outcome.set (valid-now abi s c stubs o acc)
                (alike (leaves abi s c stubs o acc).like) abi (abi_text_of abi) s.area o.outcome.area i li.among (stills i li)
                (keeps.place i li) (keeps.slots i li) (keeps.table i li) d ld.among (stills d ld);
            tables = λ d t.
                by (eqb d c)
                (λ e.
                let p = new-place abi s c stubs o acc in
                inr (rw (eqb-true d c e) (omega arith)))
                (λ f. inl (was abi s c stubs o acc d (eqb-false d c f) t));
          }

      old-head : (d : ℕ) → HasTable s.set d → head_of linked d ≡ head_of s d
      old-head d l =
          let b = acc.lent.below d l in
          rw (link-moves.keeps.place d l, link-moves.keeps.slots d l, acc.new-area)
          (linked-before s.area c T stubs acc.lent.some acc.room.free (head_place s.set d) (omega arith) (omega arith))

      zero-head : head_of linked c ≡ 0
      zero-head =
          ap (λ (p : ℕ). get_or o.outcome.area (p + class_slot_count o.outcome.set c + 1) 0) (new-place abi s c stubs o acc)
          ∙ ap (λ (n : ℕ). get_or o.outcome.area (next_free s.area + n + 1) 0) (new-slots abi s c stubs o acc)
          ∙ ap (λ (x : List ℕ). get_or x (next_free s.area + length T + 1) 0) acc.new-area
          ∙ linked-head s.area c T stubs acc.lent.some acc.room.free

      link_on : (d : ℕ) → HasTable s.set d → Listed s d → {j node : ℕ} → OnList s d j node → OnList linked d j node
      link_on d l ns o = still-on abi link-moves d l ns (old-head d l) o

      bare : Listed linked c
      bare = record { places = []; nodes = laid.none o.outcome.set o.outcome.area zero-head }

      link-listed : ((d : ℕ) → HasTable s.set d → Listed s d) → (d : ℕ) → HasTable o.outcome.set d → Listed linked d
      link-listed lists d t =
          by (eqb d c) (λ e. let q : d ≡ c = eqb-true d c e in rw q bare)
          (λ f.
          let l = was abi s c stubs o acc d (eqb-false d c f) t in
          still-listed abi link-moves d l (lists d l) (old-head d l))

      link-right : ((d : ℕ) → HasTable s.set d → Listed s d) → (lent : List ℕ) → AllRight abi s lent → AllRight abi linked lent
      link-right lists lent right d i node t on =
          by (eqb d c)
          (λ e.
          let q : d ≡ c = eqb-true d c e in
          let here : OnList linked c i node = subst (λ (x : ℕ). OnList linked x i node) q on in
          in_none (spells_one o.outcome.area here.places [] (head_of linked c) here.spelt zero-head) here.along)
          (λ f.
          let l = was abi s c stubs o acc d (eqb-false d c f) t in
          still-right abi link-moves d l (lists d l) lent i node (λ j o. right d j node l o) (old-head d l) on)

    -- ---- an ask that puts a node

    module _ {same : Same} (c i : ℕ) (stubs : List ℕ) (o : Outcome) (asked : Puts same s.set abi c i s.area stubs o) where
      abbrev put : State
      put = record { set = s.set; area = o.area; missing = s.missing }

      abbrev U : List Entry
      U = asked.entries

      abbrev new : ℕ
      new = next_free s.area

      ask-moves : Moves abi s put
      ask-moves =
          let keeps = ask-keeps abi s tables c i stubs o asked in
          let v = put-valid abi s c i stubs o asked in
          record {
            keeps = keeps;
            long = put-long abi s c i stubs o asked;
            free = put-more abi s c i stubs o asked;
            words = λ j p h n. put-agree abi s c i stubs o asked j p h (n c asked.class);
            afresh = λ d e ld le.
                built_alike s.set s.set v (alike (like-same s.set)) abi (abi_text_of abi) s.area o.area e le.among
                (λ k j. record { first = refl; many = refl }) refl refl (keeps.table e le) d ld.among (λ k j. record { first = refl; many = refl });
            tables = λ d t. inl t;
          }

      other-head : (d : ℕ) → HasTable s.set d → d ≢ c → head_of put d ≡ head_of s d
      other-head d l n =
          let b = asked.lent.below d l in
          put-agree abi s c i stubs o asked (head_place s.set d) (omega arith) (omega arith)
          (λ e. elim (tables.apart d c l asked.class n) [ inl p ↦ omega arith | inr p ↦ omega arith ])

      front-interface : interface_at o.area new ≡ i
      front-interface = new-interface abi s c i stubs o asked

      front-list : {ps : List ℕ} → laid.Nodes s.set s.area (head_of s c) ps → laid.Nodes s.set o.area (head_of put c) (new ∷ ps)
      front-list {ps} ns =
          let m = missed-all s.area i ps 64 0 (head_of s c) asked.nodes ns.spelt asked.walks in
          rw (new-head abi s c i stubs o asked)
          (laid.more s.set o.area (new-node abi s c i stubs o asked) (rw (still-interfaces abi ask-moves ns) m.0)
          (rw (new-link abi s c i stubs o asked) (still-list abi ask-moves ns)))

      front-spelt : (ms : List ℕ) → Spells o.area (head_of s c) ms → Spells o.area (head_of put c) (new ∷ ms)
      front-spelt ms t = (new-head abi s c i stubs o asked, asked.lent.some, rw (new-link abi s c i stubs o asked) t)

      front : Listed s c → Listed put c
      front ns = record { places = new ∷ ns.places; nodes = front-list ns.nodes }

      -- the node that it puts is on the list, and those that were are
      new-on : Listed s c → OnList put c i new
      new-on ns = record {
        places = new ∷ ns.places;
        spelt = (front-list ns.nodes).spelt;
        along = Memᴰ.head refl;
        of = front-interface;
      }

      front-on : Listed s c → {j node : ℕ} → OnList s c j node → OnList put c j node
      front-on ns o = record {
        places = new ∷ o.places;
        spelt = front-spelt o.places (spells-places abi ask-moves c asked.class ns o.places o.spelt);
        along = Memᴰ.tail o.along;
        of = on-interface abi ask-moves c asked.class ns o;
      }

      ask-on : (d : ℕ) → HasTable s.set d → Listed s d → {j node : ℕ} → OnList s d j node → OnList put d j node
      ask-on d t ns {j} {node} o =
          by (eqb d c)
          (λ e.
          let q : d ≡ c = eqb-true d c e in
          subst (λ (x : ℕ). OnList put x j node) (sym q)
          (front-on (subst (λ (x : ℕ). Listed s x) q ns) (subst (λ (x : ℕ). OnList s x j node) q o)))
          (λ f. still-on abi ask-moves d t ns (other-head d t (eqb-false d c f)) o)

      ask-listed : ((d : ℕ) → HasTable s.set d → Listed s d) → (d : ℕ) → HasTable s.set d → Listed put d
      ask-listed lists d t =
          by (eqb d c)
          (λ e. let q : d ≡ c = eqb-true d c e in rw q (front (lists c asked.class)))
          (λ f. still-listed abi ask-moves d t (lists d t) (other-head d t (eqb-false d c f)))

      -- the tables are right if the new one is
      module _ (lists : (d : ℕ) → HasTable s.set d → Listed s d) (lent : List ℕ) (right : AllRight abi s lent) (fresh : Right abi lent put c i new) where
        front-right : (j node : ℕ) → OnList put c j node → Right abi lent put c j node
        front-right j node on =
            let ns = lists c asked.class in
            let q = spells_one o.area on.places (new ∷ ns.places) (head_of put c) on.spelt (front-list ns.nodes).spelt in
            elim (Memᴰ.cases_cons (rw q at on.along)) [
              | inl e ↦
                  let k : i ≡ j = sym front-interface ∙ ap (interface_at o.area) (sym e) ∙ on.of in
                  subst (λ (x : ℕ). Right abi lent put c x node) k (subst (λ (x : ℕ). Right abi lent put c i x) (sym e) fresh)
              | inr m ↦ right-still abi ask-moves c asked.class ns lent j node (λ x o. right c x node asked.class o) m on.of
            ]

        ask-right : AllRight abi put lent
        ask-right d j node t on =
            by (eqb d c)
            (λ e.
            let q : d ≡ c = eqb-true d c e in
            subst (λ (x : ℕ). Right abi lent put x j node) (sym q) (front-right j node (subst (λ (x : ℕ). OnList put x j node) q on)))
            (λ f. still-right abi ask-moves d t (lists d t) lent j node (λ x o. right d x node t o) (other-head d t (eqb-false d c f)) on)

    -- by bytes it is
    new-right : (c i : ℕ) (stubs : List ℕ) (o : Outcome) (asked : PutsNode s.set abi c i s.area stubs o)
        → Right abi stubs (record { set = s.set; area = o.area; missing = s.missing }) c i (next_free s.area)
    new-right c i stubs o asked = record {
      interface = asked.interface;
      entries = asked.entries;
      afresh = (ask-moves c i stubs o asked).afresh c i asked.class asked.interface ∙ asked.builds;
      size = put-size abi s c i stubs o asked;
      enough = asked.room.stubbed;
      slots = ap (λ (x : List ℕ). table_at x (next_free s.area + 1) (length asked.entries)) asked.new-area
          ∙ asked-slots s.set s.area c i asked.entries stubs asked.room.free asked.lent.some (head-below abi s c i stubs o asked);
    }

  -- ---- one call, and all of them

  -- of n classes
  pub record Stands (n : ℕ) (s : State) : Type 0 where
    pub classes : class_count s.set ≡ n
    -- where one is linked, they are as many as row 3 allows, rows 3 to 5 pass the set, and row 7 the area
    pub limit : (c : ℕ) → HasTable s.set c → n ≤ 64
    pub valid : (c : ℕ) → HasTable s.set c → set_refusal s.set abi ≡ 0
    pub sits : (c : ℕ) → HasTable s.set c → bad_area s.set s.area ≡ false
    pub tables : Tables s
    pub lists : (c : ℕ) → HasTable s.set c → Listed s c

  pub stands-start : (ws area missing : List ℕ) → Unlinked ws → Stands (class_count ws) (start ws area missing)
  stands-start ws area missing unlinked = record {
    classes = refl;
    limit = λ c l. absurd (none-linked unlinked l);
    valid = λ c l. absurd (none-linked unlinked l);
    sits = λ c l. absurd (none-linked unlinked l);
    tables = tables_start ws area missing unlinked;
    lists = λ c l. absurd (none-linked unlinked l);
  }

  stays : {n : ℕ} (s : State) → Stands n s → (ws area missing : List ℕ) → ws ≡ s.set → area ≡ s.area → missing ≡ s.missing
      → Stands n (record { set = ws; area = area; missing = missing })
  stays {n} s t ws area missing e f g = subst (Stands n) (sym (same-state s ws area missing e f g)) t

  -- a node stays on its list
  pub record StillOn (s : State) (c i node : ℕ) : Type 0 where
    pub linked : HasTable s.set c
    pub on : OnList s c i node

  stays_on : (s : State) (c j node : ℕ) → StillOn s c j node → (ws area missing : List ℕ) → ws ≡ s.set → area ≡ s.area → missing ≡ s.missing
      → StillOn (record { set = ws; area = area; missing = missing }) c j node
  stays_on s c j node k ws area missing e f g = subst (λ (x : State). StillOn x c j node) (sym (same-state s ws area missing e f g)) k

  module _ {n : ℕ} (way : Way) (s : State) (t : Stands n s) where
    pub step-stands : (k : Call) → Stands n (step way abi s k)
    unfolding step
    step-stands (link c stubs) =
        let o : LinkOutcome = left_by way abi s c stubs in
        elim (link-ends way abi s c stubs) [
          | inl r ↦ stays s t o.outcome.set o.outcome.area o.missing r.same_set r.same_area r.same-missing
          | inr a ↦ record {
            classes = (leaves abi s c stubs o a).like.classes ∙ t.classes;
            limit = λ d l. omega (arith, (valid-now abi s c stubs o a).number_of_classes, t.classes);
            valid = λ d l. link-stands (same_of way s.set abi) s.set abi c s.area stubs s.missing o a;
            sits = λ d l. link-sits abi s c stubs o a;
            tables = link-tables abi s c stubs o a t.tables;
            lists = link-listed s t.tables c stubs o a t.lists;
          }
        ]
    step-stands (ask c i stubs) =
        let o : Outcome = outcome way abi s (ask c i stubs) in
        subst (Stands n) (sym (asked-state way abi s c i stubs))
        (elim (ask-ends way abi s c i stubs) [
          | inl r ↦ stays s t o.set o.area s.missing r.same_set r.same_area refl
          | inr a ↦ subst (Stands n) (sym (ask-next abi s t.tables c i stubs o a))
              (record {
                classes = t.classes;
                limit = t.limit;
                valid = t.valid;
                sits = λ d l. put-sound abi s c i stubs o a;
                tables = ask-tables abi s t.tables c i stubs o a;
                lists = ask-listed s t.tables c i stubs o a t.lists;
              })
        ])

    pub step-on : (k : Call) (d j node : ℕ) → HasTable s.set d → OnList s d j node → StillOn (step way abi s k) d j node
    unfolding step
    step-on (link c stubs) d j node l on =
        let o : LinkOutcome = left_by way abi s c stubs in
        elim (link-ends way abi s c stubs) [
          | inl r ↦ stays_on s d j node (record { linked = l; on = on }) o.outcome.set o.outcome.area o.missing r.same_set r.same_area r.same-missing
          | inr a ↦ record {
            linked = still (link-keeps abi s c stubs o a) d l;
            on = link_on s t.tables c stubs o a d l (t.lists d l) on;
          }
        ]
    step-on (ask c i stubs) d j node l on =
        let o : Outcome = outcome way abi s (ask c i stubs) in
        subst (λ (x : State). StillOn x d j node) (sym (asked-state way abi s c i stubs))
        (elim (ask-ends way abi s c i stubs) [
          | inl r ↦ stays_on s d j node (record { linked = l; on = on }) o.set o.area s.missing r.same_set r.same_area refl
          | inr a ↦ subst (λ (x : State). StillOn x d j node) (sym (ask-next abi s t.tables c i stubs o a))
              (record { linked = l; on = ask-on s t.tables c i stubs o a d l (t.lists d l) on })
        ])

    -- what an accepted ask answers is on the list after it
    pub answered-on : (c i : ℕ) (stubs : List ℕ) → (outcome way abi s (ask c i stubs)).refusal ≡ 0
        → (node : ℕ) × ((outcome way abi s (ask c i stubs)).first ≡ node + 1) × StillOn (step way abi s (ask c i stubs)) c i node
    answered-on c i stubs e =
        let o : Outcome = outcome way abi s (ask c i stubs) in
        elim (ask-ends way abi s c i stubs) [
          | inl r ↦
              let h = r.hits e in
              let ns = t.lists c h.class in
              let w = hit-one s.area i ns.places 64 0 (head_of s c) h.node h.nodes ns.nodes.spelt h.walks in
              let on : OnList s c i h.node = record { places = ns.places; spelt = ns.nodes.spelt; along = w.0; of = w.1 } in
              (h.node, h.answers-place, step-on (ask c i stubs) c i h.node h.class on)
          | inr a ↦ (
            next_free s.area,
            a.answers-place,
            subst (λ (x : State). StillOn x c i (next_free s.area)) (sym (asked-state way abi s c i stubs ∙ ask-next abi s t.tables c i stubs o a))
                (record { linked = a.class; on = new-on s t.tables c i stubs o a (t.lists c a.class) }),
          )
        ]

  pub run-stands : {n : ℕ} (way : Way) (ks : List Call) (s : State) → Stands n s → Stands n (run way abi ks s)
  unfolding run
  run-stands way [] s t = t
  run-stands way (k ∷ ks) s t = run-stands (way_after way abi s k) ks (step way abi s k) (step-stands way s t k)

  pub run_on : {n : ℕ} (way : Way) (ks : List Call) (s : State) → Stands n s → (c i node : ℕ) → HasTable s.set c → OnList s c i node
      → StillOn (run way abi ks s) c i node
  unfolding run
  run_on way [] s t c i node l on = record { linked = l; on = on }
  run_on way (k ∷ ks) s t c i node l on =
      let one = step-on way s t k c i node l on in
      let all = run_on (way_after way abi s k) ks (step way abi s k) (step-stands way s t k) c i node one.linked one.on in
      record { linked = all.linked; on = all.on }

  -- ---- by bytes, where each call lends one stub list

  module _ (stubs : List ℕ) where
    step-right : {n : ℕ} (s : State) → Stands n s → AllRight abi s stubs → (k : Call) → stubs_of k ≡ stubs → AllRight abi (step bytewise abi s k) stubs
    unfolding step
    step-right s t h (link c lent) same =
        let o : LinkOutcome = left_by bytewise abi s c lent in
        elim (link-ends bytewise abi s c lent) [
          | inl r ↦ subst (λ (x : State). AllRight abi x stubs)
              (sym (same-state s o.outcome.set o.outcome.area o.missing r.same_set r.same_area r.same-missing)) h
          | inr a ↦ link-right s t.tables c lent o a t.lists stubs h
        ]
    step-right s t h (ask c i lent) same =
        let o : Outcome = outcome bytewise abi s (ask c i lent) in
        elim (ask-ends bytewise abi s c i lent) [
          | inl r ↦ subst (λ (x : State). AllRight abi x stubs) (sym (same-state s o.set o.area s.missing r.same_set r.same_area refl)) h
          | inr a ↦
              let put : State = record { set = s.set; area = o.area; missing = s.missing } in
              let fresh : Right abi stubs put c i (next_free s.area) =
              subst (λ (x : List ℕ). Right abi x (record { set = s.set; area = o.area; missing = s.missing }) c i (next_free s.area)) same
              (new-right s t.tables c i lent o a) in
              subst (λ (x : State). AllRight abi x stubs) (sym (ask-next abi s t.tables c i lent o a))
              (ask-right s t.tables c i lent o a t.lists stubs h fresh)
        ]

    pub run-right : {n : ℕ} (ks : List Call) (s : State) → Stands n s → AllRight abi s stubs → SameStubs stubs ks → AllRight abi (run bytewise abi ks s) stubs
    unfolding run
    run-right [] s t h same = h
    run-right (k ∷ ks) s t h same = run-right ks (step bytewise abi s k) (step-stands bytewise s t k) (step-right s t h k same.0) same.1
