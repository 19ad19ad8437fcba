-- A node on a class's list is what an ask for its interface answers (specs/Kept.antt), however the calls compare signatures: no row refuses the ask, and its
-- walk ends at the node, as no other has the interface. Row 7 stays silent because every accepted call leaves an area that it does not refuse, and row 3
-- takes the list of numbers, as it did where a class was linked. Assumes nothing.
use mathlib.Core.Path.{◌≡◌, refl, sym, ap, ◌∙◌, subst}
use mathlib.Core.Logic.{inl, inr}
use mathlib.Core.Bool.{false}
use mathlib.Core.List.Memᴰ
use mathlib.Core.List.{List, [], ◌∷◌, ◌++◌, map, Memᴰ}
use Prim.Native.Nat.{ℕ, zero, suc, ◌+◌, ◌≤◌, ◌<◌}
use native.Mathlib.Omega.{arith}
use lib.ListN.{length, get_or}
use lib.Dec.{eqb}
use borrow.Author.Tests.{eqb-true, eqb-false, eq-eqb, ne_eqb, lt-leb, le-ltb}
use Rattle.words.proofs.Bools.{by}
use Rattle.class_sheet.specs.ClassSheet.{class_count, class_table_place}
use Rattle.set_rules.specs.SetRules.{set_refusal}
use Rattle.linking.specs.Link.{HasTable, no_class, next_free, bad_area, Outcome}
use Rattle.linking.specs.Ask.{Walk, hit, walk, bad_ask, ask_by}
use Rattle.slots.proofs.ListFacts.{in_none}
use Rattle.calls.specs.Calls.{Call, link, ask, Way, numbered, bytewise, State, start, outcome, numbers_left, numbers_run, way_after, way_run, step, run, left, way_left}
use Rattle.calls.specs.Kept.{head_of, interface_at, Spells, OnList, Different, Found, FoundAgain}
use Rattle.calls.proofs.Ways.{link-ends, ask-leaves, Long, ask-is, accepted-long, still-long}
use Rattle.calls.proofs.Tables.{none-linked}
use Rattle.calls.proofs.Walk.{spells_one}
use Rattle.calls.proofs.NodeLists.{Listed}
use Rattle.calls.proofs.Kept.{few, left-stands}

-- ---- the walk

in_mapped : (f : ℕ → ℕ) {n : ℕ} (ns : List ℕ) → Memᴰ n ns → Memᴰ (f n) (map f ns)
in_mapped f [] i = in_none refl i
in_mapped f (m ∷ ns) i =
    elim (Memᴰ.cases_cons i) [ inl e ↦ Memᴰ.head (ap f e) | inr j ↦ Memᴰ.tail (in_mapped f ns j) ]

-- the walk has come to this node, after those in front of it
record Reached (ns : List ℕ) (node read : ℕ) (w : Walk) : Type 0 where
  front : List ℕ
  back : List ℕ
  split : ns ≡ front ++ node ∷ back
  walks : w ≡ hit node (read + length front + 1)

module _ (area : List ℕ) (i : ℕ) where
  finds : (ns : List ℕ) (left read head node : ℕ) → Spells area head ns → length ns ≤ left → ((n : ℕ) → Memᴰ n ns → n + 1 < next_free area)
      → Different (map (interface_at area) ns) → Memᴰ node ns → interface_at area node ≡ i → Reached ns node read (walk area i left read head)
  unfolding walk
  finds [] left read head node s l below d m e = in_none refl m
  finds (n ∷ ns) zero read head node s l below d m e = absurd (omega arith)
  finds (n ∷ ns) (suc left) read head node s l below d m e =
      let b = lt-leb (next_free area) (n + 1) (below n (Memᴰ.head refl)) in
      by (eqb (get_or area (n + 1) 0) i)
      (λ t.
      let q : interface_at area n ≡ i = eqb-true (get_or area (n + 1) 0) i t in
      let same : node ≡ n =
      elim (Memᴰ.cases_cons m) [
        | inl p ↦ p
        | inr j ↦ absurd (d.0 (subst (λ (x : ℕ). Memᴰ x (map (interface_at area) ns)) (e ∙ sym q) (in_mapped (interface_at area) ns j)))
      ] in
      let k : read + 0 + 1 ≡ read + 1 = omega arith in
      record { front = []; back = ns; split = rw same refl; walks = rw (s.0, ne_eqb n 0 s.1, b, t, same, k) refl })
      (λ f.
      elim (Memᴰ.cases_cons m) [
        | inl p ↦ absurd (eqb-false (get_or area (n + 1) 0) i f (ap (interface_at area) (sym p) ∙ e))
        | inr j ↦
            let r = finds ns left (read + 1) (get_or area n 0) node s.2 (omega arith) (λ k x. below k (Memᴰ.tail x)) d.1 j e in
            record {
              front = n ∷ r.front;
              back = r.back;
              split = ap (λ (x : List ℕ). n ∷ x) r.split;
              walks = rw (s.0, ne_eqb n 0 s.1, b, f) (r.walks ∙ ap (hit node) (omega arith));
            }
      ])

-- ---- row 3's clause on the list of numbers: where a class is linked, it is long enough

abbrev Ready : Way → State → Type 0
Ready way s = (c : ℕ) → HasTable s.set c → Long way

step-ready : (way : Way) (abi : List ℕ) (s : State) → Ready way s → (k : Call) → Ready (way_after way abi s k) (step way abi s k)
unfolding step
step-ready way abi s h (link c stubs) d l =
    elim (link-ends way abi s c stubs) [
      | inl r ↦ still-long way abi s (link c stubs) (h d (subst (λ (x : List ℕ). HasTable x d) r.same_set l))
      | inr a ↦ still-long way abi s (link c stubs) (accepted-long way abi s c stubs a.number)
    ]
step-ready way abi s h (ask c i stubs) d l =
    still-long way abi s (ask c i stubs) (h d (subst (λ (x : List ℕ). HasTable x d) (ask-leaves way abi s c i stubs) l))

run-ready : (way : Way) (abi : List ℕ) (ks : List Call) (s : State) → Ready way s → Ready (way_run way abi ks s) (run way abi ks s)
unfolding run numbers_run
run-ready (numbered ns) abi [] s h = h
run-ready (numbered ns) abi (k ∷ ks) s h =
    run-ready (numbered (numbers_left ns abi s k)) abi ks (step (numbered ns) abi s k) (step-ready (numbered ns) abi s h k)
run-ready bytewise abi ks s h = λ c l. tt

-- ---- the ask

module _ (way : Way) (abi : List ℕ) (s : State) (valid : set_refusal s.set abi ≡ 0) (long : Long way) (sits : bad_area s.set s.area ≡ false)
    (c i node : ℕ) (l : HasTable s.set c) (ns : Listed s c) (limit : class_count s.set ≤ 64) (on : OnList s c i node) (stubs : List ℕ) where
  here : Memᴰ node ns.places
  here = let e = spells_one s.area on.places ns.places (head_of s c) on.spelt ns.nodes.spelt in rw e at on.along

  interface : HasTable s.set i
  interface = subst (λ (j : ℕ). HasTable s.set j) on.of (ns.nodes.each node here).interface

  asks : bad_ask s.set c i ≡ false
  unfolding bad_ask no_class
  asks =
      rw (
        ne_eqb c 0 (λ q. omega (arith, l.some)),
        le-ltb (class_count s.set) c l.among,
        ne_eqb (class_table_place s.set c) 0 l.has,
        ne_eqb i 0 (λ q. omega (arith, interface.some)),
        le-ltb (class_count s.set) i interface.among,
        ne_eqb (class_table_place s.set i) 0 interface.has,
      )
      refl

  reached : Reached ns.places node 0 (walk s.area i 64 0 (head_of s c))
  reached =
      let f = few way abi s c ns in
      finds s.area i ns.places 64 0 (head_of s c) node ns.nodes.spelt (omega arith) (λ n j. omega (arith, (ns.nodes.each n j).below)) ns.nodes.different here on.of

  answer : outcome way abi s (ask c i stubs)
      ≡ record { refusal = 0; first = node + 1; second = 0 + length reached.front + 1; set = s.set; area = s.area }
  unfolding ask_by
  answer =
      ask-is way abi s long c i stubs ∙ rw (eq-eqb (set_refusal s.set abi) 0 valid, asks, sits, reached.walks) refl

  found : Found way abi s c i node stubs
  found =
      let e = answer in
      record {
        front = reached.front;
        back = reached.back;
        spelt = subst (Spells s.area (head_of s c)) reached.split ns.nodes.spelt;
        accepted = ap (λ (o : Outcome). o.refusal) e;
        place = ap (λ (o : Outcome). o.first) e;
        nodes = ap (λ (o : Outcome). o.second) e ∙ omega arith;
        same_set = ap (λ (o : Outcome). o.set) e;
        same_area = ap (λ (o : Outcome). o.area) e;
      }

pub found-again : FoundAgain
found-again way ws abi area missing unlinked calls c i node l on stubs =
    let s : State = left way ws abi area missing calls in
    let t = left-stands way ws abi area missing unlinked calls in
    let long = run-ready way abi calls (start ws area missing) (λ d k. absurd (none-linked unlinked k)) c l in
    found (way_left way ws abi area missing calls) abi s (t.valid c l) long (t.sits c l) c i node l (t.lists c l) (omega (arith, t.classes, t.limit c l)) on stubs
