-- WHATEVER LISTS OF MISSING SLOTS ARE LENT (specs/AnyLists.antt), however the calls compare signatures: a link reads its list in row 15's last clause alone
-- (Before.antt), so a list long enough may be any other one, and a link with one too short leaves set, area and the list of numbers, as a link of no class
-- does. What needs the comparison is by bytes. Assumes nothing.
use Rattle.std.proofs.Common.{◌≡◌, refl, sym, ap, ◌∙◌, subst, inl, inr, Bool, true, false, true≢false, List, [], ◌∷◌, map, ℕ, ◌*◌, ◌≤◌, arith, length, replicate, le-ltb}
use lib.ListN.{length-replicate}
use Rattle.words.proofs.Bools.{by}
use Rattle.class_sheet.specs.ClassSheet.{class_count}
use Rattle.linking.specs.Counts.{missing_width, missing_short}
use Rattle.linking.specs.Link.{HasTable, Outcome}
use Rattle.matching.proofs.Rows.{Refused}
use Rattle.calls.specs.Calls.{Call, link, ask, Way, numbered, bytewise, State, outcome, numbers_left, numbers_run, way_after, way_run, step, run, left, way_left, Unlinked, LinkedIn, now, later, Lent, lent_now, lent_later, stubs_of}
use Rattle.calls.specs.Demand.{Conditions, Linked}
use Rattle.calls.specs.Kept.{SameStubs, OnList, Once, Right, Found, BuildsSame, AnswerKept, AskedIn, asked_now, asked_later}
use Rattle.calls.specs.AnyLists.{Lending, with_list, outcome_lent, step_lent, way_lent, run_lent, numbers_lent, way_run_lent, without_lists, Answered, answered_now, answered_later, unless_short, handed, with_one_list, SameMemory, SameOrRefused, handed_on, way_handed_on, OneList, AnyStubs, OneStubList, DemandAnyBy}
use Rattle.calls.proofs.Ways.{left_by, link-ends, ask-leaves, same-way}
use Rattle.calls.proofs.Tables.{leaves, same-state}
use Rattle.calls.proofs.Before.{Long, step-long, links-same, asks-same}
use Rattle.calls.proofs.Kept.{once-only, nodes-bound, tables_by_bytes, answers_by_bytes, afresh_by_bytes}
use Rattle.calls.proofs.Found.{found-again}
use Rattle.calls.proofs.Theorem.{demand_3_by_bytes}

-- ---- two links that are refused

short-refused : (way : Way) (abi : List ℕ) (s : State) (c : ℕ) (stubs list : List ℕ) → missing_short s.set list ≡ true
    → Refused (left_by way abi (with_list s list) c stubs) s.set s.area list
unfolding missing_short
short-refused way abi s c stubs list e =
    elim (link-ends way abi (with_list s list) c stubs) [
      | inl r ↦ r
      | inr a ↦ absurd (true≢false (sym e ∙ le-ltb (length list) (missing_width * class_count s.set) a.long))
    ]

none-refused : (way : Way) (abi : List ℕ) (s : State) (stubs : List ℕ) → Refused (left_by way abi s 0 stubs) s.set s.area s.missing
none-refused way abi s stubs =
    elim (link-ends way abi s 0 stubs) [ inl r ↦ r | inr a ↦ absurd (omega (arith, a.class.some)) ]

-- ---- one call, lent a list of its own in s, and handed the one list in t

step-classes : (way : Way) (abi : List ℕ) (s : State) (k : Call) → class_count (step way abi s k).set ≡ class_count s.set
unfolding step
step-classes way abi s (link c stubs) =
    elim (link-ends way abi s c stubs) [
      | inl r ↦ ap class_count r.same_set
      | inr a ↦ (leaves abi s c stubs (left_by way abi s c stubs) a).like.classes
    ]
step-classes way abi s (ask c i stubs) = ap class_count (ask-leaves way abi s c i stubs)

module _ (ws abi : List ℕ) where
  record Alike (s t : State) : Type 0 where
    memory : SameMemory s t
    long : Long t
    classes : class_count t.set ≡ class_count ws

  record Next (way : Way) (s t : State) (l : Lending) (k : Call) : Type 0 where
    answers : SameOrRefused (outcome_lent way abi s l) (outcome way abi t k)
    memory : SameMemory (step_lent way abi s l) (step way abi t k)
    ways : way_lent way abi s l ≡ way_after way abi t k

  module _ (way : Way) (s t : State) (a : Alike s t) where
    same-next : (list : List ℕ) (k : Call) → (outcome way abi (with_list s list) k ≡ outcome way abi t k)
        × (way_after way abi (with_list s list) k ≡ way_after way abi t k) → Next way s t (record { call = k; list = list }) k
    unfolding step
    same-next list k e = record { answers = inl e.0; memory = (ap (λ (o : Outcome). o.set) e.0, ap (λ (o : Outcome). o.area) e.0); ways = e.1 }

    refused-next : (c : ℕ) (stubs list : List ℕ) → missing_short s.set list ≡ true
        → Next way s t (record { call = link c stubs; list = list }) (link 0 stubs)
    unfolding step
    refused-next c stubs list e =
        let r = short-refused way abi s c stubs list e in
        let q = none-refused way abi t stubs in
        record {
          answers = inr (r.number, q.number);
          memory = (r.same_set ∙ a.memory.0 ∙ sym q.same_set, r.same_area ∙ a.memory.1 ∙ sym q.same_area);
          ways = same-way way abi (with_list s list) c stubs r.number ∙ sym (same-way way abi t 0 stubs q.number);
        }

    short-same : (list : List ℕ) → missing_short ws list ≡ missing_short s.set list
    unfolding missing_short
    short-same list = rw (a.memory.0, a.classes)

    next-call : (list : List ℕ) (k : Call) → Next way s t (record { call = k; list = list }) (unless_short (missing_short ws list) k)
    next-call list (link c stubs) =
        rw (short-same list)
        (by (missing_short s.set list)
        (λ e. rw e (refused-next c stubs list e))
        (λ e. rw e (same-next list (link c stubs) (links-same way abi (with_list s list) t a.memory (e ∙ sym a.long) c stubs))))
    next-call list (ask c i stubs) = same-next list (ask c i stubs) (asks-same way abi (with_list s list) t a.memory c i stubs)

    next : (l : Lending) → Next way s t l (handed ws l)
    next l = next-call l.list l.call

    next-alike : (l : Lending) → Alike (step_lent way abi s l) (step way abi t (handed ws l))
    next-alike l = record {
      memory = (next l).memory;
      long = step-long way abi t (handed ws l) a.long;
      classes = step-classes way abi t (handed ws l) ∙ a.classes;
    }

  -- ---- any list of calls

  run-alike : (way : Way) (ls : List Lending) (s t : State) → Alike s t → Alike (run_lent way abi ls s) (run way abi (with_one_list ws ls) t)
  unfolding run_lent run
  run-alike way [] s t a = a
  run-alike way (l ∷ ls) s t a =
      subst (λ (w : Way). Alike (run_lent (way_lent way abi s l) abi ls (step_lent way abi s l))
      (run w abi (with_one_list ws ls) (step way abi t (handed ws l)))) (next way s t a l).ways
      (run-alike (way_lent way abi s l) ls (step_lent way abi s l) (step way abi t (handed ws l)) (next-alike way s t a l))

  run-ways : (way : Way) (ls : List Lending) (s t : State) → Alike s t → way_run_lent way abi ls s ≡ way_run way abi (with_one_list ws ls) t
  unfolding numbers_lent numbers_run
  run-ways (numbered ns) [] s t a = refl
  run-ways (numbered ns) (l ∷ ls) s t a =
      run-ways (numbered (numbers_left ns abi (with_list s l.list) l.call)) ls (step_lent (numbered ns) abi s l) (step (numbered ns) abi t (handed ws l))
      (next-alike (numbered ns) s t a l)
      ∙ ap (λ (w : Way). way_run w abi (with_one_list ws ls) (step (numbered ns) abi t (handed ws l))) (next (numbered ns) s t a l).ways
  run-ways bytewise ls s t a = refl

module _ (way : Way) (abi : List ℕ) (s : State) (list : List ℕ) (h : missing_short s.set list ≡ false) where
  start-alike : Alike s.set abi s (with_list s list)
  start-alike = record { memory = (refl, refl); long = h; classes = refl }

  alike : (ls : List Lending) → Alike s.set abi (run_lent way abi ls s) (handed_on way abi s list ls)
  alike ls = run-alike s.set abi way ls s (with_list s list) start-alike

  ways : (ls : List Lending) → way_run_lent way abi ls s ≡ way_handed_on way abi s list ls
  ways ls = run-ways s.set abi way ls s (with_list s list) start-alike

-- ---- the same stubs

same_stub : (short : Bool) (k : Call) → stubs_of (unless_short short k) ≡ stubs_of k
same_stub short (link c stubs) = refl
same_stub short (ask c i stubs) = refl

pub same_stubs : (ws : List ℕ) (ls : List Lending) → map stubs_of (with_one_list ws ls) ≡ map stubs_of (without_lists ls)
same_stubs ws [] = refl
same_stubs ws (l ∷ ls) = rw (same_stub (missing_short ws l.list) l.call, same_stubs ws ls)

still-same : (ws stubs : List ℕ) (ls : List Lending) → SameStubs stubs (without_lists ls) → SameStubs stubs (with_one_list ws ls)
still-same ws stubs [] h = tt
still-same ws stubs (l ∷ ls) h = (same_stub (missing_short ws l.list) l.call ∙ h.0, still-same ws stubs ls h.1)

pub long-list : (ws : List ℕ) → missing_short ws (replicate (missing_width * class_count ws) 0) ≡ false
unfolding missing_short
long-list ws =
    let n = length-replicate {A = ℕ} (missing_width * class_count ws) 0 in
    le-ltb (length (replicate (missing_width * class_count ws) 0)) (missing_width * class_count ws) (omega arith)

pub one-list : OneList
one-list = record {
  long = long-list;
  stubs = same_stubs;
  same = λ way abi s. record {
    memory = λ list h ls. (alike way abi s list h ls).memory;
    answers = λ list h ls l.
        subst (λ (w : Way). SameOrRefused (outcome_lent (way_run_lent way abi ls s) abi (run_lent way abi ls s) l)
        (outcome w abi (handed_on way abi s list ls) (handed s.set l))) (ways way abi s list h ls)
        (next s.set abi (way_run_lent way abi ls s) (run_lent way abi ls s) (handed_on way abi s list ls) (alike way abi s list h ls) l).answers;
  };
}

-- ---- claims on set and area

module _ (s : State) (list : List ℕ) where
  other-list-on : {c i node : ℕ} → OnList s c i node → OnList (with_list s list) c i node
  other-list-on o = record { places = o.places; spelt = o.spelt; along = o.along; of = o.of }

  this-list-on : {c i node : ℕ} → OnList (with_list s list) c i node → OnList s c i node
  this-list-on o = record { places = o.places; spelt = o.spelt; along = o.along; of = o.of }

  this-list-right : {abi stubs : List ℕ} {c i node : ℕ} → Right abi stubs (with_list s list) c i node → Right abi stubs s c i node
  this-list-right r = record {
    interface = r.interface;
    entries = r.entries;
    afresh = r.afresh;
    size = r.size;
    enough = r.enough;
    slots = r.slots;
  }

  -- an ask reads no list of missing slots
  asks-here : (way : Way) (abi : List ℕ) (c i : ℕ) (stubs : List ℕ) → outcome way abi (with_list s list) (ask c i stubs) ≡ outcome way abi s (ask c i stubs)
  asks-here way abi c i stubs = (asks-same way abi (with_list s list) s (refl, refl) c i stubs).0

  this-list-once : {way : Way} {abi : List ℕ} {n c : ℕ} → Once way abi n (with_list s list) c → Once way abi n s c
  this-list-once {way} {abi} {n} {c} o = record {
    places = o.places;
    spelt = o.spelt;
    different = o.different;
    linked = o.linked;
    few = o.few;
    sound = o.sound;
    misses = o.misses;
    hits = o.hits;
    nodes_read = λ i stubs. subst (λ (x : Outcome). x.refusal ≡ 0 → x.second ≤ n) (asks-here way abi c i stubs) (o.nodes_read i stubs);
  }

  this-list-found : {way : Way} {abi : List ℕ} {c i node : ℕ} {stubs : List ℕ} → Found way abi (with_list s list) c i node stubs → Found way abi s c i node stubs
  this-list-found {way} {abi} {c} {i} {node} {stubs} f =
      let e = sym (asks-here way abi c i stubs) in
      record {
        front = f.front;
        back = f.back;
        spelt = f.spelt;
        accepted = ap (λ (x : Outcome). x.refusal) e ∙ f.accepted;
        place = ap (λ (x : Outcome). x.first) e ∙ f.place;
        nodes = ap (λ (x : Outcome). x.second) e ∙ f.nodes;
        same_set = ap (λ (x : Outcome). x.set) e ∙ f.same_set;
        same_area = ap (λ (x : Outcome). x.area) e ∙ f.same_area;
      }

-- ---- an accepted call of the list is made where one list is handed on, and answers the same

module _ (ws abi : List ℕ) (way : Way) (s t : State) (a : Alike ws abi s t) (l : Lending) where
  record Same : Type 0 where
    made : handed ws l ≡ l.call
    answers : outcome_lent way abi s l ≡ outcome way abi t l.call

  made-then : (list : List ℕ) (k : Call) → (outcome way abi t (unless_short (missing_short ws list) k)).refusal ≡ 0
      → unless_short (missing_short ws list) k ≡ k
  made-then list (link c stubs) e =
      by (missing_short ws list)
      (λ y. absurd ((none-refused way abi t stubs).number (rw y at e)))
      (λ n. rw n refl)
  made-then list (ask c i stubs) e = refl

  accepted : (outcome_lent way abi s l).refusal ≡ 0 → Same
  accepted e =
      elim (next ws abi way s t a l).answers [
        | inl o ↦
            let m = made-then l.list l.call (sym (ap (λ (x : Outcome). x.refusal) o) ∙ e) in
            record { made = m; answers = o ∙ ap (outcome way abi t) m }
        | inr r ↦ absurd (r.0 e)
      ]

module _ (ws abi : List ℕ) (c first second : ℕ) where
  asked-one : (i : ℕ) (stubs : List ℕ) {way : Way} {s : State} {ls : List Lending} → Answered abi (ask c i stubs) first second way s ls
      → (t : State) → Alike ws abi s t → AskedIn abi c i first second way t (with_one_list ws ls)
  asked-one i stubs {way} {s} (answered_now {l = l} q e f g) t a =
      let k = accepted ws abi way s t a l e in
      let o : outcome_lent way abi s l ≡ outcome way abi t (ask c i stubs) = rw (k.answers, q) in
      rw (k.made, q) (asked_now stubs (rw o at e) (rw o at f) (rw o at g))
  asked-one i stubs {way} {s} (answered_later {l = l} {ls = ls} j) t a =
      asked_later
      (subst (λ (w : Way). AskedIn abi c i first second w (step way abi t (handed ws l)) (with_one_list ws ls)) (next ws abi way s t a l).ways
      (asked-one i stubs j (step way abi t (handed ws l)) (next-alike ws abi way s t a l)))

  linked-one : (stubs : List ℕ) {way : Way} {s : State} {ls : List Lending} → Answered abi (link c stubs) first second way s ls
      → (t : State) → Alike ws abi s t → LinkedIn abi c first second way t (with_one_list ws ls)
  linked-one stubs {way} {s} (answered_now {l = l} q e f g) t a =
      let k = accepted ws abi way s t a l e in
      let o : outcome_lent way abi s l ≡ outcome way abi t (link c stubs) = rw (k.answers, q) in
      rw (k.made, q) (now stubs (rw o at e) (rw o at f) (rw o at g))
  linked-one stubs {way} {s} (answered_later {l = l} {ls = ls} j) t a =
      later
      (subst (λ (w : Way). LinkedIn abi c first second w (step way abi t (handed ws l)) (with_one_list ws ls)) (next ws abi way s t a l).ways
      (linked-one stubs j (step way abi t (handed ws l)) (next-alike ws abi way s t a l)))

-- ---- THE THEOREMS

module _ (abi : List ℕ) (s : State) (unlinked : Unlinked s.set) (ls : List Lending) where
  abbrev long : List ℕ
  long = replicate (missing_width * class_count s.set) 0

  abbrev calls : List Call
  calls = with_one_list s.set ls

  module _ (way : Way) where
    abbrev u : State
    u = run_lent way abi ls s

    abbrev t : State
    t = left way s.set abi s.area long calls

    both : Alike s.set abi u t
    both = alike way abi s long (long-list s.set) ls

    here : with_list u t.missing ≡ t
    here = same-state t u.set u.area t.missing both.memory.0 both.memory.1 refl

    one-way : way_left way s.set abi s.area long calls ≡ way_run_lent way abi ls s
    one-way = sym (ways way abi s long (long-list s.set) ls)

    linked-there : {c : ℕ} → HasTable u.set c → HasTable t.set c
    linked-there {c} l = subst (λ (x : List ℕ). HasTable x c) both.memory.0 l

    on-there : {c i node : ℕ} → OnList u c i node → OnList t c i node
    on-there {c} {i} {node} o = subst (λ (x : State). OnList x c i node) here (other-list-on u t.missing o)

    on-here : {c i node : ℕ} → OnList t c i node → OnList u c i node
    on-here {c} {i} {node} o = this-list-on u t.missing (subst (λ (x : State). OnList x c i node) (sym here) o)

    right-here : {stubs : List ℕ} {c i node : ℕ} → Right abi stubs t c i node → Right abi stubs u c i node
    right-here {stubs} {c} {i} {node} r = this-list-right u t.missing (subst (λ (x : State). Right abi stubs x c i node) (sym here) r)

    once-any : (c : ℕ) → HasTable u.set c → Once (way_run_lent way abi ls s) abi (class_count s.set) u c
    once-any c l =
        this-list-once u t.missing
        (subst (λ (x : State). Once (way_run_lent way abi ls s) abi (class_count s.set) x c) (sym here)
        (subst (λ (w : Way). Once w abi (class_count s.set) t c) one-way (once-only way s.set abi s.area long unlinked calls c (linked-there l))))

    found-any : (c i node : ℕ) → HasTable u.set c → OnList u c i node → (stubs : List ℕ) → Found (way_run_lent way abi ls s) abi u c i node stubs
    found-any c i node l on stubs =
        this-list-found u t.missing
        (subst (λ (x : State). Found (way_run_lent way abi ls s) abi x c i node stubs) (sym here)
        (subst (λ (w : Way). Found w abi t c i node stubs) one-way
        (found-again way s.set abi s.area long unlinked calls c i node (linked-there l) (on-there on) stubs)))

    asked-there : (c i place nodes : ℕ) (stubs : List ℕ) → Answered abi (ask c i stubs) place nodes way s ls
        → AskedIn abi c i place nodes way (with_list s long) calls
    asked-there c i place nodes stubs j =
        asked-one s.set abi c place nodes i stubs j (with_list s long) (start-alike way abi s long (long-list s.set))

    nodes-any : (c i place nodes : ℕ) (stubs : List ℕ) → Answered abi (ask c i stubs) place nodes way s ls → nodes ≤ class_count s.set
    nodes-any c i place nodes stubs j =
        nodes-bound way s.set abi s.area long unlinked calls c i place nodes (asked-there c i place nodes stubs j)

    pub any-stubs : AnyStubs way abi s ls
    any-stubs = record { once = once-any; found = found-any; nodes = nodes-any }

  -- by bytes, where one stub list is lent
  module _ (stubs : List ℕ) (same : SameStubs stubs (without_lists ls)) where
    abbrev same-there : SameStubs stubs calls
    same-there = still-same s.set stubs ls same

    right-any : (c i node : ℕ) → HasTable (u bytewise).set c → OnList (u bytewise) c i node → Right abi stubs (u bytewise) c i node
    right-any c i node l on =
        right-here bytewise
        (tables_by_bytes s.set abi s.area long stubs unlinked calls same-there c i node (linked-there bytewise l) (on-there bytewise on))

    answers-any : (c i place nodes : ℕ) → Answered abi (ask c i stubs) place nodes bytewise s ls → AnswerKept abi stubs (u bytewise) c i place
    answers-any c i place nodes j =
        let k =
        answers_by_bytes s.set abi s.area long stubs unlinked calls same-there c i place nodes (asked-there bytewise c i place nodes stubs j) in
        record { node = k.node; at = k.at; on = on-here bytewise k.on; right = right-here bytewise k.right }

    afresh-any : (c i : ℕ) → (outcome bytewise abi (u bytewise) (ask c i stubs)).refusal ≡ 0 → BuildsSame bytewise abi (u bytewise) c i stubs
    afresh-any c i e =
        subst (λ (x : State). BuildsSame bytewise abi x c i stubs) (sym (here bytewise))
        (afresh_by_bytes s.set abi s.area long stubs unlinked calls same-there c i
        (subst (λ (x : State). (outcome bytewise abi x (ask c i stubs)).refusal ≡ 0) (here bytewise) e))

    pub one-stub_list : OneStubList bytewise abi s ls stubs
    one-stub_list = record { right = right-any; answers = answers-any; afresh = afresh-any }

-- ---- demand 3

lent-same : (ws : List ℕ) {x : ℕ} (ls : List Lending) → Lent x (with_one_list ws ls) → Lent x (without_lists ls)
lent-same ws [] j = elim j [ ]
lent-same ws (l ∷ ls) (lent_now i) = lent_now (rw (same_stub (missing_short ws l.list) l.call) at i)
lent-same ws (l ∷ ls) (lent_later j) = lent_later (lent-same ws ls j)

conditions-one : (ws abi : List ℕ) (c : ℕ) (ls : List Lending) → Conditions ws abi (without_lists ls) c → Conditions ws abi (with_one_list ws ls) c
conditions-one ws abi c ls k = record {
  kinds = k.kinds;
  no_interface = k.no_interface;
  orderly = k.orderly;
  nonzero_targets = k.nonzero_targets;
  nonzero_stubs = λ x j. k.nonzero_stubs x (lent-same ws ls j);
  different_targets = k.different_targets;
  no_stub = λ x m j. k.no_stub x m (lent-same ws ls j);
}

pub linked-any : (way : Way) (abi : List ℕ) (s : State) (list : List ℕ) → missing_short s.set list ≡ false → (ls : List Lending) (c place slots : ℕ)
    (stubs : List ℕ) → Answered abi (link c stubs) place slots way s ls → Linked way s.set abi s.area list (with_one_list s.set ls) c place slots
linked-any way abi s list h ls c place slots stubs j = linked-one s.set abi c place slots stubs j (with_list s list) (start-alike way abi s list h)

pub demand_any_by_bytes : (abi : List ℕ) (s : State) → DemandAnyBy bytewise abi s
demand_any_by_bytes abi s list unlinked ls c place slots j k =
    demand_3_by_bytes s.set abi s.area list unlinked (with_one_list s.set ls) c place slots j (conditions-one s.set abi c ls k)
