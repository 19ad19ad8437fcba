-- Two runs of one list, by the linker and by the one before ticket 13: the relation of their states, and what it gives of a call elsewhere.
-- Assumes nothing.
use mathlib.Core.Path.{◌≡◌, refl, sym, ap, ◌∙◌}
use mathlib.Core.Logic.{◌≢◌, inl, inr, ⊎_elim}
use mathlib.Core.Bool.{true, false, not}
use mathlib.Core.List.Memᴰ
use mathlib.Core.List.{List, [], ◌∷◌, Memᴰ}
use Prim.Native.Nat.{ℕ, zero, suc, ◌+◌, ◌≤◌, ◌<◌}
use native.Mathlib.Omega.{arith}
use lib.ListN.{get_or}
use lib.Dec.{eqb, ltb}
use borrow.Author.Tests.{eqb-true, eqb-false, eq-eqb, ltb-false, not-true}
use Rattle.words.proofs.Bools.{by, and_both, or-neither}
use Rattle.class_sheet.specs.ClassSheet.{class_count, class_table_place, class_slot_count, text_of}
use Rattle.abi_sheet.specs.AbiSheet.{abi_text_of}
use Rattle.set_rules.specs.SetRules.{set_refusal}
use Rattle.set_rules.specs.Valid.{IsClass}
use Rattle.set_rules.proofs.Valid.{valid}
use Rattle.linking.specs.Signature.{by_sheets}
use Rattle.linking.specs.Chain.{parent_of, chain}
use Rattle.linking.specs.Packages.{bad_packages}
use Rattle.linking.specs.Before.{reaches_table, link_clashes}
use Rattle.linking.specs.Link.{HasTable, no_class, is_linked, bad_class, bad_area, next_free, refused_call, LinkOutcome, link_def, link_by}
use Rattle.linking.specs.Ask.{Walk, walk, head_place, build_node, on_walk, bad_ask, ask_def, ask_by}
use Rattle.linking.specs.Vtable.{Entry, table_entries}
use Rattle.linking.proofs.Before.{link_as_before}
use Rattle.linking.proofs.ChainLaws.{parent-within, parent_below, chain-none, chain_more}
use Rattle.linking.proofs.Rebuilt.{Any}
use Rattle.linking.proofs.Renumbered.{SameBuilt, built_less, entries-same}
use Rattle.linking.proofs.RenumberedAsk.{dispatch_same}
use Rattle.linking.proofs.RenumberedPackages.{Held}
use Rattle.linking.proofs.Rows.{sound}
use Rattle.slots.proofs.ChainFacts.{chain-here}
use Rattle.linking.proofs.Overriding.{chain-of-chain}
use Rattle.calls.specs.Calls.{Call, link, ask, bytewise, State, outcome, start, step, Unlinked}
use Rattle.calls.specs.OldRun.{outcome_before, step_before, clashes}
use Rattle.calls.specs.Kept.{built_afresh}
use Rattle.calls.specs.Elsewhere.{Roomy}
use Rattle.calls.proofs.Comes.{Comes, now, later, AllRoomy, SameAnswer, Made, Clear, IsElsewhere}
use Rattle.calls.proofs.Rows.{ask-classes, ClassOk, class-ok, ask-cases}
use Rattle.calls.proofs.Beside.{Sets, placed-keeps, same-chain}
use Rattle.calls.proofs.Dispatch.{built-size, dispatch_refused}
use Rattle.calls.proofs.BesideAsk.{SameWalk, both-hit, both-missed, SameAsk, ask-refused, dispatched, found-same}
use Rattle.calls.proofs.NodeLists.{Layout}
use Rattle.calls.proofs.BesideLink.{plan-same, bad-same, packages-same, none-same, SameLink, refused-same, planned-link}

-- ---- the relation

abbrev pub walk_of : State → ℕ → ℕ → Walk
walk_of s c i = walk s.area i 64 0 (get_or s.area (head_place s.set c) 0)

-- "an elsewhere class is linked in both or in neither, its record is equal but for the place and the first method and field, its members are equal by
-- value, its table and the nodes of elsewhere pairs word for word": E says which classes are elsewhere
pub record Related (abi : List ℕ) (E : ℕ → Type 0) (s t : State) : Type 0 where
  pub sets : Sets s.set t.set abi E
  pub held : (d : ℕ) → E d → HasTable s.set d → Held s.set t.set s.area t.area d
  pub nodes : (c i : ℕ) → E c → E i → HasTable s.set c → HasTable s.set i
      → SameWalk s.area t.area (class_slot_count s.set i) (walk_of s c i) (walk_of t c i)
  -- each run for itself
  pub accepted : set_refusal s.set abi ≡ 0
  pub accepted' : set_refusal t.set abi ≡ 0
  pub sound : bad_area s.set s.area ≡ false
  pub sound' : bad_area t.set t.area ≡ false
  pub parent : (d : ℕ) → HasTable s.set d → parent_of s.set d ≢ 0 → HasTable s.set (parent_of s.set d)
  pub parent' : (d : ℕ) → HasTable t.set d → parent_of t.set d ≢ 0 → HasTable t.set (parent_of t.set d)

-- ---- a link elsewhere

module _ (abi : List ℕ) (E : ℕ → Type 0) (s t : State) (rel : Related abi E s t) where
  chain-linked : (bound d : ℕ) → d ≤ bound → HasTable s.set d → (e : ℕ) → Memᴰ e (chain s.set d) → HasTable s.set e
  chain-linked zero d b l e i = absurd (omega (arith, l.some))
  chain-linked (suc bound) d b l e i =
      let f = parent_below s.set d l.some in
      ⊎_elim (λ (q : e ≡ d). rw q l)
      (λ j.
      by (eqb (parent_of s.set d) 0)
      (λ z. absurd (Memᴰ.not-nil (rw (chain-none s.set (parent_of s.set d) (eqb-true (parent_of s.set d) 0 z)) at j)))
      (λ z. chain-linked bound (parent_of s.set d) (omega arith) (rel.parent d l (eqb-false (parent_of s.set d) 0 z)) e j))
      (Memᴰ.cases_cons (rw (chain_more s.set d l.some) at i))

  module _ (c : ℕ) (calm : E c) (ok : ClassOk s.set c) where
    above-linked : (e : ℕ) → Memᴰ e (chain s.set (parent_of s.set c)) → HasTable s.set e
    above-linked e i =
        let w = parent-within s.set c in
        by (eqb (parent_of s.set c) 0)
        (λ z. absurd (Memᴰ.not-nil (rw (chain-none s.set (parent_of s.set c) (eqb-true (parent_of s.set c) 0 z)) at i)))
        (λ z.
        let n = eqb-false (parent_of s.set c) 0 z in
        chain-linked (parent_of s.set c) (parent_of s.set c) (omega arith)
        (record { some = omega arith; among = omega (arith, ok.among); has = ok.parent n }) e i)

    pub above-held : (e : ℕ) → Memᴰ e (chain s.set (parent_of s.set c)) → Held s.set t.set s.area t.area e
    above-held e i =
        rel.held e (rel.sets.up c e (ok.some, ok.among) calm (rw (chain_more s.set c ok.some) (Memᴰ.tail i))) (above-linked e i)

  no_class_lem : (c : ℕ) → no_class s.set c ≡ true → (bad_class s.set (text_of s.set) c ≡ true) × (bad_class t.set (text_of t.set) c ≡ true)
  unfolding bad_class
  no_class_lem c h = let h' = sym (none-same s.set t.set abi E rel.sets c) ∙ h in (rw h refl, rw h' refl)

  is-class : (c : ℕ) → no_class s.set c ≡ false → IsClass s.set c
  unfolding no_class
  is-class c h =
      let p = or-neither (eqb c 0) (ltb (class_count s.set) c) h in
      let n : c ≢ 0 = eqb-false c 0 p.0 in
      (omega arith, ltb-false (class_count s.set) c p.1)

  bad-both : (c : ℕ) → E c → bad_class s.set (text_of s.set) c ≡ bad_class t.set (text_of t.set) c
  bad-both c calm =
      by (no_class s.set c) (λ h. (no_class_lem c h).0 ∙ sym (no_class_lem c h).1)
      (λ h. bad-same s.set t.set abi E rel.sets c (is-class c h) calm)

  pub link-same : (c : ℕ) (stubs : List ℕ) → E c → Roomy (link_def s.set abi c s.area stubs s.missing).outcome
      → Roomy (link_def t.set abi c t.area stubs t.missing).outcome
      → SameLink s.area t.area (link_def s.set abi c s.area stubs s.missing).outcome
      (link_def t.set abi c t.area stubs t.missing).outcome
  unfolding link_def link_by
  link-same c stubs calm room room' =
      let v = eq-eqb (set_refusal s.set abi) 0 rel.accepted in
      let v' = eq-eqb (set_refusal t.set abi) 0 rel.accepted' in
      let a = rel.sound in
      let a' = rel.sound' in
      by (bad_class s.set (text_of s.set) c)
      (λ h. let h' = sym (bad-both c calm) ∙ h in rw (v, v', h, h') (refused-same 6 s.set t.set s.area t.area))
      (λ h.
      let h' = sym (bad-both c calm) ∙ h in
      let ok = class-ok s.set (text_of s.set) c h in
      let l : IsClass s.set c = (ok.some, ok.among) in
      let p = packages-same s.set t.set abi E rel.sets c l calm in
      by (bad_packages s.set (text_of s.set) abi (abi_text_of abi) c)
      (λ k. let k' = sym p ∙ k in rw (v, v', h, h', a, a', k, k') (refused-same 26 s.set t.set s.area t.area))
      (λ k.
      let k' = sym p ∙ k in
      let r = rw (v, h, a, k) at room in
      let r' = rw (v', h', a', k') at room' in
      rw (v, v', h, h', a, a', k, k')
      (planned-link s.set t.set abi s.area t.area stubs s.missing t.missing c (sound s.set s.area a).some
      (sound t.set t.area a').some
      (plan-same s.set t.set abi E rel.sets s.area t.area c l calm (above-held c calm ok)) r r')))

-- ---- an ask elsewhere

module _ (abi : List ℕ) (E : ℕ → Type 0) (s t : State) (rel : Related abi E s t) where
  linked-there : (d : ℕ) → E d → HasTable s.set d → HasTable t.set d
  linked-there d calm l = record {
    some = l.some;
    among = omega (arith, l.among, rel.sets.classes);
    has = λ e.
        l.has (eqb-true (class_table_place s.set d) 0 (rel.sets.linked d (l.some, l.among) calm ∙ eq-eqb (class_table_place t.set d) 0 e));
  }

  module _ (c i : ℕ) (calm : E c) (calm' : E i) (l : HasTable s.set c) (k : HasTable s.set i) where
    dispatch_both : SameBuilt Any (built_afresh abi s c i) (built_afresh abi t c i)
    dispatch_both =
        let h = rel.held i calm' k in
        built_less (λ m n r. tt)
        (dispatch_same (placed-keeps s.set t.set abi E rel.sets) c
        (same-chain s.set t.set abi E rel.sets c l.among (λ e j. rel.sets.up c e (l.some, l.among) calm j))
        (entries-same (placed-keeps s.set t.set abi E rel.sets) i
        (same-chain s.set t.set abi E rel.sets i k.among (λ e j. rel.sets.up i e (k.some, k.among) calm' j)) s.area t.area
        h.slots h.words))

    head-below : head_place s.set c < next_free s.area
    head-below = let b = (sound s.set s.area rel.sound).below c l in omega arith

    head_below' : head_place t.set c < next_free t.area
    head_below' = let b = (sound t.set t.area rel.sound').below c (linked-there c calm l) in omega arith

    some-free : next_free s.area ≢ 0
    some-free = (sound s.set s.area rel.sound).some

    some_free' : next_free t.area ≢ 0
    some_free' = (sound t.set t.area rel.sound').some

    few : class_slot_count s.set i ≤ 1024
    few = (rel.sets.valid.class i (k.some, k.among)).slots k.has

    few' : class_slot_count t.set i ≤ 1024
    few' = let j = linked-there i calm' k in (rel.sets.valid'.class i (j.some, j.among)).slots j.has

    walked : (stubs : List ℕ) {w w' : Walk} → SameWalk s.area t.area (class_slot_count s.set i) w w'
        → Roomy (on_walk w (λ n nodes. record { refusal = 0; first = n + 1; second = nodes; set = s.set; area = s.area })
        (build_node (by_sheets s.set abi) s.set abi c i s.area stubs) (refused_call 7 s.set s.area))
        → Roomy (on_walk w' (λ n nodes. record { refusal = 0; first = n + 1; second = nodes; set = t.set; area = t.area })
        (build_node (by_sheets t.set abi) t.set abi c i t.area stubs) (refused_call 7 t.set t.area))
        → SameAsk s.area t.area (class_slot_count s.set i)
        (on_walk w (λ n nodes. record { refusal = 0; first = n + 1; second = nodes; set = s.set; area = s.area })
        (build_node (by_sheets s.set abi) s.set abi c i s.area stubs) (refused_call 7 s.set s.area))
        (on_walk w' (λ n nodes. record { refusal = 0; first = n + 1; second = nodes; set = t.set; area = t.area })
        (build_node (by_sheets t.set abi) t.set abi c i t.area stubs) (refused_call 7 t.set t.area))
    unfolding build_node
    walked stubs (both-hit {n} {n'} {r} {r'} h e e') room room' =
        found-same s.set t.set abi c i s.area t.area stubs r r' (class_slot_count s.set i) head-below head_below' some-free some_free' n n' r r' h
    walked stubs (both-missed {r} {r'}) room room' =
        dispatched s.set t.set abi c i s.area t.area stubs r r' (class_slot_count s.set i) head-below head_below' some-free some_free' dispatch_both
        (λ n q.
        let T : List Entry = table_entries (by_sheets s.set abi) s.set (text_of s.set) abi (abi_text_of abi) s.area i in
        let m = dispatch_refused (by_sheets s.set abi) s.set c T n q in λ z. omega arith)
        (λ T q. built-size (by_sheets s.set abi) s.set (text_of s.set) abi (abi_text_of abi) s.area c i T few q)
        (λ U q. built-size (by_sheets t.set abi) t.set (text_of t.set) abi (abi_text_of abi) t.area c i U few' q ∙ sym (rel.held i calm' k).slots) room room'

  linked-both : (d : ℕ) → E d → no_class s.set d ≡ false → is_linked s.set d ≡ is_linked t.set d
  linked-both d calm h = ap not (rel.sets.linked d (is-class abi E s t rel d h) calm)

  ask-bad : (c i : ℕ) → E c → E i → bad_ask s.set c i ≡ bad_ask t.set c i
  unfolding bad_ask
  ask-bad c i calm calm' =
      rw (← none-same s.set t.set abi E rel.sets c, ← none-same s.set t.set abi E rel.sets i)
      (by (no_class s.set c) (λ h. rw h refl)
      (λ h.
      by (no_class s.set i) (λ g. rw (h, g) refl)
      (λ g. rw (h, g, linked-both c calm h, linked-both i calm' g) refl)))

  pub ask-same : (c i : ℕ) (stubs : List ℕ) → E c → E i → Roomy (ask_def s.set abi c i s.area stubs)
      → Roomy (ask_def t.set abi c i t.area stubs)
      → SameAsk s.area t.area (class_slot_count s.set i) (ask_def s.set abi c i s.area stubs) (ask_def t.set abi c i t.area stubs)
  unfolding ask_def ask_by
  ask-same c i stubs calm calm' room room' =
      let v = eq-eqb (set_refusal s.set abi) 0 rel.accepted in
      let v' = eq-eqb (set_refusal t.set abi) 0 rel.accepted' in
      let a = rel.sound in
      let a' = rel.sound' in
      by (bad_ask s.set c i)
      (λ h.
      let h' = sym (ask-bad c i calm calm') ∙ h in
      rw (v, v', h, h') (ask-refused 6 (omega arith) s.set t.set s.area t.area (class_slot_count s.set i)))
      (λ h.
      let h' = sym (ask-bad c i calm calm') ∙ h in
      let l = ask-classes s.set c i h in
      let r = rw (v, h, a) at room in
      let r' = rw (v', h', a') at room' in
      rw (v, v', h, h', a, a') (walked c i calm calm' l.0 l.1 stubs (rel.nodes c i calm calm' l.0 l.1) r r'))

  -- an accepted ask has two linked classes, and leaves the set
  pub ask-slots : (c i : ℕ) (stubs : List ℕ) → E i → (ask_def s.set abi c i s.area stubs).refusal ≡ 0
      → class_slot_count s.set i ≡ class_slot_count t.set i
  unfolding ask_def ask_by
  ask-slots c i stubs calm z =
      let v = eq-eqb (set_refusal s.set abi) 0 rel.accepted in
      by (bad_ask s.set c i) (λ h. let e = rw (v, h) at z in absurd (omega arith)) (λ h. (rel.held i calm (ask-classes s.set c i h).1).slots)

pub ask-set : (ws abi : List ℕ) (c i : ℕ) (area stubs : List ℕ) → (ask_def ws abi c i area stubs).set ≡ ws
ask-set ws abi c i area stubs = elim (ask-cases ws abi c i area stubs) [ inl u ↦ u.same_set | inr u ↦ u.same_set ]

-- ---- a call elsewhere meets no clash: the old linker does as the linker

module _ (ws abi area missing : List ℕ) (calls : List Call) where
  clash-class : (u : State) (c : ℕ) → link_clashes u.set abi u.area c ≡ true → ClassOk u.set c
  unfolding link_clashes reaches_table
  clash-class u c h =
      let r = and_both (reaches_table u.set abi u.area c) _ h in
      let a = and_both (eqb (set_refusal u.set abi) 0) _ r.0 in
      let b = and_both (not (bad_class u.set (text_of u.set) c)) _ a.1 in
      class-ok u.set (text_of u.set) c (not-true (bad_class u.set (text_of u.set) c) b.0)

  pub calm-link : (c : ℕ) (stubs : List ℕ) (s t : State) → Made ws abi area missing calls (link c stubs) s t → Clear ws abi area missing calls c
      → class_count t.set ≡ class_count ws → clashes abi t (link c stubs) ≡ false
  calm-link c stubs s t made calm same =
      by (link_clashes t.set abi t.area c)
      (λ h.
      let ok = clash-class t c h in
      absurd (calm (omega (arith, ok.among, same)) c (chain-here ws c ok.some) (record { stubs = stubs; state = s; before = t; made = made; clash = inr h })))
      (λ h. h)

  pub before_here : (k : Call) (s t : State) → Made ws abi area missing calls k s t → IsElsewhere ws abi area missing calls k
      → class_count t.set ≡ class_count ws
      → outcome_before abi t k ≡ outcome bytewise abi t k
  before_here (link c stubs) s t made calm same =
      sym (ap (λ (o : LinkOutcome). o.outcome)
      (link_as_before t.set abi t.area c stubs t.missing (calm-link c stubs s t made (calm c (Memᴰ.head refl)) same)))
  before_here (ask c i stubs) s t made calm same = refl

  -- a link elsewhere, in related states
  pub link-answer : (c : ℕ) (stubs : List ℕ) (s t : State) → Made ws abi area missing calls (link c stubs) s t
      → IsElsewhere ws abi area missing calls (link c stubs)
      → class_count t.set ≡ class_count ws → Related abi (Clear ws abi area missing calls) s t
      → Roomy (outcome bytewise abi s (link c stubs)) → Roomy (outcome_before abi t (link c stubs)) → SameAnswer abi (link c stubs) s t
  link-answer c stubs s t made calm same rel room room' =
      let e = before_here (link c stubs) s t made calm same in
      let r = link-same abi (Clear ws abi area missing calls) s t rel c stubs (calm c (Memᴰ.head refl)) room (rw e at room') in
      record {
        refusal = rw e r.refusal;
        takes = rw e r.took;
        slots = λ z. rw e r.slots;
        words = λ z. rw e r.words;
      }

  -- an ask elsewhere
  pub ask-answer : (c i : ℕ) (stubs : List ℕ) (s t : State) → IsElsewhere ws abi area missing calls (ask c i stubs)
      → Related abi (Clear ws abi area missing calls) s t
      → Roomy (outcome bytewise abi s (ask c i stubs)) → Roomy (outcome_before abi t (ask c i stubs)) → SameAnswer abi (ask c i stubs) s t
  ask-answer c i stubs s t calm rel room room' =
      let r = ask-same abi (Clear ws abi area missing calls) s t rel c i stubs (calm c (Memᴰ.head refl)) (calm i (Memᴰ.tail (Memᴰ.head refl))) room room' in
      let a = ask-set s.set abi c i s.area stubs in
      let b = ask-set t.set abi c i t.area stubs in
      let n = ask-slots abi (Clear ws abi area missing calls) s t rel c i stubs (calm i (Memᴰ.tail (Memᴰ.head refl))) in
      record {
        refusal = r.refusal;
        takes = r.took;
        slots = λ z. rw (a, b) (n z);
        words = λ z. rw (a, b, ← n z) (r.words z);
      }

  -- every call elsewhere, in related states
  pub answer : (k : Call) (s t : State) → Made ws abi area missing calls k s t → IsElsewhere ws abi area missing calls k → class_count t.set ≡ class_count ws
      → Related abi (Clear ws abi area missing calls) s t → Roomy (outcome bytewise abi s k) → Roomy (outcome_before abi t k) → SameAnswer abi k s t
  answer (link c stubs) s t made calm same rel room room' = link-answer c stubs s t made calm same rel room room'
  answer (ask c i stubs) s t made calm same rel room room' = ask-answer c i stubs s t calm rel room room'

  -- ---- the two runs in step

  pub record InStep (s t : State) : Type 0 where
    pub related : Related abi (Clear ws abi area missing calls) s t
    pub classes : class_count t.set ≡ class_count ws
    pub layout : Layout s
    pub layout' : Layout t

  module _ (next : (k : Call) (s t : State) → Made ws abi area missing calls k s t → InStep s t → InStep (step bytewise abi s k) (step_before abi t k)) where
    along : (ks : List Call) (s' t' : State) → ((k : Call) (s t : State) → Comes abi k s t s' t' ks → Made ws abi area missing calls k s t) → InStep s' t'
        → (k : Call) (s t : State) → Comes abi k s t s' t' ks → InStep s t
    along [] s' t' lift r k s t c = elim c [ ]
    along (j ∷ ks) s' t' lift r k s t now = r
    along (j ∷ ks) s' t' lift r k s t (later d) =
        along ks (step bytewise abi s' j) (step_before abi t' j) (λ k s t e. lift k s t (later e)) (next j s' t' (lift j s' t' now) r) k s t d

    -- theorem 6 of a list, from the start in step and one call
    pub elsewhere-by : InStep (start ws area missing) (start ws area missing) → AllRoomy ws abi area missing calls → (k : Call) (s t : State)
        → Made ws abi area missing calls k s t → IsElsewhere ws abi area missing calls k → SameAnswer abi k s t
    elsewhere-by begins roomy k s t made calm =
        let r = along calls (start ws area missing) (start ws area missing) (λ k s t e. e) begins k s t made in
        let q = roomy k s t made calm in
        answer k s t made calm r.classes r.related q.0 q.1

  -- ---- the start

  calm-up : (d e : ℕ) → IsClass ws d → Clear ws abi area missing calls d → Memᴰ e (chain ws d) → Clear ws abi area missing calls e
  calm-up d e l calm i = λ among x j. calm l.1 x (chain-of-chain ws d d (omega arith) i j)

  pub start-related : Unlinked ws → set_refusal ws abi ≡ 0 → bad_area ws area ≡ false
      → Related abi (Clear ws abi area missing calls) (start ws area missing) (start ws area missing)
  start-related none v a = record {
    sets = record {
      valid = (valid ws abi v).0;
      valid' = (valid ws abi v).0;
      classes = refl;
      name = λ d l. refl;
      untouched = λ d k l b u. refl;
      interfaces = refl;
      interface = λ i h. refl;
      compilers = refl;
      compiler = λ i h. refl;
      up = calm-up;
      linked = λ d l c. refl;
      word = λ d k l c b u. refl;
      method = λ d j l c h. record { name = refl; descriptor = refl; flags = refl; target = refl };
      field = λ d j l c h. record { name = refl; descriptor = refl; flags = refl; index = refl };
    };
    held = λ d c l. absurd (l.has (none d l.some l.among));
    nodes = λ c i e f l k. absurd (l.has (none c l.some l.among));
    accepted = v;
    accepted' = v;
    sound = a;
    sound' = a;
    parent = λ d l n. absurd (l.has (none d l.some l.among));
    parent' = λ d l n. absurd (l.has (none d l.some l.among));
  }

  none-layout : Unlinked ws → Layout (start ws area missing)
  none-layout none = record {
    heads = λ c d l k n. absurd (l.has (none c l.some l.among));
    lists = λ c l. absurd (l.has (none c l.some l.among));
  }

  pub start_in_step : Unlinked ws → set_refusal ws abi ≡ 0 → bad_area ws area ≡ false → InStep (start ws area missing) (start ws area missing)
  start_in_step none v a = record { related = start-related none v a; classes = refl; layout = none-layout none; layout' = none-layout none }
