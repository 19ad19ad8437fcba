-- ELSEWHERE: the two runs stay in step, call by call, so every call elsewhere answers the same but for places and nodes read. Assumes nothing.
use mathlib.Core.Path.{◌≡◌, refl, sym, ap, ◌∙◌, subst, subst₂}
use mathlib.Core.Logic.{inl, inr}
use mathlib.Core.Bool.{true, false, true≢false}
use mathlib.Core.List.Memᴰ
use mathlib.Core.List.{List}
use Prim.Native.Nat.{ℕ, ◌+◌}
use native.Mathlib.Omega.{arith}
use lib.ListN.{length}
use borrow.Author.Tests.{eq-eqb, ne_eqb}
use Rattle.class_sheet.specs.ClassSheet.{class_count, text_of}
use Rattle.abi_sheet.specs.AbiSheet.{abi_text_of}
use Rattle.set_rules.specs.SetRules.{set_refusal}
use Rattle.linking.specs.Signature.{by_sheets}
use Rattle.linking.specs.Vtable.{Built}
use Rattle.linking.specs.Before.{link_before}
use Rattle.linking.specs.Link.{next_free, Plan, Planned, planned, built_table, plan_built, generated_table, plan_generated, plan, plan_with, Outcome, LinkOutcome}
use Rattle.linking.specs.Ask.{ask_def}
use Rattle.linking.proofs.Plans.{planned-same, not-planned}
use Rattle.linking.proofs.PlansWith.{plans_with}
use Rattle.linking.proofs.Rows.{sound}
use Rattle.calls.specs.Calls.{Call, link, ask, bytewise, State, step, left, ByBytes}
use Rattle.calls.specs.OldRun.{step_before, left_before}
use Rattle.calls.specs.Elsewhere.{takes, ElsewhereBy}
use Rattle.matching.proofs.Stays.{plan-stands}
use Rattle.calls.proofs.Comes.{Made, Clear, IsElsewhere, AllRoomy, made-after, elsewhere_made, roomy_made}
use Rattle.calls.proofs.BesideLink.{SamePlan, SamePlanned, both-planned, both-unplanned, plan-same}
use Rattle.calls.proofs.Area.{linked-free}
use Rattle.calls.proofs.Wrote.{plan_from, Wrote, with_cases, wrote_after}
use Rattle.calls.proofs.Elsewhere.{Related, InStep, above-held, link-same, ask-same, ask-set, calm-link, before_here}
use Rattle.calls.proofs.ElsewhereNext.{made_now, made_before, link_built, left_by, related-moved, related-each, related_self, related_turned, link-is, other-links}
use Rattle.calls.proofs.ElsewhereStuck.{elsewhere-from}
use Rattle.calls.proofs.ElsewhereAsk.{put_in, other-ask, ask-next}
use Rattle.calls.proofs.NodeLists.{Layout}
use Rattle.calls.proofs.NodeLinks.{wrote_layout}
use Rattle.calls.proofs.LinkNext.{link-next}
use Rattle.calls.proofs.Rows.{PutsNode, ask-cases}
use Rattle.calls.proofs.Puts.{put_next, put-layout}
use Rattle.calls.proofs.Clear.{clear?}
use Rattle.calls.proofs.OldRun.{step_as_before}

-- rows 3 to 5 accept what a link leaves, whatever table `build_methods` makes
stays : (abi : List ℕ) (E : ℕ → Type 0) (s : State) (c : ℕ) (stubs : List ℕ) (B : Built) → set_refusal s.set abi ≡ 0
    → set_refusal (link_built abi E s c stubs B).outcome.set abi ≡ 0
stays abi E s c stubs B v =
    elim (with_cases s.set abi c s.area stubs s.missing (plan_from s.set abi s.area B c)) [
      | inl u ↦ ap (λ (x : List ℕ). set_refusal x abi) u.same_set ∙ v
      | inr w ↦
          rw w.new-set
          (plan-stands (by_sheets s.set abi) s.set abi c s.area w.valid w.class w.coming
          (plans_with (by_sheets s.set abi) s.set (text_of s.set) abi (abi_text_of abi) s.area c B w.coming w.comes) w.lists)
    ]

-- ---- one run

layout-moved : (s : State) → Layout s → (u : State) → u.set ≡ s.set → u.area ≡ s.area → Layout u
layout-moved s lay u p q =
    subst Layout (sym (ap (λ (ws : List ℕ). record { set = ws; area = u.area; missing = u.missing }) p
    ∙ ap (λ (area : List ℕ). record { set = s.set; area = area; missing = u.missing }) q))
    (record { heads = lay.heads; lists = λ c l. let ns = lay.lists c l in record { places = ns.places; nodes = ns.nodes } })

module _ (abi : List ℕ) (E : ℕ → Type 0) where
  step-link : (s : State) (c : ℕ) (stubs : List ℕ)
      → step bytewise abi s (link c stubs) ≡ left_by abi E (link_built abi E s c stubs (made_now abi s c))
  unfolding step
  step-link s c stubs = ap (left_by abi E) (link-is abi E s c stubs)

  before-link : (s : State) (c : ℕ) (stubs : List ℕ)
      → step_before abi s (link c stubs) ≡ left_by abi E (link_built abi E s c stubs (made_before abi s c))
  unfolding step_before link_before
  before-link s c stubs = refl

  step-ask : (s : State) (c i : ℕ) (stubs : List ℕ) → step bytewise abi s (ask c i stubs) ≡ put_in s (ask_def s.set abi c i s.area stubs)
  unfolding step
  step-ask s c i stubs = rw (ask-set s.set abi c i s.area stubs) refl

  before-ask : (s : State) (c i : ℕ) (stubs : List ℕ) → step_before abi s (ask c i stubs) ≡ put_in s (ask_def s.set abi c i s.area stubs)
  unfolding step_before
  before-ask s c i stubs = rw (ask-set s.set abi c i s.area stubs) refl

  layout-link : (s : State) (c : ℕ) (stubs : List ℕ) (B : Built) → Layout s → Layout (left_by abi E (link_built abi E s c stubs B))
  layout-link s c stubs B lay =
      let o : LinkOutcome = link_built abi E s c stubs B in
      elim (with_cases s.set abi c s.area stubs s.missing (plan_from s.set abi s.area B c)) [
        | inl u ↦ layout-moved s lay (left_by abi E o) u.same_set u.same_area
        | inr w ↦ wrote_layout abi s c stubs B o.outcome w o.missing lay
      ]

  layout-ask : (s : State) (c i : ℕ) (stubs : List ℕ) → Layout s → Layout (put_in s (ask_def s.set abi c i s.area stubs))
  layout-ask s c i stubs lay =
      let o : Outcome = ask_def s.set abi c i s.area stubs in
      elim (ask-cases s.set abi c i s.area stubs) [
        | inl u ↦ layout-moved s lay (put_in s o) refl u.same_area
        | inr p ↦ put-layout abi s c i stubs o p lay s.missing
      ]

  count-link : (s : State) (c : ℕ) (stubs : List ℕ) (B : Built) → class_count (link_built abi E s c stubs B).outcome.set ≡ class_count s.set
  count-link s c stubs B =
      let o : LinkOutcome = link_built abi E s c stubs B in
      elim (with_cases s.set abi c s.area stubs s.missing (plan_from s.set abi s.area B c)) [
        | inl u ↦ ap class_count u.same_set
        | inr w ↦ (wrote_after s.set abi c s.area stubs B o.outcome w).classes
      ]

  -- whether words of the area were taken
  none-taken : (area : List ℕ) (o : Outcome) → o.area ≡ area → takes area o ≡ false
  none-taken area o e = rw (e, eq-eqb (next_free area) (next_free area) refl) refl

  link-took : (s : State) (c : ℕ) (stubs : List ℕ) (P : Planned) (o : Outcome) → Wrote s.set abi c s.area stubs P o → takes s.area o ≡ true
  link-took s c stubs P o w =
      let e = linked-free s.area c w.coming.table stubs (sound s.set s.area w.lent).some w.room.free in
      rw (w.new-area, e, ne_eqb (next_free s.area + length w.coming.table + 2) (next_free s.area) (λ q. omega arith)) refl

  ask-took : (s : State) (c i : ℕ) (stubs : List ℕ) (o : Outcome) → PutsNode s.set abi c i s.area stubs o → takes s.area o ≡ true
  ask-took s c i stubs o p =
      let e = put_next abi s c i stubs o p in
      rw (e, ne_eqb (next_free s.area + length p.entries + 2) (next_free s.area) (λ q. omega arith)) refl

-- ---- both runs

plans-both : {P Q : Planned} {p q : Plan} → SamePlanned P Q → P ≡ planned p → Q ≡ planned q → SamePlan p q
plans-both (both-planned {p = a} {q = b} h) e f =
    let x : a ≡ _ = planned-same e in let y : b ≡ _ = planned-same f in subst₂ SamePlan x y h
plans-both both-unplanned e f = not-planned e

module _ (ws abi area missing : List ℕ) (calls : List Call) (roomy : AllRoomy ws abi area missing calls) where
  abbrev E : ℕ → Type 0
  E = Clear ws abi area missing calls

  abbrev now : State → ℕ → Built
  now s c = made_now abi s c

  abbrev before : State → ℕ → Built
  before s c = made_before abi s c

  -- ---- a link elsewhere

  module _ (c : ℕ) (stubs : List ℕ) (s t : State) (made : Made ws abi area missing calls (link c stubs) s t) (r : InStep ws abi area missing calls s t)
      (calm : E c) where
    is-elsewhere : IsElsewhere ws abi area missing calls (link c stubs)
    is-elsewhere d i = elim (Memᴰ.cases_cons i) [ inl e ↦ rw e calm | inr j ↦ absurd (Memᴰ.not-nil j) ]

    as_before : step_before abi t (link c stubs) ≡ step bytewise abi t (link c stubs)
    as_before = sym (step_as_before abi t (link c stubs) (calm-link ws abi area missing calls c stubs s t made calm r.classes))

    took : takes s.area (link_built abi E s c stubs (now s c)).outcome ≡ takes t.area (link_built abi E t c stubs (now t c)).outcome
    took =
        let q = roomy (link c stubs) s t made is-elsewhere in
        let e = before_here ws abi area missing calls (link c stubs) s t made is-elsewhere r.classes in
        rw (← link-is abi E s c stubs, ← link-is abi E t c stubs)
        (link-same abi E s t r.related c stubs calm q.0 (rw e at q.1)).took

    plans-same : (w : Wrote s.set abi c s.area stubs (plan_from s.set abi s.area (now s c) c)
        (link_built abi E s c stubs (now s c)).outcome)
        (w' : Wrote t.set abi c t.area stubs (plan_from t.set abi t.area (now t c) c)
        (link_built abi E t c stubs (now t c)).outcome) → SamePlan w.coming w'.coming
    unfolding plan plan_with plan_built built_table plan_generated generated_table
    plans-same w w' =
        plans-both
        (plan-same s.set t.set abi E r.related.sets s.area t.area c (w.class.some, w.class.among) calm
        (above-held abi E s t r.related c calm w.class))
        w.comes w'.comes

    link-kept : Related abi E (step bytewise abi s (link c stubs)) (step bytewise abi t (link c stubs))
    link-kept =
        let o : LinkOutcome = link_built abi E s c stubs (now s c) in
        let o' : LinkOutcome = link_built abi E t c stubs (now t c) in
        let rel = r.related in
        rw (step-link abi E s c stubs, step-link abi E t c stubs)
        (elim (with_cases s.set abi c s.area stubs s.missing (plan_from s.set abi s.area (now s c) c)) [
          | inl u ↦ elim (with_cases t.set abi c t.area stubs t.missing (plan_from t.set abi t.area (now t c) c)) [
            | inl v ↦ related-each abi E s (left_by abi E o) t (left_by abi E o')
                (related-moved abi E s (related_self abi E s t rel) (left_by abi E o) u.same_set u.same_area)
                (related-moved abi E t (related_self abi E t s (related_turned abi E s t rel)) (left_by abi E o') v.same_set v.same_area) rel
            | inr v ↦ absurd (true≢false
                (sym (link-took abi E t c stubs _ o'.outcome v) ∙ sym took ∙ none-taken abi E s.area o.outcome u.same_area))
          ]
          | inr w ↦ elim (with_cases t.set abi c t.area stubs t.missing (plan_from t.set abi t.area (now t c) c)) [
            | inl v ↦ absurd (true≢false
                (sym (link-took abi E s c stubs _ o.outcome w) ∙ took ∙ none-taken abi E t.area o'.outcome v.same_area))
            | inr v ↦ link-next abi E s t rel r.layout r.layout' c calm stubs (now s c) (now t c) o.outcome o'.outcome w v (plans-same w v)
                (stays abi E s c stubs (now s c) rel.accepted) (stays abi E t c stubs (now t c) rel.accepted') o.missing o'.missing
          ]
        ])

  -- ---- any link

  link-step : (c : ℕ) (stubs : List ℕ) (s t : State) → Made ws abi area missing calls (link c stubs) s t → InStep ws abi area missing calls s t
      → InStep ws abi area missing calls (step bytewise abi s (link c stubs)) (step_before abi t (link c stubs))
  link-step c stubs s t made r =
      let rel = r.related in
      record {
        related = elim (clear? ws abi area missing calls c) [
          | inl calm ↦ rw (as_before c stubs s t made r calm) (link-kept c stubs s t made r calm)
          | inr n ↦
              rw (step-link abi E s c stubs, before-link abi E t c stubs)
              (other-links abi E s t c stubs (now s c) (before t c) rel n (stays abi E s c stubs (now s c) rel.accepted)
              (stays abi E t c stubs (before t c) rel.accepted'))
        ];
        classes = rw (before-link abi E t c stubs) (count-link abi E t c stubs (before t c) ∙ r.classes);
        layout = rw (step-link abi E s c stubs) (layout-link abi E s c stubs (now s c) r.layout);
        layout' = rw (before-link abi E t c stubs) (layout-link abi E t c stubs (before t c) r.layout');
      }

  -- ---- an ask

  -- in one run, of a pair that is not elsewhere
  ask-alone : (c i : ℕ) (stubs : List ℕ) (s : State) → Layout s → Related abi E s s → (E c → E i → ⊥)
      → Related abi E s (put_in s (ask_def s.set abi c i s.area stubs))
  ask-alone c i stubs s lay self none =
      let o : Outcome = ask_def s.set abi c i s.area stubs in
      elim (ask-cases s.set abi c i s.area stubs) [
        | inl u ↦ related-moved abi E s self (put_in s o) refl u.same_area
        | inr p ↦ other-ask abi E c i stubs s o p lay self none
      ]

  module _ (c i : ℕ) (stubs : List ℕ) (s t : State) (made : Made ws abi area missing calls (ask c i stubs) s t) (r : InStep ws abi area missing calls s t) where
    abbrev o : Outcome
    o = ask_def s.set abi c i s.area stubs

    abbrev o' : Outcome
    o' = ask_def t.set abi c i t.area stubs

    apart : (E c → E i → ⊥) → Related abi E (put_in s o) (put_in t o')
    apart none =
        let rel = r.related in
        related-each abi E s (put_in s o) t (put_in t o')
        (ask-alone c i stubs s r.layout (related_self abi E s t rel) none)
        (ask-alone c i stubs t r.layout' (related_self abi E t s (related_turned abi E s t rel)) none) rel

    module _ (calm : E c) (calm' : E i) where
      both : IsElsewhere ws abi area missing calls (ask c i stubs)
      both d j = elim (Memᴰ.cases_cons j) [
        | inl e ↦ rw e calm
        | inr k ↦ elim (Memᴰ.cases_cons k) [ inl e ↦ rw e calm' | inr x ↦ absurd (Memᴰ.not-nil x) ]
      ]

      ask-kept : Related abi E (put_in s o) (put_in t o')
      ask-kept =
          let rel = r.related in
          let q = roomy (ask c i stubs) s t made both in
          let a = ask-same abi E s t rel c i stubs calm calm' q.0 q.1 in
          elim (ask-cases s.set abi c i s.area stubs) [
            | inl u ↦ elim (ask-cases t.set abi c i t.area stubs) [
              | inl v ↦ related-each abi E s (put_in s o) t (put_in t o')
                  (related-moved abi E s (related_self abi E s t rel) (put_in s o) refl u.same_area)
                  (related-moved abi E t (related_self abi E t s (related_turned abi E s t rel)) (put_in t o') refl v.same_area) rel
              | inr v ↦ absurd (true≢false (sym (ask-took abi E t c i stubs o' v) ∙ sym a.took ∙ none-taken abi E s.area o u.same_area))
            ]
            | inr p ↦ elim (ask-cases t.set abi c i t.area stubs) [
              | inl v ↦ absurd (true≢false (sym (ask-took abi E s c i stubs o p) ∙ a.took ∙ none-taken abi E t.area o' v.same_area))
              | inr v ↦ ask-next abi E c i stubs s t o o' p v r.layout r.layout' rel calm calm' (a.words p.number)
            ]
          ]

    ask-related : Related abi E (put_in s o) (put_in t o')
    ask-related =
        elim (clear? ws abi area missing calls c) [
          | inl calm ↦ elim (clear? ws abi area missing calls i) [
            | inl calm' ↦ ask-kept calm calm'
            | inr n ↦ apart (λ x y. n y)
          ]
          | inr n ↦ apart (λ x y. n x)
        ]

    ask-step : InStep ws abi area missing calls (step bytewise abi s (ask c i stubs)) (step_before abi t (ask c i stubs))
    ask-step = record {
      related = rw (step-ask abi E s c i stubs, before-ask abi E t c i stubs) ask-related;
      classes = rw (before-ask abi E t c i stubs) r.classes;
      layout = rw (step-ask abi E s c i stubs) (layout-ask abi E s c i stubs r.layout);
      layout' = rw (before-ask abi E t c i stubs) (layout-ask abi E t c i stubs r.layout');
    }

  next : (k : Call) (s t : State) → Made ws abi area missing calls k s t → InStep ws abi area missing calls s t
      → InStep ws abi area missing calls (step bytewise abi s k) (step_before abi t k)
  next (link c stubs) s t made r = link-step c stubs s t made r
  next (ask c i stubs) s t made r = ask-step c i stubs s t made r

-- THE THEOREM, by bytes
pub elsewhere_by_bytes : ByBytes ElsewhereBy
elsewhere_by_bytes ws abi area missing none calls roomy front back k e calm =
    let made = roomy_made ws abi area missing calls roomy in
    elsewhere-from ws abi area missing none calls (next ws abi area missing calls made) made k (left bytewise ws abi area missing front)
    (left_before ws abi area missing front) (made-after ws abi area missing calls front back k e) (elsewhere_made ws abi area missing calls k calm)
