-- A list that is long enough changes no answer (`LinkBefore`): a link reads it in row 15's last clause alone. And what a class's words say (`CountIs`).
-- Assumes nothing.
use Rattle.std.proofs.Common.{◌≡◌, refl, sym, ap, ◌∙◌, subst, ◌≢◌, ◌⊎◌, inl, inr, true, false, ◌||◌, true≢false, List, [], ◌∷◌, ℕ, ◌*◌, length, eqb, le-ltb}
use lib.ListN.{get_or-eq_default}
use Rattle.words.proofs.Bools.{by}
use Rattle.class_sheet.specs.ClassSheet.{class_count, text_of}
use Rattle.abi_sheet.specs.AbiSheet.{abi_text_of}
use Rattle.set_rules.specs.SetRules.{set_refusal}
use Rattle.linking.specs.Signature.{Same, by_sheets, by_numbers}
use Rattle.linking.specs.Numbers.{numbers_short}
use Rattle.linking.specs.Numbered.{link_numbered}
use Rattle.linking.specs.Packages.{bad_packages}
use Rattle.linking.specs.Counts.{missing_width, missing_short}
use Rattle.linking.specs.Link.{bad_class, bad_area, Plan, Planned, planned, unplanned, plan, lists_full, set_short, no_room, Outcome, refused_call, LinkOutcome, refused_link, finish_link, on_plan, link_def, link_by}
use Rattle.linking.proofs.MissingLaws.{count-read, bit-read}
use Rattle.calls.specs.Calls.{left, Call, link, ask, Way, numbered, bytewise, State, start, outcome, way_after, step, run}
use Rattle.calls.specs.Unlisted.{finish_unlisted, on_planned, link_unlisted}
use Rattle.calls.specs.Missing.{CountIs, LinkBefore}
use Rattle.calls.proofs.Rows.{link-cases}
use Rattle.calls.proofs.Ways.{left_by, link-ends, ask-leaves, asked-state}
use Rattle.calls.proofs.Tables.{link-long}

pub count_is : CountIs
count_is = record {
  count_is = count-read;
  bits_are = bit-read;
  rest_zero = λ list c bits words j h b. bit-read list c bits words j b ∙ get_or-eq_default bits false h;
}

-- ---- one link, and the link without a list

module _ (ws abi : List ℕ) (c : ℕ) (area stubs list : List ℕ) (long : missing_short ws list ≡ false) where
  finish-unlisted : (p : Plan) → (finish_link ws abi c area stubs list p).outcome ≡ finish_unlisted ws abi c area stubs p
  unfolding finish_link finish_unlisted
  finish-unlisted p =
      by (lists_full ws c p) (λ t. rw t)
      (λ t. rw (t, long) (by (no_room area stubs (length p.table) || set_short ws c p) (λ u. rw u) (λ u. rw u)))

  planned-unlisted : (q : Planned)
      → (on_plan q (finish_link ws abi c area stubs list) (λ n. refused_link n ws area list)).outcome
      ≡ on_planned q (finish_unlisted ws abi c area stubs) (λ n. refused_call n ws area)
  planned-unlisted (planned p) = finish-unlisted p
  planned-unlisted (unplanned n) = refl

  as-before : (link_def ws abi c area stubs list).outcome ≡ link_unlisted ws abi c area stubs
  unfolding link_def link_by link_unlisted
  as-before =
      by (eqb (set_refusal ws abi) 0)
      (λ v.
      rw v
      (by (bad_class ws (text_of ws) c) (λ t. rw t)
      (λ t.
      rw t
      (by (bad_area ws area) (λ u. rw u)
      (λ u.
      rw u
      (by (bad_packages ws (text_of ws) abi (abi_text_of abi) c) (λ k. rw k)
      (λ k. rw k (planned-unlisted (plan (by_sheets ws abi) ws (text_of ws) abi (abi_text_of abi) area c)))))))))
      (λ v. rw v)

-- ---- one link, and two lists

module _ (ws abi : List ℕ) (c : ℕ) (area stubs list other : List ℕ) where
  -- both as long as row 15 asks, or neither
  finish-same : missing_short ws list ≡ missing_short ws other → (p : Plan)
      → (finish_link ws abi c area stubs list p).outcome ≡ (finish_link ws abi c area stubs other p).outcome
  unfolding finish_link
  finish-same e p =
      by (lists_full ws c p) (λ t. rw t)
      (λ t.
      rw (t, e)
      (by (no_room area stubs (length p.table) || set_short ws c p || missing_short ws other) (λ u. rw u) (λ u. rw u)))

  planned-same : missing_short ws list ≡ missing_short ws other → (q : Planned)
      → (on_plan q (finish_link ws abi c area stubs list) (λ n. refused_link n ws area list)).outcome
      ≡ (on_plan q (finish_link ws abi c area stubs other) (λ n. refused_link n ws area other)).outcome
  planned-same e (planned p) = finish-same e p
  planned-same e (unplanned n) = refl

  same_by : (same : Same) → missing_short ws list ≡ missing_short ws other
      → (link_by same ws abi c area stubs list).outcome ≡ (link_by same ws abi c area stubs other).outcome
  unfolding link_by
  same_by same e =
      by (eqb (set_refusal ws abi) 0)
      (λ v.
      rw v
      (by (bad_class ws (text_of ws) c) (λ t. rw t)
      (λ t.
      rw t
      (by (bad_area ws area) (λ u. rw u)
      (λ u.
      rw u
      (by (bad_packages ws (text_of ws) abi (abi_text_of abi) c) (λ k. rw k)
      (λ k. rw k (planned-same e (plan same ws (text_of ws) abi (abi_text_of abi) area c)))))))))
      (λ v. rw v)

  same : missing_short ws list ≡ missing_short ws other → (link_def ws abi c area stubs list).outcome ≡ (link_def ws abi c area stubs other).outcome
  unfolding link_def
  same e = same_by (by_sheets ws abi) e

  -- and the list of numbers after both is the same
  same_numbered : (ns : List ℕ) → missing_short ws list ≡ missing_short ws other
      → ((link_numbered ws abi ns c area stubs list).outcome ≡ (link_numbered ws abi ns c area stubs other).outcome)
      × ((link_numbered ws abi ns c area stubs list).numbers ≡ (link_numbered ws abi ns c area stubs other).numbers)
  unfolding link_numbered link_by
  same_numbered ns e = by (numbers_short ns) (λ t. rw t (refl, refl)) (λ t. rw (t, same_by (by_numbers ns) e) (refl, refl))

  -- the one too short: 15 where the other is accepted
  abbrev Either : LinkOutcome → LinkOutcome → Type 0
  Either short long = ((long.outcome.refusal ≡ 0) × (short.outcome ≡ refused_call 15 ws area)) ⊎ (short.outcome ≡ long.outcome)

  module _ (short : missing_short ws list ≡ true) where
    finish-either : (p : Plan) → Either (finish_link ws abi c area stubs list p) (finish_link ws abi c area stubs other p)
    unfolding finish_link
    finish-either p =
        by (lists_full ws c p) (λ t. rw t (inr refl))
        (λ t.
        rw (t, short)
        (by (no_room area stubs (length p.table) || set_short ws c p) (λ u. rw u (inr refl))
        (λ u. rw u (by (missing_short ws other) (λ r. rw r (inr refl)) (λ r. rw r (inl (refl, refl)))))))

    planned-either : (q : Planned)
        → Either (on_plan q (finish_link ws abi c area stubs list) (λ n. refused_link n ws area list))
        (on_plan q (finish_link ws abi c area stubs other) (λ n. refused_link n ws area other))
    planned-either (planned p) = finish-either p
    planned-either (unplanned n) = inr refl

    either : Either (link_def ws abi c area stubs list) (link_def ws abi c area stubs other)
    unfolding link_def link_by
    either =
        by (eqb (set_refusal ws abi) 0)
        (λ v.
        rw v
        (by (bad_class ws (text_of ws) c) (λ t. rw t (inr refl))
        (λ t.
        rw t
        (by (bad_area ws area) (λ u. rw u (inr refl))
        (λ u.
        rw u
        (by (bad_packages ws (text_of ws) abi (abi_text_of abi) c) (λ k. rw k (inr refl))
        (λ k. rw k (planned-either (plan (by_sheets ws abi) ws (text_of ws) abi (abi_text_of abi) area c)))))))))
        (λ v. rw v (inr refl))

    -- a link with a short list is not accepted
    refuses : (link_def ws abi c area stubs list).outcome.refusal ≢ 0
    unfolding missing_short
    refuses e =
        elim (link-cases ws abi c area stubs list) [
          | inl r ↦ r.number e
          | inr a ↦ true≢false (sym short ∙ le-ltb (length list) (missing_width * class_count ws) a.long)
        ]

    short_accepted : (link_def ws abi c area stubs other).outcome.refusal ≡ 0 → (link_def ws abi c area stubs list).outcome ≡ refused_call 15 ws area
    short_accepted e = elim either [ inl r ↦ r.1 | inr r ↦ absurd (refuses (ap (λ (o : Outcome). o.refusal) r ∙ e)) ]

    short_refused : (link_def ws abi c area stubs other).outcome.refusal ≢ 0
        → (link_def ws abi c area stubs list).outcome ≡ (link_def ws abi c area stubs other).outcome
    short_refused n = elim either [ inl r ↦ absurd (n r.0) | inr r ↦ r ]

-- ---- any list of calls: the list of missing slots keeps its length, and the set its classes

abbrev pub Long : State → Type 0
Long s = missing_short s.set s.missing ≡ false

pub step-long : (way : Way) (abi : List ℕ) (s : State) (k : Call) → Long s → Long (step way abi s k)
unfolding step missing_short
step-long way abi s (link c stubs) h =
    let o : LinkOutcome = left_by way abi s c stubs in
    elim (link-ends way abi s c stubs) [
      | inl r ↦ rw (r.same_set, r.same-missing) h
      | inr a ↦ le-ltb (length o.missing) (missing_width * class_count o.outcome.set) (link-long abi s c stubs o a)
    ]
step-long way abi s (ask c i stubs) h =
    subst (λ (x : State). Long x) (sym (asked-state way abi s c i stubs)) (rw (ask-leaves way abi s c i stubs) h)

run-long : (abi : List ℕ) (ks : List Call) (s : State) → Long s → Long (run bytewise abi ks s)
unfolding run
run-long abi [] s h = h
run-long abi (k ∷ ks) s h = run-long abi ks (step bytewise abi s k) (step-long bytewise abi s k h)

each-as-before : (ws abi area list : List ℕ) → missing_short ws list ≡ false → (calls : List Call) (c : ℕ) (stubs : List ℕ)
    → outcome bytewise abi (left bytewise ws abi area list calls) (link c stubs)
    ≡ link_unlisted (left bytewise ws abi area list calls).set abi c (left bytewise ws abi area list calls).area stubs
each-as-before ws abi area list h calls c stubs =
    let s : State = left bytewise ws abi area list calls in as-before s.set abi c s.area stubs s.missing (run-long abi calls (start ws area list) h)

-- a call by any way, and two lists

pub asks-same : (way : Way) (abi : List ℕ) (s s' : State) → (s.set ≡ s'.set) × (s.area ≡ s'.area) → (c i : ℕ) (stubs : List ℕ)
    → (outcome way abi s (ask c i stubs) ≡ outcome way abi s' (ask c i stubs)) × (way_after way abi s (ask c i stubs) ≡ way_after way abi s' (ask c i stubs))
asks-same (numbered ns) abi s s' e c i stubs = (rw (e.0, e.1) refl, refl)
asks-same bytewise abi s s' e c i stubs = (rw (e.0, e.1) refl, refl)

pub links-same : (way : Way) (abi : List ℕ) (s s' : State) → (s.set ≡ s'.set) × (s.area ≡ s'.area)
    → missing_short s.set s.missing ≡ missing_short s'.set s'.missing → (c : ℕ) (stubs : List ℕ)
    → (outcome way abi s (link c stubs) ≡ outcome way abi s' (link c stubs)) × (way_after way abi s (link c stubs) ≡ way_after way abi s' (link c stubs))
links-same (numbered ns) abi s s' e h c stubs =
    let q = same_numbered s'.set abi c s'.area stubs s.missing s'.missing ns (rw e.0 at h) in (rw (e.0, e.1) q.0, rw (e.0, e.1) (ap numbered q.1))
links-same bytewise abi s s' e h c stubs = (rw (e.0, e.1) (same s'.set abi c s'.area stubs s.missing s'.missing (rw e.0 at h)), refl)

-- ---- and so two states that differ in the list alone answer alike

abbrev SameBut : State → State → Type 0
SameBut s s' = (s.set ≡ s'.set) × (s.area ≡ s'.area)

module _ (abi : List ℕ) where
  outcome-same : (s s' : State) → SameBut s s' → Long s → Long s' → (k : Call) → outcome bytewise abi s k ≡ outcome bytewise abi s' k
  outcome-same s s' e h g (link c stubs) = (links-same bytewise abi s s' e (h ∙ sym g) c stubs).0
  outcome-same s s' e h g (ask c i stubs) = (asks-same bytewise abi s s' e c i stubs).0

  step_same : (s s' : State) → SameBut s s' → Long s → Long s' → (k : Call) → SameBut (step bytewise abi s k) (step bytewise abi s' k)
  unfolding step
  step_same s s' e h g k =
      let o = outcome-same s s' e h g k in (ap (λ (x : Outcome). x.set) o, ap (λ (x : Outcome). x.area) o)

  -- after any calls
  record Alike (s s' : State) : Type 0 where
    same_but : SameBut s s'
    long : Long s
    long-other : Long s'

  run-alike : (ks : List Call) (s s' : State) → Alike s s' → Alike (run bytewise abi ks s) (run bytewise abi ks s')
  unfolding run
  run-alike [] s s' a = a
  run-alike (k ∷ ks) s s' a =
      run-alike ks (step bytewise abi s k) (step bytewise abi s' k)
      (record {
        same_but = step_same s s' a.same_but a.long a.long-other k;
        long = step-long bytewise abi s k a.long;
        long-other = step-long bytewise abi s' k a.long-other;
      })

module _ (ws abi area list other : List ℕ) (h : missing_short ws list ≡ false) (g : missing_short ws other ≡ false) (calls : List Call) where
  alike : Alike abi (left bytewise ws abi area list calls) (left bytewise ws abi area other calls)
  alike = run-alike abi calls (start ws area list) (start ws area other) (record { same_but = (refl, refl); long = h; long-other = g })

  next-same : (k : Call) → outcome bytewise abi (left bytewise ws abi area list calls) k ≡ outcome bytewise abi (left bytewise ws abi area other calls) k
  next-same k =
      outcome-same abi (left bytewise ws abi area list calls) (left bytewise ws abi area other calls) alike.same_but alike.long alike.long-other k

pub link-before : LinkBefore
link-before = record {
  as_before = as-before;
  each_as_before = each-as-before;
  long = λ ws abi c area stubs list other h g. same ws abi c area stubs list other (h ∙ sym g);
  short_accepted = short_accepted;
  short_refused = short_refused;
  calls_before = next-same;
  calls_leave = λ ws abi area list other h g calls. (alike ws abi area list other h g calls).same_but;
}
