-- Links and asks by a faithful list are those by bytes; what a link leaves of the list, faithful or not. Assumes nothing.
use mathlib.Core.Path.{◌≡◌, refl, sym, ap, ◌∙◌}
use mathlib.Core.Logic.{◌≢◌, ◌⊎◌, inl, inr}
use mathlib.Core.Bool.{true, false, true≢false}
use mathlib.Core.List.{List, []}
use Prim.Native.Nat.{ℕ, ◌+◌, ◌≤◌, ◌<◌}
use native.Mathlib.Omega.{arith}
use lib.ListN.{length, get_or}
use lib.Dec.{eqb, ltb}
use borrow.Author.Tests.{ne_eqb, le-ltb, lt-ltb, ltb-false}
use Rattle.words.proofs.Bools.{by}
use Rattle.class_sheet.specs.ClassSheet.{method_count, text_of, class_method_count}
use Rattle.abi_sheet.specs.AbiSheet.{abi_text_of}
use Rattle.set_rules.specs.SetRules.{set_refusal}
use Rattle.linking.specs.Signature.{Same, of_method, place_name, place_descriptor, by_sheets, by_numbers}
use Rattle.linking.specs.Numbers.{number_limit, numbers_short}
use Rattle.linking.specs.Compiler.{Taken, none_taken, members}
use Rattle.linking.specs.Link.{Plan, Planned, planned, unplanned, plan, is_none, bad_area, no_room, Outcome, LinkOutcome, refused_call, refused_link, link_by, link_def}
use Rattle.linking.specs.Vtable.{Entry, Built, built, refused, table_entries}
use Rattle.linking.specs.Ask.{Walk, hit, missed, broken, walk, head_place, dispatch_entries, on_dispatch, build_node, on_walk, bad_ask, ask_by, ask_def}
use Rattle.linking.specs.Numbered.{numbers_after, NumberedOutcome, leaving, but_numbers, link_numbered, ask_numbered}
use Rattle.matching.specs.Filling.{Faithful}
use Rattle.matching.specs.Matching.{Agree, Carries, Signed}
use Rattle.matching.proofs.Parts.{faithful-agrees}
use Rattle.matching.proofs.Rows.{Accepted, link-cases}
use Rattle.matching.proofs.Stays.{link-stands}
use Rattle.matching.proofs.Origins as origins
use Rattle.matching.proofs.Carried.{none_added, some_added, carries}
use Rattle.matching.proofs.Faithful.{linked_faithful}
use Rattle.matching.proofs.Agrees.{link_agrees, ask_agrees}

pub long-enough : (ns : List ℕ) → number_limit ≤ length ns → numbers_short ns ≡ false
unfolding numbers_short
long-enough ns h = le-ltb (length ns) number_limit h

too-short : (ns : List ℕ) → length ns < number_limit → numbers_short ns ≡ true
unfolding numbers_short
too-short ns h = lt-ltb (length ns) number_limit h

-- a list that is short is row 3's, and by a longer one signatures are matched by their numbers

module _ (ws abi ns : List ℕ) where
  module _ (long : number_limit ≤ length ns) where
    pub link_matched : (c : ℕ) (area stubs missing : List ℕ)
        → but_numbers (link_numbered ws abi ns c area stubs missing) ≡ link_by (by_numbers ns) ws abi c area stubs missing
    unfolding link_numbered link_by
    link_matched c area stubs missing = rw (long-enough ns long)

    pub ask_matched : (c i : ℕ) (area stubs : List ℕ) → ask_numbered ws abi ns c i area stubs ≡ ask_by (by_numbers ns) ws abi c i area stubs
    unfolding ask_numbered
    ask_matched c i area stubs = rw (long-enough ns long)

  module _ (short : length ns < number_limit) where
    pub link_short : (c : ℕ) (area stubs missing : List ℕ)
        → link_numbered ws abi ns c area stubs missing ≡ leaving (refused_link 3 ws area missing) ns
    unfolding link_numbered
    link_short c area stubs missing = rw (too-short ns short)

    pub ask_short : (c i : ℕ) (area stubs : List ℕ) → ask_numbered ws abi ns c i area stubs ≡ refused_call 3 ws area
    unfolding ask_numbered
    ask_short c i area stubs = rw (too-short ns short)

module _ (ws abi ns : List ℕ) (f : Faithful ws abi ns) where
  by-bytes : Agree ws abi (by_numbers ns) (by_sheets ws abi)
  by-bytes = faithful-agrees ws abi ns f

  pub link_numbered_agrees : (c : ℕ) (area stubs missing : List ℕ)
      → but_numbers (link_numbered ws abi ns c area stubs missing) ≡ link_def ws abi c area stubs missing
  unfolding link_numbered link_def link_by
  link_numbered_agrees c area stubs missing =
      rw (long-enough ns f.long) (link_agrees (by_numbers ns) (by_sheets ws abi) ws abi by-bytes c area stubs missing)

  pub ask_numbered_agrees : (c i : ℕ) (area stubs : List ℕ) → ask_numbered ws abi ns c i area stubs ≡ ask_def ws abi c i area stubs
  unfolding ask_numbered ask_def
  ask_numbered_agrees c i area stubs =
      rw (long-enough ns f.long) (ask_agrees (by_numbers ns) (by_sheets ws abi) ws abi by-bytes c i area stubs)

-- ---- what a link leaves, whatever the list holds

abbrev plan_of : Plan → Planned → Plan
plan_of q (planned p) = p
plan_of q (unplanned n) = q

module _ (ws abi ns : List ℕ) (c : ℕ) (area stubs missing : List ℕ) where
  abbrev pub done : NumberedOutcome
  done = link_numbered ws abi ns c area stubs missing

  abbrev judged : LinkOutcome
  judged = link_by (by_numbers ns) ws abi c area stubs missing

  -- it is refused, and leaves the set, the area and both lists
  pub record Left (o : NumberedOutcome) : Type 0 where
    pub number : o.outcome.refusal ≢ 0
    pub same_set : o.outcome.set ≡ ws
    pub same_area : o.outcome.area ≡ area
    pub same-missing : o.missing ≡ missing
    pub same_numbers : o.numbers ≡ ns

  -- or accepted, with the list that its plan leaves
  pub record Linked (o : NumberedOutcome) : Type 0 where
    pub long : number_limit ≤ length ns
    pub accepted : Accepted (by_numbers ns) ws abi c area stubs missing (but_numbers o)
    pub new_numbers : o.numbers ≡ numbers_after ws ns c accepted.coming.added

  pub ends : Left done ⊎ Linked done
  unfolding link_numbered link_by numbers_short
  ends =
      by (ltb (length ns) number_limit) (λ t. rw t (inl (record { number = omega arith; same_set = refl; same_area = refl; same-missing = refl; same_numbers = refl })))
      (λ t.
      rw t
      (elim (link-cases (by_numbers ns) ws abi c area stubs missing) [
        | inl r ↦ inl (record {
          number = r.number;
          same_set = r.same_set;
          same_area = r.same_area;
          same-missing = r.same-missing;
          same_numbers = rw (ne_eqb judged.outcome.refusal 0 r.number);
        })
        | inr a ↦ inr (record { long = ltb-false (length ns) number_limit t; accepted = a; new_numbers = rw (a.number, a.comes) })
      ]))

  pub link_faithful : Faithful ws abi ns → Faithful done.outcome.set abi done.numbers
  link_faithful f =
      elim ends [
        | inl r ↦ rw (r.same_set, r.same_numbers) f
        | inr a ↦ rw a.new_numbers (linked_faithful (by_numbers ns) ws abi c area stubs missing (but_numbers done) a.accepted ns f)
      ]

  -- an accepted one adds nothing and leaves the list, or adds some
  abbrev Kept : List Taken → Type 0
  Kept xs = (xs ≡ []) × (done.numbers ≡ ns)

  abbrev Grown : List Taken → Type 0
  Grown xs = (is_none (members xs) ≡ false) × Carries ws c xs ns done.numbers

  carries_by : number_limit ≤ length ns → (acc : Accepted (by_numbers ns) ws abi c area stubs missing (but_numbers done)) → (xs : List Taken)
      → acc.coming.added ≡ xs → done.numbers ≡ numbers_after ws ns c xs → Kept xs ⊎ Grown xs
  unfolding numbers_after
  carries_by l acc xs e g =
      by (is_none (members xs)) (λ t. inl (none_added xs t, g ∙ rw t))
      (λ t.
      let u : is_none (members acc.coming.added) ≡ false = rw e t in
      let m = origins.listed (by_numbers ns) ws abi c area stubs missing (but_numbers done) acc in
      let r = origins.room (by_numbers ns) ws abi c area stubs missing (but_numbers done) acc u in
      let n : length acc.coming.added ≡ length xs = ap (λ (ys : List Taken). length ys) e in
      inr (t, rw g (carries ws ns c xs t m (omega (arith, r, n)) l)))

  -- so the list stays as long as it was
  pub numbers_long : length done.numbers ≡ length ns
  numbers_long =
      elim ends [
        | inl r ↦ ap length r.same_numbers
        | inr a ↦ elim (carries_by a.long a.accepted a.accepted.coming.added refl a.new_numbers) [ inl k ↦ ap length k.1 | inr g ↦ g.1.many ]
      ]

  kept_or-grown : (p : Plan) → plan (by_numbers ns) ws (text_of ws) abi (abi_text_of abi) area c ≡ planned p → done.outcome.refusal ≡ 0
      → Kept p.added ⊎ Grown p.added
  kept_or-grown p e z =
      elim ends [
        | inl r ↦ absurd (r.number z)
        | inr a ↦
            let r : a.accepted.coming.added ≡ p.added = ap (λ (x : Plan). x.added) (ap (plan_of p) (sym a.accepted.comes ∙ e)) in
            carries_by a.long a.accepted p.added r (a.new_numbers ∙ ap (numbers_after ws ns c) r)
      ]

  pub link_leaves : (p : Plan) → plan (by_numbers ns) ws (text_of ws) abi (abi_text_of abi) area c ≡ planned p → done.outcome.refusal ≡ 0
      → p.added ≡ [] → done.numbers ≡ ns
  unfolding members
  link_leaves p e z none =
      elim (kept_or-grown p e z) [
        | inl k ↦ k.1
        | inr g ↦ absurd (true≢false (rw none at g.0))
      ]

  pub link_carries : (p : Plan) → plan (by_numbers ns) ws (text_of ws) abi (abi_text_of abi) area c ≡ planned p → done.outcome.refusal ≡ 0
      → p.added ≢ [] → Carries ws c p.added ns done.numbers
  link_carries p e z some = elim (kept_or-grown p e z) [ inl k ↦ absurd (some k.0) | inr g ↦ g.1 ]

  -- the records of added methods have the parts of their places
  signed_by : (acc : Accepted (by_numbers ns) ws abi c area stubs missing (but_numbers done)) → (xs : List Taken) → acc.coming.added ≡ xs
      → Signed ws abi c xs done.outcome.set
  unfolding place_name place_descriptor
  signed_by acc xs e =
      let each : (j : ℕ) → j < length xs
      → origins.Origin ws abi done.outcome.set (of_method (method_count ws + class_method_count ws c + j)) (get_or xs j none_taken).from =
      λ j h.
      let l : j < length acc.coming.added = rw e h in
      let z : method_count ws + class_method_count ws c + j ≡ method_count ws + (class_method_count ws c + j) = omega arith in
      rw z
      (rw e at
      (origins.added (by_numbers ns) ws abi c area stubs missing (but_numbers done) acc (some_added acc.coming.added j l) j l)) in
      record { used = λ j h. (each j h).used; name = λ j h. (each j h).name; descriptor = λ j h. (each j h).descriptor }

  pub link_signed : (p : Plan) → plan (by_numbers ns) ws (text_of ws) abi (abi_text_of abi) area c ≡ planned p → done.outcome.refusal ≡ 0
      → Signed ws abi c p.added done.outcome.set
  link_signed p e z =
      elim ends [
        | inl r ↦ absurd (r.number z)
        | inr a ↦ signed_by a.accepted p.added (ap (λ (x : Plan). x.added) (ap (plan_of p) (sym a.accepted.comes ∙ e)))
      ]

  pub link_refused : done.outcome.refusal ≢ 0 → done.numbers ≡ ns
  link_refused n = elim ends [ inl r ↦ r.same_numbers | inr a ↦ absurd (n a.accepted.number) ]

  pub numbered_stays : done.outcome.refusal ≡ 0 → set_refusal done.outcome.set abi ≡ 0
  numbered_stays z =
      elim ends [
        | inl r ↦ absurd (r.number z)
        | inr a ↦ link-stands (by_numbers ns) ws abi c area stubs missing (but_numbers done) a.accepted
      ]

-- an ask leaves the set, whatever the list holds

asked-set : (ws : List ℕ) (w : Walk) (f : ℕ → ℕ → Outcome) (g : ℕ → Outcome) (b : Outcome) → ((n k : ℕ) → (f n k).set ≡ ws) → ((n : ℕ) → (g n).set ≡ ws)
    → b.set ≡ ws → (on_walk w f g b).set ≡ ws
asked-set ws (hit n k) f g b x y z = x n k
asked-set ws (missed n) f g b x y z = y n
asked-set ws broken f g b x y z = z

dispatched-set : (ws : List ℕ) (b : Built) (f : List Entry → Outcome) (g : ℕ → Outcome) → ((T : List Entry) → (f T).set ≡ ws) → ((n : ℕ) → (g n).set ≡ ws)
    → (on_dispatch b f g).set ≡ ws
dispatched-set ws (built T) f g x y = x T
dispatched-set ws (refused n) f g x y = y n

node-set : (same : Same) (ws abi : List ℕ) (c i : ℕ) (area stubs : List ℕ) (nodes : ℕ) → (build_node same ws abi c i area stubs nodes).set ≡ ws
unfolding build_node
node-set same ws abi c i area stubs nodes =
    dispatched-set ws (dispatch_entries same ws c (table_entries same ws (text_of ws) abi (abi_text_of abi) area i)) _ _
    (λ T. by (no_room area stubs (length T)) (λ t. rw t) (λ t. rw t)) (λ n. refl)

pub ask_leaves : (ws abi ns : List ℕ) (c i : ℕ) (area stubs : List ℕ) → (ask_numbered ws abi ns c i area stubs).set ≡ ws
unfolding ask_numbered ask_by
ask_leaves ws abi ns c i area stubs =
    by (numbers_short ns) (λ t. rw t)
    (λ t.
    by (eqb (set_refusal ws abi) 0)
    (λ u.
    by (bad_ask ws c i) (λ v. rw (t, u, v))
    (λ v.
    by (bad_area ws area) (λ x. rw (t, u, v, x))
    (λ x.
    rw (t, u, v, x)
    (asked-set ws (walk area i 64 0 (get_or area (head_place ws c) 0)) _ _ _ (λ n k. refl) (node-set (by_numbers ns) ws abi c i area stubs) refl))))
    (λ u. rw (t, u)))
