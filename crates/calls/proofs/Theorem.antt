-- DEMAND 3 (specs/Demand.antt), for every list of links and asks: from what holds after the list (Lists.antt), by what such tables have (crate
-- slots). Assumes nothing.
use Rattle.std.proofs.Common.{◌≡◌, refl, sym, ap, ◌∙◌, subst, inl, inr, ◌≢◌, false, List, [], ◌∷◌, ℕ, zero, suc, ◌≤◌, arith, length, eqb, eqb-true, None}
use mathlib.Core.List.{Memᴰ}
use borrow.Author.Tests.{eqb-false}
use Rattle.words.proofs.Bools.{by}
use Rattle.class_sheet.specs.ClassSheet.{text_of, class_count, class_slot_count, class_limit}
use Rattle.abi_sheet.specs.AbiSheet.{abi_text_of}
use Rattle.set_rules.specs.SetRules.{set_refusal}
use Rattle.set_rules.specs.Valid.{Valid}
use Rattle.set_rules.proofs.Valid.{valid}
use Rattle.linking.proofs.ChainLaws.{parent_below, chain-none}
use Rattle.linking.specs.Chain.{parent_of, chain}
use Rattle.linking.specs.Abi.{class_abi}
use Rattle.linking.specs.Packages.{bad_packages}
use Rattle.linking.specs.Link.{HasTable}
use Rattle.slots.specs.Made as tables
use Rattle.slots.specs.Slots.{OldRule, Unique, Kept}
use Rattle.slots.specs.Made.{Made}
use Rattle.slots.proofs.ListFacts.{in_none}
use Rattle.slots.proofs.ChainFacts.{chain-cases}
use Rattle.slots.proofs.ClashFacts.{orderly-calm}
use Rattle.slots.proofs.Tables.{table-unique, table_kept}
use Rattle.slots.proofs.PackageTables.{packages-kept}
use Rattle.calls.specs.Calls.{Call, link, ask, bytewise, ByBytes, State, start, step, run, Unlinked, LinkedIn, now, later, table_at, Lent}
use Rattle.calls.specs.Demand.{KeepsParent, Claim, Claimed}
use Rattle.calls.proofs.Rows.{link-cases, ask-cases}
use Rattle.calls.proofs.Tables.{table_of, none-linked}
use Rattle.calls.proofs.Runs.{Plain, plain-up, Inv, inv-start, parent-of, chain-linked₀}
use Rattle.calls.proofs.Fits.{one_rule}
use Rattle.calls.proofs.Lists.{Goes, run-goes, Answered, answered, history}

-- ---- a set that rows 3 to 5 refuse never links

module _ (ws abi : List ℕ) (bad : set_refusal ws abi ≢ 0) where
  bad-now : (s : State) → s.set ≡ ws → set_refusal s.set abi ≡ 0 → ⊥
  bad-now s e h = bad (rw e at h)

  stays-bad : (s : State) → s.set ≡ ws → (k : Call) → (step bytewise abi s k).set ≡ ws
  unfolding step
  stays-bad s e (link c stubs) =
      elim (link-cases s.set abi c s.area stubs s.missing) [ inl r ↦ r.same_set ∙ e | inr a ↦ absurd (bad-now s e a.valid) ]
  stays-bad s e (ask c i stubs) =
      elim (ask-cases s.set abi c i s.area stubs) [ inl r ↦ r.same_set ∙ e | inr a ↦ a.same_set ∙ e ]

  pub run-bad : (ks : List Call) (s : State) → s.set ≡ ws → (run bytewise abi ks s).set ≡ ws
  unfolding run
  run-bad [] s e = e
  run-bad (k ∷ ks) s e = run-bad ks (step bytewise abi s k) (stays-bad s e k)

  never : {c p n : ℕ} {s : State} {ks : List Call} → s.set ≡ ws → LinkedIn abi c p n bytewise s ks → ⊥
  never {c} {s = s} e (now stubs f g h) =
      elim (link-cases s.set abi c s.area stubs s.missing) [ inl r ↦ r.number f | inr a ↦ bad-now s e a.valid ]
  never {s = s} e (later {k = k} i) = never (stays-bad s e k) i

-- ---- the others

module _ (ws abi area missing : List ℕ) (valid₀ : Valid ws) (unlinked : Unlinked ws) where
  pub start-inv : (P : ℕ → Type 0) → Inv ws abi valid₀ P (start ws area missing)
  start-inv P = inv-start ws abi valid₀ P area missing unlinked

module _ (ws abi area missing : List ℕ) (valid₀ : Valid ws) (unlinked : Unlinked ws) (calls : List Call) where
  abbrev pub P : ℕ → Type 0
  P x = Lent x calls

  abbrev pub final : State
  final = run bytewise abi calls (start ws area missing)

  begins : Inv ws abi valid₀ P (start ws area missing)
  begins = start-inv ws abi area missing valid₀ unlinked P

  goes : Goes ws abi valid₀ P (start ws area missing) final
  goes = run-goes ws abi valid₀ P calls (start ws area missing) begins (λ x i. i)

  pub after : {c p n : ℕ} → LinkedIn abi c p n bytewise (start ws area missing) calls → Answered ws abi valid₀ P final c p n
  after i = answered ws abi valid₀ P i begins (λ x j. j)

  -- the chain of a linked class is linked
  chain-linked : (bound c : ℕ) → c ≤ bound → HasTable final.set c → Plain ws c → (d : ℕ) → Memᴰ d (chain ws c)
      → HasTable final.set d × Plain ws d
  chain-linked zero c b l p d i = absurd (omega (arith, l.some))
  chain-linked (suc bound) c b l p d i =
      let f = parent_below ws c l.some in
      elim (chain-cases ws c l.some i) [
        | inl e ↦ rw e (l, p)
        | inr j ↦
            by (eqb (parent_of ws c) 0)
            (λ t. in_none (chain-none ws (parent_of ws c) (eqb-true (parent_of ws c) 0 t)) j)
            (λ n. chain-linked bound (parent_of ws c) (omega arith) (parent-of ws abi valid₀ P goes.inv c l (eqb-false (parent_of ws c) 0 n))
            (plain-up l.some p) d j)
      ]

  -- the table that a link answered
  pub table_is : {d p n : ℕ} → LinkedIn abi d p n bytewise (start ws area missing) calls → table_of final d ≡ table_at final.area p n
  table_is {d} {p} {n} i =
      let a = after i in
      ap (λ (x : ℕ). table_at final.area x (class_slot_count final.set d)) a.place
      ∙ ap (λ (x : ℕ). table_at final.area p x) a.slots

  -- as many as the slots it answered
  pub whole_is : {d p n : ℕ} → LinkedIn abi d p n bytewise (start ws area missing) calls → length (table_at final.area p n) ≡ n
  whole_is {d} i = sym (ap length (table_is i)) ∙ goes.inv.tables.whole d (after i).linked ∙ (after i).slots

  pub chain-made : {c p n : ℕ} → LinkedIn abi c p n bytewise (start ws area missing) calls → Plain ws c
      → (d : ℕ) → Memᴰ d (chain ws c) → Made ws (text_of ws) abi (abi_text_of abi) (table_of final) P d
  chain-made {c} linked plain d i = let r = chain-linked c c (omega arith) (after linked).linked plain d i in goes.inv.made d r.0 r.1

  pub class-within : {c p n : ℕ} → LinkedIn abi c p n bytewise (start ws area missing) calls → (1 ≤ c) × (c ≤ class_count ws)
  class-within linked = ((after linked).linked.some, omega (arith, (after linked).linked.among, goes.inv.like.classes))

  -- so is its chain, in the list
  pub chain_in : {c p n : ℕ} → LinkedIn abi c p n bytewise (start ws area missing) calls → (d : ℕ) → Memᴰ d (chain ws c)
      → (place : ℕ) × (slots : ℕ) × LinkedIn abi d place slots bytewise (start ws area missing) calls
  chain_in {c} linked d i =
      elim (history ws abi valid₀ P calls (start ws area missing) begins (λ x j. j) d
      (chain-linked₀ ws abi valid₀ P goes.inv c (after linked).linked d i)) [
        | inl l ↦ absurd (none-linked unlinked l)
        | inr r ↦ (r.place, r.slots, r.found)
      ]

  -- row 26 passed it
  pub link_fits : {c p n : ℕ} → LinkedIn abi c p n bytewise (start ws area missing) calls → bad_packages ws (text_of ws) abi (abi_text_of abi) c ≡ false
  link_fits {c} linked = goes.inv.fits c (after linked).linked

  module _ (c place slots : ℕ) (linked : LinkedIn abi c place slots bytewise (start ws area missing) calls) (plain : Plain ws c)
      (conditions : tables.Conditions ws (text_of ws) abi (abi_text_of abi) P c)
      (calm : c ≤ class_limit → (d : ℕ) → Memᴰ d (chain ws c) → tables.Calm ws (text_of ws) abi (abi_text_of abi) (table_of final) d) where
    made : (d : ℕ) → Memᴰ d (chain ws c) → Made ws (text_of ws) abi (abi_text_of abi) (table_of final) P d
    made = chain-made linked plain

    within : c ≤ class_limit
    within = omega (arith, (after linked).linked.among, goes.inv.like.classes, valid₀.number_of_classes)

    unique : OldRule ws c → Unique ws (text_of ws) abi (abi_text_of abi) c (table_at final.area place slots)
    unique old =
        subst (λ (t : List ℕ). Unique ws (text_of ws) abi (abi_text_of abi) c t) (table_is linked)
        (table-unique ws (text_of ws) abi (abi_text_of abi) (table_of final) P c within old conditions made (calm within))

    -- by either rule
    both-kept : parent_of ws c ≢ 0 → class_abi ws (text_of ws) abi (abi_text_of abi) c ≡ None
        → Kept ws (text_of ws) abi (abi_text_of abi) c (table_of final c) (table_of final (parent_of ws c))
    both-kept n e =
        elim plain.kinds [
          | inl old ↦ table_kept ws (text_of ws) abi (abi_text_of abi) (table_of final) P c within old conditions made (calm within) n e
          | inr packages ↦ packages-kept ws (text_of ws) abi (abi_text_of abi) (table_of final) P c packages
              (record { nonzero = conditions.nonzero_targets; different = conditions.different_targets }) made n
        ]

    keeps_parent : parent_of ws c ≢ 0 → class_abi ws (text_of ws) abi (abi_text_of abi) c ≡ None → KeepsParent bytewise ws abi area missing calls c place slots
    keeps_parent n e =
        elim (history ws abi valid₀ P calls (start ws area missing) begins (λ x i. i) (parent_of ws c)
        (parent-of ws abi valid₀ P goes.inv c (after linked).linked n)) [
          | inl l ↦ absurd (none-linked unlinked l)
          | inr r ↦ record {
            parent_place = r.place;
            parent_slots = r.slots;
            parent_linked = r.found;
            kept = λ p m l. subst (λ (t : List ℕ). Kept ws (text_of ws) abi (abi_text_of abi) c t (table_at final.area p m)) (table_is linked)
                (subst (λ (t : List ℕ). Kept ws (text_of ws) abi (abi_text_of abi) c (table_of final c) t) (table_is l)
                (both-kept n e));
          }
        ]

    claim : Claim bytewise ws abi area missing calls c place slots
    claim = record {
      unique = unique;
      keeps_parent = keeps_parent;
      whole = whole_is linked;
      one_table = λ p n i. let a = after i in let b = after linked in (sym a.place ∙ b.place, sym a.slots ∙ b.slots);
    }

-- ---- THE THEOREM

-- a set from which a class was linked is valid
pub linked-valid : (ws abi area missing : List ℕ) (calls : List Call) (c place slots : ℕ) → LinkedIn abi c place slots bytewise (start ws area missing) calls
    → Valid ws
linked-valid ws abi area missing calls c place slots linked =
    by (eqb (set_refusal ws abi) 0)
    (λ t. (valid ws abi (eqb-true (set_refusal ws abi) 0 t)).0)
    (λ f. absurd (never ws abi (eqb-false (set_refusal ws abi) 0 f) refl linked))

enough : (ws abi area missing : List ℕ) → Unlinked ws → (calls : List Call) (c place slots : ℕ)
    → LinkedIn abi c place slots bytewise (start ws area missing) calls → Plain ws c
    → tables.Conditions ws (text_of ws) abi (abi_text_of abi) (λ x. Lent x calls) c
    → (c ≤ class_limit → (d : ℕ) → Memᴰ d (chain ws c)
    → tables.Calm ws (text_of ws) abi (abi_text_of abi) (table_of (run bytewise abi calls (start ws area missing))) d)
    → Claim bytewise ws abi area missing calls c place slots
enough ws abi area missing unlinked calls c place slots linked plain k calm =
    claim ws abi area missing (linked-valid ws abi area missing calls c place slots linked) unlinked calls c place slots linked plain k calm

-- for every class whose chain is plain and meets the conditions of Made.antt: of orderly, "each signature (name and descriptor) has one index" is
-- enough, where no class of the chain inherits two signatures of one index
pub one-index-enough : (ws abi area missing : List ℕ) → Unlinked ws → (calls : List Call) (c place slots : ℕ)
    → LinkedIn abi c place slots bytewise (start ws area missing) calls → Plain ws c
    → tables.Conditions ws (text_of ws) abi (abi_text_of abi) (λ x. Lent x calls) c
    → ((d : ℕ) → Memᴰ d (chain ws c) → tables.Calm ws (text_of ws) abi (abi_text_of abi) (table_of (run bytewise abi calls (start ws area missing))) d)
    → Claim bytewise ws abi area missing calls c place slots
one-index-enough ws abi area missing unlinked calls c place slots linked plain k calm =
    enough ws abi area missing unlinked calls c place slots linked plain k (λ within. calm)

pub demand_3_by_bytes : ByBytes Claimed
demand_3_by_bytes ws abi area missing unlinked calls c place slots linked k =
    let valid₀ = linked-valid ws abi area missing calls c place slots linked in
    let fits = link_fits ws abi area missing valid₀ unlinked calls linked in
    enough ws abi area missing unlinked calls c place slots linked
    (record { kinds = one_rule ws (text_of ws) abi (abi_text_of abi) c fits k.kinds; flags = λ d i q. k.no_interface d i })
    (record {
      one_index = k.orderly.one_index;
      nonzero_targets = k.nonzero_targets;
      different_targets = k.different_targets;
      nonzero_stubs = k.nonzero_stubs;
      no_stub = k.no_stub;
    })
    (λ within. orderly-calm ws (text_of ws) abi (abi_text_of abi) (table_of (run bytewise abi calls (start ws area missing))) c c
    (omega arith) within k.orderly)
