-- THE THEOREMS ON LISTS OF CALLS BY THE NUMBERS OF SIGNATURES: each from the same of bytes, by `RunsAgree`. Assumes nothing.
use mathlib.Core.Path.{◌≡◌, sym, ap, ◌∙◌, subst}
use mathlib.Core.Logic.{◌⊎◌}
use mathlib.Core.List.{List}
use Prim.Native.Nat.{ℕ}
use lib.ListN.{length}
use Rattle.class_sheet.specs.ClassSheet.{text_of, class_slot_count}
use Rattle.abi_sheet.specs.AbiSheet.{abi_text_of}
use Rattle.linking.specs.Link.{Outcome, HasTable}
use Rattle.matching.specs.Filling.{Faithful}
use Rattle.slots.specs.Slots.{Unique, Kept}
use Rattle.calls.specs.Calls.{Call, ask, numbered, bytewise, State, start, outcome, numbers_run, left, table_at}
use Rattle.calls.specs.Demand.{Claim, Demand3}
use Rattle.calls.specs.KindZero.{unpackaged, SameSlots, AsKindZero, Throughout}
use Rattle.calls.specs.Missing.{Rebuilt, Counted, MissingKept, AskedCount, NoRealMethod}
use Rattle.calls.specs.Kept.{without_list, Full, AnswerKept, AllRight, AllAfresh, KeptTables, KeptAnswers, AskedAfresh, AsAsked}
use Rattle.calls.proofs.RunsAgree.{outcomes-agree, linked_to_bytes, linked_by_numbers, asked_to_bytes, faithful, left_as_bytes, left-faithful}
use Rattle.calls.proofs.Theorem.{demand_3_by_bytes}
use Rattle.calls.proofs.KindZero.{zero_by_bytes, throughout_by_bytes}
use Rattle.calls.proofs.Missing.{missing_by_bytes, asked_by_bytes}
use Rattle.calls.proofs.RealMethods.{no_real_by_bytes}
use Rattle.calls.proofs.Kept.{once-only, tables_by_bytes, answers_by_bytes, afresh_by_bytes}

-- ---- demand 3

-- the claim on one run, of the other
pub claim-agrees : (ws abi area missing ns : List ℕ) → Faithful ws abi ns → (calls : List Call) (c place slots : ℕ)
    → left (numbered ns) ws abi area missing calls ≡ left bytewise ws abi area missing calls
    → Claim bytewise ws abi area missing calls c place slots → Claim (numbered ns) ws abi area missing calls c place slots
claim-agrees ws abi area missing ns f calls c place slots e b = record {
  unique = λ o. subst (λ (s : State). Unique ws (text_of ws) abi (abi_text_of abi) c (table_at s.area place slots)) (sym e) (b.unique o);
  keeps_parent = λ n o.
      let k = b.keeps_parent n o in
      record {
        parent_place = k.parent_place;
        parent_slots = k.parent_slots;
        parent_linked = linked_by_numbers abi calls ns (start ws area missing) f k.parent_linked;
        kept = λ p m j.
            subst (λ (s : State). Kept ws (text_of ws) abi (abi_text_of abi) c (table_at s.area place slots) (table_at s.area p m)) (sym e)
            (k.kept p m (linked_to_bytes abi calls ns (start ws area missing) f j));
      };
  whole = subst (λ (s : State). length (table_at s.area place slots) ≡ slots) (sym e) b.whole;
  one_table = λ p n j. b.one_table p n (linked_to_bytes abi calls ns (start ws area missing) f j);
}

-- and back
pub claim_of_bytes : (ws abi area missing ns : List ℕ) → Faithful ws abi ns → (calls : List Call) (c place slots : ℕ)
    → left (numbered ns) ws abi area missing calls ≡ left bytewise ws abi area missing calls
    → Claim (numbered ns) ws abi area missing calls c place slots → Claim bytewise ws abi area missing calls c place slots
claim_of_bytes ws abi area missing ns f calls c place slots e b = record {
  unique = λ o. subst (λ (s : State). Unique ws (text_of ws) abi (abi_text_of abi) c (table_at s.area place slots)) e (b.unique o);
  keeps_parent = λ n o.
      let k = b.keeps_parent n o in
      record {
        parent_place = k.parent_place;
        parent_slots = k.parent_slots;
        parent_linked = linked_to_bytes abi calls ns (start ws area missing) f k.parent_linked;
        kept = λ p m j.
            subst (λ (s : State). Kept ws (text_of ws) abi (abi_text_of abi) c (table_at s.area place slots) (table_at s.area p m)) e
            (k.kept p m (linked_by_numbers abi calls ns (start ws area missing) f j));
      };
  whole = subst (λ (s : State). length (table_at s.area place slots) ≡ slots) e b.whole;
  one_table = λ p n j. b.one_table p n (linked_by_numbers abi calls ns (start ws area missing) f j);
}

pub demand_3 : Demand3
demand_3 ws abi area missing ns filled unlinked calls c place slots linked k =
    let f = faithful ws abi area missing ns filled in
    claim-agrees ws abi area missing ns f calls c place slots (left_as_bytes ws abi area missing ns filled calls)
    (demand_3_by_bytes ws abi area missing unlinked calls c place slots (linked_to_bytes abi calls ns (start ws area missing) f linked) k)

-- ---- kind 3 as kind 0

pub as_kind_zero : AsKindZero
as_kind_zero ws abi area₃ area₀ missing₃ missing₀ ns₃ ns₀ filled₃ filled₀ unlinked calls₃ calls₀ c p n q k linked₃ linked₀ premises =
    let e₃ = left_as_bytes ws abi area₃ missing₃ ns₃ filled₃ calls₃ in
    let e₀ = left_as_bytes (unpackaged ws) abi area₀ missing₀ ns₀ filled₀ calls₀ in
    let b =
    zero_by_bytes ws abi area₃ area₀ missing₃ missing₀ unlinked calls₃ calls₀ c p n q k
    (linked_to_bytes abi calls₃ ns₃ (start ws area₃ missing₃) (faithful ws abi area₃ missing₃ ns₃ filled₃) linked₃)
    (linked_to_bytes abi calls₀ ns₀ (start (unpackaged ws) area₀ missing₀) (faithful (unpackaged ws) abi area₀ missing₀ ns₀ filled₀) linked₀) premises in
    (b.0, ap (λ (s : State). table_at s.area p n) e₃ ∙ b.1 ∙ sym (ap (λ (s : State). table_at s.area q k) e₀))

pub throughout : Throughout
throughout ws abi area₃ area₀ missing₃ missing₀ ns₃ ns₀ filled₃ filled₀ unlinked calls₃ calls₀ c p n q k linked₃ linked₀ premises d i =
    let e₃ = left_as_bytes ws abi area₃ missing₃ ns₃ filled₃ calls₃ in
    let e₀ = left_as_bytes (unpackaged ws) abi area₀ missing₀ ns₀ filled₀ calls₀ in
    let f₃ = faithful ws abi area₃ missing₃ ns₃ filled₃ in
    let f₀ = faithful (unpackaged ws) abi area₀ missing₀ ns₀ filled₀ in
    let b : SameSlots bytewise bytewise ws abi area₃ area₀ missing₃ missing₀ calls₃ calls₀ d =
    throughout_by_bytes ws abi area₃ area₀ missing₃ missing₀ unlinked calls₃ calls₀ c p n q k
    (linked_to_bytes abi calls₃ ns₃ (start ws area₃ missing₃) f₃ linked₃)
    (linked_to_bytes abi calls₀ ns₀ (start (unpackaged ws) area₀ missing₀) f₀ linked₀) premises d i in
    record {
      place₃ = b.place₃;
      place₀ = b.place₀;
      slots = b.slots;
      linked₃ = linked_by_numbers abi calls₃ ns₃ (start ws area₃ missing₃) f₃ b.linked₃;
      linked₀ = linked_by_numbers abi calls₀ ns₀ (start (unpackaged ws) area₀ missing₀) f₀ b.linked₀;
      words = ap (λ (s : State). table_at s.area b.place₃ b.slots) e₃ ∙ b.words ∙ sym (ap (λ (s : State). table_at s.area b.place₀ b.slots) e₀);
    }

-- ---- the slots that are missing

pub missing-kept : MissingKept
missing-kept ws abi area missing ns filled = record {
  rebuilt = λ unlinked calls c l.
      let e = left_as_bytes ws abi area missing ns filled calls in
      subst (λ (s : State). Rebuilt abi s c) (sym e)
      ((missing_by_bytes ws abi area missing).rebuilt unlinked calls c (subst (λ (s : State). HasTable s.set c) e l));
  counted = λ unlinked calls c l.
      let e = left_as_bytes ws abi area missing ns filled calls in
      subst (λ (s : State). Counted abi s c) (sym e)
      ((missing_by_bytes ws abi area missing).counted unlinked calls c (subst (λ (s : State). HasTable s.set c) e l));
}

pub asked-count : AskedCount
asked-count ws abi area missing ns filled unlinked calls c l =
    rw (left_as_bytes ws abi area missing ns filled calls)
    (asked_by_bytes ws abi area missing unlinked calls c
    (subst (λ (s : State). HasTable s.set c) (left_as_bytes ws abi area missing ns filled calls) l))

pub no_real-method : NoRealMethod
no_real-method ws abi area missing ns filled unlinked calls c place slots linked k i h =
    rw (left_as_bytes ws abi area missing ns filled calls)
    (no_real_by_bytes ws abi area missing unlinked calls c place slots
    (linked_to_bytes abi calls ns (start ws area missing) (faithful ws abi area missing ns filled) linked) k i h)

-- ---- kept interface tables

module _ (abi ns : List ℕ) (s : State) (f : Faithful s.set abi ns) where
  asks-agree : (c i : ℕ) (stubs : List ℕ) → outcome (numbered ns) abi s (ask c i stubs) ≡ outcome bytewise abi s (ask c i stubs)
  asks-agree c i stubs = outcomes-agree abi ns s f (ask c i stubs)

  pub afresh-agrees : (stubs : List ℕ) → AllAfresh bytewise abi s stubs → AllAfresh (numbered ns) abi s stubs
  afresh-agrees stubs b c i z =
      let e = asks-agree c i stubs in
      let d = outcomes-agree abi ns (without_list s c) f (ask c i stubs) in
      let n = class_slot_count s.set i in
      subst
      (λ (x : Outcome).
      ((x.refusal ≡ 15) × Full s i)
      ⊎ ((x.refusal ≡ 0)
      × (table_at (outcome (numbered ns) abi s (ask c i stubs)).area (outcome (numbered ns) abi s (ask c i stubs)).first n ≡ table_at x.area x.first n)))
      (sym d)
      (subst
      (λ (x : Outcome).
      (((outcome bytewise abi (without_list s c) (ask c i stubs)).refusal ≡ 15) × Full s i)
      ⊎ (((outcome bytewise abi (without_list s c) (ask c i stubs)).refusal ≡ 0)
      × (table_at x.area x.first n
      ≡ table_at (outcome bytewise abi (without_list s c) (ask c i stubs)).area (outcome bytewise abi (without_list s c) (ask c i stubs)).first n)))
      (sym e) (b c i (sym (ap (λ (x : Outcome). x.refusal) e) ∙ z)))

pub kept_tables : KeptTables
kept_tables ws abi area missing ns filled stubs unlinked calls same =
    subst (λ (s : State). AllRight abi s stubs) (sym (left_as_bytes ws abi area missing ns filled calls))
    (tables_by_bytes ws abi area missing stubs unlinked calls same)

pub kept-answers : KeptAnswers
kept-answers ws abi area missing ns filled stubs unlinked calls same c i place nodes j =
    subst (λ (s : State). AnswerKept abi stubs s c i place) (sym (left_as_bytes ws abi area missing ns filled calls))
    (answers_by_bytes ws abi area missing stubs unlinked calls same c i place nodes
    (asked_to_bytes abi calls ns (start ws area missing) (faithful ws abi area missing ns filled) j))

pub asked-afresh : AskedAfresh
asked-afresh ws abi area missing ns filled stubs unlinked calls same =
    afresh-agrees abi (numbers_run ns abi calls (start ws area missing)) (left (numbered ns) ws abi area missing calls)
    (left-faithful ws abi area missing ns filled calls) stubs
    (subst (λ (s : State). AllAfresh bytewise abi s stubs) (sym (left_as_bytes ws abi area missing ns filled calls))
    (afresh_by_bytes ws abi area missing stubs unlinked calls same))

pub as_asked : AsAsked
as_asked ws abi area missing ns stubs unlinked fresh filled calls same =
    (once-only (numbered ns) ws abi area missing unlinked calls, kept_tables ws abi area missing ns filled stubs unlinked calls same)
