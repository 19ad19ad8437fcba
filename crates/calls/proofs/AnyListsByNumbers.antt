-- Calls that are each lent their own list of missing slots, by the numbers of signatures: what is proved of them by any way, or by bytes (AnyLists.antt).
-- Assumes nothing.
use mathlib.Core.Path.{◌≡◌, refl, sym, ap, ◌∙◌, subst}
use mathlib.Core.List.{List, [], ◌∷◌}
use Prim.Native.Nat.{ℕ}
use Rattle.linking.specs.Link.{Outcome}
use Rattle.matching.specs.Filling.{Faithful}
use Rattle.matching.proofs.Filling.{filling}
use Rattle.calls.specs.Calls.{Call, numbered, bytewise, State, numbers_left}
use Rattle.calls.specs.Kept.{AllAfresh, AllRight, AnswerKept}
use Rattle.calls.specs.AnyLists.{Lending, with_list, step_lent, run_lent, numbers_lent, Answered, answered_now, answered_later, with_one_list, KeptAnyLists, DemandAnyLists}
use Rattle.calls.proofs.RunsAgree.{outcomes-agree, steps-agree, next-faithful, runs_as_bytes, linked_to_bytes}
use Rattle.calls.proofs.ByNumbers.{claim-agrees, afresh-agrees}
use Rattle.calls.proofs.AnyLists.{any-stubs, one-stub_list, linked-any, demand_any_by_bytes}

module _ (abi : List ℕ) where
  lent_as_bytes : (ls : List Lending) (ns : List ℕ) (s : State) → Faithful s.set abi ns → run_lent (numbered ns) abi ls s ≡ run_lent bytewise abi ls s
  unfolding run_lent
  lent_as_bytes [] ns s f = refl
  lent_as_bytes (l ∷ ls) ns s f =
      lent_as_bytes ls (numbers_left ns abi (with_list s l.list) l.call) (step_lent (numbered ns) abi s l) (next-faithful abi ns (with_list s l.list) f l.call)
      ∙ ap (run_lent bytewise abi ls) (steps-agree abi ns (with_list s l.list) f l.call)

  lent-faithful : (ls : List Lending) (ns : List ℕ) (s : State) → Faithful s.set abi ns
      → Faithful (run_lent (numbered ns) abi ls s).set abi (numbers_lent ns abi ls s)
  unfolding run_lent numbers_lent
  lent-faithful [] ns s f = f
  lent-faithful (l ∷ ls) ns s f =
      lent-faithful ls (numbers_left ns abi (with_list s l.list) l.call) (step_lent (numbered ns) abi s l) (next-faithful abi ns (with_list s l.list) f l.call)

  answered_to_bytes : {k : Call} {first second : ℕ} (ls : List Lending) (ns : List ℕ) (s : State) → Faithful s.set abi ns
      → Answered abi k first second (numbered ns) s ls → Answered abi k first second bytewise s ls
  answered_to_bytes [] ns s f j = elim j [ ]
  answered_to_bytes (l ∷ ls) ns s f (answered_now e x y z) =
      let o = sym (outcomes-agree abi ns (with_list s l.list) f l.call) in
      answered_now e (ap (λ (o : Outcome). o.refusal) o ∙ x) (ap (λ (o : Outcome). o.first) o ∙ y) (ap (λ (o : Outcome). o.second) o ∙ z)
  answered_to_bytes {k} {first} {second} (l ∷ ls) ns s f (answered_later j) =
      answered_later
      (subst (λ (t : State). Answered abi k first second bytewise t ls) (steps-agree abi ns (with_list s l.list) f l.call)
      (answered_to_bytes ls (numbers_left ns abi (with_list s l.list) l.call) (step_lent (numbered ns) abi s l)
      (next-faithful abi ns (with_list s l.list) f l.call) j))

-- ---- THE THEOREMS

pub kept-any-lists : KeptAnyLists
kept-any-lists = record {
  any_stubs = λ way abi s unlinked ls. any-stubs abi s unlinked ls way;
  one_stub_list = λ abi ns s filled stubs unlinked ls same.
      let f = filling.fill_faithful s.set abi ns filled in
      let b = one-stub_list abi s unlinked ls stubs same in
      let e = sym (lent_as_bytes abi ls ns s f) in
      record {
        right = subst (λ (t : State). AllRight abi t stubs) e b.right;
        answers = λ c i place nodes j.
            subst (λ (t : State). AnswerKept abi stubs t c i place) e (b.answers c i place nodes (answered_to_bytes abi ls ns s f j));
        afresh = afresh-agrees abi (numbers_lent ns abi ls s) (run_lent (numbered ns) abi ls s) (lent-faithful abi ls ns s f) stubs
            (subst (λ (t : State). AllAfresh bytewise abi t stubs) e b.afresh);
      };
}

pub demand-any-lists : DemandAnyLists
demand-any-lists = record {
  linked = linked-any;
  claim = λ abi ns s filled list unlinked ls c place slots j k.
      let f = filling.fill_faithful s.set abi ns filled in
      claim-agrees s.set abi s.area list ns f (with_one_list s.set ls) c place slots
      (runs_as_bytes abi (with_one_list s.set ls) ns (with_list s list) f)
      (demand_any_by_bytes abi s list unlinked ls c place slots (linked_to_bytes abi (with_one_list s.set ls) ns (with_list s list) f j) k);
}
