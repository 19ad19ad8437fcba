-- Rows 3 to 7 and the walk are the definition's, and each end of the walk goes on as the definition does. Assumes nothing.
use Rattle.std.proofs.Common.{ℕ, Option, refl, ap, arith}
use Rattle.std.proofs.lemmas.Result.{err_from_is_err_and}
use Rattle.area.specs.Area.{node_or_end}
use Rattle.ask.proofs.AskLaws.{ask-refused, code-asks, hit-fits, ask-hit, ask-built, ask-broken}
use Rattle.ask.proofs.ask.Goals as goal

pub returns-in_err-ask_refusal : goal.returns-in_err-ask_refusal
returns-in_err-ask_refusal c =
    let p = err_from_is_err_and c.from_residual.result c.from_residual.ensures.1 in rw (p.1, p.2) (ask-refused _ _ _ _ _ _ _ _ c.in_err-ask_refusal.ensures)

pub returns-in_err-walked : goal.returns-in_err-walked
returns-in_err-walked c =
    let p = err_from_is_err_and c.from_residual-in_err-walked.result c.from_residual-in_err-walked.ensures.1 in
    rw (p.1, p.2, c.in_err-walked.ensures.row)
    (ask-broken _ _ _ _ _ _ _ c.in_ok-ask_refusal.ensures c.head_place.ensures c.get_or-head.ensures c.in_err-walked.ensures.walked refl)

pub overflow_add-result : goal.overflow_add-result
overflow_add-result c =
    let w = c.in_ok-walked.walked in
    omega (
      arith,
      hit-fits _ _ _ _ _ c.in_ok-ask_refusal.ensures _ c.in_ok-walked.ensures.walked _ _ (ap (λ (o : Option ℕ). node_or_end o w.read) c.in-Some.is),
    )

pub build_node-requires : goal.build_node-requires
build_node-requires c = let s = code-asks _ _ _ _ _ c.in_ok-ask_refusal.ensures in (s.accepted, s.tables)

pub returns-in-Some : goal.returns-in-Some
returns-in-Some c =
    let w = c.in_ok-walked.walked in
    ask-hit _ _ _ _ _ _ _ c.in_ok-ask_refusal.ensures c.head_place.ensures c.get_or-head.ensures c.in_ok-walked.ensures.walked _ _
    (ap (λ (o : Option ℕ). node_or_end o w.read) c.in-Some.is)

-- there is none, and it is built
pub returns-in-None : goal.returns-in-None
returns-in-None c =
    let w = c.in_ok-walked.walked in
    ask-built _ _ _ _ _ _ _ c.in_ok-ask_refusal.ensures c.head_place.ensures c.get_or-head.ensures c.in_ok-walked.ensures.walked _
    (ap (λ (o : Option ℕ). node_or_end o w.read) c.in-None.is) c.build_node.ensures
