-- A place of another key is no twin, and one of the same key is by its parts. Assumes nothing.
use Rattle.std.proofs.Common.{ℕ, ◌∙◌, sym, ap, get_or, rules, arith}
use Rattle.signatures.proofs.KeyLaws.{other_key, by_parts}
use Rattle.signatures.proofs.SearchLaws.{number_none, number-found}
use Rattle.signatures.proofs.number_at.Goals as goal

pub returns-then-not-is_used : goal.returns-then-not-is_used
returns-then-not-is_used c = search number_none

pub returns : goal.returns
returns c =
    let u = sym c.is_used.ensures ∙ c.if-not-is_used.false in
    number-found _ _ _ c.requires.0 c.requires.1 _ u c.requires.2 (c.from-first.ensures ∙ ap (λ (b : ℕ). get_or c.args.firsts.now b 0) c.bucket_of.ensures.is)
    (c.find_in.ensures _ _ (omega arith) (λ i r l post. search (rules, other_key _ _ c.requires.0 _ u c.requires.2, by_parts)))
    c.unwrap_or.ensures
