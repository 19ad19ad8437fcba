-- Declared methods first, then added ones, then those of the native view. Assumes nothing.
use Rattle.std.proofs.Common.{sym, ◌∙◌}
use Rattle.growth.proofs.NewsLaws.{length-added}
use Rattle.compiler.proofs.EntryLaws.{match_own, match_added, match_view}
use Rattle.compiler.proofs.Members.match_target.Goals as goal

pub returns-in-Some : goal.returns-in-Some
returns-in-Some c =
    let p = match_own _ _ _ _ _ c.class_first_method-first.ensures c.method_count-count.ensures c.target_in.ensures _ c.in-Some.is in
    record { is = p.0; marked = p.1 }

pub returns-in-Some-target_in : goal.returns-in-Some-target_in
returns-in-Some-target_in c =
    let p =
    match_added _ _ _ _ _ c.class_first_method-first.ensures c.method_count-count.ensures c.target_in.ensures c.in_default.is
    (length-added _ _ _ _ _ ∙ sym c.len.ensures.is) c.target_in-2.ensures _ c.len.ensures.few c.in-Some-target_in.is in
    record { is = p.0; marked = p.1 }

pub returns : goal.returns
returns c = record {
  is = match_view _ _ _ _ _ c.class_first_method-first.ensures c.method_count-count.ensures c.target_in.ensures c.in_default.is
      (length-added _ _ _ _ _ ∙ sym c.len.ensures.is) c.target_in-2.ensures c.in_default-target_in.is c.view_target.ensures.is;
  marked = c.view_target.ensures.marked;
}
