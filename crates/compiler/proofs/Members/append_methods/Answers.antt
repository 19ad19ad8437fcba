-- The declared methods, and then the added ones. Assumes nothing.
use Rattle.std.proofs.Common.{◌∙◌, sym}
use Rattle.growth.proofs.NewsLaws.{length-added}
use Rattle.compiler.proofs.AppendLaws.{both-appended}
use Rattle.compiler.proofs.Members.append_methods.Goals as goal

pub returns-clause-is : goal.returns-clause-is
returns-clause-is c =
    both-appended _ _ _ _ _ _ c.class_first_method-first.ensures c.method_count-own.ensures (length-added _ _ _ _ _ ∙ sym c.len.ensures.is)
    c.append_from.ensures.is c.append_from-2.ensures.is
