-- A turn adds one more ABI field or passes it over, and without an entry there is none. Assumes nothing.
use Rattle.words.specs.Lists.{fold}
use Rattle.linking.specs.Fields.{added_fields, raised}
use Rattle.field.specs.Numbers.{members_of}
use Rattle.field.proofs.AddedLaws.{members-start, word-start, members-turn, word-turn, few-turn, members-end, word-end}
use Rattle.std.proofs.Common.{◌∙◌, arith, rules}
use Rattle.field.proofs.add_fields.Goals as goal

pub returns-in_default-clause-news : goal.returns-in_default-clause-news
unfolding added_fields members_of
returns-in_default-clause-news c = search rules

pub returns-in_default-clause-word : goal.returns-in_default-clause-word
unfolding added_fields raised fold
returns-in_default-clause-word c = search rules

pub loop-i-init : goal.loop-i-init
loop-i-init c = record { few = rw c.clear.ensures (omega arith); members = search members-start; word = search word-start }

pub loop-i-preserved : goal.loop-i-preserved
loop-i-preserved c = record {
  few = few-turn _ _ _ _ _ _ _ c.loop-i.news c.loop-i.invariant.few c.add_field-word.ensures.news;
  members = members-turn _ _ _ _ _ _ _ _ c.loop-i.news c.loop-i-test.true c.add_field-word.ensures.news ∙ c.loop-i.invariant.members;
  word = word-turn _ _ _ _ _ _ _ _ c.loop-i.word c.loop-i-test.true c.add_field-word.ensures.word ∙ c.loop-i.invariant.word;
}

pub returns-clause-news : goal.returns-clause-news
returns-clause-news c = rw c.in-Some.is (members-end _ _ _ _ _ _ _ _ c.loop-i.news c.loop-i-test.false ∙ c.loop-i.invariant.members)

pub returns-clause-word : goal.returns-clause-word
returns-clause-word c = rw c.in-Some.is (word-end _ _ _ _ _ _ _ _ c.loop-i.word c.loop-i-test.false ∙ c.loop-i.invariant.word)
