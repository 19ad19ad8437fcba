-- The theorems of specs/Matching.antt. Assumes nothing.
use Rattle.matching.specs.Matching.{Matching}
use Rattle.matching.proofs.Agrees.{link_agrees, ask_agrees, entries-agree, declared-agrees, class-agrees}
use Rattle.matching.proofs.Numbered.{link_numbered_agrees, ask_numbered_agrees, link_faithful, link_matched, ask_matched, link_short, ask_short, link_leaves, link_carries, link_signed, link_refused, numbered_stays, ask_leaves}
use Rattle.matching.proofs.Stays.{link_stays}

pub matching : Matching
matching = record {
  link_agrees = link_agrees;
  ask_agrees = ask_agrees;
  entries_agree = entries-agree;
  declared_agrees = declared-agrees;
  class_agrees = class-agrees;
  link_numbered_agrees = link_numbered_agrees;
  ask_numbered_agrees = ask_numbered_agrees;
  link_faithful = λ ws abi ns f c area stubs missing. link_faithful ws abi ns c area stubs missing f;
  link_matched = link_matched;
  ask_matched = ask_matched;
  link_short = link_short;
  ask_short = ask_short;
  link_leaves = link_leaves;
  link_carries = link_carries;
  link_signed = link_signed;
  link_refused = link_refused;
  link_stays = link_stays;
  numbered_stays = numbered_stays;
  ask_leaves = ask_leaves;
}
