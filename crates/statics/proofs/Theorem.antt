-- The theorems of specs/Statics.antt: what a link leaves, numbering and sum, and any list of calls. Assumes nothing.
use Rattle.std.proofs.Common.{◌≡◌, List, ℕ}
use Rattle.sheet.specs.Sheet.{read_class_sheet}
use Rattle.sheet.proofs.Valid.{read-valid, read-fresh}
use Rattle.statics.specs.Statics.{Start, Statics}
use Rattle.statics.proofs.Numbering.{most, counted, begins, ends}
use Rattle.statics.proofs.Linked.{linked, refused}
use Rattle.statics.proofs.Standing.{link-stand}
use Rattle.statics.proofs.Calls.{after_calls}

read : (bs out : List ℕ) → (read_class_sheet bs out).refusal ≡ 0 → Start (read_class_sheet bs out).memory
read bs out e = record {
  valid = read-valid bs out e;
  unlinked = λ c s a. (read-fresh bs out e c (s, a)).0;
  clean = λ c k. (read-fresh bs out e c k).2 ((read-valid bs out e).class c k).kind;
}

pub statics : Statics
statics = record {
  linked = linked;
  refused = refused;
  counted = counted;
  most = most;
  begins = begins;
  ends = ends;
  stand = link-stand;
  read = read;
  after_calls = λ way ws abi area missing calls start c k. after_calls ws abi start way area missing calls c k;
}
