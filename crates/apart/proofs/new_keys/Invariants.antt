-- The list has the keys of the classes before c, and no two are the same. Assumes nothing.
use Rattle.std.proofs.Common.{◌≡◌, ◌-◌, ◌+◌, ◌≤◌, true}
use Rattle.words.specs.Folds.{all_of, table}
use Rattle.class_sheet.specs.ClassSheet.{class_count}
use Rattle.apart.specs.Seen.{key_at, new_key}
use Rattle.apart.proofs.new_keys.Given as goal

abbrev pub invariant-loop-c : goal.invariant-loop-c
invariant-loop-c l = record {
  near : l.c ≤ class_count l.ws + 1;
  keys : l.keys ≡ table (l.c - 1) (key_at l.ws l.text);
  new : all_of (l.c - 1) (new_key l.ws l.text) ≡ true;
}
