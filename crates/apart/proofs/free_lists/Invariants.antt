-- The marks are those of the classes before c, whose lists were free when their turn came. Assumes nothing.
use Rattle.std.proofs.Common.{◌≡◌, ◌-◌, ◌+◌, ◌≤◌, true}
use Rattle.words.specs.Folds.{all_of}
use Rattle.class_sheet.specs.ClassSheet.{class_count}
use Rattle.apart.specs.Seen.{marks_after, method_start, method_total, field_start, field_total, free_class}
use Rattle.apart.proofs.free_lists.Given as goal

abbrev pub invariant-loop-c : goal.invariant-loop-c
invariant-loop-c l = record {
  near : l.c ≤ class_count l.ws + 1;
  methods : l.methods ≡ marks_after (method_start l.ws) (method_total l.ws) l.initial.methods (l.c - 1);
  fields : l.fields ≡ marks_after (field_start l.ws) (field_total l.ws) l.initial.fields (l.c - 1);
  free : all_of (l.c - 1) (free_class l.ws l.initial.methods l.initial.fields) ≡ true;
}
