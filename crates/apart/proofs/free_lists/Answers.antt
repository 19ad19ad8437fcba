-- A class whose lists are free marks them; at the first one whose lists are not it stops. Assumes nothing.
use Rattle.std.proofs.Common.{◌≡◌, ◌-◌, ◌+◌, true, arith}
use Rattle.words.proofs.FoldLaws.{all_none, all-turn}
use Rattle.words.proofs.Bools.{and_both}
use Rattle.apart.proofs.Laws.{after_none, after_turn, free-class, free-class-stop, free-class-done}
use Rattle.apart.proofs.free_lists.Goals as goal

pub loop-c-init : goal.loop-c-init
loop-c-init c = record { near = omega arith; methods = after_none _ _ _; fields = after_none _ _ _; free = all_none _ }

pub returns-then-not-free : goal.returns-then-not-free
returns-then-not-free c =
    let i = c.loop-c.invariant in
    let z : c.loop-c.c - 1 + 1 ≡ c.loop-c.c = omega arith in
    free-class-stop _ _ _ (c.loop-c.c - 1) _ c.class_count-c-end.ensures (omega arith)
    (free-class _ _ _ _ i.methods (rw z c.class_first_method-first_method.ensures) (rw z c.class_method_count-method_count.ensures)
    c.mark_list.ensures.is i.fields (rw z c.class_first_field-first_field.ensures) (rw z c.class_field_count-field_count.ensures)
    c.mark_list-in-loop-c.ensures.is) c.if-not-free.true

pub loop-c-preserved : goal.loop-c-preserved
loop-c-preserved c =
    let i = c.loop-c.invariant in
    let free : (c.mark_list.result ≡ true) × (c.mark_list-in-loop-c.result ≡ true) = and_both _ _ c.if-not-free.false in
    let m = c.mark_list.ensures in
    let f = c.mark_list-in-loop-c.ensures in
    let z : c.loop-c.c - 1 + 1 ≡ c.loop-c.c = omega arith in
    let y : c.loop-c.c + 1 - 1 ≡ c.loop-c.c - 1 + 1 = omega arith in
    let first_method = rw (← z) at c.class_first_method-first_method.ensures in
    let method_count = rw (← z) at c.class_method_count-method_count.ensures in
    let first_field = rw (← z) at c.class_first_field-first_field.ensures in
    let field_count = rw (← z) at c.class_field_count-field_count.ensures in
    record {
      near = omega arith;
      methods = rw y (after_turn _ _ _ _ i.methods first_method method_count (m.marks free.0));
      fields = rw y (after_turn _ _ _ _ i.fields first_field field_count (f.marks free.1));
      free =
          rw y (all-turn _ _ i.free (free-class _ _ _ _ i.methods first_method method_count m.is i.fields first_field field_count f.is)
          c.if-not-free.false);
    }

-- no class is left, and the last one's lists were free
pub returns : goal.returns
returns c = free-class-done _ _ _ (c.loop-c.c - 1) _ c.class_count-c-end.ensures (omega arith) c.loop-c.invariant.free

pub returns-else-not-free : goal.returns-else-not-free
returns-else-not-free c =
    let i = c.loop-c.invariant in
    let z : c.loop-c.c - 1 + 1 ≡ c.loop-c.c = omega arith in
    free-class-done _ _ _ (c.loop-c.c - 1 + 1) _ c.class_count-c-end.ensures (omega arith)
    (all-turn _ _ i.free (free-class _ _ _ _ i.methods (rw z c.class_first_method-first_method.ensures)
    (rw z c.class_method_count-method_count.ensures) c.mark_list.ensures.is i.fields (rw z c.class_first_field-first_field.ensures)
    (rw z c.class_field_count-field_count.ensures) c.mark_list-in-loop-c.ensures.is) c.if-not-free.false)
