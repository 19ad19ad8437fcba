-- A class whose key stands among those before it ends the loop; any other key is pushed. Assumes nothing.
use Rattle.std.proofs.Common.{◌≡◌, ◌+◌, ◌-◌, ◌<◌, ap, not, ◌∙◌, arith}
use Rattle.words.specs.Folds.{table}
use Rattle.words.proofs.FoldLaws.{all_none, all-turn}
use Rattle.class_sheet.specs.ClassSheet.{class_limit}
use Rattle.apart.proofs.Laws.{key_found, key_at_lem, key-pushed, new_key_lem, new-past, new-stop, new-done}
use Rattle.apart.proofs.new_keys.Goals as goal

pub returns-then-n-gt-CLASS_LIMIT : goal.returns-then-n-gt-CLASS_LIMIT
returns-then-n-gt-CLASS_LIMIT c = new-past _ _ c.class_count-n.ensures (omega arith)

pub loop-c-init : goal.loop-c-init
unfolding table
loop-c-init c = record { near = omega arith; keys = c.new-keys.ensures; new = all_none _ }

-- the key was there
pub returns-then-contains : goal.returns-then-contains
returns-then-contains c =
    let z : c.loop-c.c - 1 + 1 ≡ c.loop-c.c = omega arith in
    let key = key_at_lem c.args.ws.now c.args.text.now (c.loop-c.c - 1) (rw z c.class_name.ensures) c.name_key-key.ensures in
    new-stop _ _ (c.loop-c.c - 1) _ c.class_count-n.ensures (omega arith)
    (new_key_lem _ _ (c.loop-c.c - 1) (c.as_slice.ensures.is ∙ c.loop-c.invariant.keys) key (c.contains.ensures.value ∙ key_found _ _))
    c.if-contains.true

-- it was not, and is pushed
pub loop-c-preserved : goal.loop-c-preserved
loop-c-preserved c =
    let i = c.loop-c.invariant in
    let z : c.loop-c.c - 1 + 1 ≡ c.loop-c.c = omega arith in
    let y : c.loop-c.c + 1 - 1 ≡ c.loop-c.c - 1 + 1 = omega arith in
    let key = key_at_lem c.args.ws.now c.args.text.now (c.loop-c.c - 1) (rw z c.class_name.ensures) c.name_key-key.ensures in
    let room : c.loop-c.c - 1 < class_limit = omega arith in
    record {
      near = omega arith;
      keys = rw y (key-pushed _ _ (c.loop-c.c - 1) i.keys key room c.push.ensures);
      new =
          rw y (all-turn _ _ i.new (new_key_lem _ _ (c.loop-c.c - 1) (c.as_slice.ensures.is ∙ i.keys) key (c.contains.ensures.value ∙ key_found _ _))
          (ap not c.if-contains.false));
    }

pub returns-else-n-gt-CLASS_LIMIT : goal.returns-else-n-gt-CLASS_LIMIT
returns-else-n-gt-CLASS_LIMIT c =
    new-done _ _ (c.loop-c.c - 1) _ c.class_count-n.ensures (omega arith) (omega arith) c.loop-c.invariant.new

pub returns-else-contains : goal.returns-else-contains
returns-else-contains c =
    let i = c.loop-c.invariant in
    let z : c.loop-c.c - 1 + 1 ≡ c.loop-c.c = omega arith in
    let key = key_at_lem c.args.ws.now c.args.text.now (c.loop-c.c - 1) (rw z c.class_name.ensures) c.name_key-key.ensures in
    new-done _ _ (c.loop-c.c - 1 + 1) _ c.class_count-n.ensures (omega arith) (omega arith)
    (all-turn _ _ i.new (new_key_lem _ _ (c.loop-c.c - 1) (c.as_slice.ensures.is ∙ i.keys) key (c.contains.ensures.value ∙ key_found _ _))
    (ap not c.if-contains.false))
