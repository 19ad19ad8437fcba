-- A class's turn adds its slots' indices. Assumes nothing.
use Rattle.std.proofs.Common.{◌≤◌, length, refl, arith}
use lib.ListN.{drop_of_length-le}
use Rattle.vtable.proofs.FixedLaws.{still_start, classes_left, still_turn, still_end}
use Rattle.vtable.proofs.fixed.add_classes.Goals as goal

pub loop-a-init : goal.loop-a-init
loop-a-init c = still_start _ _ _ refl

pub loop-a-preserved : goal.loop-a-preserved
loop-a-preserved c = still_turn _ _ _ (classes_left _ c.loop-a.a-index (omega arith)) c.add_class.ensures c.loop-a.invariant

pub returns : goal.returns
returns c = let h : length c.args.abis.now ≤ c.loop-a.a-index = omega arith in still_end _ _ _ (drop_of_length-le _ h) c.loop-a.invariant
