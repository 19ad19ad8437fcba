-- Each turn stores the words of one class, and the last class is the last turn's. Assumes nothing.
use Rattle.std.proofs.Common.{◌≡◌, arith}
use Rattle.words.proofs.FoldLaws.{stores-none, stores-turn}
use Rattle.class_sheet.specs.ClassSheet.{class_count}
use Rattle.convert.proofs.put_statics.Goals as goal

pub loop-i-init : goal.loop-i-init
loop-i-init c = stores-none _ _

pub loop-i-preserved : goal.loop-i-preserved
loop-i-preserved c = search stores-turn

pub returns : goal.returns
returns c = let n : c.loop-i.i ≡ class_count c.args.ws.now = omega arith in rw (← n) c.loop-i.invariant
