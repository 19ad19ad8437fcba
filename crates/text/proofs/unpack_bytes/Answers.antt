-- A turn stores one byte more. Assumes nothing.
use Rattle.std.proofs.Common.{arith}
use Rattle.text.proofs.Laws.{text-byte, bytes-start, bytes-turn, bytes-done}
use Rattle.text.proofs.unpack_bytes.Goals as goal

pub loop-i-init : goal.loop-i-init
loop-i-init c = record { far = omega arith; stored = bytes-start _ _ _ }

pub loop-i-preserved : goal.loop-i-preserved
loop-i-preserved c = record {
  far = omega arith;
  stored = bytes-turn _ _ _ _ (omega arith) c.put.ensures c.loop-i.invariant.stored (text-byte _ _ c.get_or.ensures c.byte_of.ensures);
}

pub returns : goal.returns
returns c = bytes-done _ _ _ c.loop-i.i _ c.loop-i.invariant.stored (omega arith) (omega arith)
