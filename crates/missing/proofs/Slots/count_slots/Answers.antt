-- A turn counts one more bit. Assumes nothing.
use Rattle.std.proofs.Common.{arith}
use Rattle.linking.specs.Counts.{parent_bit}
use Rattle.missing.proofs.BitLaws.{bits-length, count-start, count_turn, count-end}
use Rattle.missing.proofs.Slots.count_slots.Goals as goal

pub loop-i-init : goal.loop-i-init
loop-i-init c = record { small = omega arith; whole = count-start _ }

pub loop-i-preserved : goal.loop-i-preserved
loop-i-preserved c =
    let s = c.args.self in
    let all = bits-length (parent_bit s.missing.now s.parent) s.words.now s.marks.now s.n in
    record {
      small = omega arith;
      whole = count_turn _ c.loop-i.i c.loop-i.count (omega (arith, all)) c.bit_at-count.ensures.is c.loop-i.invariant.whole;
    }

pub returns : goal.returns
returns c =
    let s = c.args.self in
    let all = bits-length (parent_bit s.missing.now s.parent) s.words.now s.marks.now s.n in
    count-end _ c.loop-i.i c.loop-i.count (omega (arith, all)) c.loop-i.invariant.whole
