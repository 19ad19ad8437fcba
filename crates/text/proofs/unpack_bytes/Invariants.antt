-- The invariant: bytes `start` to i are stored and no others. Assumes nothing.
use Rattle.std.proofs.Common.{◌≡◌, ◌-◌, ◌≤◌}
use Rattle.text.specs.Text.{text_stores}
use Rattle.text.proofs.unpack_bytes.Given as goal

abbrev pub invariant-loop-i : goal.invariant-loop-i
invariant-loop-i l = record {
  far : l.i - l.start ≤ l.end - l.start;
  stored : l.text ≡ text_stores l.ws l.start (l.i - l.start) l.initial.text;
}
