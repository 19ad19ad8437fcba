-- No ABI class before the i-th fixes an index: the distance is i and what it is from there on. Assumes nothing.
use Rattle.std.proofs.Common.{◌≡◌}
use Rattle.linking.specs.Signature.{of_method, by_numbers}
use Rattle.linking.specs.Vtable.{distance_of}
use Rattle.abi.proofs.Laws.{distance_from}
use Rattle.abi.proofs.distance_of.Given as goal

abbrev pub invariant-loop-i : goal.invariant-loop-i
invariant-loop-i l =
    distance_from (by_numbers l.sheets.numbers.now) l.sheets.abi.now (of_method l.m) l.abis l.i
    ≡ distance_of (by_numbers l.sheets.numbers.now) l.sheets.abi.now l.abis l.m
