-- Each class's ABI class goes behind those so far, nearest first, as far as there is room. Assumes nothing.
use Rattle.std.proofs.Common.{arith, ◌∙◌}
use native.Mathlib.Nat.{pos_of_ne-zero}
use Rattle.linking.proofs.ChainLaws.{parent_below}
use Rattle.abi.proofs.Laws.{push_turn, push_none, push_end, pushed-few}
use Rattle.abi.proofs.+push_chain.Goals as goal
use Rattle.abi.proofs.+push_chain.Goals.{in-Some, in_default}

-- the chain's end
pub returns-then-c-eq0 : goal.returns-then-c-eq0
returns-then-c-eq0 t c = push_end _ _ _ c.requires c.if-c-eq0.true

-- the parent's number is smaller
pub push_chain-requires : goal.push_chain-requires
push_chain-requires t c =
    let less = parent_below c.args.sheets.set.now c.args.c (pos_of_ne-zero c.if-c-eq0.false) in
    elim c.match-class_abi.branch [
      | in-Some w ↦ (omega (arith, less, c.parent_of.ensures), rw w.classes-is (pushed-few _ w.push.ensures))
      | in_default w ↦ (omega (arith, less, c.parent_of.ensures), rw w.classes-is c.requires)
    ]

-- the class's own ABI class, if it has one, and then its ancestors'
pub returns : goal.returns
returns t c =
    let some = pos_of_ne-zero c.if-c-eq0.false in
    elim c.match-class_abi.branch [
      | in-Some w ↦
          c.push_chain.ensures
          ∙ push_turn _ _ _ _ some c.class_abi.ensures c.parent_of.ensures (rw (w.classes-is, w.in-Some.is) w.push.ensures)
      | in_default w ↦
          c.push_chain.ensures
          ∙ push_turn _ _ _ _ some c.class_abi.ensures c.parent_of.ensures (rw (w.classes-is, w.in_default.is) (push_none c.requires))
    ]
