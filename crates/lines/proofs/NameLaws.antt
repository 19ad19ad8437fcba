-- Laws of the fixed slot of an index, along a class's chain. Assumes nothing.
use mathlib.Core.Path.{◌≡◌}
use mathlib.Core.List.{List}
use Prim.Native.Nat.{ℕ, ◌<◌}
use Rattle.std.specs.Prelude.{Some, None}
use Rattle.linking.specs.Chain.{parent_of}
use Rattle.linking.proofs.ChainLaws.{along-none, along-hit, along-up}
use Rattle.lines.specs.Lines.{own_slot, fixed_slot}

module _ (ws text abi labels : List ℕ) where
  module _ (c i : ℕ) where
    pub slot-none : c ≡ 0 → fixed_slot ws text abi labels c i ≡ None
    unfolding fixed_slot
    slot-none e = along-none (own_slot ws text abi labels i) ws c e

    pub slot-hit : (s : ℕ) → 0 < c → own_slot ws text abi labels i c ≡ Some s → fixed_slot ws text abi labels c i ≡ Some s
    unfolding fixed_slot
    slot-hit s h e = along-hit (own_slot ws text abi labels i) ws c s h e

    pub slot-up : 0 < c → own_slot ws text abi labels i c ≡ None
        → fixed_slot ws text abi labels c i ≡ fixed_slot ws text abi labels (parent_of ws c) i
    unfolding fixed_slot
    slot-up h e = along-up (own_slot ws text abi labels i) ws c h e
