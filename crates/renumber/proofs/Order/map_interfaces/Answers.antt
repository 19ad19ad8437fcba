-- The part from the interface words to the compiler words is mapped, which are the section. Assumes nothing.
use native.Mathlib.Omega.{arith}
use mathlib.Core.Path.{refl}
use Rattle.renumber.proofs.Writing.{interfaces-within, interfaces-over}
use Rattle.renumber.proofs.Order.map_interfaces.Goals as goal

pub slice_bounds-map_numbers-count : goal.slice_bounds-map_numbers-count
slice_bounds-map_numbers-count c =
    omega (arith, interfaces-within c.args.set.now c.requires, c.interfaces_at-at.ensures.is)

pub slice_bounds-map_numbers-start : goal.slice_bounds-map_numbers-start
slice_bounds-map_numbers-start c =
    omega (arith, interfaces-within c.args.set.now c.requires, c.interfaces_at-at.ensures.is)

pub slice_bounds-map_numbers-end : goal.slice_bounds-map_numbers-end
slice_bounds-map_numbers-end c =
    omega (arith, interfaces-within c.args.set.now c.requires)

pub returns : goal.returns
returns c =
    interfaces-over _ _ c.requires c.interfaces_at-at.ensures.is c.compilers_at-end.ensures.is c.map_numbers.ensures refl
