-- Laws of searches along lists that a search made. Assumes nothing.
use mathlib.Core.Path.{◌≡◌, refl, ap, ◌∙◌}
use mathlib.Core.List.{List, [], ◌∷◌}
use Prim.Native.Nat.{ℕ}
use Rattle.words.specs.Lists.{first_found, cons_found, all_found}
use Rattle.std.specs.Option.{option_or, option_and_then}
use Rattle.std.specs.Prelude.{Option, Some, None}

-- the first found along a list of what was found
pub found-cons : (g : ℕ → Option ℕ) (r : Option ℕ) (xs : List ℕ) → first_found g (cons_found r xs) ≡ option_or (option_and_then g r) (first_found g xs)
unfolding first_found
found-cons g (Some k) xs = refl
found-cons g None xs = refl

pub found_all : (g f : ℕ → Option ℕ) (xs : List ℕ) → first_found g (all_found f xs) ≡ first_found (λ x. option_and_then g (f x)) xs
unfolding first_found all_found
found_all g f [] = refl
found_all g f (x ∷ xs) = found-cons g (f x) (all_found f xs) ∙ ap (option_or (option_and_then g (f x))) (found_all g f xs)
