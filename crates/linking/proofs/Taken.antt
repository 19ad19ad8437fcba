-- The members of methods to be added: how many they are, and each of them. Assumes nothing.
use mathlib.Core.Path.{◌≡◌, refl, ap}
use mathlib.Core.List.{List, [], ◌∷◌}
use Prim.Native.Nat.{ℕ, zero, suc}
use lib.ListN.{length, get_or}
use Rattle.linking.specs.Compiler.{no_new, Taken, none_taken, members}

pub length-members : (xs : List Taken) → length (members xs) ≡ length xs
unfolding members
length-members [] = refl
length-members (x ∷ xs) = ap suc (length-members xs)

pub member_at : (xs : List Taken) (j : ℕ) → get_or (members xs) j no_new ≡ (get_or xs j none_taken).member
unfolding members
member_at [] j = refl
member_at (x ∷ xs) zero = refl
member_at (x ∷ xs) (suc j) = member_at xs j

pub no_members : members [] ≡ []
unfolding members
no_members = refl
