-- Static words that links of each kind of class leave, computed on the definitions, so that `Statics` speaks of some calls. The telling rows run
-- this list and more. Assumes nothing.
use Rattle.std.proofs.Common.{◌≡◌, refl, List, [], ◌∷◌, map, ℕ}
use Prim.Native.String.{String}
use Rattle.linking.proofs.Assemble.{Class, Lent, Member, static, unlinked, without, built, generated, array, bringing, lent, link, after, statics_of}
use Rattle.linking.proofs.Opened.{opened}

-- an interface of these fields
abbrev interface : String → List Member → Class
interface name fields =
    record { name = name; numbers = unlinked 0 513 0 0 0; methods = []; fields = fields; interfaces = []; compiled = without }

-- a class of each kind, and an interface; the child has none of its parent's static words, and the generated class brings its own
abbrev kinds : Lent
kinds =
    lent
    (built "java/lang/Object" 0 [] (static "a" "J" 0 ∷ [])
    ∷ built "C" 1 [] []
    ∷ interface "I" (static "b" "I" 0 ∷ [])
    ∷ array "[C" 1
    ∷ bringing 4000000000 (generated "G" 1 [] [] 0)
    ∷ [])
    []

abbrev five : List ℕ
five = 1 ∷ 2 ∷ 3 ∷ 4 ∷ 5 ∷ []

pub record Rows : Type 0 where
  pub of-kinds : statics_of five (after kinds (map link five)) ≡ 2 ∷ 0 ∷ 1 ∷ 0 ∷ 4000000000 ∷ []

pub rows : Rows
unfolding opened
rows = record { of-kinds = refl }
