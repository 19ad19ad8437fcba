-- Places in a list, and steps up from a class: the words in which the laws of the order are stated. Assumes nothing.
use Rattle.std.specs.Prelude.{ℕ, zero, suc, ◌≤◌, ◌<◌, ◌≡◌, ◌⊎◌, ◌≢◌, cond, List, get_or, eqb}
use Rattle.class_sheet.specs.ClassSheet.{class_count, class_parent}
use Rattle.set_rules.specs.Valid.{IsClass}

-- each parent is at most the count
abbrev pub Named : List ℕ → Type 0
Named ws = (c : ℕ) → IsClass ws c → class_parent ws c ≤ class_count ws

-- c stands in the list before place i
pub record Before (l : List ℕ) (i c : ℕ) : Type 0 where
  pub place : ℕ
  pub before : place < i
  pub is : get_or l place 0 ≡ c

-- class c has no parent, or one that stands before place i
abbrev pub Settled : List ℕ → List ℕ → ℕ → ℕ → Type 0
Settled ws l i c = (class_parent ws c ≡ 0) ⊎ Before l i (class_parent ws c)

-- i steps up from c; 0, which is no class, has no parent
unfoldable pub up : List ℕ → ℕ → ℕ → ℕ
up ws zero c = c
up ws (suc i) c = cond (eqb (up ws i c) 0) 0 (class_parent ws (up ws i c))

-- two different numbers of steps up from c lead to the same class
pub record Returns (ws : List ℕ) (c : ℕ) : Type 0 where
  pub first : ℕ
  pub second : ℕ
  pub different : first ≢ second
  pub same : up ws first c ≡ up ws second c
  pub class : up ws first c ≢ 0
