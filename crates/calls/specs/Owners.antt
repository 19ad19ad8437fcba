-- Whose a method is after links and asks: "the declaring class's number" that a search answers is that of the one class whose list holds the method, also
-- in the words that a list of calls leaves, however these compare signatures and whatever a list of numbers holds. `owners` of proofs/Owners.antt proves it. Assumes nothing.
use Rattle.std.specs.Prelude.{ℕ, ◌≡◌, List, Some}
use Rattle.words.specs.Lists.{numbers, find}
use Rattle.class_sheet.specs.ClassSheet.{class_count}
use Rattle.set_rules.specs.Valid.{IsClass, Valid}
use Rattle.linking.specs.Compiler.{holds}
use Rattle.linking.specs.Whose.{Declares, MethodsApart}
use Rattle.calls.specs.Calls.{Call, Way, State, run}

pub record Owners : Type 0 where
  -- a set that rows 3 to 5 accept has no method in the lists of two classes, and whatever calls are made, accepted or refused, leave it so
  pub valid : (ws : List ℕ) → Valid ws → MethodsApart ws
  pub apart : (way : Way) (abi : List ℕ) (calls : List Call) (start : State) → MethodsApart start.set → MethodsApart (run way abi calls start).set
  -- so the class that declares a method there is the only one whose list holds it
  pub owner : (way : Way) (abi : List ℕ) (calls : List Call) (start : State) (c d m : ℕ) → Valid start.set
      → IsClass (run way abi calls start).set c → Declares (run way abi calls start).set c d m
      → find (holds (run way abi calls start).set m) (numbers 1 (class_count (run way abi calls start).set)) ≡ Some d
