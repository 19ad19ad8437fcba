-- Alike methods of two sets (`Renumbered`), in an ask: alike interface entries take alike implementations, or row 16 refuses both. Assumes nothing.
use mathlib.Core.Path.{refl}
use mathlib.Core.Bool.{◌&&◌}
use mathlib.Core.List.{List}
use Prim.Native.Nat.{ℕ}
use Rattle.std.specs.Prelude.{Option, None}
use Rattle.class_sheet.specs.ClassSheet.{method_flags}
use Rattle.linking.specs.Signature.{Same, Place, of_method}
use Rattle.linking.specs.Chain.{on_found, chain, is_virtual}
use Rattle.linking.specs.Vtable.{Entry, Built}
use Rattle.linking.specs.Ask.{own_implementation, implementation, dispatch_entry, cons_entry, dispatch_entries}
use Rattle.linking.proofs.Pairs.{Both, both, neither, none, pair, pairs-append, pairs-find, both_first}
use Rattle.linking.proofs.Renumbered.{SameEntry, Tables, SameBuilt, both-built, both-refused, Keeps, same-method, SameChain}

module _ {same same' : Same} {P : Place → Place → Type 0} {ws text ws' text' abi labels : List ℕ} {R : ℕ → ℕ → Type 0}
    (keeps : Keeps same same' P ws text ws' text' abi labels R) where
  cons_same : {a b a' b' : Built} → SameBuilt R a a' → SameBuilt R b b' → SameBuilt R (cons_entry a b) (cons_entry a' b')
  cons_same (both-built h) (both-built g) = both-built (pairs-append h g)
  cons_same (both-built h) both-refused = both-refused
  cons_same both-refused g = both-refused

  module _ (c : ℕ) (s : SameChain keeps c) where
    implementation-same : (m k : ℕ) → R m k → Both R (implementation same ws c m) (implementation same' ws' c k)
    unfolding implementation own_implementation
    implementation-same m k r =
        rw (← s.along)
        (both_first R (own_implementation same ws (of_method m)) (own_implementation same' ws' (of_method k)) (chain ws c)
        (λ d i.
        pairs-find (λ n. is_virtual (method_flags ws n) && same (of_method n) (of_method m))
        (λ n. is_virtual (method_flags ws' n) && same' (of_method n) (of_method k))
        (λ n l t. rw (keeps.alike.flags n l t, same-method keeps n l m k t r)) (s.class d i).own))

    found-same : {f f' g g' : Option ℕ} (e e' : Entry) → SameEntry R e e' → Both R f f' → Both R g g'
        → SameBuilt R (dispatch_entry ws e f g) (dispatch_entry ws' e' f' g')
    found-same e e' h (both r) (both {m} {k} t) = both-built (pair (record { word = keeps.alike.target m k t; method = both t; source = refl }) none)
    found-same e e' h (both r) neither = both-refused
    found-same e e' h neither g = both-built (pair h none)

    entry-same : (e e' : Entry) → SameEntry R e e'
        → SameBuilt R (dispatch_entry ws e e.method (on_found e.method (implementation same ws c) None))
        (dispatch_entry ws' e' e'.method (on_found e'.method (implementation same' ws' c) None))
    entry-same e e' h = found-same e e' h h.method (on_found_lem h.method)
      where
        on_found_lem : {f f' : Option ℕ} → Both R f f' → Both R (on_found f (implementation same ws c) None) (on_found f' (implementation same' ws' c) None)
        on_found_lem (both {m} {k} r) = implementation-same m k r
        on_found_lem neither = neither

    pub dispatch_same : {T U : List Entry} → Tables R T U → SameBuilt R (dispatch_entries same ws c T) (dispatch_entries same' ws' c U)
    unfolding dispatch_entries
    dispatch_same none = both-built none
    dispatch_same (pair {x = e} {y = e'} h hs) = cons_same (entry-same e e' h) (dispatch_same hs)
