-- Tables and methods to be added that are alike (`Renumbered`) where alike methods are equal ones: they are equal. Assumes nothing.
use mathlib.Core.Path.{◌≡◌, refl, ap, ◌∙◌}
use mathlib.Core.List.{List}
use Prim.Native.Nat.{ℕ}
use Rattle.std.specs.Prelude.{Option, Some}
use Rattle.linking.specs.Signature.{Place}
use Rattle.linking.specs.Vtable.{Entry, Built, built}
use Rattle.linking.specs.Compiler.{New, Taken}
use Rattle.linking.proofs.Pairs.{Both, both, neither, Pairs, none, pair}
use Rattle.linking.proofs.Renumbered.{SameEntry, Tables, SameBuilt, both-built, both-refused}
use Rattle.linking.proofs.RenumberedCompiler.{SameTaken}

module _ {R : ℕ → ℕ → Type 0} (one : (m k : ℕ) → R m k → m ≡ k) where
  pub found_equal : {f g : Option ℕ} → Both R f g → f ≡ g
  found_equal (both {m} {k} r) = ap Some (one m k r)
  found_equal neither = refl

  pub entry_equal : (e e' : Entry) → SameEntry R e e' → e ≡ e'
  entry_equal e e' s =
      ap (λ (w : ℕ). record { word = w; method = e.method; source = e.source }) s.word
      ∙ ap (λ (m : Option ℕ). record { word = e'.word; method = m; source = e.source }) (found_equal s.method)
      ∙ ap (λ (n : Option ℕ). record { word = e'.word; method = e'.method; source = n }) s.source

  pub tables_equal : {T U : List Entry} → Tables R T U → T ≡ U
  tables_equal none = refl
  tables_equal (pair {x = e} {y = e'} {xs = T} {ys = U} s h) = rw (entry_equal e e' s, tables_equal h) refl

  pub built_equal : {b b' : Built} → SameBuilt R b b' → b ≡ b'
  built_equal (both-built h) = ap built (tables_equal h)
  built_equal both-refused = refl

module _ {P : Place → Place → Type 0} (one : (p q : Place) → P p q → p ≡ q) where
  taken_equal : (x y : Taken) → SameTaken P x y → x ≡ y
  taken_equal x y s =
      ap (λ (p : Place). record { from = p; member = x.member }) (one x.from y.from s.place)
      ∙ ap (λ (m : New). record { from = y.from; member = m }) s.member

  pub added_equal : {xs ys : List Taken} → Pairs (SameTaken P) xs ys → xs ≡ ys
  added_equal none = refl
  added_equal (pair {x = x} {y = y} {xs = xs} {ys = ys} s h) = rw (taken_equal x y s, added_equal h) refl
