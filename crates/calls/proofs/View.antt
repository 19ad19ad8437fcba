-- Chains, methods and class names go by the sheet at the list's start: they are the same in the words that calls left, and so are the own methods of a
-- class whose list is left. Assumes nothing.
use Rattle.std.proofs.Common.{◌≡◌, refl, ap, List, ◌∷◌, ℕ, zero, suc, ◌+◌, ◌≤◌, ◌<◌, arith, length}
use mathlib.Core.List.{Memᴰ}
use Rattle.words.proofs.ListLaws.{numbers-within}
use Rattle.text.specs.Text.{name_at, name_start_word, name_length_word}
use Rattle.class_sheet.specs.ClassSheet.{parent_word, class_count, method_count, text_of, class_first_method, class_method_count, class_name, method_name, method_descriptor, method_flags, method_target, method_limit}
use Rattle.set_rules.specs.Valid.{Valid}
use Rattle.linking.specs.Chain.{list_count, own_methods, parent_of, chain_of, chain}
use Rattle.linking.specs.Abi.{class_abi}
use Rattle.linking.proofs.ChainLaws.{parent-within, chain-within}
use Rattle.linking.proofs.Appended.{name-front}
use Rattle.linking.proofs.Rebuilt.{Unmoved}
use Rattle.calls.proofs.Like.{Alike}

-- the classes of a chain, and their own methods, are of the sheet

pub chain-class : (ws : List ℕ) (c d : ℕ) → c ≤ class_count ws → Memᴰ d (chain ws c) → (1 ≤ d) × (d ≤ class_count ws)
chain-class ws c d a i = let w = chain-within ws c d i in (omega arith, omega arith)

pub own_below : (ws : List ℕ) → Valid ws → (d : ℕ) → 1 ≤ d → d ≤ class_count ws → (m : ℕ) → Memᴰ m (own_methods ws d) → m < method_count ws
unfolding own_methods
own_below ws valid d s a m i =
    let v = (valid.class d (s, a)).methods in
    omega (arith, numbers-within (class_first_method ws d) (list_count (class_first_method ws d) (class_method_count ws d) method_limit) m i)

module _ (old new : List ℕ) (valid : Valid old) (like : Alike old new) where
  -- ---- names

  pub name-same : (start len : ℕ) → start + len ≤ length (text_of old) → name_at (text_of new) start len ≡ name_at (text_of old) start len
  name-same start len h = rw like.text (name-front (text_of old) like.more start len h)

  pub class-name : (c : ℕ) → 1 ≤ c → c ≤ class_count old → class_name new (text_of new) c ≡ class_name old (text_of old) c
  class-name c s a =
      let p = (valid.class c (s, a)).name.inside in
      rw (like.word c name_start_word s a (omega arith), like.word c name_length_word s a (omega arith)) (name-same _ _ p)

  module _ (m : ℕ) (h : m < method_count old) where
    pub method-name : method_name new (text_of new) m ≡ method_name old (text_of old) m
    method-name =
        let p = (valid.method m h).name.inside in
        rw (like.method m 0 h (omega arith), like.method m 1 h (omega arith)) (name-same _ _ p)

    pub method-descriptor : method_descriptor new (text_of new) m ≡ method_descriptor old (text_of old) m
    method-descriptor =
        let p = (valid.method m h).descriptor.inside in
        rw (like.method m 2 h (omega arith), like.method m 3 h (omega arith)) (name-same _ _ p)

    pub method-flags : method_flags new m ≡ method_flags old m
    method-flags = like.method m 4 h (omega arith)

    pub method-target : method_target new m ≡ method_target old m
    method-target = like.method m 5 h (omega arith)

  -- ---- parents and chains

  pub parent-same : (c : ℕ) → 1 ≤ c → c ≤ class_count old → parent_of new c ≡ parent_of old c
  unfolding parent_of
  parent-same c s a = rw (like.word c parent_word s a (omega arith))

  chain-of-same : (k c : ℕ) → c ≤ class_count old → chain_of new k c ≡ chain_of old k c
  unfolding chain_of
  chain-of-same zero c a = refl
  chain-of-same (suc k) zero a = refl
  chain-of-same (suc k) (suc c) a =
      let w = parent-within old (suc c) in
      rw (parent-same (suc c) (omega arith) a) (ap (λ (l : List ℕ). suc c ∷ l) (chain-of-same k (parent_of old (suc c)) (omega arith)))

  pub chain_same : (c : ℕ) → c ≤ class_count old → chain new c ≡ chain old c
  unfolding chain
  chain_same c a = chain-of-same c c a

  -- ---- a class's own methods

  pub own_same : (d : ℕ) → Unmoved old new d → own_methods new d ≡ own_methods old d
  unfolding own_methods
  own_same d u = rw (u.first, u.many)

  -- ---- its ABI entry

  pub class-abi : (abi labels : List ℕ) (c : ℕ) → 1 ≤ c → c ≤ class_count old
      → class_abi new (text_of new) abi labels c ≡ class_abi old (text_of old) abi labels c
  unfolding class_abi
  class-abi abi labels c s a = rw (class-name c s a)
