-- KIND 3 AS KIND 0 (specs/KindZero.antt): the sheet with each kind 3 written as 0 is the same in all else, so the old rule makes of it what it makes of
-- the methods of this one; and the two rules make the same of them (`same_tables`, crate slots). Assumes nothing.
use Rattle.std.proofs.Common.{◌≡◌, refl, sym, ap, ◌∙◌, ◌⊎◌, inl, inr, ◌≢◌, false, List, [], ◌∷◌, append-nil, ℕ, zero, suc, ◌+◌, ◌*◌, ◌-◌, ◌≤◌, ◌<◌, arith, length, get_or, drop, get_or-set_same, get_or-set_other, drop-set-lt, eqb, eqb-true, eq-eqb, Option, None}
use mathlib.Core.List.{Memᴰ}
use borrow.Author.Tests.{eqb-false}
use Rattle.words.specs.Lists.{list_from, numbers, fold, all_found}
use Rattle.words.proofs.Bools.{by}
use Rattle.class_sheet.specs.ClassSheet.{counts_width, class_width, member_width, kind_word, count_at, class_count, methods_at, fields_at, interfaces_at, compilers_at, text_at, text_of, class_word, class_kind, is_packaged, method_word}
use Rattle.abi_sheet.specs.AbiSheet.{abi_text_of}
use Rattle.set_rules.specs.Valid.{Valid}
use Rattle.linking.specs.Signature.{by_bytes}
use Rattle.linking.specs.Chain.{own_methods, chain, is_interface}
use Rattle.linking.specs.Abi.{class_abi, chain_abi, minimum_size}
use Rattle.linking.specs.Vtable.{Entry, built, extended, add_methods}
use Rattle.linking.specs.Packages.{bad_packages}
use Rattle.linking.proofs.Overriding.{chain-of-chain}
use Rattle.linking.proofs.Rebuilt.{Unmoved}
use Rattle.slots.specs.Slots.{ChainMethod}
use Rattle.slots.specs.Made.{start_from, table_from, inherited_from, made_from, Made}
use Rattle.slots.proofs.ListFacts.{inside}
use Rattle.slots.proofs.ChainFacts.{chain-here}
use Rattle.slots.proofs.FixedFacts.{signature-same}
use Rattle.slots.proofs.PackageZero.{MadeZero, Same, same_tables}
use Rattle.calls.specs.Calls.{Call, bytewise, start, Unlinked, LinkedIn, table_at}
use Rattle.calls.specs.Demand.{table, Linked}
use Rattle.calls.specs.KindZero.{as_built, unpackaged, Premises, SameWords, SameChains}
use Rattle.calls.proofs.Like.{Alike, unmoved-kind}
use Rattle.calls.proofs.View.{chain_same, chain-class}
use Rattle.calls.proofs.Build.{built-same}
use Rattle.calls.proofs.Packages.{inherited-kept}
use Rattle.calls.proofs.Tables.{table_of}
use Rattle.calls.proofs.Runs.{Plain}
use Rattle.calls.proofs.Fits.{no_interface, no_entry}
use Rattle.calls.proofs.Theorem.{P, final, table_is, whole_is, chain-made, chain_in, class-within, link_fits, linked-valid}

-- ---- the sheet with kind 0

abbrev kind_place : ℕ → ℕ
kind_place c = counts_width + class_width * (c - 1) + kind_word

step_other : (us : List ℕ) (c i : ℕ) → i ≢ kind_place c → get_or (as_built us c) i 0 ≡ get_or us i 0
unfolding as_built
step_other us c i n = by (is_packaged us c) (λ t. rw t (get_or-set_other us (kind_place c) i 0 0 n)) (λ t. rw t)

step-drop : (us : List ℕ) (c k : ℕ) → kind_place c < k → drop k (as_built us c) ≡ drop k us
unfolding as_built
step-drop us c k h = by (is_packaged us c) (λ t. rw t (drop-set-lt k us (kind_place c) 0 h)) (λ t. rw t)

step-kind : (us : List ℕ) (c : ℕ) → class_kind us c ≡ 3 → class_kind (as_built us c) c ≡ 0
unfolding as_built class_word
step-kind us c e =
    let l = inside us (kind_place c) 0 (λ z. let q : ◌≡◌ {A = ℕ} 3 0 = sym e ∙ z in omega arith) in
    rw (eq-eqb (get_or us (kind_place c) 0) 3 e) (get_or-set_same us (kind_place c) 0 0 l)

all-other : (n m : ℕ) (us : List ℕ) (i : ℕ) → ((c : ℕ) → m ≤ c → c < m + n → i ≢ kind_place c) → get_or (fold as_built us (numbers m n)) i 0 ≡ get_or us i 0
unfolding fold list_from
all-other zero m us i h = refl
all-other (suc n) m us i h =
    all-other n (m + 1) (as_built us m) i (λ c l g. h c (omega arith) (omega arith)) ∙ step_other us m i (h m (omega arith) (omega arith))

all_drop : (n m : ℕ) (us : List ℕ) (k : ℕ) → ((c : ℕ) → m ≤ c → c < m + n → kind_place c < k) → drop k (fold as_built us (numbers m n)) ≡ drop k us
unfolding fold list_from
all_drop zero m us k h = refl
all_drop (suc n) m us k h =
    all_drop n (m + 1) (as_built us m) k (λ c l g. h c (omega arith) (omega arith)) ∙ step-drop us m k (h m (omega arith) (omega arith))

all-kind : (n m : ℕ) (us : List ℕ) (c : ℕ) → 1 ≤ m → m ≤ c → c < m + n → class_kind us c ≡ 3 → class_kind (fold as_built us (numbers m n)) c ≡ 0
unfolding fold list_from class_word
all-kind zero m us c s l h e = absurd (omega arith)
all-kind (suc n) m us c s l h e =
    by (eqb c m)
    (λ t.
    let q : c ≡ m = eqb-true c m t in
    rw q
    (all-other n (m + 1) (as_built us m) (kind_place m) (λ d j g. omega arith) ∙ (unfold class_word in step-kind us m (rw q at e))))
    (λ t.
    let q = eqb-false c m t in
    all-kind n (m + 1) (as_built us m) c (omega arith) (omega arith) (omega arith)
    (step_other us m (kind_place c) (omega arith) ∙ e))

module _ (ws : List ℕ) where
  abbrev us : List ℕ
  us = unpackaged ws

  same_word_lem : (i : ℕ) → ((c : ℕ) → 1 ≤ c → c < 1 + class_count ws → i ≢ kind_place c) → get_or us i 0 ≡ get_or ws i 0
  unfolding unpackaged
  same_word_lem i h = all-other (class_count ws) 1 ws i h

  same_count : (k : ℕ) → k < counts_width → count_at us k ≡ count_at ws k
  unfolding count_at
  same_count k h = same_word_lem k (λ c l g. omega arith)

  -- every word of a class record but its kind
  same_class : (c k : ℕ) → k < class_width → k ≢ kind_word → class_word us c k ≡ class_word ws c k
  unfolding class_word
  same_class c k h n = same_word_lem (counts_width + class_width * (c - 1) + k) (λ d l g. omega arith)

  kind-zero : (c : ℕ) → 1 ≤ c → c ≤ class_count ws → class_kind ws c ≡ 3 → class_kind us c ≡ 0
  unfolding unpackaged
  kind-zero c s a e = all-kind (class_count ws) 1 ws c (omega arith) s (omega arith) e

  same-methods-at : methods_at us ≡ methods_at ws
  unfolding methods_at
  same-methods-at = rw (same_count 0 (omega arith))

  same-method : (m k : ℕ) → method_word us m k ≡ method_word ws m k
  unfolding method_word
  same-method m k = rw same-methods-at (same_word_lem (methods_at ws + member_width * m + k) (λ c l g. unfold methods_at in omega arith))

  same-text-at : text_at us ≡ text_at ws
  unfolding text_at compilers_at interfaces_at fields_at
  same-text-at =
      rw (
        same-methods-at,
        same_count 1 (omega arith),
        same_count 2 (omega arith),
        same_count 3 (omega arith),
        same_count 4 (omega arith),
      )

  text-from : (k : ℕ) → text_at ws ≡ k → (c : ℕ) → 1 ≤ c → c < 1 + class_count ws → kind_place c < k
  unfolding text_at compilers_at interfaces_at fields_at methods_at
  text-from k e c l g = omega arith

  same_text : text_of us ≡ text_of ws
  same_text =
      let d : drop (text_at ws) us ≡ drop (text_at ws) ws =
      unfold unpackaged in all_drop (class_count ws) 1 ws (text_at ws) (text-from (text_at ws) refl) in
      rw (same-text-at, d, same_count 5 (omega arith))

  pub unpackaged-alike : Alike ws us
  unpackaged-alike = record {
    classes = same_count 0 (omega arith);
    word = λ c k s a h. same_class c k (omega arith) (omega arith);
    listed = λ c k s a n g h. same_class c k (omega arith) (omega arith);
    method = λ m k h l. same-method m k;
    more = [];
    text = same_text ∙ sym (append-nil (text_of ws));
  }

-- ---- without ABI entries the old rule adds a class's methods to its parent's entries as they are

module _ (ws text abi labels : List ℕ) where
  none_found : (f : ℕ → Option ℕ) (xs : List ℕ) → ((x : ℕ) → Memᴰ x xs → f x ≡ None) → all_found f xs ≡ []
  unfolding all_found
  none_found f [] h = refl
  none_found f (x ∷ xs) h = rw (h x (Memᴰ.head refl)) (none_found f xs (λ y i. h y (Memᴰ.tail i)))

  no_abis : (c : ℕ) → ((d : ℕ) → Memᴰ d (chain ws c) → class_abi ws text abi labels d ≡ None) → chain_abi ws text abi labels c ≡ []
  unfolding chain_abi
  no_abis c h = rw (none_found (class_abi ws text abi labels) (chain ws c) (λ d i. h d i))

  start_is : (c : ℕ) (Q : List Entry) → 0 < c → ((d : ℕ) → Memᴰ d (chain ws c) → class_abi ws text abi labels d ≡ None)
      → start_from ws text abi labels c Q ≡ Q
  unfolding start_from extended minimum_size fold
  start_is c Q s h =
      let z : 0 - length Q ≡ 0 = omega arith in
      rw (h c (chain-here ws c s), no_abis c h, z) (append-nil Q)

-- ---- both runs

module _ (ws abi area₃ area₀ missing₃ missing₀ : List ℕ) (unlinked : Unlinked ws) (calls₃ calls₀ : List Call) (c p n q k : ℕ)
    (linked₃ : LinkedIn abi c p n bytewise (start ws area₃ missing₃) calls₃)
    (linked₀ : LinkedIn abi c q k bytewise (start (unpackaged ws) area₀ missing₀) calls₀) (premises : Premises ws c) where
  abbrev text : List ℕ
  text = text_of ws

  abbrev labels : List ℕ
  labels = abi_text_of abi

  abbrev vs : List ℕ
  vs = unpackaged ws

  valid₃ : Valid ws
  valid₃ = linked-valid ws abi area₃ missing₃ calls₃ c p n linked₃

  valid₀ : Valid vs
  valid₀ = linked-valid vs abi area₀ missing₀ calls₀ c q k linked₀

  like : Alike ws vs
  like = unpackaged-alike ws

  unlinked₀ : Unlinked vs
  unlinked₀ d s a =
      same_class ws d 15 (omega arith) (omega arith) ∙ unlinked d s (rw like.classes at a)

  among : (1 ≤ c) × (c ≤ class_count ws)
  among = class-within ws abi area₃ missing₃ valid₃ unlinked calls₃ linked₃

  class : (d : ℕ) → Memᴰ d (chain ws c) → (1 ≤ d) × (d ≤ class_count ws)
  class d i = chain-class ws c d among.1 i

  plain₃ : Plain ws c
  plain₃ = record { kinds = inr premises.packages; flags = λ d i e. absurd (three (premises.packages d i) e) }
    where
      three : {x : ℕ} → x ≡ 3 → (x ≡ 0) ⊎ (x ≡ 2) → ⊥
      three e (inl f) = omega arith
      three e (inr f) = omega arith

  made₃ : (d : ℕ) → Memᴰ d (chain ws c)
      → Made ws text abi labels (table_of (final ws abi area₃ missing₃ valid₃ unlinked calls₃)) (P ws abi area₃ missing₃ valid₃ unlinked calls₃) d
  made₃ = chain-made ws abi area₃ missing₃ valid₃ unlinked calls₃ linked₃ plain₃

  fits : bad_packages ws text abi labels c ≡ false
  fits = link_fits ws abi area₃ missing₃ valid₃ unlinked calls₃ linked₃

  here-kind : class_kind ws c ≡ 3
  here-kind = premises.packages c (chain-here ws c among.0)

  -- the other run's chain is of kind 0

  chain-is : chain vs c ≡ chain ws c
  chain-is = chain_same ws vs valid₃ like c among.1

  zero-kind : (d : ℕ) → Memᴰ d (chain ws c) → class_kind vs d ≡ 0
  zero-kind d i = let j = class d i in kind-zero ws d j.0 j.1 (premises.packages d i)

  plain₀ : Plain vs c
  plain₀ = record {
    kinds = inl (λ d i. inl (zero-kind d (rw chain-is at i)));
    flags = λ d i e. let j : Memᴰ d (chain ws c) = rw chain-is at i in
        ap is_interface (same_class ws d 3 (omega arith) (omega arith)) ∙ no_interface ws text abi labels c fits here-kind d j;
  }

  abbrev zeros : ℕ → List ℕ
  zeros = table_of (final vs abi area₀ missing₀ valid₀ unlinked₀ calls₀)

  made₀ : (d : ℕ) → Memᴰ d (chain ws c) → Made vs (text_of vs) abi labels zeros (P vs abi area₀ missing₀ valid₀ unlinked₀ calls₀) d
  made₀ d i = chain-made vs abi area₀ missing₀ valid₀ unlinked₀ calls₀ linked₀ plain₀ d (rw chain-is i)

  -- what it makes, by this sheet

  up : (d : ℕ) → Memᴰ d (chain ws c) → (e : ℕ) → Memᴰ e (chain ws d) → Memᴰ e (chain ws c)
  up d i e j = chain-of-chain ws c c (omega arith) i j

  not-one : (d : ℕ) → Memᴰ d (chain ws c) → class_kind ws d ≢ 1
  not-one d i e = let f = premises.packages d i in omega arith

  unmoved : (d : ℕ) → Memᴰ d (chain ws c) → Unmoved ws vs d
  unmoved d i = let j = class d i in unmoved-kind like j.0 j.1 (not-one d i)

  zero-from : (d : ℕ) → Memᴰ d (chain ws c) → (T : List Entry) → made_from vs (text_of vs) abi labels zeros d ≡ built T
      → add_methods (by_bytes vs (text_of vs) abi labels) vs (text_of vs) abi (chain_abi vs (text_of vs) abi labels d) (own_methods vs d)
      (start_from vs (text_of vs) abi labels d (inherited_from vs (text_of vs) abi labels zeros d))
      ≡ built T
  unfolding made_from table_from
  zero-from d i T e = rw (zero-kind d i) at e

  made-zero : (d : ℕ) → Memᴰ d (chain ws c)
      → MadeZero ws text abi labels (table_of (final ws abi area₃ missing₃ valid₃ unlinked calls₃)) (P ws abi area₃ missing₃ valid₃ unlinked calls₃) zeros d
  made-zero d i =
      let m = made₀ d i in
      let j = class d i in
      let above : List Entry = inherited_from ws text abi labels zeros d in
      let none : (e : ℕ) → Memᴰ e (chain ws d) → class_abi ws text abi labels e ≡ None = λ e y. no_entry ws text abi labels c fits here-kind e (up d i e y) in
      record {
        entries = m.entries;
        stubs = m.stubs;
        from = sym (ap (add_methods (by_bytes ws text abi labels) ws text abi [] (own_methods ws d)) (start_is ws text abi labels d above j.0 none))
            ∙ ap (λ (abis : List ℕ). add_methods (by_bytes ws text abi labels) ws text abi abis (own_methods ws d) (start_from ws text abi labels d above))
            (sym (no_abis ws text abi labels d none))
            ∙ built-same ws vs valid₃ like abi labels d j.1 (λ e y. unmoved e (up d i e y)) j.0 above
            (inherited_from vs (text_of vs) abi labels zeros d) (inherited-kept ws vs valid₃ like abi labels zeros d j.0 j.1 (λ e y. unmoved e (up d i e y)))
            ∙ zero-from d i m.entries m.from;
        words = m.words;
      }

  same : Same ws text abi labels (table_of (final ws abi area₃ missing₃ valid₃ unlinked calls₃)) (P ws abi area₃ missing₃ valid₃ unlinked calls₃) zeros c
  same =
      same_tables ws text abi labels (table_of (final ws abi area₃ missing₃ valid₃ unlinked calls₃))
      (P ws abi area₃ missing₃ valid₃ unlinked calls₃) zeros c c (omega arith)
      among.0 premises.packages (record { nonzero = premises.nonzero_targets; different = premises.different_targets })
      premises.open_methods (λ d m k i x y e f s. premises.once d m k i x y e f (signature-same ws text s)) made₃ made-zero

  equal : table_at (final ws abi area₃ missing₃ valid₃ unlinked calls₃).area p n ≡ table_at (final vs abi area₀ missing₀ valid₀ unlinked₀ calls₀).area q k
  equal =
      sym (table_is ws abi area₃ missing₃ valid₃ unlinked calls₃ linked₃) ∙ same.equal ∙ table_is vs abi area₀ missing₀ valid₀ unlinked₀ calls₀ linked₀

  as_zero : (n ≡ k)
      × (table_at (final ws abi area₃ missing₃ valid₃ unlinked calls₃).area p n ≡ table_at (final vs abi area₀ missing₀ valid₀ unlinked₀ calls₀).area q k)
  as_zero = (
    sym (whole_is ws abi area₃ missing₃ valid₃ unlinked calls₃ linked₃) ∙ ap length equal ∙ whole_is vs abi area₀ missing₀ valid₀ unlinked₀ calls₀ linked₀,
    equal,
  )

  -- ---- and so for each class of the chain

  premises-of : (d : ℕ) → Memᴰ d (chain ws c) → Premises ws d
  premises-of d i = record {
    packages = λ e j. premises.packages e (up d i e j);
    open_methods = λ m j. premises.open_methods m (along j);
    once = λ e m k j. premises.once e m k (up d i e j);
    nonzero_targets = λ m j. premises.nonzero_targets m (along j);
    different_targets = λ m k j l. premises.different_targets m k (along j) (along l);
  }
    where
      along : {m : ℕ} → ChainMethod ws d m → ChainMethod ws c m
      along j = record { owner = j.owner; along = up d i j.owner j.along; own = j.own }

  linked-three : (d : ℕ) → Memᴰ d (chain ws c) → (place : ℕ) × (slots : ℕ) × Linked bytewise ws abi area₃ missing₃ calls₃ d place slots
  linked-three d i = chain_in ws abi area₃ missing₃ valid₃ unlinked calls₃ linked₃ d i

  linked-zero : (d : ℕ) → Memᴰ d (chain ws c) → (place : ℕ) × (slots : ℕ) × Linked bytewise vs abi area₀ missing₀ calls₀ d place slots
  linked-zero d i = chain_in vs abi area₀ missing₀ valid₀ unlinked₀ calls₀ linked₀ d (rw chain-is i)

-- ---- THE THEOREMS

pub zero_by_bytes : (ws abi area₃ area₀ missing₃ missing₀ : List ℕ) → Unlinked ws → (calls₃ calls₀ : List Call)
    → SameWords bytewise bytewise ws abi area₃ area₀ missing₃ missing₀ calls₃ calls₀
zero_by_bytes ws abi area₃ area₀ missing₃ missing₀ unlinked calls₃ calls₀ c p n q k linked₃ linked₀ premises =
    as_zero ws abi area₃ area₀ missing₃ missing₀ unlinked calls₃ calls₀ c p n q k linked₃ linked₀ premises

pub throughout_by_bytes : (ws abi area₃ area₀ missing₃ missing₀ : List ℕ) → Unlinked ws → (calls₃ calls₀ : List Call)
    → SameChains bytewise bytewise ws abi area₃ area₀ missing₃ missing₀ calls₃ calls₀
throughout_by_bytes ws abi area₃ area₀ missing₃ missing₀ unlinked calls₃ calls₀ c p n q k linked₃ linked₀ premises d i =
    let a = linked-three ws abi area₃ area₀ missing₃ missing₀ unlinked calls₃ calls₀ c p n q k linked₃ linked₀ premises d i in
    let b = linked-zero ws abi area₃ area₀ missing₃ missing₀ unlinked calls₃ calls₀ c p n q k linked₃ linked₀ premises d i in
    let s = zero_by_bytes ws abi area₃ area₀ missing₃ missing₀ unlinked calls₃ calls₀ d a.0 a.1 b.0 b.1 a.2 b.2
    (premises-of ws abi area₃ area₀ missing₃ missing₀ unlinked calls₃ calls₀ c p n q k linked₃ linked₀ premises d i) in
    record {
      place₃ = a.0;
      place₀ = b.0;
      slots = a.1;
      linked₃ = a.2;
      linked₀ = rw s.0 b.2;
      words = s.1 ∙ ap (λ (x : ℕ). table bytewise (unpackaged ws) abi area₀ missing₀ calls₀ b.0 x) (sym s.0);
    }
