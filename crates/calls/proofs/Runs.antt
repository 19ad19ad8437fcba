-- What every list of calls keeps, and what holds after it. Each accepted link leaves one equation of its class's table over its parent's; no
-- later call changes either. Assumes nothing.
use Rattle.std.proofs.Common.{◌≡◌, refl, sym, ap, ◌∙◌, ◌⊎◌, inl, inr, ◌≢◌, false, List, [], ◌∷◌, ℕ, zero, suc, ◌≤◌, ◌<◌, arith, length, get_or, eqb, ltb, eqb-true}
use mathlib.Core.Path.{fun_ext}
use mathlib.Core.List.{Memᴰ}
use borrow.Author.Tests.{eqb-false}
use Rattle.words.specs.Lists.{list_from}
use Rattle.words.proofs.Bools.{by}
use Rattle.words.proofs.ListLaws.{by-found}
use Rattle.class_sheet.specs.ClassSheet.{flags_word, kind_word, method_count_word, class_count, method_count, text_of, class_kind, is_packaged, class_flags, class_first_method, class_method_count, class_slot_count, method_limit}
use Rattle.abi_sheet.specs.AbiSheet.{abi_text_of}
use Rattle.set_rules.specs.Valid.{Valid}
use Rattle.linking.proofs.ChainLaws.{parent-within, chain-none}
use Rattle.linking.specs.Signature.{by_sheets}
use Rattle.linking.specs.Chain.{list_count, own_methods, parent_of, chain, is_interface}
use Rattle.linking.specs.Vtable.{Entry, built, read_entry, parent_entries}
use Rattle.linking.specs.Packages.{topmost, unfit_for_packages, bad_packages}
use Rattle.linking.specs.Link.{HasTable, LinkOutcome}
use Rattle.linking.proofs.Pairs.{none}
use Rattle.linking.proofs.Renumbered as renumbered
use Rattle.linking.proofs.RenumberedPackages.{some-ext, last-ext, last_of}
use Rattle.linking.proofs.Rebuilt.{Unmoved}
use Rattle.slots.specs.Slots.{OldRule, PackageRule}
use Rattle.slots.specs.Made.{table_from, inherited_from, introduced_from, packages_from, made_from, Made}
use Rattle.slots.proofs.ListFacts.{in_none}
use Rattle.slots.proofs.ChainFacts.{chain-here, chain-up}
use Rattle.slots.proofs.PackageLinks.{Lies, packages-from}
use Rattle.slots.proofs.LinkFacts.{read-area, plan-table}
use Rattle.calls.specs.Calls.{State, start, Unlinked}
use Rattle.calls.proofs.Rows.{Accepted}
use Rattle.calls.proofs.Like.{Like, like-same, like-next, alike, unmoved-kind}
use Rattle.calls.proofs.View.{chain-class, parent-same, chain_same, class-abi}
use Rattle.calls.proofs.Build.{Own, read-words-kept, table_same}
use Rattle.calls.proofs.Packages.{packages-same}
use Rattle.calls.proofs.Tables.{table_of, Keeps, Tables, none-linked, tables_start, chain-linked, valid-now, planning, leaves, link-keeps, new-table, was, parent_linked, link-tables}

-- an element of a list
pub in_at : (xs : List ℕ) (i : ℕ) → i < length xs → Memᴰ (get_or xs i 0) xs
in_at [] i h = absurd (omega arith)
in_at (x ∷ xs) zero h = Memᴰ.head refl
in_at (x ∷ xs) (suc i) h = Memᴰ.tail (in_at xs i (omega arith))

-- "whose parent chain, itself included, has only built and array classes, none of them an interface", or only classes of kind 3
pub record Plain (ws : List ℕ) (c : ℕ) : Type 0 where
  pub kinds : OldRule ws c ⊎ PackageRule ws c
  pub flags : (d : ℕ) → Memᴰ d (chain ws c) → (class_kind ws d ≡ 0) ⊎ (class_kind ws d ≡ 2) → is_interface (class_flags ws d) ≡ false

not-generated : (k : ℕ) → (k ≡ 0) ⊎ (k ≡ 2) → k ≢ 1
not-generated k (inl e) f = omega arith
not-generated k (inr e) f = omega arith

plain-kinds : {ws : List ℕ} {c : ℕ} → Plain ws c → (d : ℕ) → Memᴰ d (chain ws c) → class_kind ws d ≢ 1
plain-kinds {ws} p d i =
    elim p.kinds [ inl k ↦ not-generated (class_kind ws d) (k d i) | inr k ↦ (λ e. let q = k d i in omega arith) ]

-- along such a chain every class's own methods are listed as before
plain_still : {ws ws' : List ℕ} {c : ℕ} → Like ws ws' → c ≤ class_count ws → Plain ws c → (d : ℕ) → Memᴰ d (chain ws c) → Unmoved ws ws' d
plain_still {ws} {c = c} like a p d i = let k = chain-class ws c d a i in unmoved-kind (alike like) k.0 k.1 (plain-kinds p d i)

pub plain-up : {ws : List ℕ} {c : ℕ} → 1 ≤ c → Plain ws c → Plain ws (parent_of ws c)
plain-up {ws} {c} h p = record {
  kinds = elim p.kinds [ inl k ↦ inl (λ d i. k d (chain-up ws c h i)) | inr k ↦ inr (λ d i. k d (chain-up ws c h i)) ];
  flags = λ d i. p.flags d (chain-up ws c h i);
}

module _ (ws₀ abi : List ℕ) (valid₀ : Valid ws₀) (P : ℕ → Type 0) where
  abbrev pub MadeIn : State → ℕ → Type 0
  MadeIn s c = Made ws₀ (text_of ws₀) abi (abi_text_of abi) (table_of s) P c

  -- ---- the invariant

  pub record Inv (s : State) : Type 0 where
    pub tables : Tables s
    pub like : Like ws₀ s.set
    pub made : (c : ℕ) → HasTable s.set c → Plain ws₀ c → MadeIn s c
    pub fits : (c : ℕ) → HasTable s.set c → bad_packages ws₀ (text_of ws₀) abi (abi_text_of abi) c ≡ false

  pub inv-start : (area missing : List ℕ) → Unlinked ws₀ → Inv (start ws₀ area missing)
  inv-start area missing unlinked = record {
    tables = tables_start ws₀ area missing unlinked;
    like = like-same ws₀;
    made = λ c l. absurd (none-linked unlinked l);
    fits = λ c l. absurd (none-linked unlinked l);
  }

  -- parents go by the sheet at the start
  within₀ : {s : State} → Inv s → (c : ℕ) → c ≤ class_count s.set → c ≤ class_count ws₀
  within₀ inv c a = omega (arith, inv.like.classes)

  parent_is₀ : {s : State} → Inv s → (c : ℕ) → 1 ≤ c → c ≤ class_count s.set → parent_of s.set c ≡ parent_of ws₀ c
  parent_is₀ {s} inv c h a = parent-same ws₀ s.set valid₀ (alike inv.like) c h (within₀ inv c a)

  pub parent-of : {s : State} → Inv s → (c : ℕ) → HasTable s.set c → parent_of ws₀ c ≢ 0 → HasTable s.set (parent_of ws₀ c)
  parent-of inv c l n = let e = parent_is₀ inv c l.some l.among in rw (← e) (inv.tables.parent c l (rw e n))

  inherited-same : (t u : ℕ → List ℕ) (c : ℕ) → (parent_of ws₀ c ≢ 0 → t (parent_of ws₀ c) ≡ u (parent_of ws₀ c))
      → inherited_from ws₀ (text_of ws₀) abi (abi_text_of abi) t c ≡ inherited_from ws₀ (text_of ws₀) abi (abi_text_of abi) u c
  unfolding inherited_from
  inherited-same t u c h =
      by (eqb (parent_of ws₀ c) 0) (λ q. rw q refl)
      (λ q. rw (q, h (eqb-false (parent_of ws₀ c) 0 q)) refl)

  -- what a link makes is a matter of the tables of the parent's chain

  introduced-same : (t u : ℕ → List ℕ) (p : ℕ) → ((d : ℕ) → Memᴰ d (chain ws₀ p) → t d ≡ u d) → (i : ℕ)
      → introduced_from ws₀ (text_of ws₀) abi (abi_text_of abi) t p i ≡ introduced_from ws₀ (text_of ws₀) abi (abi_text_of abi) u p i
  unfolding introduced_from read_entry
  introduced-same t u p h i =
      let q : topmost (λ d. ltb i (length (t d))) (chain ws₀ p) ≡ topmost (λ d. ltb i (length (u d))) (chain ws₀ p) =
      last-ext (λ d. ltb i (length (t d))) (λ d. ltb i (length (u d))) (chain ws₀ p) (λ d j. rw (h d j)) in
      rw q
      (by-found (topmost (λ d. ltb i (length (u d))) (chain ws₀ p))
      (λ d e.
      rw (e, h d (last_of (λ d. ltb i (length (u d))) (chain ws₀ p) d e).0))
      (λ e. rw e))

  from-same : (t u : ℕ → List ℕ) (c : ℕ) → ((d : ℕ) → Memᴰ d (chain ws₀ (parent_of ws₀ c)) → t d ≡ u d)
      → made_from ws₀ (text_of ws₀) abi (abi_text_of abi) t c ≡ made_from ws₀ (text_of ws₀) abi (abi_text_of abi) u c
  unfolding made_from packages_from
  from-same t u c h =
      let q : introduced_from ws₀ (text_of ws₀) abi (abi_text_of abi) t (parent_of ws₀ c)
      ≡ introduced_from ws₀ (text_of ws₀) abi (abi_text_of abi) u (parent_of ws₀ c) =
      fun_ext (introduced-same t u (parent_of ws₀ c) h) in
      rw (q, inherited-same t u c (λ n. h (parent_of ws₀ c) (chain-here ws₀ (parent_of ws₀ c) (omega arith))))

  made-same : (s s' : State) (c : ℕ) → table_of s' c ≡ table_of s c
      → ((d : ℕ) → Memᴰ d (chain ws₀ (parent_of ws₀ c)) → table_of s' d ≡ table_of s d) → MadeIn s c → MadeIn s' c
  made-same s s' c e h m = record {
    entries = m.entries;
    stubs = m.stubs;
    enough = m.enough;
    lent = m.lent;
    bare = m.bare;
    from = from-same (table_of s') (table_of s) c h ∙ m.from;
    words = e ∙ m.words;
  }

  -- the chain of a linked class is linked
  pub chain-linked₀ : {s : State} → Inv s → (c : ℕ) → HasTable s.set c → (d : ℕ) → Memᴰ d (chain ws₀ c) → HasTable s.set d
  chain-linked₀ {s} inv c l d i =
      chain-linked s inv.tables c l d (rw (chain_same ws₀ s.set valid₀ (alike inv.like) c (within₀ inv c l.among)) i)

  pub made-keeps : {s s' : State} → Inv s → Keeps s s' → (c : ℕ) → HasTable s.set c → Plain ws₀ c → MadeIn s' c
  made-keeps {s} {s'} inv k c l p =
      made-same s s' c (k.table c l) (λ d i. k.table d (chain-linked₀ inv c l d (chain-up ws₀ c l.some i))) (inv.made c l p)

  -- ---- an accepted link

  module _ (s : State) (inv : Inv s) (c : ℕ) (stubs : List ℕ) (o : LinkOutcome) (acc : Accepted s.set abi c s.area stubs s.missing o)
      (lent : (x : ℕ) → Memᴰ x stubs → P x) where
    abbrev next : State
    next = record { set = o.outcome.set; area = o.outcome.area; missing = o.missing }

    abbrev T : List Entry
    T = acc.coming.table

    abbrev some : 1 ≤ c
    some = acc.class.some

    abbrev among : c ≤ class_count s.set
    among = acc.class.among

    keeps : Keeps s next
    keeps = link-keeps abi s c stubs o acc

    among₀ : c ≤ class_count ws₀
    among₀ = within₀ inv c among

    -- its parent
    parent-among₀ : parent_of ws₀ c ≤ class_count ws₀
    parent-among₀ = omega (arith, parent-within ws₀ c, among₀)

    pub parent_is : parent_of s.set c ≡ parent_of ws₀ c
    parent_is = parent_is₀ inv c some among

    pub parent-linked₀ : parent_of ws₀ c ≢ 0 → HasTable s.set (parent_of ws₀ c)
    parent-linked₀ n = rw (← parent_is) (parent_linked abi s c stubs o acc (rw parent_is n))

    -- the parent's entries, read at the link, are those of its table, read by the sheet at the start
    parent-entries : Plain ws₀ c
        → renumbered.Tables (Own (method_count ws₀)) (inherited_from ws₀ (text_of ws₀) abi (abi_text_of abi) (table_of s) c)
        (parent_entries (by_sheets s.set abi) s.set (text_of s.set) abi (abi_text_of abi) s.area c)
    unfolding parent_entries inherited_from
    parent-entries p =
        rw parent_is
        (by (eqb (parent_of ws₀ c) 0) (λ q. rw q none)
        (λ q.
        let l = parent-linked₀ (eqb-false (parent_of ws₀ c) 0 q) in
        let k = ((valid-now abi s c stubs o acc).class (parent_of ws₀ c) (l.some, l.among)).slots l.has in
        let b = acc.lent.below (parent_of ws₀ c) l in
        let w = acc.lent.within in
        rw (
          q,
          ← (read-area s.set (text_of s.set) abi (abi_text_of abi) s.area (parent_of ws₀ c) (class_slot_count s.set (parent_of ws₀ c)) (omega arith)
              (omega arith)),
        )
        (read-words-kept ws₀ s.set valid₀ (alike inv.like) abi (abi_text_of abi) (parent_of ws₀ c) parent-among₀
        (plain_still inv.like parent-among₀ (plain-up some p)) (table_of s (parent_of ws₀ c)))))

    here-kind : class_kind s.set c ≡ class_kind ws₀ c
    here-kind = inv.like.word c kind_word some among₀ (omega arith)

    here-flags : class_flags s.set c ≡ class_flags ws₀ c
    here-flags = inv.like.word c flags_word some among₀ (omega arith)

    old-from : Plain ws₀ c → (class_kind ws₀ c ≡ 0) ⊎ (class_kind ws₀ c ≡ 2)
        → table_from ws₀ (text_of ws₀) abi (abi_text_of abi) c (inherited_from ws₀ (text_of ws₀) abi (abi_text_of abi) (table_of s) c) ≡ built T
    old-from p k =
        let f = p.flags c (chain-here ws₀ c some) k in
        table_same ws₀ s.set valid₀ (alike inv.like) abi (abi_text_of abi) c among₀ (plain_still inv.like among₀ p) some here-kind
        (inherited_from ws₀ (text_of ws₀) abi (abi_text_of abi) (table_of s) c)
        (parent_entries (by_sheets s.set abi) s.set (text_of s.set) abi (abi_text_of abi) s.area c)
        (parent-entries p)
        ∙ plan-table s.set (text_of s.set) abi (abi_text_of abi) s.area c acc.coming (planning abi s c stubs o acc) (rw here-kind k) (rw here-flags f)

    -- the parent's chain is linked
    parents : (d : ℕ) → Memᴰ d (chain ws₀ (parent_of ws₀ c)) → HasTable s.set d
    parents d i =
        by (eqb (parent_of ws₀ c) 0)
        (λ t. in_none (chain-none ws₀ (parent_of ws₀ c) (eqb-true (parent_of ws₀ c) 0 t)) i)
        (λ n. chain-linked₀ inv (parent_of ws₀ c) (parent-linked₀ (eqb-false (parent_of ws₀ c) 0 n)) d i)

    lies : (d : ℕ) → Memᴰ d (chain s.set (parent_of s.set c)) → Lies s.set (text_of s.set) abi (abi_text_of abi) s.area (table_of s) d
    lies d i =
        let w = parent-within ws₀ c in
        let e : chain s.set (parent_of s.set c) ≡ chain ws₀ (parent_of ws₀ c) =
        ap (chain s.set) parent_is ∙ chain_same ws₀ s.set valid₀ (alike inv.like) (parent_of ws₀ c) (omega (arith, among₀)) in
        let l = parents d (rw e at i) in
        let b = acc.lent.below d l in
        let v = acc.lent.within in
        record {
          linked = l.has;
          slots = ((valid-now abi s c stubs o acc).class d (l.some, l.among)).slots l.has;
          inside = omega arith;
          table = refl;
        }

    packages-from-start : Plain ws₀ c → class_kind ws₀ c ≡ 3 → packages_from ws₀ (text_of ws₀) abi (abi_text_of abi) (table_of s) c ≡ T
    packages-from-start p k =
        packages-same ws₀ s.set valid₀ (alike inv.like) abi (abi_text_of abi) (table_of s) c some among₀ (plain_still inv.like among₀ p)
        ∙ sym (packages-from s.set (text_of s.set) abi (abi_text_of abi) s.area (table_of s) c (omega (arith, among₀, valid₀.number_of_classes)) lies)
        ∙ (planning abi s c stubs o acc).packaged (here-kind ∙ k)

    pub new-from : Plain ws₀ c → made_from ws₀ (text_of ws₀) abi (abi_text_of abi) (table_of s) c ≡ built T
    unfolding made_from
    new-from p =
        by (is_packaged ws₀ c)
        (λ t. rw t (ap built (packages-from-start p (eqb-true (class_kind ws₀ c) 3 t))))
        (λ t.
        rw t
        (elim p.kinds [
          | inl k ↦ old-from p (k c (chain-here ws₀ c some))
          | inr k ↦ absurd (eqb-false (class_kind ws₀ c) 3 t (k c (chain-here ws₀ c some)))
        ]))

    -- row 26 by the sheet at the start

    chain-is : chain s.set c ≡ chain ws₀ c
    chain-is = chain_same ws₀ s.set valid₀ (alike inv.like) c among₀

    at-class : (d : ℕ) → Memᴰ d (chain ws₀ c) → (1 ≤ d) × (d ≤ class_count ws₀)
    at-class d i = chain-class ws₀ c d among₀ i

    kind-same : (d : ℕ) → Memᴰ d (chain ws₀ c) → is_packaged s.set d ≡ is_packaged ws₀ d
    kind-same d i = let k = at-class d i in rw (inv.like.word d kind_word k.0 k.1 (omega arith))

    bad-same : bad_packages s.set (text_of s.set) abi (abi_text_of abi) c ≡ bad_packages ws₀ (text_of ws₀) abi (abi_text_of abi) c
    unfolding bad_packages unfit_for_packages
    bad-same =
        rw (
          here-kind,
          chain-is,
          some-ext (unfit_for_packages s.set (text_of s.set) abi (abi_text_of abi)) (unfit_for_packages ws₀ (text_of ws₀) abi (abi_text_of abi)) (chain ws₀ c)
              (λ d i.
              let k = at-class d i in
              rw (
                inv.like.word d kind_word k.0 k.1 (omega arith),
                inv.like.word d flags_word k.0 k.1 (omega arith),
                class-abi ws₀ s.set valid₀ (alike inv.like) abi (abi_text_of abi) d k.0 k.1,
              )),
          some-ext (is_packaged s.set) (is_packaged ws₀) (chain ws₀ c) kind-same,
        )

    no_methods : class_method_count ws₀ c ≡ 0 → own_methods ws₀ c ≡ []
    unfolding own_methods list_from
    no_methods e = let n : list_count (class_first_method ws₀ c) (class_method_count ws₀ c) method_limit ≡ 0 = omega arith in rw n refl

    new-bare : class_kind ws₀ c ≡ 2 → own_methods ws₀ c ≡ []
    new-bare e =
        no_methods (sym (inv.like.listed c method_count_word some among₀ (λ f. omega arith) (omega arith)) ∙ acc.class.bare (here-kind ∙ e))

    new-made : Plain ws₀ c → MadeIn next c
    new-made p = record {
      entries = T;
      stubs = stubs;
      enough = acc.room.stubbed;
      lent = λ i h. lent (get_or stubs i 0) (in_at stubs i h);
      bare = new-bare;
      from = from-same (table_of next) (table_of s) c (λ d i. keeps.table d (parents d i)) ∙ new-from p;
      words = new-table abi s c stubs o acc;
    }

    pub link-inv : Inv next
    link-inv = record {
      tables = link-tables abi s c stubs o acc inv.tables;
      like = like-next ws₀ s.set o.outcome.set inv.like (leaves abi s c stubs o acc).like;
      made = λ d l p.
          by (eqb d c)
          (λ t. let e : d ≡ c = eqb-true d c t in rw e (new-made (rw e at p)))
          (λ f. made-keeps inv keeps d (was abi s c stubs o acc d (eqb-false d c f) l) p);
      fits = λ d l.
          by (eqb d c)
          (λ t. let e : d ≡ c = eqb-true d c t in rw e (sym bad-same ∙ acc.packages))
          (λ f. inv.fits d (was abi s c stubs o acc d (eqb-false d c f) l));
    }
