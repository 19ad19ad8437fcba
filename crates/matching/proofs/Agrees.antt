-- Two comparisons that agree on the places used in two accepted sheets read and make the same tables of each class: every place that is compared is used. The
-- laws are those of alike sets (`Renumbered`): here a method is alike to itself alone, in one set. Assumes nothing.
use mathlib.Core.Path.{◌≡◌, refl, ap, fun_ext}
use mathlib.Core.Bool.{false}
use mathlib.Core.List.{List, [], ◌∷◌, Memᴰ}
use Prim.Native.Nat.{ℕ, ◌+◌, ◌-◌, ◌≤◌, ◌<◌}
use native.Mathlib.Omega.{arith}
use lib.ListN.{length, get_or}
use lib.Dec.{eqb}
use borrow.Author.Tests.{eqb-true}
use Rattle.std.specs.Prelude.{Option}
use Rattle.words.specs.Lists.{numbers}
use Rattle.words.proofs.Bools.{by, or-neither}
use Rattle.words.proofs.ListLaws.{numbers-within}
use Rattle.class_sheet.specs.ClassSheet.{class_count, method_count, text_of, class_table_place, method_limit}
use Rattle.abi_sheet.specs.AbiSheet.{abi_text_of}
use Rattle.set_rules.specs.SetRules.{set_refusal}
use Rattle.set_rules.specs.Valid.{IsClass, Valid, ValidAbi}
use Rattle.set_rules.proofs.Valid.{valid}
use Rattle.linking.specs.Signature.{Place, of_method, Same}
use Rattle.linking.specs.Chain.{own_methods, parent_of, chain}
use Rattle.linking.specs.Vtable.{own_fixed, read_entry, table_entries, parent_entries, build_methods}
use Rattle.linking.specs.Packages.{build_packages}
use Rattle.linking.specs.Compiler.{Taken, native_view, added_methods, class_methods, compiler_targets, compiler_table}
use Rattle.linking.specs.Link.{built_table, plan_built, generated_table, generated_methods, plan_generated, plan_array, plan, no_class, bad_class, link_by}
use Rattle.linking.specs.Ask.{dispatch_entries, build_node, bad_ask, ask_by}
use Rattle.linking.specs.Whose.{first_declared, declared_by_index, read_declared, slot_class}
use Rattle.linking.proofs.ChainLaws.{parent-within, chain-within}
use Rattle.linking.proofs.Added.{own_room, listed-room}
use Rattle.linking.proofs.Pairs.{Pairs, pairs-append, pairs_less, pairs-same}
use Rattle.linking.proofs.Renumbered.{Tables, tables_less, SameParent, Keeps, SameClass, SameChain, own_fixed_lem, read_same, entries-same, parents-same, build-same}
use Rattle.linking.proofs.RenumberedAsk.{dispatch_same}
use Rattle.linking.proofs.RenumberedCompiler.{SameTaken, native_same, added-from, Signed, of-sheet, tables_by}
use Rattle.linking.proofs.RenumberedPackages.{packages-same}
use Rattle.linking.proofs.Rebuilt.{added-signed}
use Rattle.matching.specs.Matching.{Agree}
use Rattle.matching.specs.Filling.{Used}
use Rattle.matching.proofs.Equal.{found_equal, entry_equal, tables_equal, built_equal, added_equal}
use Rattle.matching.proofs.Rows.{in-set, class-ok}
use Rattle.matching.proofs.Filling.{filling}

-- the same place, and it is used
pub record OnePlace (ws abi : List ℕ) (p q : Place) : Type 0 where
  pub one : p ≡ q
  pub used : Used ws abi p

-- the same method, and it is one of the sheet
pub record OneMethod (ws : List ℕ) (m k : ℕ) : Type 0 where
  pub one : m ≡ k
  pub below : m < method_count ws

-- the first class of a list whose search finds a method, by two searches that find the same
declared-ext : (f g : ℕ → Option ℕ) (cs : List ℕ) → ((c : ℕ) → Memᴰ c cs → f c ≡ g c) → first_declared f cs ≡ first_declared g cs
unfolding first_declared
declared-ext f g [] h = refl
declared-ext f g (c ∷ cs) h = rw (h c (Memᴰ.head refl), declared-ext f g cs (λ d i. h d (Memᴰ.tail i))) refl

module _ (same other : Same) (ws abi : List ℕ) (agree : Agree ws abi same other) (accepted : set_refusal ws abi ≡ 0) where
  abbrev text : List ℕ
  text = text_of ws

  abbrev labels : List ℕ
  labels = abi_text_of abi

  abbrev P : Place → Place → Type 0
  P = OnePlace ws abi

  abbrev R : ℕ → ℕ → Type 0
  R = OneMethod ws

  v : Valid ws
  v = (valid ws abi accepted).0

  w : ValidAbi abi
  w = (valid ws abi accepted).1

  one-method : (m k : ℕ) → R m k → m ≡ k
  one-method m k r = r.one

  -- ---- every place that is compared is used: methods of classes' lists, and slots of ABI classes' lists

  keeps : Keeps same other P ws text ws text abi labels R
  keeps = record {
    alike = record {
      name = λ m k r. rw r.one;
      descriptor = λ m k r. rw r.one;
      flags = λ m k r. rw r.one;
      target = λ m k r. rw r.one;
    };
    agree = λ p q r s x y. rw (← x.one, ← y.one) (agree p r x.used y.used);
    place = λ m k r. record { one = ap of_method r.one; used = filling.methods ws abi accepted m r.below };
    slot = λ a s l i. record { one = refl; used = filling.slots ws abi accepted s (listed-room abi (λ b h. (w.class b h).slots) a s l i) };
  }

  class : (d : ℕ) → IsClass ws d → SameClass keeps d
  class d l = record {
    own = pairs-same R (own_methods ws d) (λ m i. record { one = refl; below = own_room same ws text abi labels (λ e h. (v.class e h).methods) d m l i });
    name = refl;
  }

  along : (c : ℕ) → c ≤ class_count ws → SameChain keeps c
  along c h = record { along = refl; class = λ d i. let b = chain-within ws c d i in class d (omega arith, omega arith) }

  above : (c : ℕ) → c ≤ class_count ws → SameChain keeps (parent_of ws c)
  above c h = let b = parent-within ws c in along (parent_of ws c) (omega arith)

  parent : (area : List ℕ) (c : ℕ) → SameParent ws ws area area c
  parent area c = record { parent = refl; slots = λ n. refl; words = λ n i h. refl }

  -- ---- readings

  pub entries-agree : (area : List ℕ) (c : ℕ) → c ≤ class_count ws
      → table_entries same ws text abi labels area c ≡ table_entries other ws text abi labels area c
  entries-agree area c h = tables_equal one-method (entries-same keeps c (along c h) area area refl (λ i l. refl))

  pub read-agrees : (c i w : ℕ) → c ≤ class_count ws → read_entry same ws text abi labels c i w ≡ read_entry other ws text abi labels c i w
  read-agrees c i w h = entry_equal one-method _ _ (read_same keeps c (along c h) i w)

  pub declared-agrees : (c i w : ℕ) → c ≤ class_count ws → read_declared same ws text abi labels c i w ≡ read_declared other ws text abi labels c i w
  unfolding read_declared declared_by_index
  declared-agrees c i w h =
      rw
      (declared-ext (own_fixed same ws text abi labels i) (own_fixed other ws text abi labels i) (chain ws c)
      (λ d j. found_equal one-method (own_fixed_lem keeps i d ((along c h).class d j))))
      refl

  pub class-agrees : (area : List ℕ) (c i : ℕ) → c ≤ class_count ws → slot_class same ws text abi labels area c i ≡ slot_class other ws text abi labels area c i
  unfolding slot_class
  class-agrees area c i h = rw (declared-agrees c i (get_or area (class_table_place ws c + 1 + i) 0) h) refl

  -- ---- tables, kind by kind

  module _ (area : List ℕ) (c : ℕ) (l : IsClass ws c) where
    parents : Tables R (parent_entries same ws text abi labels area c) (parent_entries other ws text abi labels area c)
    parents = parents-same keeps area area c (parent area c) (above c l.1)

    pub parents-agree : parent_entries same ws text abi labels area c ≡ parent_entries other ws text abi labels area c
    parents-agree = tables_equal one-method parents

    pub methods-agree : build_methods same ws text abi labels area c ≡ build_methods other ws text abi labels area c
    methods-agree = built_equal one-method (build-same keeps area area c (parent area c) (above c l.1) (along c l.1) (class c l))

    pub packages-agree : build_packages same ws text abi labels area c ≡ build_packages other ws text abi labels area c
    packages-agree =
        tables_equal one-method
        (packages-same keeps (λ m k n i r s. rw (r.one, s.one)) area area c (class c l) (parent area c) (above c l.1)
        (λ d j. let b = parent-within ws c in let e = chain-within ws (parent_of ws c) d j in along d (omega (arith, l.1)))
        (λ d j. record { linked = refl; slots = refl; words = λ i h. refl }))

    -- ---- a generated class: (a) the native view, (b) the methods that are added

    views : Tables R (native_view same ws text abi labels area c) (native_view other ws text abi labels area c)
    views = native_same keeps (λ m k r. rw r.one) area area c (parent area c) (above c l.1)

    taken : Pairs (SameTaken P) (added_methods same ws text abi labels area c) (added_methods other ws text abi labels area c)
    unfolding added_methods
    taken = added-from keeps c (class c l).own refl _ _ views 0 (compiler_targets ws c)

    pub added-agree : added_methods same ws text abi labels area c ≡ added_methods other ws text abi labels area c
    added-agree = added_equal (λ p q r. r.one) taken

    -- ---- (c) and (d): an added method is compared by the place that its signature is taken from

    abbrev new : List Taken
    new = added_methods other ws text abi labels area c

    record OneSigned (m k : ℕ) : Type 0 where
      one : m ≡ k
      signed : Signed P ws text ws text new new m k

    of-set : (m k : ℕ) → R m k → OneSigned m k
    of-set m k r =
        let b = r.below in
        let n = v.number_of_methods in
        let e = r.one in
        record { one = e; signed = of-sheet keeps new new m k (omega arith) (omega arith) r }

    of-added : (m : ℕ) → Memᴰ m (numbers method_limit (length new)) → OneSigned m m
    of-added m i =
        let b = numbers-within method_limit (length new) m i in
        let e : method_limit + (m - method_limit) ≡ m = omega arith in
        record { one = refl; signed = rw e at (added-signed keeps (rw added-agree at taken) (m - method_limit) (omega arith)) }

    listed : Pairs OneSigned (class_methods ws new c) (class_methods ws new c)
    unfolding class_methods
    listed = pairs-append (pairs_less of-set (class c l).own) (pairs-same OneSigned (numbers method_limit (length new)) of-added)

    pub compiler-agrees : compiler_table same ws text abi labels area c ≡ compiler_table other ws text abi labels area c
    unfolding compiler_table
    compiler-agrees =
        rw (added-agree, tables_equal one-method views, parents-agree)
        (tables_equal (λ m k s. s.one)
        (tables_by keeps new new OneSigned (λ m k s. s.signed) c listed (native_view other ws text abi labels area c)
        (native_view other ws text abi labels area c) (parent_entries other ws text abi labels area c) (parent_entries other ws text abi labels area c)
        (tables_less of-set (rw (tables_equal one-method views) at views)) (tables_less of-set (rw parents-agree at parents)) (compiler_targets ws c)))

    -- ---- the plan of a class of whatever kind

    built-agrees : built_table same ws text abi labels area c ≡ built_table other ws text abi labels area c
    unfolding built_table
    built-agrees = rw (methods-agree, packages-agree) refl

    generated-agrees : generated_table same ws text abi labels area c ≡ generated_table other ws text abi labels area c
    unfolding generated_table
    generated-agrees = rw (methods-agree, compiler-agrees) refl

    generated-added : generated_methods same ws text abi labels area c ≡ generated_methods other ws text abi labels area c
    unfolding generated_methods
    generated-added = rw added-agree refl

    pub plan-agrees : plan same ws text abi labels area c ≡ plan other ws text abi labels area c
    unfolding plan plan_built plan_generated plan_array
    plan-agrees = rw (built-agrees, generated-agrees, generated-added, parents-agree) refl

  -- ---- an ask: the entries of the interface's table, and what the class has for them

  pub asked-agrees : (area : List ℕ) (c i : ℕ) → c ≤ class_count ws → i ≤ class_count ws
      → dispatch_entries same ws c (table_entries same ws text abi labels area i)
      ≡ dispatch_entries other ws c (table_entries other ws text abi labels area i)
  asked-agrees area c i h k =
      built_equal one-method (dispatch_same keeps c (along c h) (entries-same keeps i (along i k) area area refl (λ j l. refl)))

-- ---- row 6 leaves classes of the set

asked-classes : (ws : List ℕ) (c i : ℕ) → bad_ask ws c i ≡ false → IsClass ws c × IsClass ws i
unfolding bad_ask
asked-classes ws c i e =
    let p = or-neither (no_class ws c) (no_class ws i) (or-neither _ _ (or-neither _ _ e).0).0 in (in-set ws c p.0, in-set ws i p.1)

-- ---- the calls: where rows 3 to 5 refuse the sheets, both are the refusal

module _ (same other : Same) (ws abi : List ℕ) (agree : Agree ws abi same other) where
  pub link_agrees : (c : ℕ) (area stubs missing : List ℕ) → link_by same ws abi c area stubs missing ≡ link_by other ws abi c area stubs missing
  unfolding link_by
  link_agrees c area stubs missing =
      by (eqb (set_refusal ws abi) 0)
      (λ t.
      by (bad_class ws (text_of ws) c) (λ u. rw (t, u) refl)
      (λ u.
      let k = class-ok ws (text_of ws) c u in
      rw (t, u, plan-agrees same other ws abi agree (eqb-true (set_refusal ws abi) 0 t) area c (k.some, k.among)) refl))
      (λ t. rw t refl)

  nodes-agree : (c i : ℕ) (area stubs : List ℕ) → set_refusal ws abi ≡ 0 → c ≤ class_count ws → i ≤ class_count ws → (nodes : ℕ)
      → build_node same ws abi c i area stubs nodes ≡ build_node other ws abi c i area stubs nodes
  unfolding build_node
  nodes-agree c i area stubs t h k nodes = rw (asked-agrees same other ws abi agree t area c i h k) refl

  pub ask_agrees : (c i : ℕ) (area stubs : List ℕ) → ask_by same ws abi c i area stubs ≡ ask_by other ws abi c i area stubs
  unfolding ask_by
  ask_agrees c i area stubs =
      by (eqb (set_refusal ws abi) 0)
      (λ t.
      by (bad_ask ws c i) (λ u. rw (t, u) refl)
      (λ u.
      let k = asked-classes ws c i u in
      rw (t, u, fun_ext (nodes-agree c i area stubs (eqb-true (set_refusal ws abi) 0 t) k.0.1 k.1.1)) refl))
      (λ t. rw t refl)
