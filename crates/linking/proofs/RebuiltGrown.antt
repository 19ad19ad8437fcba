-- A class with a compiler table whose link added methods, built anew in the words after it: the added methods are declared now, in the same order after
-- the copied ones, so nothing is added again, and the table has the same words from the same slots. Assumes nothing.
use mathlib.Core.Path.{◌≡◌, refl, sym, ap, ◌∙◌}
use mathlib.Core.Logic.{◌≢◌, ◌⊎◌, inr}
use mathlib.Core.Bool.{Bool, true, false, ◌||◌}
use mathlib.Core.List.{List, [], ◌∷◌, ◌++◌, append-nil, Memᴰ}
use Prim.Native.Nat.{ℕ, zero, suc, ◌+◌, ◌-◌, ◌≤◌, ◌<◌}
use native.Mathlib.Omega.{arith}
use lib.ListN.{length, get_or}
use lib.Dec.{eqb, ltb}
use borrow.Author.Tests.{ne_eqb, lt-ltb, le-ltb}
use Rattle.words.specs.Lists.{list_from, numbers, first_found, some}
use Rattle.words.proofs.Bools.{by}
use Rattle.words.proofs.ListLaws.{by-found, numbers-split, some-append}
use Rattle.class_sheet.specs.ClassSheet.{member_width, kind_word, compiler_table_word, method_count, text_of, class_kind, class_first_method, class_method_count, class_compiler_table, method_word, method_name, method_descriptor, method_limit}
use Rattle.abi_sheet.specs.AbiSheet.{abi_text_of}
use Rattle.set_rules.specs.Valid.{IsClass, Valid}
use Rattle.linking.specs.Signature.{Same, Place, of_method, place_name, place_descriptor, by_sheets}
use Rattle.linking.specs.Chain.{list_count, own_methods, parent_of, chain}
use Rattle.linking.specs.Abi.{slot_at}
use Rattle.linking.specs.Vtable.{Entry, empty, parent_entries}
use Rattle.linking.specs.Compiler.{Taken, none_taken, members, place_of, native_view, compiler_targets, signature_sources, from_method, from_slot, is_declared, add_named, added_from, added_methods, name_of, flags_of, target_of, class_methods, compiler_table}
use Rattle.linking.specs.Link.{generated_table}
use Rattle.linking.specs.Missing.{table_by}
use Rattle.linking.proofs.Added.{EachTaken, Signs, added-signs, source-slot}
use Rattle.linking.proofs.Comparing.{parts_same}
use Rattle.linking.proofs.Taken.{length-members, member_at}
use Rattle.linking.proofs.LinkedBack.{early}
use Rattle.linking.proofs.LinkRead.{After, Added, record_name, record_descriptor}
use Rattle.linking.proofs.Pairs.{by_both, Pairs, pairs-append, pairs-at, pairs-from, pairs_less, pairs-some}
use Rattle.linking.proofs.Plans.{table-generated}
use Rattle.linking.proofs.Renumbered.{Tables, tables_less, same-empty, SameBuilt, both-built, Alike, Keeps, SameParts, bytes_keep}
use Rattle.linking.proofs.RenumberedCompiler.{SameTaken, from-same, slot-taken, Signed, of-sheet, tables-same}
use Rattle.linking.proofs.RenumberedPackages.{Held}
use Rattle.linking.proofs.Rebuilt.{Unmoved, Stays, Any, untouched-compiler, word_same, stays-keeps, targets-same, sources-same, parents-held, view-held, signed}

-- ---- lists

some_at : (p : ℕ → Bool) (a n i : ℕ) → i < n → p (a + i) ≡ true → some p (numbers a n) ≡ true
unfolding some list_from
some_at p a zero i h e = absurd (omega arith)
some_at p a (suc n) zero h e = let f : a + 0 ≡ a = omega arith in rw (rw f at e)
some_at p a (suc n) (suc i) h e =
    let f : a + suc i ≡ a + 1 + i = omega arith in
    by (p a) (λ t. rw t) (λ t. rw t (some_at p (a + 1) n i (omega arith) (rw f at e)))

or_right : (a b : Bool) → b ≡ true → (a || b) ≡ true
or_right true b e = refl
or_right false b e = e

-- a copied record: the same six words
pub record Copied (ws ws' : List ℕ) (m k : ℕ) : Type 0 where
  pub below : m < method_count ws
  pub small : k < method_limit
  pub words : (w : ℕ) → w < member_width → method_word ws' k w ≡ method_word ws m w

module _ (ws ws' abi area area' : List ℕ) (c : ℕ) (valid : Valid ws) (after : After ws ws' c) (l : IsClass ws c) (new : List Taken)
    (is-new : new ≡ added_methods (by_sheets ws abi) ws (text_of ws) abi (abi_text_of abi) area c)
    (added : Added ws ws' c (members new)) (room : method_count ws + (class_method_count ws c + length (members new)) ≤ method_limit) where
  abbrev text : List ℕ
  text = text_of ws

  abbrev text' : List ℕ
  text' = text_of ws'

  abbrev labels : List ℕ
  labels = abi_text_of abi

  abbrev same : Same
  same = by_sheets ws abi

  abbrev same' : Same
  same' = by_sheets ws' abi

  abbrev Parts : Place → Place → Type 0
  Parts = SameParts ws text ws' text' abi labels

  abbrev count : ℕ
  count = method_count ws

  abbrev first : ℕ
  first = class_first_method ws c

  abbrev own : ℕ
  own = class_method_count ws c

  inside : first + own ≤ count
  inside = (valid.class c l).methods

  -- ---- its methods, before and after

  own-before : own_methods ws c ≡ numbers first own
  unfolding own_methods
  own-before = let h = inside in let e : list_count first own method_limit ≡ own = omega arith in rw e

  own-after : own_methods ws' c ≡ numbers count own ++ numbers (count + own) (length new)
  unfolding own_methods
  own-after =
      let f = length-members new in
      let e : list_count count (own + length new) method_limit ≡ own + length new = omega arith in
      rw (added.first, added.many, f, e) (numbers-split count own (length new))

  copied_alike : Alike ws text ws' text' (Copied ws ws')
  copied_alike = record {
    name = λ m k r. sym (record_name ws ws' c valid after m k r.below r.words);
    descriptor = λ m k r. sym (record_descriptor ws ws' c valid after m k r.below r.words);
    flags = λ m k r. sym (r.words 4 (omega arith));
    target = λ m k r. sym (r.words 5 (omega arith));
  }

  copied-keeps : Keeps same same' Parts ws text ws' text' abi labels (Copied ws ws')
  copied-keeps = bytes_keep ws text ws' text' abi labels (Copied ws ws') copied_alike

  own-copied : Pairs (Copied ws ws') (numbers first own) (numbers count own)
  own-copied =
      let h = inside in
      pairs-from (λ k. k) (λ k. k) first count own
      (λ j b. record { below = omega arith; small = omega arith; words = λ w k. added.copied j w b k })

  -- what an added method's record says, of its place's parts
  signs : (j : ℕ) → j < length new → Signs ws text abi labels (get_or new j none_taken)
  signs = rw is-new (added-signs same ws text abi labels area c)

  new-name : (j : ℕ) → j < length new → method_name ws' text' (count + (own + j)) ≡ (get_or new j none_taken).member.name
  new-name j h = let e = length-members new in added.new-name j (omega arith) ∙ ap (λ x. x.name) (member_at new j)

  new-descriptor : (j : ℕ) → j < length new → method_descriptor ws' text' (count + (own + j)) ≡ (get_or new j none_taken).member.descriptor
  new-descriptor j h = let e = length-members new in added.new-descriptor j (omega arith) ∙ ap (λ x. x.descriptor) (member_at new j)

  new-signed : (j : ℕ) → j < length new → Signed Parts ws text ws' text' new [] (method_limit + j) (count + own + j)
  unfolding name_of place_of place_name place_descriptor flags_of target_of
  new-signed j h =
      let m = length-members new in
      let a = le-ltb (method_limit + j) method_limit (omega arith) in
      let s : count + own + j ≡ count + (own + j) = omega arith in
      let b : ltb (count + (own + j)) method_limit ≡ true = lt-ltb (count + (own + j)) method_limit (omega arith) in
      let e : method_limit + j - method_limit ≡ j = omega arith in
      let g = signs j h in
      record {
        place = rw (s, a, b, e) (record { name = sym g.name ∙ sym (new-name j h); descriptor = sym g.descriptor ∙ sym (new-descriptor j h) });
        name = rw (s, a, b, e) (sym (new-name j h));
        flags = rw (s, a, b, e) (sym (added.new-flags j (omega arith) ∙ ap (λ x. x.flags) (member_at new j)));
        target = rw (s, a, b, e) (sym (added.new-target j (omega arith) ∙ ap (λ x. x.last) (member_at new j)));
      }

  -- declared and added before are declared after
  methods-grown : Pairs (Signed Parts ws text ws' text' new []) (class_methods ws new c) (class_methods ws' [] c)
  unfolding class_methods list_from
  methods-grown =
      let h = inside in
      let e = length-members new in
      rw (own-before, own-after, append-nil (numbers count own ++ numbers (count + own) (length new)))
      (pairs-append
      (pairs_less (λ m k r. of-sheet copied-keeps new [] m k (omega (arith, r.below, valid.number_of_methods)) r.small r) own-copied)
      (pairs-from (λ k. k) (λ k. k) method_limit (count + own) (length new) new-signed))

  -- ---- what was declared or added is declared now

  abbrev Declared : Taken → Type 0
  Declared x = (y : Taken) → SameTaken Parts x y → is_declared same' ws' c y ≡ true

  declared-grown : (x y : Taken) → SameTaken Parts x y → is_declared same' ws' c y
      ≡ (is_declared same ws c x || some (λ m. same' (of_method m) y.from) (numbers (count + own) (length new)))
  unfolding is_declared
  declared-grown x y t =
      let p : ℕ → Bool = λ m. same' (of_method m) y.from in
      rw (
        own-after,
        own-before,
        some-append p (numbers count own) (numbers (count + own) (length new)),
        pairs-some (λ m. same (of_method m) x.from) p
            (λ m k r. copied-keeps.agree (of_method m) (of_method k) x.from y.from (copied-keeps.place m k r) t.place) own-copied,
      )

  still-declared : (x : Taken) → is_declared same ws c x ≡ true → Declared x
  still-declared x e y t = rw (declared-grown x y t, e)

  new-declared : EachTaken Declared new
  unfolding place_name place_descriptor
  new-declared j h y t =
      let x : Taken = get_or new j none_taken in
      let s : count + own + j ≡ count + (own + j) = omega arith in
      let g = signs j h in
      rw (declared-grown x y t)
      (or_right (is_declared same ws c x) (some (λ m. same' (of_method m) y.from) (numbers (count + own) (length new)))
      (some_at (λ m. same' (of_method m) y.from) (count + own) (length new) j h
      (rw s
      (parts_same ws' text' abi labels (of_method (count + (own + j))) y.from (new-name j h ∙ g.name ∙ t.place.name)
      (new-descriptor j h ∙ g.descriptor ∙ t.place.descriptor)))))

  -- so none is added again

  named_none : (x y : Taken) → SameTaken Parts x y → (xs ys : List Taken) → EachTaken Declared (add_named same ws c x xs)
      → (EachTaken Declared xs → ys ≡ []) → add_named same' ws' c y ys ≡ []
  unfolding add_named
  named_none x y p xs ys h rest =
      by (is_declared same ws c x)
      (λ t. let e : EachTaken Declared xs = rw t at h in rw (still-declared x t y p, rest e))
      (λ t.
      let e : EachTaken Declared (x ∷ xs) = rw t at h in
      rw (e 0 (omega arith) y p, rest (λ j b. e (suc j) (omega arith))))

  module _ (held : (e : ℕ) → Memᴰ e (chain ws (parent_of ws c)) → Held ws ws' area area' e)
      (above : (e : ℕ) → Memᴰ e (chain ws (parent_of ws c)) → Unmoved ws ws' e) where
    abbrev moves : Unmoved ws ws' c ⊎ (class_first_method ws' c ≡ method_count ws)
    moves = inr added.first

    abbrev view : List Entry
    view = native_view same ws text abi labels area c

    abbrev view' : List Entry
    view' = native_view same' ws' text' abi labels area' c

    abbrev kept : Keeps same same' Parts ws text ws' text' abi labels (Stays ws ws' abi)
    kept = stays-keeps ws ws' abi c valid after moves

    views : Tables (Stays ws ws' abi) view view'
    views = view-held ws ws' abi area area' c valid after moves l.0 l.1 c l held above

    none-added : (i : ℕ) (ts : List ℕ) → EachTaken Declared (added_from same ws text abi labels c view i ts)
        → added_from same' ws' text' abi labels c view' i ts ≡ []
    unfolding added_from
    none-added i [] h = refl
    none-added i (t ∷ ts) h =
        let s = pairs-at views (same-empty (Stays ws ws' abi)) i in
        let rest = none-added (i + 1) ts in
        by (eqb t 0 || eqb t (get_or view i empty).word)
        (λ u.
        let e : EachTaken Declared (added_from same ws text abi labels c view (i + 1) ts) = rw u at h in
        rw (← s.word, u) (rest e))
        (λ u.
        rw (← s.word, u)
        (by_both s.method
        (λ m k p q r.
        let e : EachTaken Declared (add_named same ws c (from_method ws text m t) (added_from same ws text abi labels c view (i + 1) ts)) =
        rw (u, p) at h in
        rw q (named_none (from_method ws text m t) (from_method ws' text' k t) (from-same kept m k t r) (added_from same ws text abi labels c view (i + 1) ts)
        (added_from same' ws' text' abi labels c view' (i + 1) ts) e rest))
        (λ p q.
        rw (q, ← sources-same ws ws' abi c valid after moves c l)
        (by-found (first_found (slot_at abi i) (signature_sources ws text abi labels c))
        (λ z v.
        let e : EachTaken Declared (add_named same ws c (from_slot abi labels z t) (added_from same ws text abi labels c view (i + 1) ts)) =
        rw (u, p, v) at h in
        let o = source-slot ws text abi labels c i z v in
        rw v (named_none (from_slot abi labels z t) (from_slot abi labels z t) (slot-taken kept o.0 z t o.1.0 o.1.1)
        (added_from same ws text abi labels c view (i + 1) ts) (added_from same' ws' text' abi labels c view' (i + 1) ts) e rest))
        (λ v.
        let e : EachTaken Declared (added_from same ws text abi labels c view (i + 1) ts) = rw (u, p, v) at h in
        rw v (rest e))))))

    pub no_more : added_methods same' ws' text' abi labels area' c ≡ []
    unfolding added_methods
    no_more =
        rw (← targets-same ws ws' abi c valid after moves c l)
        (none-added 0 (compiler_targets ws c) (rw is-new at new-declared))

    pub compiler-grown : Tables Any (compiler_table same ws text abi labels area c) (compiler_table same' ws' text' abi labels area' c)
    unfolding compiler_table
    compiler-grown =
        let P = parents-held ws ws' abi area area' c valid after moves l.0 l.1 c l held above in
        let sign = signed ws ws' abi area area' c valid after moves l.0 l.1 c l held above new [] in
        rw (no_more, ← targets-same ws ws' abi c valid after moves c l, ← is-new)
        (tables_less (λ m k r. tt)
        (tables-same kept new [] c methods-grown view view' (parent_entries same ws text abi labels area c)
        (parent_entries same' ws' text' abi labels area' c) (tables_less sign views) (tables_less sign P) (compiler_targets ws c)))

    pub table-grown : class_kind ws c ≡ 1 → class_compiler_table ws c ≢ 0
        → SameBuilt Any (table_by same ws text abi labels area c) (table_by same' ws' text' abi labels area' c)
    unfolding generated_table
    table-grown kind some-table =
        let k = word_same ws ws' abi c valid after moves c kind_word l (omega arith) (early kind_word (omega arith)) in
        let t = word_same ws ws' abi c valid after moves c compiler_table_word l
        (omega arith) (untouched-compiler compiler_table_word (omega arith) (omega arith)) in
        rw (
          table-generated same ws text abi labels area c kind,
          table-generated same' ws' text' abi labels area' c (k ∙ kind),
          t,
          ne_eqb (class_compiler_table ws c) 0 some-table,
        )
        (both-built compiler-grown)
