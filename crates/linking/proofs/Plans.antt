-- What a link comes to before anything is written: how many indices it gives, when it adds methods, which table it makes, and that a refusal has
-- a number. Assumes nothing.
use mathlib.Core.Path.{◌≡◌, refl, sym, ap, ◌∙◌}
use mathlib.Core.Logic.{◌≢◌, ◌⊎◌, inl, inr}
use mathlib.Core.Bool.{true, false, cond, not, true≢false}
use mathlib.Core.List.{List, [], ◌∷◌}
use Prim.Native.Nat.{ℕ, suc, ◌+◌, ◌≤◌, ◌<◌}
use native.Mathlib.Omega.{arith}
use lib.ListN.{length, get_or, length-append}
use lib.Dec.{eqb, ltb}
use borrow.Author.Tests.{eqb-true, eqb-false, eq-eqb, ne_eqb, ltb-false, lt-ltb, le-ltb}
use Rattle.words.specs.Lists.{fold}
use Rattle.std.specs.Option.{option_and_then}
use Rattle.std.specs.Prelude.{Option, Some, None}
use Rattle.words.proofs.Bools.{by, or-neither}
use Rattle.words.proofs.ListLaws.{by-found}
use Rattle.words.specs.Words.{AreBytes}
use Rattle.class_sheet.specs.ClassSheet.{class_limit, class_kind, is_built_kind, is_packaged, class_flags, class_field_count, class_compiler_table, field_flags, field_name, field_descriptor}
use Rattle.linking.proofs.ChainLaws.{own-fields-length}
use Rattle.linking.specs.Signature.{Same, of_method, methods_same}
use Rattle.linking.specs.Chain.{on_found, own_methods, own_fields, parent_of, is_static, is_interface, eligible}
use Rattle.linking.specs.Abi.{class_abi, chain_abi, fixed_field}
use Rattle.linking.specs.Vtable.{Entry, empty, Built, built, refused, on_built, parent_entries, inherited_table, build_methods, entry_is_other, fixed_of, slot_of, put_method, add_method, add_methods}
use Rattle.linking.specs.Packages.{introducing, packages_over, build_packages}
use Rattle.linking.specs.Fields.{Numbering, number_field, number_fields, added_fields, built_words, too_many_words, generated_refusal, indices_plus, generated_indices, generated_base, stand_from, own_given, runtime_words, instance_words}
use Rattle.linking.specs.Compiler.{members}
use Rattle.linking.specs.Link.{Plan, planned, unplanned, is_none, on_table, within_slots, built_table, plan_built, generated_table, plan_generated, plan_array, plan, new_fields_of, generated_methods, new_words}
use Rattle.linking.specs.Missing.{table_by}
use Rattle.linking.specs.Set.{new_text}
use Rattle.linking.proofs.Names.{no_bytes, field-bytes, method-bytes}

-- ---- kinds

pub built-kind : (k : ℕ) → (k ≡ 0) ⊎ (k ≡ 3) → is_built_kind k ≡ true
unfolding is_built_kind
built-kind k (inl e) = rw e
built-kind k (inr e) = rw e

pub kind-built : (k : ℕ) → is_built_kind k ≡ true → (k ≡ 0) ⊎ (k ≡ 3)
unfolding is_built_kind
kind-built k h = by (eqb k 0) (λ t. inl (eqb-true k 0 t)) (λ t. inr (eqb-true k 3 (rw t at h)))

pub kind-other : (k : ℕ) → k ≢ 0 → k ≢ 3 → is_built_kind k ≡ false
kind-other k n m = by (is_built_kind k) (λ t. elim (kind-built k t) [ inl e ↦ absurd (n e) | inr e ↦ absurd (m e) ]) (λ t. t)

-- a kind that is not built
no_kind : {k : ℕ} (j : ℕ) → k ≡ j → is_built_kind j ≡ false → is_built_kind k ≡ true → ⊥
no_kind j e f t = true≢false (sym t ∙ ap is_built_kind e ∙ f)

-- ---- kind 3: the number of a class of a set is within the limit

module _ (same : Same) (ws text abi labels area : List ℕ) (c : ℕ) where
  pub packages-within : c ≤ class_limit → build_packages same ws text abi labels area c
      ≡ packages_over (methods_same same) ws text (introducing same ws text abi labels area (parent_of ws c)) c (parent_entries same ws text abi labels area c)
  unfolding build_packages
  packages-within h = rw (le-ltb class_limit c h)

  pub packages-beyond : class_limit < c → build_packages same ws text abi labels area c ≡ []
  unfolding build_packages
  packages-beyond h = rw (lt-ltb class_limit c h)

-- ---- how many indices

module _ (ws text abi labels : List ℕ) (own : Option ℕ) where
  number-one : (n : Numbering) (f : ℕ) → length (number_field ws text abi labels own n f).indices ≡ length n.indices + 1
  unfolding number_field
  number-one n f =
      by (is_static (field_flags ws f)) (λ t. rw t (length-append n.indices _))
      (λ q.
      rw q
      (by-found (option_and_then (fixed_field abi labels (field_name ws text f) (field_descriptor ws text f)) own)
      (λ g e. rw e (length-append n.indices _))
      (λ e.
      rw e
      (by (eqb (own_given abi own) 0) (λ t. rw t (length-append n.indices _)) (λ t. rw t (length-append n.indices _))))))

  number-all : (fs : List ℕ) (n : Numbering) → length (fold (number_field ws text abi labels own) n fs).indices ≡ length n.indices + length fs
  unfolding fold
  number-all [] n = omega arith
  number-all (f ∷ fs) n = omega (arith, number-all fs (number_field ws text abi labels own n f), number-one n f)

  pub numbered-length : (c : ℕ) → length (number_fields ws text abi labels own c).indices ≡ length (own_fields ws c)
  unfolding number_fields
  numbered-length c =
      omega (
        arith,
        number-all (own_fields ws c) (record {
          indices = [];
          statics = 0;
          runtime = runtime_words ws text (parent_of ws c);
          running = cond (eqb (parent_of ws c) 0) 0 (instance_words ws (parent_of ws c));
        }),
      )

  pub number-fields : (c : ℕ) → length (number_fields ws text abi labels own c).indices ≤ class_field_count ws c
  number-fields c = omega (arith, own-fields-length ws c, numbered-length c)

plus_length : (ws : List ℕ) (b : ℕ) (fs : List ℕ) → length (indices_plus ws b fs) ≡ length fs
unfolding indices_plus
plus_length ws b [] = refl
plus_length ws b (f ∷ fs) = ap suc (plus_length ws b fs)

pub generated-length : (ws text : List ℕ) (c : ℕ) → length (generated_indices ws text c) ≤ class_field_count ws c
unfolding generated_indices
generated-length ws text c =
    omega (
      arith,
      own-fields-length ws c,
      plus_length ws (cond (stand_from ws text (generated_base ws text c) (own_fields ws c)) 0 (generated_base ws text c)) (own_fields ws c),
    )

-- ---- a table is built or refused

pub built-same : {T U : List Entry} → built T ≡ built U → T ≡ U
built-same e = cc

pub not-built : {X : Type 0} {n : ℕ} {T : List Entry} → refused n ≡ built T → X
not-built e = absurd (omega (arith, zero_one e))
  where
    zero_one : {n : ℕ} {T : List Entry} → refused n ≡ built T → ◌≡◌ {A = ℕ} 0 1
    zero_one e = cc

-- ---- a refused table has the number of its row

refused-same : {m n : ℕ} → refused m ≡ refused n → m ≡ n
refused-same e = cc

refused-some : {m n : ℕ} → m ≢ 0 → refused m ≡ refused n → n ≢ 0
refused-some h e z = h (refused-same e ∙ z)

on_refused : (b : Built) (f : List Entry → Built) (n : ℕ) → on_built b f ≡ refused n
    → (b ≡ refused n) ⊎ ((U : List Entry) × (f U ≡ refused n))
on_refused (built U) f n e = inr (U, e)
on_refused (refused m) f n e = inl e

module _ (same : Same) (ws : List ℕ) where
  put_refused : (fixed slot : Option ℕ) (m : ℕ) (T : List Entry) (n : ℕ) → put_method same ws fixed slot m T ≡ refused n → n ≢ 0
  unfolding put_method
  put_refused (Some i) slot m T n e =
      by (on_found slot (λ j. not (eqb j i)) false) (λ t. refused-some {m = 11} (omega arith) (rw t at e))
      (λ t.
      let r = rw t at e in
      by (entry_is_other same (of_method m) (get_or T i empty))
      (λ u. refused-some {m = 12} (omega arith) (rw u at r))
      (λ u. not-built (sym (rw u at r))))
  put_refused None (Some j) m T n e = not-built (sym e)
  put_refused None None m T n e = not-built (sym e)

module _ (same : Same) (ws text abi : List ℕ) where
  add-refused : (abis : List ℕ) (m : ℕ) (T : List Entry) (n : ℕ) → add_method same ws text abi abis m T ≡ refused n → n ≢ 0
  unfolding add_method
  add-refused abis m T n e =
      by (eligible ws text m)
      (λ t. put_refused same ws (fixed_of same abi abis m) (slot_of same (of_method m) T) m T n (rw t at e))
      (λ t. not-built (sym (rw t at e)))

  adds-refused : (abis ms : List ℕ) (T : List Entry) (n : ℕ) → add_methods same ws text abi abis ms T ≡ refused n → n ≢ 0
  unfolding add_methods
  adds-refused abis [] T n e = not-built (sym e)
  adds-refused abis (m ∷ ms) T n e =
      elim (on_refused (add_method same ws text abi abis m T) (add_methods same ws text abi abis ms) n e)
      [ inl r ↦ add-refused abis m T n r | inr r ↦ adds-refused abis ms r.0 n r.1 ]

module _ (same : Same) (ws text abi labels area : List ℕ) (c : ℕ) where
  build-refused : (n : ℕ) → build_methods same ws text abi labels area c ≡ refused n → n ≢ 0
  unfolding build_methods
  build-refused n e = adds-refused same ws text abi (chain_abi ws text abi labels c) (own_methods ws c) (inherited_table same ws text abi labels area c) n e

  built-refused : (n : ℕ) → built_table same ws text abi labels area c ≡ refused n → n ≢ 0
  unfolding built_table
  built-refused n e =
      by (is_packaged ws c) (λ t. not-built (sym (rw t at e)))
      (λ t.
      let r = rw t at e in by (is_interface (class_flags ws c)) (λ u. not-built (sym (rw u at r))) (λ u. build-refused n (rw u at r)))

  generated-refused : (n : ℕ) → generated_table same ws text abi labels area c ≡ refused n → n ≢ 0
  unfolding generated_table
  generated-refused n e = by (eqb (class_compiler_table ws c) 0) (λ t. build-refused n (rw t at e)) (λ t. not-built (sym (rw t at e)))

-- ---- plans

unplanned-same : {m n : ℕ} → unplanned m ≡ unplanned n → m ≡ n
unplanned-same e = cc

pub planned-same : {p q : Plan} → planned p ≡ planned q → p ≡ q
planned-same e = cc

pub not-planned : {X : Type 0} {n : ℕ} {p : Plan} → unplanned n ≡ planned p → X
not-planned e = absurd (omega (arith, zero_one e))
  where
    zero_one : {n : ℕ} {p : Plan} → unplanned n ≡ planned p → ◌≡◌ {A = ℕ} 0 1
    zero_one e = cc

unplanned-some : {m n : ℕ} → m ≢ 0 → unplanned m ≡ unplanned n → n ≢ 0
unplanned-some h e z = h (unplanned-same e ∙ z)

pub within-planned : (q p : Plan) → within_slots q ≡ planned p → q ≡ p
unfolding within_slots
within-planned q p e = by (ltb 1024 (length q.table)) (λ t. not-planned (rw t at e)) (λ t. planned-same (rw t at e))

pub within-small : (q p : Plan) → within_slots q ≡ planned p → length q.table ≤ 1024
unfolding within_slots
within-small q p e =
    by (ltb 1024 (length q.table)) (λ t. not-planned (rw t at e)) (λ t. ltb-false 1024 (length q.table) t)

within-unplanned : (q : Plan) (n : ℕ) → within_slots q ≡ unplanned n → n ≢ 0
unfolding within_slots
within-unplanned q n e =
    by (ltb 1024 (length q.table)) (λ t. unplanned-some {m = 13} (omega arith) (rw t at e)) (λ t. not-planned (sym (rw t at e)))

pub table-planned : (b : Built) (f : List Entry → Plan) (p : Plan) → on_table b (λ T. within_slots (f T)) ≡ planned p
    → (T : List Entry) × (b ≡ built T) × (f T ≡ p) × (length (f T).table ≤ 1024)
table-planned (built T) f p e = (T, refl, within-planned (f T) p e, within-small (f T) p e)
table-planned (refused n) f p e = not-planned e

table-unplanned : (b : Built) (f : List Entry → Plan) (n : ℕ) → ((k : ℕ) → b ≡ refused k → k ≢ 0) → on_table b (λ T. within_slots (f T)) ≡ unplanned n
    → n ≢ 0
table-unplanned (built T) f n h e = within-unplanned (f T) n e
table-unplanned (refused m) f n h e = unplanned-some (h m refl) e

module _ (same : Same) (ws text abi labels area : List ℕ) (c : ℕ) where
  -- what a plan of class c has
  pub record Plans (p : Plan) : Type 0 where
    pub indices : length p.indices ≤ class_field_count ws c
    pub generated : is_none (members p.added) ≡ false → class_kind ws c ≡ 1
    pub method-bytes : AreBytes text → AreBytes labels → AreBytes (new_text (members p.added))
    pub field-bytes : AreBytes text → AreBytes labels → AreBytes (new_text p.new_fields)
    pub table : table_by same ws text abi labels area c ≡ built p.table
    pub built : class_kind ws c ≡ 0 → is_interface (class_flags ws c) ≡ false → build_methods same ws text abi labels area c ≡ built p.table
    pub packaged : class_kind ws c ≡ 3 → build_packages same ws text abi labels area c ≡ p.table
    pub array : class_kind ws c ≡ 2 → parent_entries same ws text abi labels area c ≡ p.table
    -- rows 10 and 13
    pub words : new_words ws text abi labels c ≤ 65535
    pub slots : length p.table ≤ 1024
    -- what it adds
    pub methods : (p.added ≡ []) ⊎ (p.added ≡ generated_methods same ws text abi labels area c)
    pub fields : (p.new_fields ≡ []) ⊎ (p.new_fields ≡ new_fields_of abi labels (added_fields ws text abi labels (class_abi ws text abi labels c) c))
    pub grows : class_kind ws c ≡ 1 → (p.added ≡ generated_methods same ws text abi labels area c) × (p.new_fields ≡ [])

  -- the table, kind by kind
  pub table-built : is_built_kind (class_kind ws c) ≡ true → table_by same ws text abi labels area c ≡ built_table same ws text abi labels area c
  unfolding table_by
  table-built k = rw k

  pub table-generated : class_kind ws c ≡ 1 → table_by same ws text abi labels area c ≡ generated_table same ws text abi labels area c
  unfolding table_by
  table-generated k =
      let n : is_built_kind (class_kind ws c) ≡ false = ap is_built_kind k ∙ kind-other 1 (omega arith) (omega arith) in rw (n, eq-eqb (class_kind ws c) 1 k)

  pub table-array : is_built_kind (class_kind ws c) ≡ false → class_kind ws c ≢ 1
      → table_by same ws text abi labels area c ≡ built (parent_entries same ws text abi labels area c)
  unfolding table_by
  table-array n m = rw (n, ne_eqb (class_kind ws c) 1 m)

  abbrev pub built_plan : List Entry → Plan
  built_plan T =
      record {
        table = T;
        indices = (number_fields ws text abi labels (class_abi ws text abi labels c) c).indices;
        added = [];
        new_fields = new_fields_of abi labels (added_fields ws text abi labels (class_abi ws text abi labels c) c);
      }

  abbrev pub generated_plan : List Entry → Plan
  generated_plan T =
      record { table = T; indices = generated_indices ws text c; added = generated_methods same ws text abi labels area c; new_fields = [] }

  plain-table : class_kind ws c ≡ 0 → is_interface (class_flags ws c) ≡ false → (T : List Entry) → built_table same ws text abi labels area c ≡ built T
      → build_methods same ws text abi labels area c ≡ built T
  unfolding built_table
  plain-table k f T e = rw (k, f) at e

  packaged-table : class_kind ws c ≡ 3 → (T : List Entry) → built_table same ws text abi labels area c ≡ built T
      → build_packages same ws text abi labels area c ≡ T
  unfolding built_table
  packaged-table k T e = built-same (rw k at e)

  pub built-words : is_built_kind (class_kind ws c) ≡ true → too_many_words ws text abi labels (class_abi ws text abi labels c) c ≡ false
      → new_words ws text abi labels c ≤ 65535
  unfolding new_words too_many_words
  built-words kind t =
      rw kind
      (ltb-false 65535 (built_words ws text abi labels (class_abi ws text abi labels c) c)
      (or-neither (ltb 65535 (built_words ws text abi labels (class_abi ws text abi labels c) c)) _ t).0)

  pub other_words : is_built_kind (class_kind ws c) ≡ false → new_words ws text abi labels c ≤ 65535
  unfolding new_words
  other_words n = rw n (omega arith)

  plans-built : is_built_kind (class_kind ws c) ≡ true → (p : Plan) → plan_built same ws text abi labels area c ≡ planned p → Plans p
  unfolding plan_built members
  plans-built kind p e =
      by (too_many_words ws text abi labels (class_abi ws text abi labels c) c) (λ t. not-planned (rw t at e))
      (λ t.
      let r = table-planned (built_table same ws text abi labels area c) built_plan p (rw t at e) in
      rw (← r.2)
      (record {
        indices = number-fields ws text abi labels (class_abi ws text abi labels c) c;
        generated = λ n. absurd (true≢false n);
        method-bytes = λ t l. no_bytes;
        field-bytes = λ t l. field-bytes abi labels (added_fields ws text abi labels (class_abi ws text abi labels c) c) l;
        built = λ k f. plain-table k f r.0 r.1;
        packaged = λ k. packaged-table k r.0 r.1;
        array = λ k. absurd (no_kind 2 k (kind-other 2 (omega arith) (omega arith)) kind);
        table = table-built kind ∙ r.1;
        words = built-words kind t;
        slots = r.3;
        methods = inl refl;
        fields = inr refl;
        grows = λ k. absurd (no_kind 1 k (kind-other 1 (omega arith) (omega arith)) kind);
      }))

  plans-generated : class_kind ws c ≡ 1 → (p : Plan) → plan_generated same ws text abi labels area c ≡ planned p → Plans p
  unfolding plan_generated
  plans-generated kind p e =
      by (eqb (generated_refusal ws text c) 0)
      (λ t.
      let r = table-planned (generated_table same ws text abi labels area c) generated_plan p (rw t at e) in
      rw (← r.2)
      (record {
        indices = generated-length ws text c;
        generated = λ n. kind;
        method-bytes = λ t l. method-bytes same ws text abi labels t l area c;
        field-bytes = λ t l. no_bytes;
        built = λ k f. absurd (omega arith);
        packaged = λ k. absurd (omega arith);
        array = λ k. absurd (omega arith);
        table = table-generated kind ∙ r.1;
        words = other_words (ap is_built_kind kind ∙ kind-other 1 (omega arith) (omega arith));
        slots = r.3;
        methods = inr refl;
        fields = inl refl;
        grows = λ k. (refl, refl);
      }))
      (λ t. not-planned (rw t at e))

  plans-array : is_built_kind (class_kind ws c) ≡ false → class_kind ws c ≢ 1 → (p : Plan) → plan_array same ws text abi labels area c ≡ planned p → Plans p
  unfolding plan_array members
  plans-array kind other p e =
      let r = within-planned (record { table = parent_entries same ws text abi labels area c; indices = []; added = []; new_fields = [] }) p e in
      rw (← r)
      (record {
        indices = omega arith;
        generated = λ n. absurd (true≢false n);
        method-bytes = λ t l. no_bytes;
        field-bytes = λ t l. no_bytes;
        built = λ k f. absurd (true≢false (sym (built-kind (class_kind ws c) (inl k)) ∙ kind));
        packaged = λ k. absurd (true≢false (sym (built-kind (class_kind ws c) (inr k)) ∙ kind));
        array = λ k. refl;
        table = table-array kind other;
        words = other_words kind;
        slots = within-small (record { table = parent_entries same ws text abi labels area c; indices = []; added = []; new_fields = [] }) p e;
        methods = inl refl;
        fields = inl refl;
        grows = λ k. absurd (other k);
      })

  pub plans : (p : Plan) → plan same ws text abi labels area c ≡ planned p → Plans p
  unfolding plan
  plans p e =
      by (is_built_kind (class_kind ws c)) (λ t. plans-built t p (rw t at e))
      (λ t.
      let r = rw t at e in
      by (eqb (class_kind ws c) 1) (λ u. plans-generated (eqb-true (class_kind ws c) 1 u) p (rw u at r))
      (λ u. plans-array t (eqb-false (class_kind ws c) 1 u) p (rw u at r)))

  -- ---- a plan that is refused has the number of its row

  unplanned-built : (n : ℕ) → plan_built same ws text abi labels area c ≡ unplanned n → n ≢ 0
  unfolding plan_built
  unplanned-built n e =
      by (too_many_words ws text abi labels (class_abi ws text abi labels c) c) (λ t. unplanned-some {m = 10} (omega arith) (rw t at e))
      (λ t. table-unplanned (built_table same ws text abi labels area c) built_plan n (built-refused same ws text abi labels area c) (rw t at e))

  unplanned-generated : (n : ℕ) → plan_generated same ws text abi labels area c ≡ unplanned n → n ≢ 0
  unfolding plan_generated
  unplanned-generated n e =
      by (eqb (generated_refusal ws text c) 0)
      (λ t. table-unplanned (generated_table same ws text abi labels area c) generated_plan n (generated-refused same ws text abi labels area c) (rw t at e))
      (λ t. unplanned-some (eqb-false (generated_refusal ws text c) 0 t) (rw t at e))

  pub unplanned-number : (n : ℕ) → plan same ws text abi labels area c ≡ unplanned n → n ≢ 0
  unfolding plan plan_array
  unplanned-number n e =
      by (is_built_kind (class_kind ws c)) (λ t. unplanned-built n (rw t at e))
      (λ t.
      let r = rw t at e in
      by (eqb (class_kind ws c) 1) (λ u. unplanned-generated n (rw u at r))
      (λ u.
      within-unplanned (record { table = parent_entries same ws text abi labels area c; indices = []; added = []; new_fields = [] }) n (rw u at r)))
