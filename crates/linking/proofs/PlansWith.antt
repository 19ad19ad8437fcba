-- What a plan has whatever table `build_methods` makes (`plan_with`): the linker's, and that of the one before. Assumes nothing.
use mathlib.Core.Path.{◌≡◌, refl}
use mathlib.Core.Logic.{◌⊎◌, inl, inr}
use mathlib.Core.Bool.{false, true≢false}
use mathlib.Core.List.{List, []}
use Prim.Native.Nat.{ℕ, ◌≤◌}
use native.Mathlib.Omega.{arith}
use lib.ListN.{length}
use lib.Dec.{eqb}
use borrow.Author.Tests.{eqb-true}
use Rattle.words.proofs.Bools.{by}
use Rattle.words.specs.Words.{AreBytes}
use Rattle.class_sheet.specs.ClassSheet.{class_kind, is_built_kind, class_field_count}
use Rattle.linking.specs.Chain.{own_fields}
use Rattle.linking.specs.Signature.{Same}
use Rattle.linking.specs.Abi.{class_abi}
use Rattle.linking.specs.Vtable.{Built, parent_entries}
use Rattle.linking.specs.Fields.{added_fields, too_many_words, generated_refusal}
use Rattle.linking.specs.Compiler.{members}
use Rattle.linking.specs.Link.{Plan, planned, is_none, plan_array, built_table_with, generated_table_with, plan_with, new_fields_of, generated_methods, new_words}
use Rattle.linking.specs.Set.{new_text}
use Rattle.linking.proofs.Names.{no_bytes, field-bytes, method-bytes}
use Rattle.linking.proofs.Plans.{numbered-length, number-fields, generated-length, not-planned, within-planned, within-small, table-planned, built_plan, generated_plan, built-words, other_words}

module _ (same : Same) (ws text abi labels area : List ℕ) (c : ℕ) where
  pub record PlansWith (p : Plan) : Type 0 where
    pub indices : length p.indices ≤ class_field_count ws c
    -- rows 10 and 13
    pub words : new_words ws text abi labels c ≤ 65535
    pub slots : length p.table ≤ 1024
    -- what it adds
    pub methods : (p.added ≡ []) ⊎ (p.added ≡ generated_methods same ws text abi labels area c)
    pub fields : (p.new_fields ≡ []) ⊎ (p.new_fields ≡ new_fields_of abi labels (added_fields ws text abi labels (class_abi ws text abi labels c) c))
    pub full : is_none p.new_fields ≡ false → length p.indices ≡ length (own_fields ws c)
    pub generated : is_none (members p.added) ≡ false → (class_kind ws c ≡ 1) × (p.new_fields ≡ [])
    pub method-bytes : AreBytes text → AreBytes labels → AreBytes (new_text (members p.added))
    pub field-bytes : AreBytes text → AreBytes labels → AreBytes (new_text p.new_fields)

  pub plans_with : (B : Built) (p : Plan) → plan_with same ws text abi labels area B c ≡ planned p → PlansWith p
  unfolding plan_with plan_array members
  plans_with B p e =
      by (is_built_kind (class_kind ws c))
      (λ t.
      let q = rw t at e in
      by (too_many_words ws text abi labels (class_abi ws text abi labels c) c) (λ u. not-planned (rw u at q))
      (λ u.
      let r = table-planned (built_table_with same ws text abi labels area B c) (built_plan same ws text abi labels area c) p (rw u at q) in
      rw (← r.2)
      (record {
        indices = number-fields ws text abi labels (class_abi ws text abi labels c) c;
        words = built-words same ws text abi labels area c t u;
        slots = r.3;
        methods = inl refl;
        fields = inr refl;
        full = λ n. numbered-length ws text abi labels (class_abi ws text abi labels c) c;
        generated = λ n. absurd (true≢false n);
        method-bytes = λ t l. no_bytes;
        field-bytes = λ t l. field-bytes abi labels (added_fields ws text abi labels (class_abi ws text abi labels c) c) l;
      })))
      (λ t.
      let q = rw t at e in
      by (eqb (class_kind ws c) 1)
      (λ u.
      let k = eqb-true (class_kind ws c) 1 u in
      let o = rw u at q in
      by (eqb (generated_refusal ws text c) 0)
      (λ v.
      let r = table-planned (generated_table_with same ws text abi labels area B c) (generated_plan same ws text abi labels area c) p (rw v at o) in
      rw (← r.2)
      (record {
        indices = generated-length ws text c;
        words = other_words same ws text abi labels area c t;
        slots = r.3;
        methods = inr refl;
        fields = inl refl;
        full = λ n. absurd (true≢false n);
        generated = λ n. (k, refl);
        method-bytes = λ t l. method-bytes same ws text abi labels t l area c;
        field-bytes = λ t l. no_bytes;
      }))
      (λ v. not-planned (rw v at o)))
      (λ u.
      let r =
      within-planned (record { table = parent_entries same ws text abi labels area c; indices = []; added = []; new_fields = [] }) p (rw u at q) in
      rw (← r)
      (record {
        indices = omega arith;
        words = other_words same ws text abi labels area c t;
        slots = within-small (record { table = parent_entries same ws text abi labels area c; indices = []; added = []; new_fields = [] }) p (rw u at q);
        methods = inl refl;
        fields = inl refl;
        full = λ n. absurd (true≢false n);
        generated = λ n. absurd (true≢false n);
        method-bytes = λ t l. no_bytes;
        field-bytes = λ t l. no_bytes;
      })))
