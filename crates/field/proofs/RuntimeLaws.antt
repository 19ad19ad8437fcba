-- Laws of runtime words: an index read as signed, where a field's runtime words end, and the count along the chain. Assumes nothing.
use Rattle.std.proofs.Common.{◌≡◌, ℕ, ◌+◌, ◌-◌, ◌<◌, ◌≤◌, Bool, true, false, not, ◌&&◌, ◌||◌, eqb, List, [], ◌∷◌, get_or, sym, ◌∙◌, arith, leb-true}
use Rattle.words.specs.Lists.{fold}
use Rattle.words.proofs.Bools.{by, and_both}
use Rattle.words.proofs.ListLaws.{largest_room}
use Rattle.descriptor.specs.Bytes.{byte}
use Rattle.descriptor.specs.Words.{byte_width, width}
use Rattle.class_sheet.specs.ClassSheet.{field_descriptor, field_flags, field_index}
use Rattle.linking.proofs.ChainLaws.{chain-none, chain_more}
use Rattle.linking.specs.Chain.{own_fields, parent_of, chain, is_static}
use Rattle.linking.specs.Fields.{is_negative, magnitude, field_width, runtime_end, own_runtime, runtime_words}
use Rattle.field.specs.Numbers.{below_of}
use Rattle.std.specs.Prelude.{Option, Some, None}

-- a field takes one word or two
pub width_room : (s : List ℕ) → width s ≤ 2
unfolding width byte_width
width_room s =
    by (eqb (get_or s 0 0) (byte "J") || eqb (get_or s 0 0) (byte "D")) (λ t. rw t (omega arith)) (λ f. rw f (omega arith))

-- ---- signed

negative_is : (i m : ℕ) → below_of i ≡ Some m → (is_negative i ≡ true) × (m ≡ magnitude i)
negative_is i m e =
    by (is_negative i) (λ t. let q : ◌≡◌ {A = Option ℕ} (Some (magnitude i)) (Some m) = rw t at e in (t, cc))
    (λ f. let q : ◌≡◌ {A = Option ℕ} None (Some m) = rw f at e in let o : ◌≡◌ {A = ℕ} 0 1 = cc in absurd (omega arith))

nonnegative_is : (i : ℕ) → below_of i ≡ None → is_negative i ≡ false
nonnegative_is i e =
    by (is_negative i)
    (λ t. let q : ◌≡◌ {A = Option ℕ} (Some (magnitude i)) None = rw t at e in let o : ◌≡◌ {A = ℕ} 0 1 = cc in absurd (omega arith)) (λ f. f)

-- ---- where a field's runtime words end

module _ (ws text : List ℕ) (f : ℕ) {b : Bool} (static : b ≡ is_static (field_flags ws f)) where
  pub end_static : b ≡ true → 0 ≡ runtime_end ws text f
  unfolding runtime_end
  end_static t = rw (← static, t)

  module _ (instance : b ≡ false) {i : ℕ} (index : i ≡ field_index ws f) {s : Option ℕ} (read : s ≡ below_of i) where
    pub end_negative : (m : ℕ) {w : ℕ} → s ≡ Some m → w ≡ field_width ws text f → m - 1 + w ≡ runtime_end ws text f
    unfolding runtime_end
    end_negative m e g =
        let n = negative_is i m (sym read ∙ e) in
        rw (← static, instance, ← index, n.0, n.1, g)

    pub end_nonnegative : s ≡ None → 0 ≡ runtime_end ws text f
    unfolding runtime_end
    end_nonnegative e = rw (← static, instance, ← index, nonnegative_is i (sym read ∙ e))

pub runtime-end-room : (ws text : List ℕ) (f : ℕ) → runtime_end ws text f ≤ 2147483649
unfolding runtime_end
runtime-end-room ws text f =
    by (not (is_static (field_flags ws f)) && is_negative (field_index ws f))
    (λ t.
    let p = and_both (not (is_static (field_flags ws f))) (is_negative (field_index ws f)) t in
    let l : 2147483648 ≤ field_index ws f = leb-true _ _ p.1 in
    rw t (omega (arith, width_room (field_descriptor ws text f))))
    (λ q. rw q (omega arith))

-- ---- along the chain

module _ (ws text : List ℕ) where
  pub own-runtime-room : (n c : ℕ) → n ≤ 2147483649 → own_runtime ws text n c ≤ 2147483649
  unfolding own_runtime
  own-runtime-room n c h = largest_room (runtime_end ws text) (own_fields ws c) n 2147483649 h (runtime-end-room ws text)

  fold-room : (cs : List ℕ) (n : ℕ) → n ≤ 2147483649 → fold (own_runtime ws text) n cs ≤ 2147483649
  unfolding fold
  fold-room [] n h = h
  fold-room (c ∷ cs) n h = fold-room cs (own_runtime ws text n c) (own-runtime-room n c h)

  pub runtime_room : (c : ℕ) → runtime_words ws text c ≤ 2147483649
  unfolding runtime_words
  runtime_room c = fold-room (chain ws c) 0 (omega arith)

  pub runtime_none : (c n : ℕ) → c ≡ 0 → n ≡ fold (own_runtime ws text) n (chain ws c)
  unfolding fold
  runtime_none c n e = rw (chain-none ws c e)

  pub runtime_up : (c n : ℕ) {p o r : ℕ} → 0 < c → p ≡ parent_of ws c → o ≡ own_runtime ws text n c → r ≡ fold (own_runtime ws text) o (chain ws p)
      → r ≡ fold (own_runtime ws text) n (chain ws c)
  unfolding fold
  runtime_up c n {r = r} h e f g =
      let q : r ≡ fold (own_runtime ws text) (own_runtime ws text n c) (chain ws (parent_of ws c)) = rw (f, e) at g in
      rw (chain_more ws c h) q
