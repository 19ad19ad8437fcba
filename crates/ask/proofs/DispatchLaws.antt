-- Laws of implementations and of a class's table for an interface, as the code goes through them. Assumes nothing.
use mathlib.Core.Path.{◌≡◌, refl, sym, ap, ◌∙◌}
use mathlib.Core.Bool.{◌&&◌}
use mathlib.Core.List.{List, [], ◌∷◌, ◌++◌, append_assoc, append-nil}
use Prim.Native.Nat.{ℕ, ◌<◌}
use Rattle.std.specs.Prelude.{Option, Some, None, Ok, Err, ok_or}
use Rattle.refusal.specs.declared.Refusal.{Refusal}
use Rattle.std.specs.Option.{option_or}
use Rattle.words.proofs.ListLaws.{find-member, found-by}
use Rattle.class_sheet.specs.ClassSheet.{method_flags, method_limit}
use Rattle.linking.specs.Signature.{Same, Place, of_method}
use Rattle.linking.specs.Chain.{own_methods, parent_of, chain, is_virtual}
use Rattle.linking.specs.Vtable.{Entry, method_entry, Built, built, refused}
use Rattle.linking.specs.Ask.{own_implementation, implementation, cons_entry, dispatch_entries}
use Rattle.linking.specs.declared.Declared.{Declared}
use Rattle.linking.specs.Whose.{declared, declared_in, declared_implementation}
use Rattle.linking.proofs.ChainLaws.{own-method-room}
use Rattle.linking.proofs.Whose.{implementation-found}
use Rattle.reading.proofs.ClassLaws.{declared-none, declared-step}
use Rattle.reading.specs.declared.table.Slot.{Slot}
use Rattle.reading.specs.Tables.{entry}
use Rattle.ask.specs.Dispatch.{slot_built, dispatched}

-- what `ok_or` tells of the option
pub was-some : {A : Type 0} (o : Option A) (k : Refusal) {x : A} → ok_or o k ≡ Ok x → o ≡ Some x
was-some (Some y) k e = cc
was-some None k e = cc

pub was-none : {A : Type 0} (o : Option A) (k : Refusal) {e : Refusal} → ok_or o k ≡ Err e → (o ≡ None) × (e ≡ k)
was-none (Some y) k e = cc
was-none None k e = (refl, cc)

cons-none : (B : Built) → cons_entry (built []) B ≡ B
cons-none (built T) = refl
cons-none (refused n) = refl

cons-two : (T U : List Entry) (B : Built) → cons_entry (built T) (cons_entry (built U) B) ≡ cons_entry (built (T ++ U)) B
cons-two T U (built S) = ap built (sym (append_assoc T U S))
cons-two T U (refused n) = refl

module _ (same : Same) (ws : List ℕ) where
  -- ---- implementations

  module _ (c m : ℕ) where
    pub implementation-none : c ≡ 0 → None ≡ declared_implementation same ws c m
    unfolding declared_implementation
    implementation-none e = sym (declared-none (own_implementation same ws (of_method m)) ws c e)

    module _ {r : Option ℕ} (h : 0 < c) (own : r ≡ own_implementation same ws (of_method m) c) where
      step : option_or (declared_in c r) (declared_implementation same ws (parent_of ws c) m) ≡ declared_implementation same ws c m
      unfolding declared_implementation
      step = rw own (declared-step (own_implementation same ws (of_method m)) ws c h)

      pub implementation-hit : (k : ℕ) → r ≡ Some k → declared c k ≡ declared_implementation same ws c m
      implementation-hit k e = rw e at step

      pub implementation-up : r ≡ None → declared_implementation same ws (parent_of ws c) m ≡ declared_implementation same ws c m
      implementation-up e = rw e at step

  own_room : (p : Place) (c k : ℕ) → own_implementation same ws p c ≡ Some k → k < method_limit
  unfolding own_implementation
  own_room p c k e = own-method-room ws c k (find-member (λ m. is_virtual (method_flags ws m) && same (of_method m) p) (own_methods ws c) k e)

  -- an implementation is one of the sheet's methods
  implementation-room : (c m k : ℕ) → implementation same ws c m ≡ Some k → k < method_limit
  unfolding implementation
  implementation-room c m k e =
      found-by (own_implementation same ws (of_method m)) (chain ws c) k (λ d t q. own_room (of_method m) d k q) e

  -- ---- one slot

  module _ (c : ℕ) (e : Entry) where
    pub slot_kept : {o : Option ℕ} → o ≡ e.method → o ≡ None → built (e ∷ []) ≡ dispatched same ws c e
    unfolding dispatched
    slot_kept h n = rw (← h, n)

    module _ {o : Option ℕ} {r : Option Declared} (j : ℕ) (method : o ≡ e.method) (some : o ≡ Some j) (found : r ≡ declared_implementation same ws c j) where
      pub slot-takes : (d m : ℕ) {x : Entry} → r ≡ declared d m → (m < method_limit → x ≡ method_entry ws m) → built (x ∷ []) ≡ dispatched same ws c e
      unfolding dispatched
      slot-takes d m f g =
          let i : implementation same ws c j ≡ Some m = sym (implementation-found same ws c j) ∙ rw (← found, f) in
          rw (g (implementation-room c j m i)) (rw (← method, some) (rw i))

      pub slot-missing : r ≡ None → refused 16 ≡ dispatched same ws c e
      unfolding dispatched
      slot-missing f =
          let i : implementation same ws c j ≡ None = sym (implementation-found same ws c j) ∙ rw (← found, f) in
          rw (← method, some) (rw i)

  -- ---- the loop over the slots

  module _ (c : ℕ) where
    -- the slots so far, and what comes of those that are left
    unfoldable pub so_far : List Entry → List Entry → Built
    so_far U T = cons_entry (built U) (dispatch_entries same ws c T)

    pub dispatch_start : (T : List Entry) → so_far [] T ≡ dispatch_entries same ws c T
    unfolding so_far
    dispatch_start T = cons-none (dispatch_entries same ws c T)

    module _ (s : Option Slot) (U : List Entry) {e : Entry} {T V : List Entry} (next : T ≡ e ∷ V) (slot : slot_built s ≡ dispatched same ws c e) where
      turn : so_far U T ≡ cons_entry (built U) (cons_entry (slot_built s) (dispatch_entries same ws c V))
      unfolding so_far dispatch_entries dispatched
      turn = rw (next, slot) refl

      pub dispatch_stop : s ≡ None → refused 16 ≡ so_far U T
      dispatch_stop t = let e = turn in sym (e ∙ rw t refl)

      pub dispatch_turn : {x : Slot} {W : List Entry} → s ≡ Some x → W ≡ U ++ (entry x ∷ []) → so_far W V ≡ so_far U T
      unfolding so_far
      dispatch_turn {x = x} f g =
          let t = turn in rw g (sym (t ∙ rw f (cons-two U (entry x ∷ []) (dispatch_entries same ws c V))))

    pub dispatch_end : (U : List Entry) {T : List Entry} → T ≡ [] → built U ≡ so_far U T
    unfolding so_far dispatch_entries
    dispatch_end U e = rw (e, append-nil)
