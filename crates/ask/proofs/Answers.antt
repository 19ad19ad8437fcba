-- What an ask answers is determined by its contract: each row that refuses it has a number, and a place that it answers lies after a link word.
-- Assumes nothing.
use mathlib.Core.Path.{◌≡◌, refl}
use mathlib.Core.Logic.{◌≢◌}
use mathlib.Core.Bool.{cond}
use mathlib.Core.List.{List, [], ◌∷◌}
use Prim.Native.Nat.{ℕ, ◌+◌}
use native.Mathlib.Omega.{arith}
use lib.ListN.{length, get_or}
use lib.Dec.{eqb}
use borrow.Author.Tests.{eqb-false}
use Rattle.words.proofs.Bools.{by}
use Rattle.std.specs.Prelude.{Option, Some, None, Result}
use Rattle.refusal.specs.declared.Refusal.{Refusal}
use Rattle.class_sheet.specs.ClassSheet.{text_of}
use Rattle.abi_sheet.specs.AbiSheet.{abi_text_of}
use Rattle.set_rules.specs.SetRules.{set_refusal}
use Rattle.linking.specs.Signature.{Same}
use Rattle.linking.specs.Chain.{on_found}
use Rattle.linking.specs.Vtable.{Entry, Built, built, refused, table_entries}
use Rattle.linking.specs.Link.{refused_call, next_free, bad_area, no_room}
use Rattle.linking.specs.Ask.{Walk, hit, missed, broken, walk, head_place, implementation, dispatch_entry, cons_entry, dispatch_entries, asked_area, on_dispatch, build_node, on_walk, bad_ask, ask_by}
use Rattle.area.specs.Area.{outcome}
use Rattle.area.specs.declared.Answer.{Answer}
use Rattle.area.proofs.Answers.{Tells, answer_unique}

not-refused : {T : List Entry} {n : ℕ} → built T ≡ refused n → ⊥
not-refused e = let z : ◌≡◌ {A = ℕ} 0 1 = cc in absurd (omega arith)

module _ (same : Same) (ws abi : List ℕ) (c i : ℕ) (area stubs : List ℕ) where
  entry-refused : (e : Entry) (m k : Option ℕ) (b : Built) (n : ℕ) → ((j : ℕ) → b ≡ refused j → j ≢ 0)
      → cons_entry (dispatch_entry ws e m k) b ≡ refused n → n ≢ 0
  entry-refused e (Some m) (Some k) (built T) n h q = absurd (not-refused q)
  entry-refused e (Some m) (Some k) (refused j) n h q = λ z. h j refl (cc)
  entry-refused e (Some m) None b n h q = λ z. let k : ◌≡◌ {A = ℕ} 16 n = cc in omega arith
  entry-refused e None k (built T) n h q = absurd (not-refused q)
  entry-refused e None k (refused j) n h q = λ z. h j refl (cc)

  entries-refused : (T : List Entry) (n : ℕ) → dispatch_entries same ws c T ≡ refused n → n ≢ 0
  unfolding dispatch_entries
  entries-refused [] n e = absurd (not-refused e)
  entries-refused (x ∷ T) n e =
      entry-refused x x.method (on_found x.method (implementation same ws c) None) (dispatch_entries same ws c T) n
      (entries-refused T) e

  node_tells : (nodes : ℕ) (b : Built) → ((n : ℕ) → b ≡ refused n → n ≢ 0)
      → Tells (on_dispatch b
      (λ T. cond (no_room area stubs (length T))
      (refused_call 15 ws area)
      (record { refusal = 0; first = next_free area + 1; second = nodes; set = ws; area = asked_area ws area c i T stubs }))
      (λ n. refused_call n ws area))
  node_tells nodes (built T) h = by (no_room area stubs (length T)) (λ t. rw t (λ e. absurd (omega arith))) (λ t. rw t (λ e z. omega arith))
  node_tells nodes (refused n) h = λ e. absurd (h n refl e)

  walk_tells : (w : Walk)
      → Tells (on_walk w (λ n nodes. record { refusal = 0; first = n + 1; second = nodes; set = ws; area = area }) (build_node same ws abi c i area stubs)
      (refused_call 7 ws area))
  unfolding build_node
  walk_tells (hit n nodes) = λ e z. omega arith
  walk_tells (missed nodes) =
      let T : List Entry = table_entries same ws (text_of ws) abi (abi_text_of abi) area i in
      node_tells nodes (dispatch_entries same ws c T) (entries-refused T)
  walk_tells broken = λ e. absurd (omega arith)

  pub ask_tells : Tells (ask_by same ws abi c i area stubs)
  unfolding ask_by
  ask_tells =
      by (eqb (set_refusal ws abi) 0)
      (λ v.
      rw v
      (by (bad_ask ws c i) (λ t. rw t (λ e. absurd (omega arith)))
      (λ t.
      rw t
      (by (bad_area ws area) (λ u. rw u (λ e. absurd (omega arith)))
      (λ u. rw u (walk_tells (walk area i 64 0 (get_or area (head_place ws c) 0))))))))
      (λ v. rw v (λ e. absurd (eqb-false (set_refusal ws abi) 0 v e)))

  -- the answer of an ask is determined
  pub ask-answer : (a b : Result Answer Refusal) (s t s' t' : List ℕ) → outcome a s t ≡ ask_by same ws abi c i area stubs
      → outcome b s' t' ≡ ask_by same ws abi c i area stubs
      → a ≡ b
  ask-answer a b s t s' t' e f = answer_unique a b s t s' t' ask_tells e f
