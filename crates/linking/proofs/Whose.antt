-- Whose a method is: a search that answers the class finds what the search without it does, in the nearest class that finds anything; and by
-- row 4 no other class's list holds that method. Assumes nothing.
use mathlib.Core.Path.{◌≡◌, refl, sym, ap, ◌∙◌}
use mathlib.Core.Logic.{⊎_elim, ◌↔◌}
use mathlib.Core.Bool.{Bool, true, false, ◌&&◌}
use mathlib.Core.List.Memᴰ
use mathlib.Core.List.{List, [], ◌∷◌, Memᴰ}
use Prim.Native.Nat.{ℕ, zero, suc, ◌+◌, ◌≤◌, ◌<◌}
use native.Mathlib.Omega.{arith}
use lib.ListN.{get_or}
use lib.Dec.{eqb, leb, ltb}
use borrow.Author.Tests.{eqb-true, eqb-false, leb-true, ltb-true, le-leb, lt-ltb}
use Rattle.words.specs.Lists.{list_from, numbers, find, first_found}
use Rattle.std.specs.Option.{option_or}
use Rattle.std.specs.Prelude.{Option, Some, None}
use Rattle.words.proofs.Bools.{by, and_both}
use Rattle.words.proofs.ListLaws.{by-found, find-member, find-passes, numbers-within}
use Rattle.class_sheet.specs.ClassSheet.{class_count, class_first_method, class_method_count, class_link_state, class_table_place, method_flags, method_target, method_limit}
use Rattle.set_rules.specs.Valid.{IsClass}
use Rattle.linking.specs.declared.Declared.{Declared}
use Rattle.linking.specs.Signature.{Same, of_method, of_abi_slot}
use Rattle.linking.specs.Whose.{declared, method_of, declaring_class, first_declared, declared_by_target, declared_implementation, declared_by_index, read_declared, slot_class, Nearest, Declares, MethodsApart, FixedThere, Column, unknown_slot, known_slot, Whose}
use Rattle.linking.specs.Chain.{list_count, own_methods, chain, is_virtual, own_target, own_method, find_by_target}
use Rattle.linking.specs.Abi.{class_abi, slot_at}
use Rattle.linking.specs.Vtable.{own_fixed, find_by_index, read_entry, read_slot}
use Rattle.linking.specs.Compiler.{holds, owner_state}
use Rattle.linking.specs.Ask.{own_implementation, implementation}
use Rattle.linking.proofs.ChainLaws.{chain-within, own-target-member, own-method-member, own-method-is}

-- ---- every answer remains

pub declared-found : (f : ℕ → Option ℕ) (cs : List ℕ) → method_of (first_declared f cs) ≡ first_found f cs
unfolding first_declared first_found
declared-found f [] = refl
declared-found f (c ∷ cs) = by-found (f c) (λ m e. rw e) (λ e. rw e (declared-found f cs))

or-method : (a b : Option Declared) → method_of (option_or a b) ≡ option_or (method_of a) (method_of b)
or-method (Some d) b = refl
or-method None b = refl

pub target_found : (ws : List ℕ) (c t : ℕ) → method_of (declared_by_target ws c t) ≡ find_by_target ws c t
unfolding declared_by_target find_by_target
target_found ws c t = declared-found (own_target ws t) (chain ws c)

pub implementation-found : (same : Same) (ws : List ℕ) (c m : ℕ) → method_of (declared_implementation same ws c m) ≡ implementation same ws c m
unfolding declared_implementation implementation
implementation-found same ws c m =
    declared-found (own_implementation same ws (of_method m)) (chain ws c)

module _ (same : Same) (ws text abi labels : List ℕ) where
  pub index-found : (c i : ℕ) → method_of (declared_by_index same ws text abi labels c i) ≡ find_by_index same ws text abi labels c i
  unfolding declared_by_index find_by_index
  index-found c i = declared-found (own_fixed same ws text abi labels i) (chain ws c)

  pub reading-found : (c i w : ℕ) → method_of (read_declared same ws text abi labels c i w) ≡ (read_entry same ws text abi labels c i w).method
  unfolding read_declared read_entry
  reading-found c i w =
      or-method (declared_by_target ws c w) (declared_by_index same ws text abi labels c i) ∙ rw (target_found ws c w, index-found c i)

-- ---- the nearest counts

nobody : {X : Type 0} {d m : ℕ} → None ≡ declared d m → X
nobody e = absurd (let z : ◌≡◌ {A = ℕ} 0 1 = cc in omega arith)

pub nearest-counts : (f : ℕ → Option ℕ) (cs : List ℕ) (d m : ℕ) → first_declared f cs ≡ declared d m → Nearest f cs d m
unfolding first_declared
nearest-counts f [] d m e = nobody e
nearest-counts f (c ∷ cs) d m e = by-found (f c) (λ k q. here k q (rw q at e)) (λ q. further q (nearest-counts f cs d m (rw q at e)))
  where
    here : (k : ℕ) → f c ≡ Some k → declared c k ≡ declared d m → Nearest f (c ∷ cs) d m
    here k q r =
        let s : c ≡ d = ap declaring_class r in
        record { before = []; after = cs; parts = rw s; finds = rw (← s) (q ∙ ap method_of r); nearer = λ x t. absurd (Memᴰ.not-nil t) }

    further : f c ≡ None → Nearest f cs d m → Nearest f (c ∷ cs) d m
    further q n = record {
      before = c ∷ n.before;
      after = n.after;
      parts = ap (λ (l : List ℕ). c ∷ l) n.parts;
      finds = n.finds;
      nearer = λ x t. ⊎_elim (λ (s : x ≡ c). rw s q) (λ u. n.nearer x u) (Memᴰ.cases_cons t);
    }

-- ---- it declares the method

on_list : {f : ℕ → Option ℕ} {cs : List ℕ} {d m : ℕ} → Nearest f cs d m → Memᴰ d cs
on_list n = rw n.parts (Memᴰ.append_right n.before (Memᴰ.head refl))

target_declares : (ws : List ℕ) (c t d m : ℕ) → declared_by_target ws c t ≡ declared d m → Declares ws c d m × (method_target ws m ≡ t)
unfolding declared_by_target own_target
target_declares ws c t d m e =
    let n = nearest-counts (own_target ws t) (chain ws c) d m e in (
      record { along = on_list n; member = own-target-member ws t d m n.finds },
      eqb-true (method_target ws m) t (find-passes (λ k. eqb (method_target ws k) t) (own_methods ws d) m n.finds),
    )

-- what an own search by index finds
fixed-there : (same : Same) (ws text abi labels : List ℕ) (i d m : ℕ) → own_fixed same ws text abi labels i d ≡ Some m
    → Memᴰ m (own_methods ws d) × FixedThere same ws text abi labels d i m
unfolding own_fixed
fixed-there same ws text abi labels i d m e =
    by-found (class_abi ws text abi labels d)
    (λ a p. by-found (slot_at abi i a)
    (λ s q. let h : own_method same ws (of_abi_slot s) d ≡ Some m = rw q at (rw p at e) in (
      own-method-member same ws (of_abi_slot s) d m h,
      record {
        entry = a;
        row = s;
        entry_found = p;
        row_is = q;
        signature = own-method-is same ws (of_abi_slot s) d m h;
      },
    ))
    (λ q. none (rw q at (rw p at e))))
    (λ p. none (rw p at e))
  where
    none : {X : Type 0} → None ≡ Some m → X
    none z = absurd (let o : ◌≡◌ {A = ℕ} 0 1 = cc in omega arith)

index_declares : (same : Same) (ws text abi labels : List ℕ) (c i d m : ℕ) → declared_by_index same ws text abi labels c i ≡ declared d m
    → Declares ws c d m × FixedThere same ws text abi labels d i m
unfolding declared_by_index
index_declares same ws text abi labels c i d m e =
    let n = nearest-counts (own_fixed same ws text abi labels i) (chain ws c) d m e in
    let f = fixed-there same ws text abi labels i d m n.finds in
    (record { along = on_list n; member = f.0 }, f.1)

implementation_declares : (same : Same) (ws : List ℕ) (c k d m : ℕ) → declared_implementation same ws c k ≡ declared d m
    → Declares ws c d m × (is_virtual (method_flags ws m) ≡ true) × (same (of_method m) (of_method k) ≡ true)
unfolding declared_implementation own_implementation
implementation_declares same ws c k d m e =
    let p : ℕ → Bool = λ j. is_virtual (method_flags ws j) && same (of_method j) (of_method k) in
    let n = nearest-counts (λ x. find p (own_methods ws x)) (chain ws c) d m e in
    let b = and_both (is_virtual (method_flags ws m)) (same (of_method m) (of_method k))
    (find-passes p (own_methods ws d) m n.finds) in
    (record { along = on_list n; member = find-member p (own_methods ws d) m n.finds }, b.0, b.1)

-- ---- and no other does

-- the one number that passes is the first
find-only : (p : ℕ → Bool) (a n d : ℕ) → a ≤ d → d < a + n → p d ≡ true → ((x : ℕ) → a ≤ x → x < a + n → p x ≡ true → x ≡ d)
    → find p (numbers a n) ≡ Some d
unfolding find list_from
find-only p a zero d h g t u = absurd (omega arith)
find-only p a (suc n) d h g t u =
    by (p a) (λ q. let e = u a (omega arith) (omega arith) q in rw (q, e))
    (λ q. rw q (find-only p (a + 1) n d (past q) (omega arith) t (λ x l m. u x (omega arith) (omega arith))))
  where
    past : p a ≡ false → a + 1 ≤ d
    past q = by (eqb a d) (λ s. let e = eqb-true a d s in absurd (let z : true ≡ false = sym t ∙ rw (← e) q in let o : ◌≡◌ {A = ℕ} 0 1 = cc in omega arith))
        (λ s. let e = eqb-false a d s in omega arith)

module _ (ws : List ℕ) where
  holds-is : (m c : ℕ) → holds ws m c ≡ true → (class_first_method ws c ≤ m) × (m < class_first_method ws c + class_method_count ws c)
  unfolding holds
  holds-is m c h =
      let p = and_both (leb (class_first_method ws c) m) (ltb m (class_first_method ws c + class_method_count ws c)) h in
      (leb-true _ _ p.0, ltb-true _ _ p.1)

  member-held : (m d : ℕ) → Memᴰ m (own_methods ws d) → holds ws m d ≡ true
  unfolding holds own_methods
  member-held m d t =
      let w = numbers-within (class_first_method ws d) (list_count (class_first_method ws d) (class_method_count ws d) method_limit) m t in
      simp (le-leb (class_first_method ws d) m w.0, lt-ltb m (class_first_method ws d + class_method_count ws d) (omega arith))

  owner-is : (c d m : ℕ) → MethodsApart ws → IsClass ws c → Declares ws c d m
      → (find (holds ws m) (numbers 1 (class_count ws)) ≡ Some d) × (owner_state ws m ≡ class_link_state ws d)
  unfolding owner_state
  owner-is c d m v k e =
      let w = chain-within ws c d e.along in
      let h = member-held m d e.member in
      let o = holds-is m d h in
      let f : find (holds ws m) (numbers 1 (class_count ws)) ≡ Some d =
      find-only (holds ws m) 1 (class_count ws) d (omega arith) (omega arith) h
      (λ x l g t. let y = holds-is m x t in v x d m (l, omega arith) (omega arith, omega arith) y.0 y.1 o.0 o.1) in
      (f, rw f)

-- ---- 0 is unknown

-- by cases on what is answered
pub by-declared : {X : Type 0} (r : Option Declared) → ((d m : ℕ) → r ≡ declared d m → X) → (r ≡ None → X) → X
by-declared (Some d) f g = f d.class d.method refl
by-declared None f g = g refl

-- the class of an answer is not 0
pub declared-class : (f : ℕ → Option ℕ) (ws : List ℕ) (c d m : ℕ) → first_declared f (chain ws c) ≡ declared d m → (0 < d) × (d ≤ c)
declared-class f ws c d m e = chain-within ws c d (on_list (nearest-counts f (chain ws c) d m e))

module _ (same : Same) (ws text abi labels : List ℕ) where
  pub read-class : (c i w d m : ℕ) → read_declared same ws text abi labels c i w ≡ declared d m → (0 < d) × (d ≤ c)
  unfolding read_declared declared_by_target declared_by_index
  read-class c i w d m e =
      by-declared (first_declared (own_target ws w) (chain ws c)) (λ a b q. declared-class (own_target ws w) ws c d m (q ∙ (rw q at e)))
      (λ q. declared-class (own_fixed same ws text abi labels i) ws c d m (rw q at e))

  read_declares : (c i w d m : ℕ) → read_declared same ws text abi labels c i w ≡ declared d m → Declares ws c d m
  unfolding read_declared
  read_declares c i w d m e =
      by-declared (declared_by_target ws c w)
      (λ a b q. (target_declares ws c w d m (q ∙ (rw q at e))).0)
      (λ q. (index_declares same ws text abi labels c i d m (rw q at e)).0)

  column-is : (c i w : ℕ) → Column ws c (read_entry same ws text abi labels c i w).method (declaring_class (read_declared same ws text abi labels c i w))
  column-is c i w =
      by-declared (read_declared same ws text abi labels c i w)
      (λ d m e. rw (← reading-found same ws text abi labels c i w, e) (known_slot (read_declares c i w d m e)))
      (λ e. rw (← reading-found same ws text abi labels c i w, e) unknown_slot)

  unknown-is : (area : List ℕ) (c i : ℕ) → (slot_class same ws text abi labels area c i ≡ 0) ↔ ((read_slot same ws text abi labels area c i).method ≡ None)
  unfolding slot_class read_slot
  unknown-is area c i =
      let w : ℕ = get_or area (class_table_place ws c + 1 + i) 0 in
      by-declared (read_declared same ws text abi labels c i w)
      (λ d m e.
      let l = read-class c i w d m e in
      let f : Some m ≡ (read_entry same ws text abi labels c i w).method = rw e at (reading-found same ws text abi labels c i w) in (
        λ z. absurd (let y : d ≡ 0 = rw e at z in omega arith),
        λ z. absurd (let o : ◌≡◌ {A = ℕ} 0 1 = cc in omega arith),
      ))
      (λ e.
      let f : None ≡ (read_entry same ws text abi labels c i w).method = rw e at (reading-found same ws text abi labels c i w) in
      (λ z. sym f, λ z. rw e))

pub whose : Whose
whose = record {
  remains = declared-found;
  reading_remains = reading-found;
  implementation_remains = implementation-found;
  nearest = nearest-counts;
  by_target = target_declares;
  by_index = index_declares;
  implements = implementation_declares;
  no_other = owner-is;
  column = column-is;
  unknown = unknown-is;
}
