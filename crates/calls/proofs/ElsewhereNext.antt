-- A call that names a class with a clash, or a descendant of one, keeps the relation of the two runs (`Elsewhere`) "in each run for itself": the states before
-- and after it are related, and the relation can be turned round and put together. Assumes nothing.
use mathlib.Core.Path.{◌≡◌, refl, sym, ap, ◌∙◌, subst}
use mathlib.Core.Logic.{◌≢◌, inl, inr}
use mathlib.Core.Bool.{false}
use mathlib.Core.List.{List, Memᴰ}
use Prim.Native.Nat.{ℕ, ◌+◌, ◌≤◌, ◌<◌}
use native.Mathlib.Omega.{arith}
use lib.ListN.{length, get_or}
use borrow.Author.Tests.{eqb-true, eq-eqb}
use Rattle.class_sheet.specs.ClassSheet.{table_place_word, slot_count_word, class_table_place, class_slot_count, class_first_field, class_field_count, text_of}
use Rattle.abi_sheet.specs.AbiSheet.{abi_text_of}
use Rattle.set_rules.specs.SetRules.{set_refusal}
use Rattle.set_rules.specs.Valid.{IsClass, Valid}
use Rattle.set_rules.proofs.Valid.{valid}
use Rattle.linking.specs.Signature.{by_sheets}
use Rattle.linking.specs.Chain.{parent_of, chain}
use Rattle.linking.specs.Vtable.{Entry, Built, build_methods}
use Rattle.linking.specs.Before.{build_before}
use Rattle.linking.specs.Link.{HasTable, next_free, bad_area, linked_area, built_table, plan_built, generated_table, plan_generated, plan, plan_with, link_with, LinkOutcome, link_def, link_by}
use Rattle.linking.specs.Ask.{head_place}
use Rattle.linking.proofs.LinkRead.{After}
use Rattle.linking.proofs.Rows.{Sound, sound}
use Rattle.calls.specs.Calls.{State}
use Rattle.calls.proofs.Area.{linked-length, linked-before, linked-free}
use Rattle.calls.proofs.Beside.{SameField}
use Rattle.calls.proofs.BesideAsk.{SameWalk}
use Rattle.calls.proofs.BesideNext.{sets_turned, sets_then, held_turned, held_then, walk_turned, walk_then, after-sets, after-held, Safe, safe_of, walk-next}
use Rattle.calls.proofs.Wrote.{plan_from, with_cases, wrote_after, wrote_fields, wrote_sound, wrote_parent}
use Rattle.calls.proofs.Elsewhere.{walk_of, Related}

-- what `build_methods` makes of a class, and what the linker before ticket 13 made
abbrev pub made_now : List ℕ → State → ℕ → Built
made_now abi s c = build_methods (by_sheets s.set abi) s.set (text_of s.set) abi (abi_text_of abi) s.area c

abbrev pub made_before : List ℕ → State → ℕ → Built
made_before abi s c = build_before (by_sheets s.set abi) s.set (text_of s.set) abi (abi_text_of abi) s.area c

module _ (abi : List ℕ) (E : ℕ → Type 0) where
  module _ (s t : State) (a : Related abi E s t) where
    linked-here : (d : ℕ) → E d → HasTable t.set d → HasTable s.set d
    linked-here d calm l =
        let k : IsClass s.set d = (l.some, omega (arith, l.among, a.sets.classes)) in
        record {
          some = l.some;
          among = k.1;
          has = λ e.
              l.has (eqb-true (class_table_place t.set d) 0 (sym (a.sets.linked d k calm) ∙ eq-eqb (class_table_place s.set d) 0 e));
        }

    pub linked-there : (d : ℕ) → E d → HasTable s.set d → HasTable t.set d
    linked-there d calm l = record {
      some = l.some;
      among = omega (arith, l.among, a.sets.classes);
      has = λ e.
          l.has (eqb-true (class_table_place s.set d) 0 (a.sets.linked d (l.some, l.among) calm ∙ eq-eqb (class_table_place t.set d) 0 e));
    }

    pub related_turned : Related abi E t s
    related_turned = record {
      sets = sets_turned abi E s.set t.set a.sets;
      held = λ d e l. held_turned (a.held d e (linked-here d e l));
      nodes = λ c i e f l k.
          rw (← (a.held i f (linked-here i f k)).slots) (walk_turned (a.nodes c i e f (linked-here c e l) (linked-here i f k)));
      accepted = a.accepted';
      accepted' = a.accepted;
      sound = a.sound';
      sound' = a.sound;
      parent = a.parent';
      parent' = a.parent;
    }

    pub related_then : (u : State) → Related abi E t u → Related abi E s u
    related_then u b = record {
      sets = sets_then abi E s.set t.set a.sets u.set b.sets;
      held = λ d e l. held_then (a.held d e l) (b.held d e (linked-there d e l));
      nodes = λ c i e f l k.
          walk_then (a.nodes c i e f l k)
          (rw (a.held i f k).slots (b.nodes c i e f (linked-there c e l) (linked-there i f k)));
      accepted = a.accepted;
      accepted' = b.accepted';
      sound = a.sound;
      sound' = b.sound';
      parent = a.parent;
      parent' = b.parent';
    }

  -- each run for itself
  pub related-each : (s s' t t' : State) → Related abi E s s' → Related abi E t t' → Related abi E s t → Related abi E s' t'
  related-each s s' t t' p q r = related_then s' s (related_turned s s' p) t' (related_then s t r t' q)

  -- the counts do not matter
  pub related-moved : (s : State) → Related abi E s s → (u : State) → u.set ≡ s.set → u.area ≡ s.area → Related abi E s u
  related-moved s r u p q =
      subst (λ (x : State). Related abi E s x) (sym (ap (λ (ws : List ℕ). record { set = ws; area = u.area; missing = u.missing }) p
      ∙ ap (λ (area : List ℕ). record { set = s.set; area = area; missing = u.missing }) q)) (recounted u.missing)
    where
      recounted : (missing : List ℕ) → Related abi E s (record { set = s.set; area = s.area; missing = missing })
      recounted missing = record {
        sets = r.sets;
        held = r.held;
        nodes = r.nodes;
        accepted = r.accepted;
        accepted' = r.accepted';
        sound = r.sound;
        sound' = r.sound';
        parent = r.parent;
        parent' = r.parent';
      }

  -- ---- an accepted link of a class that is not elsewhere, by either linker: it writes its own class's record, new records, and free words

  module _ (s s' : State) (c : ℕ) (T : List Entry) (stubs : List ℕ)
      -- what holds of the run before it
      (accepted : set_refusal s.set abi ≡ 0) (sound-now : bad_area s.set s.area ≡ false)
      (parents : (d : ℕ) → HasTable s.set d → parent_of s.set d ≢ 0 → HasTable s.set (parent_of s.set d))
      (up : (d e : ℕ) → IsClass s.set d → E d → Memᴰ e (chain s.set d) → E e)
      (safe : (d i : ℕ) → E d → E i → HasTable s.set d → HasTable s.set i → Safe s.area (class_slot_count s.set i) (walk_of s d i))
      -- what it writes
      (other : (d : ℕ) → E d → d ≢ c) (room : next_free s.area + length T + 2 ≤ length s.area) (area-is : s'.area ≡ linked_area s.area c T stubs)
      (after : After s.set s'.set c)
      (fields : (d j : ℕ) → IsClass s.set d → E d → j < class_field_count s.set d
      → SameField s.set s'.set abi E (class_first_field s.set d + j) (class_first_field s.set d + j))
      -- what holds of the run after it
      (accepted' : set_refusal s'.set abi ≡ 0) (sound-next : bad_area s'.set s'.area ≡ false)
      (parents' : (d : ℕ) → HasTable s'.set d → parent_of s'.set d ≢ 0 → HasTable s'.set (parent_of s'.set d)) where
    now-sound : Sound s.set s.area
    now-sound = sound s.set s.area sound-now

    agree : (j : ℕ) → 0 < j → j < next_free s.area → get_or s'.area j 0 ≡ get_or s.area j 0
    agree j p b = rw area-is (linked-before s.area c T stubs now-sound.some room j p b)

    more : next_free s.area ≤ next_free s'.area
    more = let e = linked-free s.area c T stubs now-sound.some room in rw (area-is, e) (omega arith)

    long : length s'.area ≡ length s.area
    long = rw area-is (linked-length s.area c T stubs now-sound.some room)

    now-valid : Valid s.set
    now-valid = (valid s.set abi accepted).0

    next-valid : Valid s'.set
    next-valid = (valid s'.set abi accepted').0

    heads : (d : ℕ) → E d → HasTable s.set d → head_place s'.set d ≡ head_place s.set d
    heads d e l =
        let p : class_table_place s'.set d ≡ class_table_place s.set d = after.others d table_place_word l.some l.among (omega arith) (other d e) in
        let n : class_slot_count s'.set d ≡ class_slot_count s.set d = after.others d slot_count_word l.some l.among (omega arith) (other d e) in
        rw (p, n) refl

    nodes-next : (d i : ℕ) → E d → E i → HasTable s.set d → HasTable s.set i
        → SameWalk s.area s'.area (class_slot_count s.set i) (walk_of s d i) (walk_of s' d i)
    nodes-next d i e f l k =
        let b = now-sound.below d l in
        rw (heads d e l)
        (walk-next s.area s'.area agree more long (class_slot_count s.set i) i (head_place s.set d) (omega arith) (omega arith) (safe d i e f l k))

    pub link-leaves-related : Related abi E s s'
    link-leaves-related = record {
      sets = after-sets s.set s'.set abi E c now-valid next-valid after other up fields;
      held = after-held s.set s'.set abi E c now-valid next-valid after other up fields s.area s'.area agree now-sound;
      nodes = nodes-next;
      accepted = accepted;
      accepted' = accepted';
      sound = sound-now;
      sound' = sound-next;
      parent = parents;
      parent' = parents';
    }

  -- a link of class c by the table that `build_methods` makes
  abbrev pub link_built : State → ℕ → List ℕ → Built → LinkOutcome
  link_built s c stubs B = link_with (plan_from s.set abi s.area B c) s.set abi c s.area stubs s.missing

  abbrev pub left_by : LinkOutcome → State
  left_by o = record { set = o.outcome.set; area = o.outcome.area; missing = o.missing }

  -- of a class that is not elsewhere, by the linker (`build_methods`) or by the one before (`build_before`), refused or accepted. `stays`: rows 3 to 5 accept
  -- what it leaves
  pub other-link : (s : State) (c : ℕ) (stubs : List ℕ) (B : Built) → Related abi E s s → ((d : ℕ) → E d → d ≢ c)
      → set_refusal (link_built s c stubs B).outcome.set abi ≡ 0 → Related abi E s (left_by (link_built s c stubs B))
  other-link s c stubs B self other stays =
      let o : LinkOutcome = link_built s c stubs B in
      elim (with_cases s.set abi c s.area stubs s.missing (plan_from s.set abi s.area B c)) [
        | inl u ↦ related-moved s self (left_by o) u.same_set u.same_area
        | inr w ↦
            link-leaves-related s (left_by o) c w.coming.table stubs self.accepted self.sound self.parent
            self.sets.up (λ d i e f l k. safe_of (self.nodes d i e f l k)) other w.room.free w.new-area
            (wrote_after s.set abi c s.area stubs B o.outcome w)
            (λ d j l e h. wrote_fields s.set abi c s.area stubs B o.outcome w E d j l (other d e) h) stays
            (wrote_sound s.set abi c s.area stubs B o.outcome w) (wrote_parent s.set abi c s.area stubs B o.outcome w self.parent)
      ]

  pub related_self : (s t : State) → Related abi E s t → Related abi E s s
  related_self s t r = related_then s t r s (related_turned s t r)

  pub link-is : (s : State) (c : ℕ) (stubs : List ℕ)
      → link_def s.set abi c s.area stubs s.missing ≡ link_built s c stubs (made_now abi s c)
  unfolding link_def link_by plan plan_with plan_built built_table plan_generated generated_table
  link-is s c stubs = refl

  -- in both runs
  pub other-links : (s t : State) (c : ℕ) (stubs : List ℕ) (B B' : Built) → Related abi E s t → (E c → ⊥)
      → set_refusal (link_built s c stubs B).outcome.set abi ≡ 0 → set_refusal (link_built t c stubs B').outcome.set abi ≡ 0
      → Related abi E (left_by (link_built s c stubs B)) (left_by (link_built t c stubs B'))
  other-links s t c stubs B B' r n v v' =
      let other : (d : ℕ) → E d → d ≢ c = λ d e q. n (subst E q e) in
      related-each s (left_by (link_built s c stubs B)) t (left_by (link_built t c stubs B')) (other-link s c stubs B (related_self s t r) other v)
      (other-link t c stubs B' (related_self t s (related_turned s t r)) other v') r
