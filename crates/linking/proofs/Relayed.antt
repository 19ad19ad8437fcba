-- Relaying is what its sentences say: the entries that stay lie at their indices, each overwritten by later ones of its signature, and the others
-- follow in order. So no signature is lost. Assumes nothing.
use mathlib.Core.Path.{◌≡◌, refl, sym, ap, ◌∙◌}
use mathlib.Core.Logic.{inl, inr, ◌≢◌}
use mathlib.Core.Bool.{Bool, true, false, cond, ◌||◌, false≢true}
use mathlib.Core.List.{List, [], ◌∷◌, ◌++◌, append_assoc, append-nil}
use Prim.Native.Nat.{ℕ, zero, suc, ◌+◌, ◌≤◌, ◌<◌}
use native.Mathlib.Omega.{arith}
use lib.ListN.{length, get_or, set, replicate, length-set, length-append, length-replicate, get_or-append}
use lib.Seq.{set-append_left, get_or-set_same, get_or-set_other, ext_get_or}
use lib.Dec.{eqb}
use borrow.Author.Tests.{eqb-true, eqb-false}
use Rattle.words.specs.Lists.{list_from, fold, some}
use Rattle.std.specs.Prelude.{Option, Some, None}
use Rattle.words.proofs.Bools.{by, or-neither, or-either}
use Rattle.words.proofs.ListLaws.{by-found, length-list-from, get_d_list_from}
use Rattle.linking.specs.Chain.{on_found}
use Rattle.linking.specs.Vtable.{Entry, empty, is_of, occurs, last_of, stays, standing, follows, following, laid_out}
use Rattle.linking.specs.Relays.{Signatures, holder, relay_one, relays}
use Rattle.linking.proofs.Relaying.{Among, front, behind, found-same, not_found, Holds, held, holder-is}

-- ---- elements of a list

among-left : {e : Entry} {xs : List Entry} (ys : List Entry) → Among e xs → Among e (xs ++ ys)
among-left ys front = front
among-left ys (behind a) = behind (among-left ys a)

among_right : {e : Entry} (xs : List Entry) {ys : List Entry} → Among e ys → Among e (xs ++ ys)
among_right [] a = a
among_right (x ∷ xs) a = behind (among_right xs a)

among-at : (xs : List Entry) (i : ℕ) → i < length xs → Among (get_or xs i empty) xs
among-at [] i l = absurd (omega arith)
among-at (x ∷ xs) zero l = front
among-at (x ∷ xs) (suc i) l = behind (among-at xs i (omega arith))

-- two truths that follow from each other
both : (a b : Bool) → (a ≡ true → b ≡ true) → (b ≡ true → a ≡ true) → a ≡ b
both true b f g = sym (f refl)
both false true f g = g refl
both false false f g = refl

blank-at : (n i : ℕ) → get_or (replicate n empty) i empty ≡ empty
blank-at zero i = refl
blank-at (suc n) zero = refl
blank-at (suc n) (suc i) = blank-at n i

module _ (same : ℕ → ℕ → Bool) (fixed : ℕ → Option ℕ) (distance : ℕ → ℕ) (E : List Entry) where
  -- ---- the part below the minimum size, and the part after it

  unfoldable place : List Entry → Entry → List Entry
  place F e =
      on_found e.method (λ m. on_found (fixed m) (λ i. cond (stays same (holder fixed distance E) i m) (set F i e) F) F) F

  place-length : (F : List Entry) (e : Entry) → length (place F e) ≡ length F
  unfolding place
  place-length F e =
      by-found e.method
      (λ m q.
      by-found (fixed m)
      (λ i r. by (stays same (holder fixed distance E) i m) (λ t. rw (q, r, t) (length-set F i _)) (λ t. rw (q, r, t) refl))
      (λ r. rw (q, r) refl))
      (λ q. rw q refl)

  module _ (n : ℕ) (room : (m i : ℕ) → fixed m ≡ Some i → i < n) where
    one_split : (e : Entry) (es F R : List Entry) → length F ≡ n
        → relay_one same fixed distance E e es (F ++ R) ≡ place F e ++ (R ++ cond (follows same fixed (holder fixed distance E) e es) (e ∷ []) [])
    unfolding relay_one place follows
    one_split e es F R l =
        by-found e.method
        (λ m q.
        by-found (fixed m)
        (λ i r.
        by (stays same (holder fixed distance E) i m)
        (λ t. let b = room m i r in rw (q, r, t, append-nil R) (set-append_left F R i _ (omega arith)))
        (λ t.
        by (occurs same m es) (λ u. rw (q, r, t, u, append-nil R) refl) (λ u. rw (q, r, t, u) (append_assoc F R _))))
        (λ r. rw (q, r) (append_assoc F R _)))
        (λ q. rw (q, append-nil R) refl)

    more : (e : Entry) (es R : List Entry)
        → (R ++ cond (follows same fixed (holder fixed distance E) e es) (e ∷ []) []) ++ following same fixed (holder fixed distance E) es
        ≡ R ++ following same fixed (holder fixed distance E) (e ∷ es)
    unfolding following
    more e es R =
        by (follows same fixed (holder fixed distance E) e es)
        (λ t. rw t (append_assoc R (e ∷ []) (following same fixed (holder fixed distance E) es)))
        (λ t. rw (t, append-nil R) refl)

    split : (es F R : List Entry) → length F ≡ n
        → relays same fixed distance E (F ++ R) es ≡ fold place F es ++ (R ++ following same fixed (holder fixed distance E) es)
    unfolding relays fold
    split [] F R l = unfold following in rw (append-nil R) refl
    split (e ∷ es) F R l =
        rw (one_split e es F R l)
        (split es (place F e) (R ++ cond (follows same fixed (holder fixed distance E) e es) (e ∷ []) []) (place-length F e ∙ l)
        ∙ ap (λ (x : List Entry). fold place (place F e) es ++ x) (more e es R))

  -- ---- what stands at index i

  module _ (s : Signatures same fixed distance) (i : ℕ) where
    is_of_known : (h m : ℕ) (e : Entry) → e.method ≡ Some m → is_of same h e ≡ same m h
    unfolding is_of
    is_of_known h m e q = rw q refl

    is_of_none : (h : ℕ) (e : Entry) → e.method ≡ None → is_of same h e ≡ false
    unfolding is_of
    is_of_none h e q = rw q refl

    same-both : (m k : ℕ) → same m k ≡ same k m
    same-both m k = both (same m k) (same k m) (s.same_sym m k) (s.same_sym k m)

    stays-held : (h m : ℕ) → holder fixed distance E i ≡ Some h → stays same (holder fixed distance E) i m ≡ same m h
    unfolding stays
    stays-held h m q = rw q (same-both h m)

    stays-none : (m : ℕ) → holder fixed distance E i ≡ None → stays same (holder fixed distance E) i m ≡ false
    unfolding stays
    stays-none m q = rw q refl

    -- a store at another index, or none
    place-unknown : (F : List Entry) (e : Entry) → e.method ≡ None → place F e ≡ F
    unfolding place
    place-unknown F e q = rw q refl

    place-free : (F : List Entry) (e : Entry) (m : ℕ) → e.method ≡ Some m → fixed m ≡ None → place F e ≡ F
    unfolding place
    place-free F e m q r = rw (q, r) refl

    place_gives : (F : List Entry) (e : Entry) (m j : ℕ) → e.method ≡ Some m → fixed m ≡ Some j
        → stays same (holder fixed distance E) j m ≡ false → place F e ≡ F
    unfolding place
    place_gives F e m j q r t = rw (q, r, t) refl

    place-stays : (F : List Entry) (e : Entry) (m j : ℕ) → e.method ≡ Some m → fixed m ≡ Some j → stays same (holder fixed distance E) j m ≡ true
        → place F e ≡ set F j e
    unfolding place
    place-stays F e m j q r t = rw (q, r, t) refl

    place_other : (F : List Entry) (e : Entry) (m j : ℕ) → e.method ≡ Some m → fixed m ≡ Some j → j ≢ i → get_or (place F e) i empty ≡ get_or F i empty
    place_other F e m j q r d =
        by (stays same (holder fixed distance E) j m)
        (λ t. rw (place-stays F e m j q r t) (get_or-set_other F j i e empty (λ z. d (sym z))))
        (λ t. rw (place_gives F e m j q r t) refl)

    module _ (h : ℕ) (holds : holder fixed distance E i ≡ Some h) (index : fixed h ≡ Some i) where
      place_at : (F : List Entry) (e : Entry) → i < length F → get_or (place F e) i empty ≡ cond (is_of same h e) e (get_or F i empty)
      place_at F e l =
          by-found e.method
          (λ m q.
          by (same m h)
          (λ t.
          let r = s.same_index m h t ∙ index in
          rw (is_of_known h m e q, t, place-stays F e m i q r (stays-held h m holds ∙ t)) (get_or-set_same F i e empty l))
          (λ t.
          rw (is_of_known h m e q, t)
          (by-found (fixed m)
          (λ j r.
          by (eqb j i)
          (λ b.
          let z = eqb-true j i b in
          rw (place_gives F e m i q (r ∙ ap Some z) (stays-held h m holds ∙ t)) refl)
          (λ b. place_other F e m j q r (eqb-false j i b)))
          (λ r. rw (place-free F e m q r) refl))))
          (λ q. rw (is_of_none h e q, place-unknown F e q) refl)

      places_at : (es F : List Entry) → i < length F → get_or (fold place F es) i empty ≡ last_of same h (get_or F i empty) es
      unfolding fold last_of
      places_at [] F l = refl
      places_at (e ∷ es) F l =
          places_at es (place F e) (rw (place-length F e) l) ∙ ap (λ (x : Entry). last_of same h x es) (place_at F e l)

    module _ (none : holder fixed distance E i ≡ None) where
      place_same : (F : List Entry) (e : Entry) → get_or (place F e) i empty ≡ get_or F i empty
      place_same F e =
          by-found e.method
          (λ m q.
          by-found (fixed m)
          (λ j r.
          by (eqb j i)
          (λ b. let z = eqb-true j i b in rw (place_gives F e m i q (r ∙ ap Some z) (stays-none m none)) refl)
          (λ b. place_other F e m j q r (eqb-false j i b)))
          (λ r. rw (place-free F e m q r) refl))
          (λ q. rw (place-unknown F e q) refl)

      places_same : (es F : List Entry) → get_or (fold place F es) i empty ≡ get_or F i empty
      unfolding fold
      places_same [] F = refl
      places_same (e ∷ es) F = places_same es (place F e) ∙ place_same F e

  -- ---- the whole: THE SENTENCES

  module _ (s : Signatures same fixed distance) (n : ℕ) (room : (m i : ℕ) → fixed m ≡ Some i → i < n) where
    places_length : (es F : List Entry) → length (fold place F es) ≡ length F
    unfolding fold
    places_length [] F = refl
    places_length (e ∷ es) F = places_length es (place F e) ∙ place-length F e

    stands : (i : ℕ) → i < n → get_or (fold place (replicate n empty) E) i empty ≡ standing same (holder fixed distance E) E i
    unfolding standing
    stands i l =
        let b : i < length (replicate n empty) = rw (length-replicate n empty) l in
        by-found (holder fixed distance E i)
        (λ h q.
        rw q (places_at s i h q (held fixed distance i E h q).index E (replicate n empty) b ∙ ap (λ (x : Entry). last_of same h x E) (blank-at n i)))
        (λ q. rw q (places_same s i q E (replicate n empty) ∙ blank-at n i))

    pub relays-laid_out : relays same fixed distance E (replicate n empty) E ≡ laid_out same fixed (holder fixed distance E) E n
    unfolding laid_out
    relays-laid_out =
        ap (λ (x : List Entry). relays same fixed distance E x E) (sym (append-nil (replicate n empty)))
        ∙ split n room E (replicate n empty) [] (length-replicate n empty)
        ∙ ap (λ (x : List Entry). x ++ following same fixed (holder fixed distance E) E)
        (ext_get_or empty (fold place (replicate n empty) E) (list_from (standing same (holder fixed distance E) E) 0 n)
        (places_length E (replicate n empty) ∙ length-replicate n empty ∙ sym (length-list-from (standing same (holder fixed distance E) E) 0 n))
        (λ i l.
        let b : i < n = rw (places_length E (replicate n empty), length-replicate n empty) at l in
        let z : 0 + i ≡ i = omega arith in
        stands i b ∙ sym (rw z at (get_d_list_from (standing same (holder fixed distance E) E) 0 n i empty b))))

    standing-at : (i : ℕ) → i < n → get_or (laid_out same fixed (holder fixed distance E) E n) i empty ≡ standing same (holder fixed distance E) E i
    unfolding laid_out
    standing-at i l =
        let z : 0 + i ≡ i = omega arith in
        let b : i < length (list_from (standing same (holder fixed distance E) E) 0 n) =
        rw (length-list-from (standing same (holder fixed distance E) E) 0 n) l in
        get_or-append (list_from (standing same (holder fixed distance E) E) 0 n) (following same fixed (holder fixed distance E) E) empty i b
        ∙ (rw z at (get_d_list_from (standing same (holder fixed distance E) E) 0 n i empty l))

    standing-held : (i h : ℕ) → holder fixed distance E i ≡ Some h → standing same (holder fixed distance E) E i ≡ last_of same h empty E
    unfolding standing
    standing-held i h q = rw q refl

    -- at an index that is held stands the last entry of the signature that holds it
    pub stands_at : (i h : ℕ) → i < n → holder fixed distance E i ≡ Some h
        → get_or (relays same fixed distance E (replicate n empty) E) i empty ≡ last_of same h empty E
    stands_at i h l q = rw relays-laid_out (standing-at i l ∙ standing-held i h q)

    -- ---- no signature is lost

    is_of_same : (m k : ℕ) → same m k ≡ true → (e : Entry) → is_of same m e ≡ is_of same k e
    unfolding is_of
    is_of_same m k t e =
        by-found e.method
        (λ l q.
        rw q
        (both (same l m) (same l k) (λ a. s.same_trans l m k a t) (λ a. s.same_trans l k m a (s.same_sym m k t))))
        (λ q. rw q refl)

    pub last-same : (m k : ℕ) → same m k ≡ true → (l : Entry) (es : List Entry) → last_of same m l es ≡ last_of same k l es
    unfolding last_of fold
    last-same m k t l [] = refl
    last-same m k t l (e ∷ es) = rw (is_of_same m k t e) (last-same m k t (cond (is_of same k e) e l) es)

    pub occurs-same : (m k : ℕ) → same m k ≡ true → (es : List Entry) → occurs same m es ≡ occurs same k es
    unfolding occurs some
    occurs-same m k t [] = refl
    occurs-same m k t (e ∷ es) = rw (is_of_same m k t e, occurs-same m k t es)

    pub stays_same : (i m k : ℕ) → same m k ≡ true → stays same (holder fixed distance E) i m ≡ stays same (holder fixed distance E) i k
    unfolding stays
    stays_same i m k t =
        by-found (holder fixed distance E i)
        (λ h q.
        rw q
        (both (same h m) (same h k) (λ a. s.same_trans h m k a t) (λ a. s.same_trans h k m a (s.same_sym m k t))))
        (λ q. rw q refl)

    last_none : (m : ℕ) (l : Entry) (es : List Entry) → occurs same m es ≡ false → last_of same m l es ≡ l
    unfolding last_of fold occurs some
    last_none m l [] t = refl
    last_none m l (e ∷ es) t =
        let b = or-neither (is_of same m e) (occurs same m es) t in rw b.0 (last_none m l es b.1)

    -- the last entry of a signature that does not stay follows
    last-follows : (m : ℕ) (e : Entry) (es : List Entry) → ((i : ℕ) → fixed m ≡ Some i → stays same (holder fixed distance E) i m ≡ false)
        → is_of same m e ≡ true
        → occurs same m es ≡ false → follows same fixed (holder fixed distance E) e es ≡ true
    unfolding follows is_of
    last-follows m e es away t o =
        by-found e.method
        (λ k q.
        let b : same k m ≡ true = rw q at t in
        rw q
        (by-found (fixed k)
        (λ i r.
        rw (r, stays_same i k m b, away i (sym (s.same_index k m b) ∙ r), occurs-same k m b es, o) refl)
        (λ r. rw r refl)))
        (λ q. absurd (false≢true (rw q at t)))

    among-more : (e : Entry) (es : List Entry) {x : Entry} → Among x (following same fixed (holder fixed distance E) es)
        → Among x (following same fixed (holder fixed distance E) (e ∷ es))
    unfolding following
    among-more e es a = by (follows same fixed (holder fixed distance E) e es) (λ t. rw t (behind a)) (λ t. rw t a)

    among_this : (e : Entry) (es : List Entry) → follows same fixed (holder fixed distance E) e es ≡ true
        → Among e (following same fixed (holder fixed distance E) (e ∷ es))
    unfolding following
    among_this e es t = rw t front

    last-among : (m : ℕ) → ((i : ℕ) → fixed m ≡ Some i → stays same (holder fixed distance E) i m ≡ false)
        → (l : Entry) (es : List Entry) → occurs same m es ≡ true
        → Among (last_of same m l es) (following same fixed (holder fixed distance E) es)
    unfolding last_of fold occurs some
    last-among m away l [] o = absurd (false≢true o)
    last-among m away l (e ∷ es) o =
        by (occurs same m es)
        (λ t. among-more e es (last-among m away (cond (is_of same m e) e l) es t))
        (λ t.
        let b : is_of same m e ≡ true = elim (or-either (is_of same m e) (occurs same m es) o) [ inl a ↦ a | inr a ↦ absurd (false≢true (sym t ∙ a)) ] in
        rw (b, last_none m e es t) (among_this e es (last-follows m e es away b t)))

    pub among-occurs : {e : Entry} {es : List Entry} (m : ℕ) → Among e es → e.method ≡ Some m → occurs same m es ≡ true
    unfolding occurs some is_of
    among-occurs {es = []} m a q = elim a [ ]
    among-occurs {es = f ∷ es} m front q = rw (q, s.same_self m) refl
    among-occurs {es = f ∷ es} m (behind a) q =
        rw (among-occurs m a q) (or-true (is_of same m f))
      where
        or-true : (b : Bool) → (b || true) ≡ true
        or-true true = refl
        or-true false = refl

    last-stands : (m i : ℕ) → fixed m ≡ Some i → stays same (holder fixed distance E) i m ≡ true → (h : ℕ) × Holds fixed distance i E h
        → Among (last_of same m empty E) (laid_out same fixed (holder fixed distance E) E n)
    unfolding laid_out stays
    last-stands m i r t h =
        let b : same h.0 m ≡ true = rw h.1.holds at t in
        let z : 0 + i ≡ i = omega arith in
        let l : i < length (list_from (standing same (holder fixed distance E) E) 0 n) =
        rw (length-list-from (standing same (holder fixed distance E) E) 0 n) (room m i r) in
        among-left {xs = list_from (standing same (holder fixed distance E) E) 0 n} (following same fixed (holder fixed distance E) E)
        (rw (
          ← (last-same h.0 m b empty E),
          ← (standing-held i h.0 h.1.holds),
          ← (rw z at (get_d_list_from (standing same (holder fixed distance E) E) 0 n i empty (room m i r))),
        )
        (among-at (list_from (standing same (holder fixed distance E) E) 0 n) i l))

    last-behind : (m : ℕ) → ((i : ℕ) → fixed m ≡ Some i → stays same (holder fixed distance E) i m ≡ false) → occurs same m E ≡ true
        → Among (last_of same m empty E) (laid_out same fixed (holder fixed distance E) E n)
    unfolding laid_out
    last-behind m away o = among_right (list_from (standing same (holder fixed distance E) E) 0 n) (last-among m away empty E o)

    -- of each known inherited entry's signature the last entry is in the table
    pub nothing_lost : {e : Entry} (m : ℕ) → Among e E → e.method ≡ Some m
        → Among (last_of same m empty E) (relays same fixed distance E (replicate n empty) E)
    nothing_lost m a q =
        rw relays-laid_out
        (by-found (fixed m)
        (λ i r.
        by (stays same (holder fixed distance E) i m)
        (λ t. last-stands m i r t (holder-is fixed distance i m a q r))
        (λ t. last-behind m (λ j z. let y : i ≡ j = found-same (sym r ∙ z) in rw y at t) (among-occurs m a q)))
        (λ r. last-behind m (λ j z. not_found (sym r ∙ z)) (among-occurs m a q)))

  -- ---- at most one slot for each inherited entry

  one-length : (e : Entry) (es T : List Entry) → length (relay_one same fixed distance E e es T) ≤ length T + 1
  unfolding relay_one
  one-length e es T =
      by-found e.method
      (λ m q.
      by-found (fixed m)
      (λ i r.
      by (stays same (holder fixed distance E) i m)
      (λ t. rw (q, r, t, length-set) (omega arith))
      (λ t. by (occurs same m es) (λ u. rw (q, r, t, u) (omega arith)) (λ u. rw (q, r, t, u, length-append) (omega arith))))
      (λ r. rw (q, r, length-append) (omega arith)))
      (λ q. rw q (omega arith))

  pub relays-length : (es T : List Entry) → length (relays same fixed distance E T es) ≤ length T + length es
  unfolding relays
  relays-length [] T = omega arith
  relays-length (e ∷ es) T =
      let a = one-length e es T in let b = relays-length es (relay_one same fixed distance E e es T) in omega arith
