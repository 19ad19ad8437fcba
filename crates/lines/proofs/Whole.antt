-- What stands in the lent bytes once a text was put: all of it, unless they are full; and all of a text that is shorter. Assumes nothing.
use mathlib.Core.Path.{◌≡◌, refl, sym, ap, ◌∙◌}
use mathlib.Core.List.{List, [], ◌∷◌, ◌++◌, append-nil, append_assoc}
use Prim.Native.Nat.{ℕ, ◌+◌, ◌≤◌, ◌<◌}
use native.Mathlib.Omega.{arith}
use native.Mathlib.Numerals.{add-one}
use native.Mathlib.Nat.{add-zero}
use lib.ListN.{length, set, take, length-set}
use lib.Seq.{take-suc-set}
use lib.Dec.{ltb}
use borrow.Author.Tests.{ltb-true, ltb-false}
use Rattle.words.proofs.Bools.{by}
use Rattle.words.specs.Lists.{fold}
use Rattle.lines.specs.Bytes.{put}
use Rattle.lines.proofs.ByteLaws.{byte_put, byte_full}

-- a place at the end stays there
full : (o : List ℕ) (k : ℕ) (bs : List ℕ) → length o ≤ k → put (o, k) bs ≡ (o, k)
unfolding put fold
full o k [] h = refl
full o k (b ∷ bs) h = ap (λ (p : List ℕ × ℕ). put p bs) (sym (byte_full o k b h)) ∙ full o k bs h

-- a text that is put from place k on stands there, after what stood before it, unless the place after it is the end of the lent bytes
pub whole : (bs o : List ℕ) (k : ℕ) {q : List ℕ × ℕ} → q ≡ put (o, k) bs → q.1 < length o
    → (q.1 ≡ k + length bs) × (take q.1 q.0 ≡ take k o ++ bs)
unfolding put fold
whole [] o k {q} e h =
    (ap (λ (p : List ℕ × ℕ). p.1) e ∙ sym (add-zero k), ap (λ (p : List ℕ × ℕ). take p.1 p.0) e ∙ sym (append-nil (take k o)))
whole (b ∷ bs) o k {q} e h =
    by (ltb k (length o))
    (λ t.
    let l = ltb-true k (length o) t in
    let w =
    whole bs (set o k b) (k + 1) (e ∙ ap (λ (p : List ℕ × ℕ). put p bs) (sym (byte_put o k b l refl)))
    (rw (length-set o k b) h)
    in (
      w.0 ∙ omega arith,
      w.1 ∙ (ap (λ (s : List ℕ). s ++ bs) (ap (λ (i : ℕ). take i (set o k b)) (add-one k) ∙ take-suc-set o k b l) ∙ append_assoc (take k o) (b ∷ []) bs),
    ))
    (λ f. let g = ltb-false k (length o) f in let s = ap (λ (p : List ℕ × ℕ). p.1) (e ∙ full o k (b ∷ bs) g) in absurd (omega arith))

-- the place after a text for which there is room
after : (bs o : List ℕ) (k : ℕ) → k + length bs ≤ length o → (put (o, k) bs).1 ≡ k + length bs
unfolding put fold
after [] o k h = sym (add-zero k)
after (b ∷ bs) o k h =
    ap (λ (p : List ℕ × ℕ). (put p bs).1) (sym (byte_put o k b (omega arith) refl))
    ∙ (after bs (set o k b) (k + 1) (rw (length-set o k b) (omega arith)) ∙ omega arith)

-- a text that is shorter than the lent bytes, put from their start on, is there whole
pub shorter : (bs o : List ℕ) {q : List ℕ × ℕ} → q ≡ put (o, 0) bs → length bs < length o → take q.1 q.0 ≡ bs
shorter bs o {q} e h =
    let n : q.1 ≡ 0 + length bs = ap (λ (p : List ℕ × ℕ). p.1) e ∙ after bs o 0 (omega arith) in
    (whole bs o 0 e (omega arith)).1
