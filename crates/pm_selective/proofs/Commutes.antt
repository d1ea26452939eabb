-- Two edits that lie apart give the same list in either order.
use Rattle.std.specs.Prelude.{◌≡◌, ℕ, zero, suc, ◌+◌, ◌-◌, ◌≤◌, ◌<◌, List, [], ◌∷◌, ◌++◌, length, take, drop, refl}
use Rattle.std.proofs.Common.{arith, ap, sym, subst, ◌∙◌, ⊎_elim, append_assoc}
use Rattle.std.proofs.lemmas.Bool.{lt-ltb}
use Rattle.std.proofs.lemmas.List.{take-append-drop, take-append-le, length-drop, length-take-le, take-take}
use Rattle.std.proofs.Math.Seq.{take-append-add, drop-append-add, drop-append_seam}
use Rattle.pm_map.specs.declared.step_map.Span.{Span}
use Rattle.pm_map.specs.Stills.{AreApart}
use Rattle.pm_selective.specs.Shifts.{AreClear, shifted}
use Rattle.pm_selective.specs.Edits.{Piece, span_of, spans, spliced_from, spliced, shifted_edit, AreWithin}
use Rattle.pm_selective.proofs.Shifts.{none-before, past, past-range}
use Rattle.pm_selective.proofs.Corners.{clear-sym, clear-outside, past-shift}

pub apart-from : (f : List Span) (from low : ℕ) → AreApart f from → low ≤ from → AreApart f low
apart-from [] from low a h = tt
apart-from (r ∷ rs) from low a h = (omega (arith, a.0, h), a.1)

module _ {A : Type 0} where
  -- the first piece begins here or after
  abbrev Begins : List (Piece A) → ℕ → Type 0
  Begins [] n = Unit {0}
  Begins (p ∷ ps) n = n ≤ p.start

  -- pieces where a map carries them, with what came before
  abbrev past_edit : List Span → ℕ → ℕ → List (Piece A) → List (Piece A)
  past_edit g n l [] = []
  past_edit g n l (p ∷ ps) = record { start = past g n l p.start; old_size = p.old_size; new = p.new } ∷ past_edit g n l ps

  -- an edit after a front leaves the front
  front : (at : ℕ) (g : List (Piece A)) (xs ys : List A) → Begins g (at + length xs) → spliced_from at g (xs ++ ys) ≡ xs ++ spliced_from (at + length xs) g ys
  front at [] xs ys h = refl
  front at (q ∷ qs) xs ys h =
      let far = q.start + q.old_size in
      let k = at + length xs in
      let e : q.start - at ≡ length xs + (q.start - k) = omega (arith, h) in
      let d : far - at ≡ length xs + (far - k) = omega (arith, h) in
      ap (λ z. z ++ (q.new ++ spliced_from far qs (drop (far - at) (xs ++ ys)))) (ap (λ n. take n (xs ++ ys)) e ∙ take-append-add xs ys (q.start - k))
      ∙ ap (λ z. (xs ++ take (q.start - k) ys) ++ (q.new ++ spliced_from far qs z)) (ap (λ n. drop n (xs ++ ys)) d ∙ drop-append-add xs ys (far - k))
      ∙ append_assoc xs (take (q.start - k) ys) (q.new ++ spliced_from far qs (drop (far - k) ys))

  past-more : (r : Span) (rs : List Span) (n l : ℕ) (g : List (Piece A)) → AreApart (spans g) (r.start + r.old_size + 1)
      → past_edit (r ∷ rs) n l g ≡ past_edit rs (n + r.new_size) (l + r.old_size) g
  past-more r rs n l [] a = refl
  past-more r rs n l (q ∷ qs) a =
      let t = lt-ltb (r.start + r.old_size) q.start (omega (arith, a.0)) in
      let e : past (r ∷ rs) n l q.start ≡ past rs (n + r.new_size) (l + r.old_size) q.start = rw t (omega arith) in
      let i = past-more r rs n l qs (apart-from (spans qs) (q.start + q.old_size + 1) (r.start + r.old_size + 1) a.1 (omega (arith, a.0))) in
      rw (e, i) refl

  -- a list moved as a whole
  translate : (g : List (Piece A)) (at n l : ℕ) (ts : List A) → AreApart (spans g) at → l ≤ at → spliced_from ((at + n) - l) (past_edit [] n l g) ts ≡ spliced_from at g ts
  translate [] at n l ts a h = refl
  translate (q ∷ qs) at n l ts a h =
      let s = past [] n l q.start in
      let far = q.start + q.old_size in
      let e : s - ((at + n) - l) ≡ q.start - at = omega (arith, a.0, h) in
      let d : (s + q.old_size) - ((at + n) - l) ≡ far - at = omega (arith, a.0, h) in
      let f : s + q.old_size ≡ (far + n) - l = omega (arith, a.0, h) in
      ap (λ z. take z ts ++ (q.new ++ spliced_from (s + q.old_size) (past_edit [] n l qs) (drop ((s + q.old_size) - ((at + n) - l)) ts))) e
      ∙ ap (λ z. take (q.start - at) ts ++ (q.new ++ spliced_from (s + q.old_size) (past_edit [] n l qs) (drop z ts))) d
      ∙ ap (λ z. take (q.start - at) ts ++ (q.new ++ spliced_from z (past_edit [] n l qs) (drop (far - at) ts))) f
      ∙ ap (λ z. take (q.start - at) ts ++ (q.new ++ z)) (translate qs far n l (drop (far - at) ts) (apart-from (spans qs) (far + 1) far a.1 (omega arith)) (omega (arith, a.0, h)))

  begins : (g : List (Piece A)) (from n : ℕ) → AreApart (spans g) from → n ≤ from → Begins g n
  begins [] from n a h = tt
  begins (q ∷ qs) from n a h = omega (arith, a.0, h)

  begins-past : (r : Span) (rs : List Span) (n l from : ℕ) (g : List (Piece A)) → AreApart (r ∷ rs) from → l ≤ from → AreApart (spans g) (r.start + r.old_size + 1) → AreClear (r ∷ rs) (spans g)
      → (k : ℕ) → k ≤ ((r.start + n) - l) + r.new_size → Begins (past_edit (r ∷ rs) n l g) k
  begins-past r rs n l from [] a h b c k u = tt
  begins-past r rs n l from (q ∷ qs) a h b c k u =
      let o = clear-outside (span_of q) rs q.start (clear-sym rs (spans (q ∷ qs)) c.1).0 (omega arith) (omega arith) in
      let p = past-range r rs 0 from n l q.start a h (omega (arith, a.0, b.0)) (omega (arith, b.0)) o in
      omega (arith, p, u)

  module _ (p : Piece A) (fs g : List (Piece A)) (at nf lf ng lg : ℕ) (ts : List A) (a : AreApart (spans (p ∷ fs)) at) (b : AreApart (spans g) (p.start + p.old_size + 1))
      (c : AreClear (spans (p ∷ fs)) (spans g)) (h : lf ≤ at) (k : lg ≤ at) (w : p.start + p.old_size ≤ at + length ts) where
    abbrev far : ℕ
    far = p.start + p.old_size

    abbrev n : ℕ
    n = p.start - at

    abbrev m : ℕ
    m = far - at

    abbrev more : ℕ
    more = nf + length p.new

    abbrev gone : ℕ
    gone = lf + p.old_size

    abbrev rest : List A
    rest = spliced_from far fs (drop m ts)

    abbrev g₁ : List (Piece A)
    g₁ = past_edit (spans (p ∷ fs)) nf lf g

    abbrev g₂ : List (Piece A)
    g₂ = past_edit (spans fs) more gone g

    abbrev f₂ : List (Piece A)
    f₂ = past_edit (spans g) ng lg fs

    abbrev here : ℕ
    here = (at + nf) - lf

    abbrev head : List A
    head = take n ts

    head-size : length head ≡ n
    head-size = length-take-le n ts (omega (arith, a.0, w))

    left : spliced_from here g₁ (spliced_from at (p ∷ fs) ts) ≡ head ++ (p.new ++ spliced_from ((far + more) - gone) g₂ rest)
    left =
        front here g₁ head (p.new ++ rest) (begins-past (span_of p) (spans fs) nf lf at g a h b c (here + length head) (omega (arith, head-size, a.0, h)))
        ∙ ap (λ z. head ++ z) (front (here + length head) g₁ p.new rest (begins-past (span_of p) (spans fs) nf lf at g a h b c (here + length head + length p.new) (omega (arith, head-size, a.0, h))))
        ∙ ap (λ z. head ++ (p.new ++ spliced_from z g₁ rest)) (let e : here + length head + length p.new ≡ (far + more) - gone = omega (arith, head-size, a.0, h) in e)
        ∙ ap (λ z. head ++ (p.new ++ spliced_from ((far + more) - gone) z rest)) (past-more (span_of p) (spans fs) nf lf g b)

    abbrev there : ℕ
    there = (at + ng) - lg

    body-size : length (take m ts) ≡ m
    body-size = length-take-le m ts (omega (arith, a.0, w))

    abbrev end : List A
    end = spliced_from far g (drop m ts)

    body : spliced_from at g ts ≡ take m ts ++ end
    body =
        ap (spliced_from at g) (sym (take-append-drop m ts))
        ∙ front at g (take m ts) (drop m ts) (begins g (far + 1) (at + length (take m ts)) b (omega (arith, body-size, a.0)))
        ∙ ap (λ z. take m ts ++ spliced_from z g (drop m ts)) (let e : at + length (take m ts) ≡ far = omega (arith, body-size, a.0) in e)

    abbrev s : ℕ
    s = past (spans g) ng lg p.start

    none : s ≡ (p.start + ng) - lg
    none = let x = none-before (spans g) (far + 1) p.start b (omega arith) in omega (arith, x.put, x.taken)

    take-in : take n (take m ts ++ end) ≡ head
    take-in = take-append-le n (take m ts) end (omega (arith, body-size)) ∙ take-take n m ts (omega (arith, a.0))

    drop-in : drop m (take m ts ++ end) ≡ end
    drop-in = ap (λ z. drop z (take m ts ++ end)) (sym body-size) ∙ drop-append_seam (take m ts) end

    right : spliced_from there (past_edit (spans g) ng lg (p ∷ fs)) (spliced_from at g ts) ≡ head ++ (p.new ++ spliced_from ((far + ng) - lg) f₂ end)
    right =
        let e : s - there ≡ n = omega (arith, none, a.0, k) in
        let d : (s + p.old_size) - there ≡ m = omega (arith, none, a.0, k) in
        let f : s + p.old_size ≡ (far + ng) - lg = omega (arith, none, a.0, k) in
        let z = spliced_from at g ts in
        ap (λ x. take x z ++ (p.new ++ spliced_from (s + p.old_size) f₂ (drop ((s + p.old_size) - there) z))) e
        ∙ ap (λ x. take n z ++ (p.new ++ spliced_from (s + p.old_size) f₂ (drop x z))) d
        ∙ ap (λ x. take n z ++ (p.new ++ spliced_from x f₂ (drop m z))) f
        ∙ ap (λ x. take n x ++ (p.new ++ spliced_from ((far + ng) - lg) f₂ (drop m x))) body
        ∙ ap (λ x. x ++ (p.new ++ spliced_from ((far + ng) - lg) f₂ (drop m (take m ts ++ end)))) take-in
        ∙ ap (λ x. head ++ (p.new ++ spliced_from ((far + ng) - lg) f₂ x)) drop-in

    first : spliced_from ((far + more) - gone) g₂ rest ≡ spliced_from ((far + ng) - lg) f₂ end
        → spliced_from here g₁ (spliced_from at (p ∷ fs) ts) ≡ spliced_from there (past_edit (spans g) ng lg (p ∷ fs)) (spliced_from at g ts)
    first i = left ∙ ap (λ x. head ++ (p.new ++ x)) i ∙ sym right

  within-drop : (f : List (Piece A)) (at far : ℕ) (ts : List A) → AreWithin f (at + length ts) → at ≤ far → far ≤ at + length ts → AreWithin f (far + length (drop (far - at) ts))
  within-drop [] at far ts w h k = tt
  within-drop (p ∷ ps) at far ts w h k = (omega (arith, w.0, h, k, length-drop (far - at) ts), within-drop ps at far ts w.1 h k)

  abbrev Both : ℕ → List (Piece A) → List (Piece A) → ℕ → ℕ → ℕ → ℕ → ℕ → List A → Type 0
  Both count f g at nf lf ng lg ts = length f + length g ≤ count → AreApart (spans f) at → AreApart (spans g) at → AreClear (spans f) (spans g) → lf ≤ at → lg ≤ at
      → AreWithin f (at + length ts) → AreWithin g (at + length ts)
      → spliced_from ((at + nf) - lf) (past_edit (spans f) nf lf g) (spliced_from at f ts) ≡ spliced_from ((at + ng) - lg) (past_edit (spans g) ng lg f) (spliced_from at g ts)

  first-both : (count : ℕ) (p : Piece A) (fs g : List (Piece A)) (at nf lf ng lg : ℕ) (ts : List A)
      → ((f g : List (Piece A)) (at nf lf ng lg : ℕ) (ts : List A) → Both count f g at nf lf ng lg ts)
      → suc (length fs) + length g ≤ suc count → AreApart (spans (p ∷ fs)) at → AreApart (spans g) (p.start + p.old_size + 1) → AreClear (spans (p ∷ fs)) (spans g) → lf ≤ at → lg ≤ at
      → AreWithin (p ∷ fs) (at + length ts) → AreWithin g (at + length ts)
      → spliced_from ((at + nf) - lf) (past_edit (spans (p ∷ fs)) nf lf g) (spliced_from at (p ∷ fs) ts) ≡ spliced_from ((at + ng) - lg) (past_edit (spans g) ng lg (p ∷ fs)) (spliced_from at g ts)
  first-both count p fs g at nf lf ng lg ts ih h a b c k l w v =
      let far = p.start + p.old_size in
      first p fs g at nf lf ng lg ts a b c k l w.0
      (ih fs g far (nf + length p.new) (lf + p.old_size) ng lg (drop (far - at) ts) (omega (arith, h))
      (apart-from (spans fs) (far + 1) far a.1 (omega arith)) (apart-from (spans g) (far + 1) far b (omega arith)) c.1 (omega (arith, a.0, k)) (omega (arith, a.0, l))
      (within-drop fs at far ts w.1 (omega (arith, a.0)) w.0) (within-drop g at far ts v (omega (arith, a.0)) w.0))

  commute : (count : ℕ) (f g : List (Piece A)) (at nf lf ng lg : ℕ) (ts : List A) → Both count f g at nf lf ng lg ts
  commute count [] g at nf lf ng lg ts h a b c k l w v = translate g at nf lf ts b k
  commute count (p ∷ fs) [] at nf lf ng lg ts h a b c k l w v = sym (translate (p ∷ fs) at ng lg ts a l)
  commute zero (p ∷ fs) (q ∷ qs) at nf lf ng lg ts h a b c k l w v = absurd (omega (arith, h))
  commute (suc count) (p ∷ fs) (q ∷ qs) at nf lf ng lg ts h a b c k l w v = ⊎_elim
      (λ (u : p.start + p.old_size < q.start). first-both count p fs (q ∷ qs) at nf lf ng lg ts (commute count) h a (omega (arith, u), b.1) c k l w v)
      (λ (u : q.start + q.old_size < p.start). sym (first-both count q qs (p ∷ fs) at ng lg nf lf ts (commute count) (omega (arith, h)) b (omega (arith, u), a.1)
      (clear-sym (spans (p ∷ fs)) (spans (q ∷ qs)) c) l k v w))
      c.0.0

  past-shifted : (g : List Span) (f : List (Piece A)) → past_edit g 0 0 f ≡ shifted_edit g f
  past-shifted g [] = refl
  past-shifted g (p ∷ ps) = rw (past-shift g p.start, past-shifted g ps) refl

  -- where the ranges of an edit go, the edit goes
  pub spans-shifted : (g : List Span) (f : List (Piece A)) → spans (shifted_edit g f) ≡ shifted g (spans f)
  spans-shifted g [] = refl
  spans-shifted g (p ∷ ps) = rw (spans-shifted g ps) refl

  -- Two edits that lie apart, one after the other where the first carries it, give the same list in either order.
  pub commutes : (f g : List (Piece A)) (ts : List A) → AreApart (spans f) 0 → AreApart (spans g) 0 → AreClear (spans f) (spans g) → AreWithin f (length ts) → AreWithin g (length ts)
      → spliced (shifted_edit (spans f) g) (spliced f ts) ≡ spliced (shifted_edit (spans g) f) (spliced g ts)
  commutes f g ts a b c w v =
      let e : length ts ≡ 0 + length ts = omega arith in
      let z : 0 ≡ (0 + 0) - 0 = omega arith in
      ap (λ h. spliced h (spliced f ts)) (sym (past-shifted (spans f) g))
      ∙ ap (λ n. spliced_from n (past_edit (spans f) 0 0 g) (spliced f ts)) z
      ∙ commute (length f + length g) f g 0 0 0 0 0 ts (omega arith) a b c (omega arith) (omega arith) (subst (AreWithin f) e w) (subst (AreWithin g) e v)
      ∙ ap (λ n. spliced_from n (past_edit (spans g) 0 0 f) (spliced g ts)) (sym z)
      ∙ ap (λ h. spliced h (spliced g ts)) (past-shifted (spans g) f)
