-- Positions keep their order over a map, and those outside its ranges come back.
use Rattle.std.specs.Prelude.{◌≡◌, ℕ, ◌+◌, ◌-◌, ◌≤◌, ◌<◌, Bool, true, false, ◌==◌, if◌then◌else◌, List, [], ◌∷◌, refl}
use Rattle.std.proofs.Common.{arith, ap, ⊎_elim}
use Rattle.std.proofs.lemmas.Bool.{cases_lt, eqb-true, eqb-false, eq-eqb, true≢false}
use Rattle.pm_map.specs.declared.step_map.Span.{Span}
use Rattle.pm_map.specs.Moves.{moved_from, at_range, kept_at, goes_before, inverted_from, inverted_range, AreInOrder}
use Rattle.pm_map.specs.Stills.{IsOutside}
use Rattle.pm_map.proofs.Backs.{decided-before, decided-past, decided-in, range-pos}

-- the map back of the map back
pub twice : (rs : List Span) (from g l : ℕ) → AreInOrder rs from g l → l ≤ from → inverted_from (inverted_from rs g l) l g ≡ rs
twice [] from g l h k = refl
twice (r ∷ rs) from g l h k =
    let e : (((r.start + g) - l) + l) - g ≡ r.start = omega (arith, h.0, k) in
    rw (e, twice rs (r.start + r.old_size) (g + r.new_size) (l + r.old_size) h.3 (omega (arith, h.0, k))) refl

-- three places of a position by a range
by_range : (A : Type 0) (r : Span) (p : ℕ) → (p < r.start → A) → (r.start ≤ p → p ≤ r.start + r.old_size → A) → (r.start + r.old_size < p → A) → A
by_range A r p f g h = ⊎_elim f (λ (k : r.start ≤ p). ⊎_elim h (λ (u : p ≤ r.start + r.old_size). g k u) (cases_lt (r.start + r.old_size) p)) (cases_lt p r.start)

-- no position comes to stand before what the ranges before it gave
pub not-before : (rs : List Span) (i from g l p : ℕ) (b : Bool) → AreInOrder rs from g l → l ≤ from → from ≤ p
    → (from + g) - l ≤ (moved_from rs i g l p b).pos
not-before [] i from g l p b h k f = omega (arith, k, f)
not-before (r ∷ rs) i from g l p b h k f = by_range _ r p
    (λ (u : p < r.start). rw (decided-before r i g l p b u) (omega (arith, k, f)))
    (λ u v. rw (decided-in r i g l p b u v) (let x = range-pos r i ((r.start + g) - l) p b in omega (arith, h.0, k, x.0)))
    (λ (u : r.start + r.old_size < p). rw (decided-past r i g l p b u)
    (let x = not-before rs (i + 1) (r.start + r.old_size) (g + r.new_size) (l + r.old_size) p b h.3 (omega (arith, h.0, k)) (omega (arith, u)) in
    omega (arith, h.0, k, x)))

-- within one range
goes-first : (r : Span) (p q : ℕ) (b : Bool) → r.start ≤ p → p ≤ q → q ≤ r.start + r.old_size → goes_before r q b ≡ true → goes_before r p b ≡ true
goes-first r p q b f g h e = from (r.old_size == 0) refl (q == r.start) refl (p == r.start) refl (p == r.start + r.old_size) refl e
  where
    from : (z : Bool) → (r.old_size == 0) ≡ z → (s : Bool) → (q == r.start) ≡ s → (t : Bool) → (p == r.start) ≡ t → (u : Bool) → (p == r.start + r.old_size) ≡ u
        → (if z then b else if s then true else if q == r.start + r.old_size then false else b) ≡ true
        → (if z then b else if t then true else if u then false else b) ≡ true
    from true z s se t te u ue x = x
    from false z s se true te u ue x = refl
    from false z true se false te u ue x = absurd (eqb-false p r.start te (omega (arith, eqb-true q r.start se, f, g)))
    from false z false se false te true ue x =
        let last : q ≡ r.start + r.old_size = omega (arith, eqb-true p (r.start + r.old_size) ue, g, h) in
        absurd (true≢false (let y = rw (eq-eqb q (r.start + r.old_size) last) at x in cc))
    from false z false se false te false ue x = by (q == r.start + r.old_size) x
      where
        by : (w : Bool) → (if w then false else b) ≡ true → b ≡ true
        by true y = absurd (true≢false (cc))
        by false y = y

range-order : (r : Span) (i to p q : ℕ) (b : Bool) → r.start ≤ p → p ≤ q → q ≤ r.start + r.old_size → (at_range r i to p b).pos ≤ (at_range r i to q b).pos
range-order r i to p q b f g h = from (goes_before r p b) (goes_before r q b) (goes-first r p q b f g h)
  where
    from : (t u : Bool) → (u ≡ true → t ≡ true) → (if t then to else to + r.new_size) ≤ (if u then to else to + r.new_size)
    from true true k = omega arith
    from true false k = omega arith
    from false true k = absurd (true≢false (let y = k refl in cc))
    from false false k = omega arith

pub in-order : (rs : List Span) (i from g l p q : ℕ) (b : Bool) → AreInOrder rs from g l → l ≤ from → from ≤ p → p ≤ q
    → (moved_from rs i g l p b).pos ≤ (moved_from rs i g l q b).pos
in-order [] i from g l p q b h k f o = omega (arith, o)
in-order (r ∷ rs) i from g l p q b h k f o =
    let over = λ (v : r.start + r.old_size < q). not-before rs (i + 1) (r.start + r.old_size) (g + r.new_size) (l + r.old_size) q b h.3 (omega (arith, h.0, k)) (omega (arith, v)) in
    let go = λ (u : r.start + r.old_size < p). in-order rs (i + 1) (r.start + r.old_size) (g + r.new_size) (l + r.old_size) p q b h.3 (omega (arith, h.0, k)) (omega (arith, u)) o in
    by_range _ r p
    (λ (u : p < r.start). rw (decided-before r i g l p b u) (by_range _ r q
    (λ (v : q < r.start). rw (decided-before r i g l q b v) (omega (arith, o)))
    (λ v w. rw (decided-in r i g l q b v w) (let x = range-pos r i ((r.start + g) - l) q b in omega (arith, u, x.0)))
    (λ (v : r.start + r.old_size < q). rw (decided-past r i g l q b v) (let x = over v in omega (arith, h.0, k, u, x)))))
    (λ (u : r.start ≤ p) (s : p ≤ r.start + r.old_size). rw (decided-in r i g l p b u s) (by_range _ r q
    (λ (v : q < r.start). absurd (omega (arith, u, v, o)))
    (λ v w. rw (decided-in r i g l q b v w) (range-order r i ((r.start + g) - l) p q b u o w))
    (λ (v : r.start + r.old_size < q). rw (decided-past r i g l q b v)
    (let x = over v in let y = range-pos r i ((r.start + g) - l) p b in omega (arith, h.0, k, x, y.1)))))
    (λ (u : r.start + r.old_size < p). rw (decided-past r i g l p b u, decided-past r i g l q b (omega (arith, u, o))) (go u))

-- a position after what the ranges before it gave stays after it
behind : (rs : List Span) (i from g l p : ℕ) (b : Bool) → AreInOrder rs from g l → l ≤ from → from < p → IsOutside rs p
    → (from + g) - l < (moved_from rs i g l p b).pos
behind [] i from g l p b h k f o = omega (arith, k, f)
behind (r ∷ rs) i from g l p b h k f o = ⊎_elim
    (λ (u : p < r.start). rw (decided-before r i g l p b u) (omega (arith, k, f)))
    (λ (u : r.start + r.old_size < p). rw (decided-past r i g l p b u)
    (let x = behind rs (i + 1) (r.start + r.old_size) (g + r.new_size) (l + r.old_size) p b h.3 (omega (arith, h.0, k)) u o.1 in
    omega (arith, h.0, k, x)))
    o.0

pub outside : (rs : List Span) (i from g l p : ℕ) (b c : Bool) → AreInOrder rs from g l → l ≤ from → from ≤ p → IsOutside rs p
    → (moved_from rs i g l p b ≡ kept_at (moved_from rs i g l p b).pos) × (moved_from (inverted_from rs g l) i l g (moved_from rs i g l p b).pos c ≡ kept_at p)
outside [] i from g l p b c h k f o = (refl, ap kept_at (omega (arith, k, f)))
outside (r ∷ rs) i from g l p b c h k f o = ⊎_elim
    (λ (u : p < r.start). rw (decided-before r i g l p b u, decided-before (inverted_range r g l) i l g ((p + g) - l) c (omega (arith, k, f, u)))
    (refl, ap kept_at (omega (arith, k, f))))
    (λ (u : r.start + r.old_size < p).
    let low = behind rs (i + 1) (r.start + r.old_size) (g + r.new_size) (l + r.old_size) p b h.3 (omega (arith, h.0, k)) u o.1 in
    let past = decided-past (inverted_range r g l) i l g (moved_from rs (i + 1) (g + r.new_size) (l + r.old_size) p b).pos c (omega (arith, h.0, k, low)) in
    rw (decided-past r i g l p b u, past)
    (outside rs (i + 1) (r.start + r.old_size) (g + r.new_size) (l + r.old_size) p b c h.3 (omega (arith, h.0, k)) (omega (arith, u)) o.1))
    o.0
