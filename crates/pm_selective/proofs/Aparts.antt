-- Maps that lie apart from an event lie apart from each of its steps at their turn.
use Rattle.std.specs.Prelude.{◌≡◌, ◌==◌, ℕ, ◌+◌, ◌-◌, ◌≤◌, ◌<◌, Bool, true, false, if◌then◌else◌, List, [], ◌∷◌, ◌++◌, refl}
use Rattle.std.proofs.Common.{arith, ap, sym, subst, ◌∙◌, ⊎_elim, inl, inr}
use Rattle.std.proofs.lemmas.Bool.{cases_lt, eq-eqb, eqb-true, eqb-false, ne_eqb}
use Rattle.pm_map.specs.declared.step_map.Span.{Span}
use Rattle.pm_map.specs.Moves.{moved_from, goes_before, inverted_ranges}
use Rattle.pm_map.specs.Stills.{IsOutside, AreApart}
use Rattle.pm_map.proofs.Backs.{goes-back, decided-before, decided-past, decided-in, range-pos}
use Rattle.pm_selective.specs.Shifts.{AreClear, IsClear, shift, shifted, beside, IsCorner, IsGrid, AreAllApart}
use Rattle.pm_selective.specs.declared.telling.Reach.{Reach}
use Rattle.pm_selective.specs.Apart.{moved_reach, moved_reaches, reaches, event_ranges, IsBeyond, IsBeyondAll, IsApart, AreApartFrom, backs_onto, backs}
use Rattle.pm_selective.proofs.Corners.{clear-sym, clear-outside, shift-rigid, shift-moved, order, passes, stays-outside, apart-over}
use Rattle.pm_selective.proofs.Flips.{back-apart, twice, clear-back-all, comes-back, flip-back, flip-other, flip-clear}
use Rattle.pm_selective.proofs.Grids.{column}

-- ---- an end that goes by `After` stays at or after a start that goes by `Before`

rising-in : (r : Span) (to x y : ℕ) → r.start ≤ x → x ≤ y → y ≤ r.start + r.old_size
    → (if goes_before r x true then to else to + r.new_size) ≤ (if goes_before r y false then to else to + r.new_size)
rising-in r to x y u v w = from (r.old_size == 0) refl
  where
    low : (t : Bool) → to ≤ (if t then to else to + r.new_size)
    low true = omega arith
    low false = omega arith

    from : (z : Bool) → (r.old_size == 0) ≡ z
        → (if (if z then true else if x == r.start then true else if x == r.start + r.old_size then false else true) then to else to + r.new_size)
        ≤ (if (if z then false else if y == r.start then true else if y == r.start + r.old_size then false else false) then to else to + r.new_size)
    from true e = omega arith
    from false e = start (x == r.start) refl
      where
        end : (s : Bool) → (x == r.start + r.old_size) ≡ s
            → (if (if s then false else true) then to else to + r.new_size) ≤ (if (if y == r.start then true else if y == r.start + r.old_size then false else false) then to else to + r.new_size)
        end false d = low (if y == r.start then true else if y == r.start + r.old_size then false else false)
        end true d =
            let k = eqb-true x (r.start + r.old_size) d in
            rw (ne_eqb y r.start (λ same. eqb-false r.old_size 0 e (omega (arith, same, k, v))), eq-eqb y (r.start + r.old_size) (omega (arith, k, v, w))) (omega arith)

        start : (s : Bool) → (x == r.start) ≡ s
            → (if (if s then true else if x == r.start + r.old_size then false else true) then to else to + r.new_size)
            ≤ (if (if y == r.start then true else if y == r.start + r.old_size then false else false) then to else to + r.new_size)
        start true d = low (if y == r.start then true else if y == r.start + r.old_size then false else false)
        start false d = end (x == r.start + r.old_size) refl

rising : (f : List Span) (j from g l x y : ℕ) → AreApart f from → l ≤ from → from ≤ x → x ≤ y → (moved_from f j g l x true).pos ≤ (moved_from f j g l y false).pos
rising [] j from g l x y a h k u = omega (arith, u)
rising (r ∷ rs) j from g l x y a h k u = ⊎_elim
    (λ (v : x < r.start). rw (decided-before r j g l x true v) (⊎_elim
    (λ (w : y < r.start). rw (decided-before r j g l y false w) (omega (arith, u)))
    (λ (w : r.start ≤ y). let m = goes-back (r ∷ rs) j g l r.start y false (omega arith, a.1) (omega (arith, a.0, h)) w in omega (arith, m.bound, v))
    (cases_lt y r.start)))
    (λ (v : r.start ≤ x). ⊎_elim
    (λ (w : r.start + r.old_size < x).
    rw (decided-past r j g l x true w, decided-past r j g l y false (omega (arith, w, u)))
    (rising rs (j + 1) (r.start + r.old_size + 1) (g + r.new_size) (l + r.old_size) x y a.1 (omega (arith, a.0, h)) (omega (arith, w)) u))
    (λ (w : x ≤ r.start + r.old_size). rw (decided-in r j g l x true v w) (⊎_elim
    (λ (z : r.start + r.old_size < y).
    let m = goes-back rs (j + 1) (g + r.new_size) (l + r.old_size) (r.start + r.old_size + 1) y false a.1 (omega (arith, a.0, h)) (omega (arith, z)) in
    let q = range-pos r j ((r.start + g) - l) x true in
    rw (decided-past r j g l y false z) (omega (arith, m.bound, q.1, a.0, h)))
    (λ (z : y ≤ r.start + r.old_size). rw (decided-in r j g l y false (omega (arith, u, v)) z) (rising-in r ((r.start + g) - l) x y v u z))
    (cases_lt (r.start + r.old_size) y)))
    (cases_lt (r.start + r.old_size) x))
    (cases_lt x r.start)

-- ---- stretches that are in order

abbrev AreForward : List Reach → Type 0
AreForward [] = Unit {0}
AreForward (x ∷ xs) = (x.from ≤ x.to) × AreForward xs

forward-moved : (m : List Span) (xs : List Reach) → AreApart m 0 → AreForward xs → AreForward (moved_reaches m xs)
forward-moved m [] a h = tt
forward-moved m (x ∷ xs) a h = (rising m 0 0 0 0 x.from x.to a (omega arith) (omega arith) h.0, forward-moved m xs a h.1)

forward-reaches : (m : List Span) → AreForward (reaches m)
forward-reaches [] = tt
forward-reaches (r ∷ rs) = (omega arith, forward-reaches rs)

forward-both : (xs ys : List Reach) → AreForward xs → AreForward ys → AreForward (xs ++ ys)
forward-both [] ys h k = k
forward-both (x ∷ xs) ys h k = (h.0, forward-both xs ys h.1 k)

-- ---- the event's ranges by its inverted maps, from the latest to the first

abbrev pub ranges_back : List (List Span) → List Reach
ranges_back [] = []
ranges_back (b ∷ bs) = moved_reaches (inverted_ranges b) (ranges_back bs) ++ reaches b

forward-back : (bs : List (List Span)) → AreAllApart bs → AreForward (ranges_back bs)
forward-back [] a = tt
forward-back (b ∷ bs) a =
    forward-both (moved_reaches (inverted_ranges b) (ranges_back bs)) (reaches b)
    (forward-moved (inverted_ranges b) (ranges_back bs) (back-apart b a.0) (forward-back bs a.1)) (forward-reaches b)

ranges-onto : (es bs : List (List Span)) → AreAllApart es → event_ranges es (ranges_back bs) ≡ ranges_back (backs_onto es bs)
ranges-onto [] bs a = refl
ranges-onto (e ∷ es) bs a =
    ap (λ z. event_ranges es (moved_reaches z (ranges_back bs) ++ reaches (inverted_ranges e))) (sym (twice e a.0))
    ∙ ranges-onto es (inverted_ranges e ∷ bs) a.1

pub ranges-are : (es : List (List Span)) → AreAllApart es → event_ranges es [] ≡ ranges_back (backs es)
ranges-are es a = ranges-onto es [] a

-- ---- parts of being apart

beyond-left : (r : Span) (xs ys : List Reach) → IsBeyondAll r (xs ++ ys) → IsBeyondAll r xs
beyond-left r [] ys h = tt
beyond-left r (x ∷ xs) ys h = (h.0, beyond-left r xs ys h.1)

beyond-right : (r : Span) (xs ys : List Reach) → IsBeyondAll r (xs ++ ys) → IsBeyondAll r ys
beyond-right r [] ys h = h
beyond-right r (x ∷ xs) ys h = beyond-right r xs ys h.1

apart-left : (l : List Span) (xs ys : List Reach) → IsApart l (xs ++ ys) → IsApart l xs
apart-left [] xs ys h = tt
apart-left (r ∷ rs) xs ys h = (beyond-left r xs ys h.0, apart-left rs xs ys h.1)

apart-right : (l : List Span) (xs ys : List Reach) → IsApart l (xs ++ ys) → IsApart l ys
apart-right [] xs ys h = tt
apart-right (r ∷ rs) xs ys h = (beyond-right r xs ys h.0, apart-right rs xs ys h.1)

beyond-clear : (r : Span) (b : List Span) → IsBeyondAll r (reaches b) → IsClear r b
beyond-clear r [] h = tt
beyond-clear r (q ∷ qs) h = (h.0, beyond-clear r qs h.1)

apart-clear : (l b : List Span) → IsApart l (reaches b) → AreClear l b
apart-clear [] b h = tt
apart-clear (r ∷ rs) b h = (beyond-clear r b h.0, apart-clear rs b h.1)

-- ---- one step back

module _ (b : List Span) (a : AreApart b 0) where
  -- a range beyond where a stretch goes is carried back to beyond the stretch
  back-beyond : (q : Span) (x : Reach) → IsClear q b → IsClear (record { start = shift b q.start; old_size = q.old_size; new_size = q.new_size }) (inverted_ranges b)
      → IsBeyond q (moved_reach (inverted_ranges b) x) → IsBeyond (record { start = shift b q.start; old_size = q.old_size; new_size = q.new_size }) x
  back-beyond q x c d h =
      let back = inverted_ranges b in
      let e = back-apart b a in
      let far = q.start + q.old_size in
      let s : Span = record { start = shift b q.start; old_size = q.old_size; new_size = q.new_size } in
      let size : shift b far ≡ shift b q.start + q.old_size = (let z = shift-rigid q b far a c (omega arith) (omega arith) in omega (arith, z)) in
      ⊎_elim
      (λ (u : far < (moved_from back 0 0 0 x.from true).pos).
      let y = shift b far in
      let o = clear-outside s back y d (omega (arith, size)) (omega (arith, size)) in
      let k = order back x.from y true e o in
      let z = comes-back b far a (clear-outside q b far c (omega arith) (omega arith)) o in
      inl (⊎_elim
      (λ (v : y < x.from). omega (arith, v, size))
      (λ (v : x.from ≤ y). ⊎_elim
      (λ (w : x.from < y). absurd (omega (arith, k.below w, z, u)))
      (λ (w : y ≤ x.from).
      let same : x.from ≡ y = omega (arith, v, w) in
      let m = ap (λ p. (moved_from back 0 0 0 p true).pos) same ∙ ap (λ t. t.pos) (shift-moved back y true e o) in
      absurd (omega (arith, m, z, u)))
      (cases_lt x.from y))
      (cases_lt y x.from)))
      (λ (u : (moved_from back 0 0 0 x.to false).pos < q.start).
      let y = shift b q.start in
      let o = clear-outside s back y d (omega arith) (omega arith) in
      let k = order back x.to y false e o in
      let z = comes-back b q.start a (clear-outside q b q.start c (omega arith) (omega arith)) o in
      inr (⊎_elim
      (λ (v : x.to < y). v)
      (λ (v : y ≤ x.to). ⊎_elim
      (λ (w : y < x.to). absurd (omega (arith, k.above w, z, u)))
      (λ (w : x.to ≤ y).
      let same : x.to ≡ y = omega (arith, v, w) in
      let m = ap (λ p. (moved_from back 0 0 0 p false).pos) same ∙ ap (λ t. t.pos) (shift-moved back y false e o) in
      absurd (omega (arith, m, z, u)))
      (cases_lt y x.to))
      (cases_lt x.to y)))
      h

  back-beyond-all : (q : Span) (xs : List Reach) → IsClear q b → IsClear (record { start = shift b q.start; old_size = q.old_size; new_size = q.new_size }) (inverted_ranges b)
      → IsBeyondAll q (moved_reaches (inverted_ranges b) xs) → IsBeyondAll (record { start = shift b q.start; old_size = q.old_size; new_size = q.new_size }) xs
  back-beyond-all q [] c d h = tt
  back-beyond-all q (x ∷ xs) c d h = (back-beyond q x c d h.0, back-beyond-all q xs c d h.1)

  back-apart-all : (l : List Span) (xs : List Reach) → AreClear l b → AreClear (shifted b l) (inverted_ranges b) → IsApart l (moved_reaches (inverted_ranges b) xs) → IsApart (shifted b l) xs
  back-apart-all [] xs c d h = tt
  back-apart-all (q ∷ qs) xs c d h = (back-beyond-all q xs c.0 d.0 h.0, back-apart-all qs xs c.1 d.1 h.1)

-- a map apart from an event is apart from each of its steps at its turn
pub corner-of : (bs : List (List Span)) (l : List Span) → AreAllApart bs → IsApart l (ranges_back bs) → IsCorner l bs
corner-of [] l a h = tt
corner-of (b ∷ bs) l a h =
    let c = apart-clear l b (apart-right l (moved_reaches (inverted_ranges b) (ranges_back bs)) (reaches b) h) in (
      c,
      a.0,
      corner-of bs (shifted b l) a.1
          (back-apart-all b a.0 l (ranges_back bs) c (clear-back-all b l a.0 c) (apart-left l (moved_reaches (inverted_ranges b) (ranges_back bs)) (reaches b) h)),
    )

-- ---- the event's ranges after one more step

reach-same : (x : Reach) (f t : ℕ) → f ≡ x.from → t ≡ x.to → record { from = f; to = t } ≡ x
reach-same x f t e d = rw (e, d) refl

reaches-over : (l b : List Span) → AreApart l 0 → AreClear b l → reaches (shifted l b) ≡ moved_reaches l (reaches b)
reaches-over l [] a c = refl
reaches-over l (r ∷ rs) a c =
    let far = r.start + r.old_size in
    let e = ap (λ z. z.pos) (shift-moved l r.start true a (clear-outside r l r.start c.0 (omega arith) (omega arith))) in
    let d = ap (λ z. z.pos) (shift-moved l far false a (clear-outside r l far c.0 (omega arith) (omega arith))) in
    let z = shift-rigid r l far a c.0 (omega arith) (omega arith) in
    ap (λ y. y ∷ reaches (shifted l rs)) (reach-same (moved_reach l (record { from = r.start; to = far })) (shift l r.start) (shift l r.start + r.old_size) (sym e) (omega (arith, d, z)))
    ∙ ap (λ ys. moved_reach l (record { from = r.start; to = far }) ∷ ys) (reaches-over l rs a c.1)

append-moved : (l : List Span) (xs ys : List Reach) → moved_reaches l (xs ++ ys) ≡ moved_reaches l xs ++ moved_reaches l ys
append-moved l [] ys = refl
append-moved l (x ∷ xs) ys = ap (λ z. moved_reach l x ∷ z) (append-moved l xs ys)

-- the ends of the stretch are outside of the map's ranges
beyond-outside : (l : List Span) (x : Reach) (xs : List Reach) → x.from ≤ x.to → IsApart l (x ∷ xs) → IsOutside l x.from × IsOutside l x.to
beyond-outside [] x xs k h = (tt, tt)
beyond-outside (r ∷ rs) x xs k h =
    let i = beyond-outside rs x xs k h.1 in (
      (⊎_elim (λ (u : r.start + r.old_size < x.from). inr u) (λ (u : x.to < r.start). inl (omega (arith, u, k))) h.0.0, i.0),
      (⊎_elim (λ (u : r.start + r.old_size < x.from). inr (omega (arith, u, k))) (λ (u : x.to < r.start). inl u) h.0.0, i.1),
    )

apart-rest : (l : List Span) (x : Reach) (xs : List Reach) → IsApart l (x ∷ xs) → IsApart l xs
apart-rest [] x xs h = tt
apart-rest (r ∷ rs) x xs h = (h.0.1, apart-rest rs x xs h.1)

module _ (b l : List Span) (a : AreApart b 0) (c : AreApart l 0) (h : AreClear l b) where
  -- over the step and then over l, or over l carried back and then over the step where l carries it
  moved-both : (x : ℕ) (s : Bool) → IsOutside (shifted b l) x
      → (moved_from (inverted_ranges (shifted l b)) 0 0 0 (moved_from (shifted b l) 0 0 0 x s).pos s).pos ≡ (moved_from l 0 0 0 (moved_from (inverted_ranges b) 0 0 0 x s).pos s).pos
  moved-both x s o =
      let back = inverted_ranges b in
      let k = clear-sym l b h in
      let lb = shifted b l in
      let d = apart-over l b a h c in
      let w = flip-clear b l a k in
      let m = passes back lb x s (back-apart b a) d w o in
      let y = (moved_from back 0 0 0 x s).pos in
      let q : IsOutside l y = subst (λ g. IsOutside g y) (flip-other b l a k) (stays-outside back lb x s (back-apart b a) w o) in
      ap (λ p. (moved_from (inverted_ranges (shifted l b)) 0 0 0 p s).pos) (ap (λ z. z.pos) (shift-moved lb x s d o))
      ∙ ap (λ g. (moved_from g 0 0 0 (shift lb x) s).pos) (sym (flip-back b l a c k))
      ∙ ap (λ z. z.pos) m
      ∙ ap (λ g. shift g y) (flip-other b l a k)
      ∙ sym (ap (λ z. z.pos) (shift-moved l y s c q))

  reaches-both : (xs : List Reach) → AreForward xs → IsApart (shifted b l) xs
      → moved_reaches (inverted_ranges (shifted l b)) (moved_reaches (shifted b l) xs) ≡ moved_reaches l (moved_reaches (inverted_ranges b) xs)
  reaches-both [] f k = refl
  reaches-both (x ∷ xs) f k =
      let o = beyond-outside (shifted b l) x xs f.0 k in
      let y = moved_reach l (moved_reach (inverted_ranges b) x) in
      ap (λ z. z ∷ moved_reaches (inverted_ranges (shifted l b)) (moved_reaches (shifted b l) xs))
      (reach-same y _ _ (moved-both x.from true o.0) (moved-both x.to false o.1))
      ∙ ap (λ zs. y ∷ zs) (reaches-both xs f.1 (apart-rest (shifted b l) x xs k))

-- the event's ranges move as the event is carried
pub ranges-over : (bs : List (List Span)) (l : List Span) → AreAllApart bs → AreApart l 0 → IsApart l (ranges_back bs) → ranges_back (beside l bs) ≡ moved_reaches l (ranges_back bs)
ranges-over [] l a c h = refl
ranges-over (b ∷ bs) l a c h =
    let front = moved_reaches (inverted_ranges b) (ranges_back bs) in
    let k = apart-clear l b (apart-right l front (reaches b) h) in
    let d = clear-sym l b k in
    let w = back-apart-all b a.0 l (ranges_back bs) k (clear-back-all b l a.0 k) (apart-left l front (reaches b) h) in
    let i = ranges-over bs (shifted b l) a.1 (apart-over l b a.0 k c) w in
    ap (λ z. moved_reaches (inverted_ranges (shifted l b)) z ++ reaches (shifted l b)) i
    ∙ ap (λ z. z ++ reaches (shifted l b)) (reaches-both b l a.0 c k (ranges_back bs) (forward-back bs a.1) w)
    ∙ ap (λ z. moved_reaches l front ++ z) (reaches-over l b c d)
    ∙ sym (append-moved l front (reaches b))

beside-apart : (bs : List (List Span)) (l : List Span) → AreAllApart bs → AreApart l 0 → IsCorner l bs → AreAllApart (beside l bs)
beside-apart [] l a c h = tt
beside-apart (b ∷ bs) l a c h = (apart-over b l c (clear-sym l b h.0) a.0, beside-apart bs (shifted b l) a.1 (apart-over l b a.0 h.0 c) h.2)

-- Later maps that lie apart from an event make a grid with its inverted maps.
pub grid-of : (ls bs : List (List Span)) → AreAllApart bs → AreAllApart ls → AreApartFrom (ranges_back bs) ls → IsGrid ls bs
grid-of [] bs a c h = tt
grid-of (l ∷ ls) bs a c h =
    let k = corner-of bs l a h.0 in
    (c.0, k, grid-of ls (beside l bs) (beside-apart bs l a c.0 k) c.1 (subst (λ z. AreApartFrom z ls) (sym (ranges-over bs l a c.0 h.0)) h.1))

-- a grid seen from the other side
pub turned : (bs ls : List (List Span)) → AreAllApart bs → IsGrid ls bs → IsGrid bs ls
turned [] ls a h = tt
turned (b ∷ bs) ls a h = let k = column ls b bs a.0 h in (a.0, k.corner, turned bs (beside b ls) a.1 k.rest)
