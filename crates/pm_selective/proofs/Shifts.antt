-- How a position moves over one of two maps that lie apart, before and after the other.
use Rattle.std.specs.Prelude.{◌≡◌, ℕ, ◌+◌, ◌-◌, ◌≤◌, ◌<◌, Bool, true, List, [], ◌∷◌, refl}
use Rattle.std.proofs.Common.{arith, ap, ◌∙◌, ⊎_elim}
use Rattle.std.proofs.lemmas.Bool.{cases_lt, le-ltb, lt-ltb}
use Rattle.pm_map.specs.declared.step_map.Span.{Span}
use Rattle.pm_map.specs.Moves.{moved_from, kept_at}
use Rattle.pm_map.specs.Stills.{IsOutside, AreApart}
use Rattle.pm_map.specs.Firsts.{put_before, taken_before}
use Rattle.pm_map.proofs.Backs.{goes-back, decided-before, decided-past, decided-in, range-pos}

-- ---- counting what is before a position

-- nothing is before a position that no range stands before
pub record NoneBefore (rs : List Span) (p : ℕ) : Type 0 where
  pub put : put_before rs p ≡ 0
  pub taken : taken_before rs p ≡ 0

pub none-before : (rs : List Span) (from p : ℕ) → AreApart rs from → p ≤ from → NoneBefore rs p
none-before [] from p h k = record { put = refl; taken = refl }
none-before (r ∷ rs) from p h k =
    let x = none-before rs (r.start + r.old_size + 1) p h.1 (omega (arith, h.0, k)) in
    let t = le-ltb (r.start + r.old_size) p (omega (arith, h.0, k)) in
    record { put = rw (t, x.put) refl; taken = rw (t, x.taken) refl }

pub taken-fits : (rs : List Span) (from p : ℕ) → AreApart rs from → from ≤ p → taken_before rs p + from ≤ p
taken-fits [] from p h k = omega (arith, k)
taken-fits (r ∷ rs) from p h k = ⊎_elim
    (λ (u : r.start + r.old_size < p).
    let t = lt-ltb (r.start + r.old_size) p u in
    let x = taken-fits rs (r.start + r.old_size + 1) p h.1 (omega (arith, u)) in
    rw t (omega (arith, x, h.0)))
    (λ (u : p ≤ r.start + r.old_size).
    let t = le-ltb (r.start + r.old_size) p u in
    let x = none-before rs (r.start + r.old_size + 1) p h.1 (omega (arith, u)) in
    rw (t, x.taken) (omega (arith, k)))
    (cases_lt (r.start + r.old_size) p)

-- where a position outside goes, with what came before
abbrev pub past : List Span → ℕ → ℕ → ℕ → ℕ
past rs g l p = (p + (g + put_before rs p)) - (l + taken_before rs p)

pub shift-is : (rs : List Span) (j from g l p : ℕ) (b : Bool) → AreApart rs from → l ≤ from → from ≤ p → IsOutside rs p
    → moved_from rs j g l p b ≡ kept_at (past rs g l p)
shift-is [] j from g l p b h k f o = ap kept_at (omega arith)
shift-is (r ∷ rs) j from g l p b h k f o = ⊎_elim
    (λ (u : p < r.start).
    let x = none-before (r ∷ rs) r.start p (omega arith, h.1) (omega (arith, u)) in
    rw (decided-before r j g l p b u) (ap kept_at (omega (arith, x.put, x.taken))))
    (λ (u : r.start + r.old_size < p).
    let t = lt-ltb (r.start + r.old_size) p u in
    let x = shift-is rs (j + 1) (r.start + r.old_size + 1) (g + r.new_size) (l + r.old_size) p b h.1 (omega (arith, h.0, k)) (omega (arith, u)) o.1 in
    rw (decided-past r j g l p b u) (x ∙ ap kept_at (rw t (omega arith))))
    o.0

-- ---- order

-- A map keeps the order of a position outside and any other.
pub record Keeps (to at x y : ℕ) : Type 0 where
  pub below : x < y → to < at
  pub above : y < x → at < to

keeps-first : (r : Span) (rs : List Span) (j from g l x y : ℕ) (b : Bool) → AreApart (r ∷ rs) from → l ≤ from → from ≤ x → from ≤ y → y < r.start
    → Keeps (moved_from (r ∷ rs) j g l x b).pos (past (r ∷ rs) g l y) x y
keeps-first r rs j from g l x y b h k f e u =
    let n = none-before (r ∷ rs) r.start y (omega arith, h.1) (omega (arith, u)) in
    ⊎_elim
    (λ (v : x < r.start). rw (decided-before r j g l x b v) (record { below = λ w. omega (arith, n.put, n.taken, w); above = λ w. omega (arith, n.put, n.taken, w) }))
    (λ (v : r.start ≤ x).
    let m = goes-back (r ∷ rs) j g l r.start x b (omega arith, h.1) (omega (arith, h.0)) v in
    record { below = λ w. absurd (omega (arith, u, v, w)); above = λ w. omega (arith, m.bound, n.put, n.taken, u) })
    (cases_lt x r.start)

-- the place of a position after a range is after the range's end
pub past-range : (r : Span) (rs : List Span) (j from g l y : ℕ) → AreApart (r ∷ rs) from → l ≤ from → from ≤ y → r.start + r.old_size < y → IsOutside rs y
    → ((r.start + g) - l) + r.new_size < past (r ∷ rs) g l y
past-range r rs j from g l y h k f u o =
    let t = lt-ltb (r.start + r.old_size) y u in
    let m = goes-back rs (j + 1) (g + r.new_size) (l + r.old_size) (r.start + r.old_size + 1) y true h.1 (omega (arith, h.0)) (omega (arith, u)) in
    let e = shift-is rs (j + 1) (r.start + r.old_size + 1) (g + r.new_size) (l + r.old_size) y true h.1 (omega (arith, h.0)) (omega (arith, u)) o in
    let p : (moved_from rs (j + 1) (g + r.new_size) (l + r.old_size) y true).pos ≡ past rs (g + r.new_size) (l + r.old_size) y = ap (λ z. z.pos) e in
    rw t (omega (arith, m.bound, p, h.0))

pub keeps : (rs : List Span) (j from g l x y : ℕ) (b : Bool) → AreApart rs from → l ≤ from → from ≤ x → from ≤ y → IsOutside rs y
    → Keeps (moved_from rs j g l x b).pos (past rs g l y) x y
keeps [] j from g l x y b h k f e o = record { below = λ w. omega (arith, w); above = λ w. omega (arith, w) }
keeps (r ∷ rs) j from g l x y b h k f e o = ⊎_elim
    (λ (u : y < r.start). keeps-first r rs j from g l x y b h k f e u)
    (λ (u : r.start + r.old_size < y).
    let q = past-range r rs j from g l y h k e u o.1 in
    ⊎_elim
    (λ (v : r.start + r.old_size < x).
    let t = lt-ltb (r.start + r.old_size) y u in
    let i = keeps rs (j + 1) (r.start + r.old_size + 1) (g + r.new_size) (l + r.old_size) x y b h.1 (omega (arith, h.0)) (omega (arith, v)) (omega (arith, u)) o.1 in
    rw (decided-past r j g l x b v, t) (record { below = λ w. omega (arith, i.below w); above = λ w. omega (arith, i.above w) }))
    (λ (v : x ≤ r.start + r.old_size). ⊎_elim
    (λ (w : x < r.start). rw (decided-before r j g l x b w) (record { below = λ z. omega (arith, q, w); above = λ z. absurd (omega (arith, z, u, v)) }))
    (λ (w : r.start ≤ x). rw (decided-in r j g l x b w v)
    (let i = range-pos r j ((r.start + g) - l) x b in record { below = λ z. omega (arith, q, i.1); above = λ z. absurd (omega (arith, z, u, v)) }))
    (cases_lt x r.start))
    (cases_lt (r.start + r.old_size) x))
    o.0
