-- Two maps that lie apart: the way over the one and then the other is the way over the other and then the one.
use Rattle.std.specs.Prelude.{◌≡◌, ◌==◌, ℕ, ◌+◌, ◌-◌, ◌≤◌, ◌<◌, Bool, true, false, if◌then◌else◌, List, [], ◌∷◌, refl}
use Rattle.std.proofs.Common.{arith, ap, sym, subst, ◌∙◌, ⊎_elim, inl, inr}
use Rattle.std.proofs.lemmas.Bool.{cases_lt, le-ltb, lt-ltb, eq-eqb, eqb-true, eqb-false, ne_eqb}
use Rattle.pm_map.specs.declared.step_map.Span.{Span}
use Rattle.pm_map.specs.declared.step_map.Moved.{Moved}
use Rattle.pm_map.specs.Moves.{moved_from, at_range, kept_at, goes_before}
use Rattle.pm_map.specs.Stills.{IsOutside, AreApart}
use Rattle.pm_map.specs.Firsts.{put_before, taken_before}
use Rattle.pm_map.proofs.Backs.{decided-before, decided-past, decided-in}
use Rattle.pm_selective.specs.Shifts.{IsBetween, IsClear, AreClear, shift, shifted}
use Rattle.pm_selective.proofs.Shifts.{taken-fits, past, shift-is, Keeps, keeps}

-- ---- clear ranges

pub between-sym : (r q : Span) → IsBetween r q → IsBetween q r
between-sym r q h = ⊎_elim (λ x. inr x) (λ x. inl x) h

pub clear-first : (r : Span) (g : List Span) (f : List Span) → IsClear r g → AreClear g f → AreClear g (r ∷ f)
clear-first r [] f h k = tt
clear-first r (q ∷ qs) f h k = ((between-sym r q h.0, k.0), clear-first r qs f h.1 k.1)

pub clear-none : (g : List Span) → AreClear g []
clear-none [] = tt
clear-none (q ∷ qs) = (tt, clear-none qs)

pub clear-sym : (f g : List Span) → AreClear f g → AreClear g f
clear-sym [] g h = clear-none g
clear-sym (r ∷ rs) g h = clear-first r g rs h.0 (clear-sym rs g h.1)

-- a position within a range, or at one of its ends, is outside of the ranges from which this one is clear
pub clear-outside : (r : Span) (g : List Span) (p : ℕ) → IsClear r g → r.start ≤ p → p ≤ r.start + r.old_size → IsOutside g p
clear-outside r [] p h k l = tt
clear-outside r (q ∷ qs) p h k l = (
  ⊎_elim (λ (u : r.start + r.old_size < q.start). inl (omega (arith, u, l))) (λ (u : q.start + q.old_size < r.start). inr (omega (arith, u, k))) h.0,
  clear-outside r qs p h.1 k l,
)

-- all of the range goes by as much
pub record Rigid (r : Span) (g : List Span) (p : ℕ) : Type 0 where
  pub put : put_before g p ≡ put_before g r.start
  pub taken : taken_before g p ≡ taken_before g r.start

pub rigid : (r : Span) (g : List Span) (p : ℕ) → IsClear r g → r.start ≤ p → p ≤ r.start + r.old_size → Rigid r g p
rigid r [] p h k l = record { put = refl; taken = refl }
rigid r (q ∷ qs) p h k l =
    let x = rigid r qs p h.1 k l in
    ⊎_elim
    (λ (u : r.start + r.old_size < q.start).
    let a = le-ltb (q.start + q.old_size) p (omega (arith, u, l)) in
    let b = le-ltb (q.start + q.old_size) r.start (omega (arith, u)) in
    record { put = rw (a, b, x.put) refl; taken = rw (a, b, x.taken) refl })
    (λ (u : q.start + q.old_size < r.start).
    let a = lt-ltb (q.start + q.old_size) p (omega (arith, u, k)) in
    let b = lt-ltb (q.start + q.old_size) r.start u in
    record { put = rw (a, b, x.put) refl; taken = rw (a, b, x.taken) refl })
    h.0

pub past-shift : (rs : List Span) (p : ℕ) → past rs 0 0 p ≡ shift rs p
past-shift rs p = omega arith

-- order over a whole map
pub order : (f : List Span) (x y : ℕ) (b : Bool) → AreApart f 0 → IsOutside f y → Keeps (moved_from f 0 0 0 x b).pos (shift f y) x y
order f x y b h o = subst (λ z. Keeps (moved_from f 0 0 0 x b).pos z x y) (past-shift f y) (keeps f 0 0 0 0 x y b h (omega arith) (omega arith) (omega arith) o)

pub shift-moved : (f : List Span) (y : ℕ) (b : Bool) → AreApart f 0 → IsOutside f y → moved_from f 0 0 0 y b ≡ kept_at (shift f y)
shift-moved f y b h o = shift-is f 0 0 0 0 y b h (omega arith) (omega arith) o ∙ ap kept_at (past-shift f y)

-- ends of a range go by as much
pub shift-rigid : (r : Span) (g : List Span) (p : ℕ) → AreApart g 0 → IsClear r g → r.start ≤ p → p ≤ r.start + r.old_size
    → shift g p ≡ shift g r.start + (p - r.start)
shift-rigid r g p a h k l =
    let x = rigid r g p h k l in
    let t = taken-fits g 0 r.start a (omega arith) in
    omega (arith, x.put, x.taken, t, k)

-- ---- what is before a position is still before it

-- The map g carried over f has before the place of x what g has before x.
pub record Still (f g : List Span) (x y : ℕ) : Type 0 where
  pub put : put_before (shifted f g) y ≡ put_before g x
  pub taken : taken_before (shifted f g) y ≡ taken_before g x
  pub outside : IsOutside (shifted f g) y

pub still-before : (f g : List Span) (x : ℕ) (b : Bool) → AreApart f 0 → AreClear g f → IsOutside g x → Still f g x (moved_from f 0 0 0 x b).pos
still-before f [] x b a c o = record { put = refl; taken = refl; outside = tt }
still-before f (q ∷ qs) x b a c o =
    let i = still-before f qs x b a c.1 o.1 in
    let y = (moved_from f 0 0 0 x b).pos in
    let first = order f x q.start b a (clear-outside q f q.start c.0 (omega arith) (omega arith)) in
    let last = order f x (q.start + q.old_size) b a (clear-outside q f (q.start + q.old_size) c.0 (omega arith) (omega arith)) in
    let far : shift f (q.start + q.old_size) ≡ shift f q.start + q.old_size = (let z = shift-rigid q f (q.start + q.old_size) a c.0 (omega arith) (omega arith) in omega (arith, z)) in
    ⊎_elim
    (λ (u : x < q.start).
    let s = le-ltb (q.start + q.old_size) x (omega (arith, u)) in
    let k = first.below u in
    let t = le-ltb (shift f q.start + q.old_size) y (omega (arith, k)) in
    record { put = rw (s, t, i.put) refl; taken = rw (s, t, i.taken) refl; outside = (inl k, i.outside) })
    (λ (u : q.start + q.old_size < x).
    let s = lt-ltb (q.start + q.old_size) x u in
    let k = last.above u in
    let t = lt-ltb (shift f q.start + q.old_size) y (omega (arith, k, far)) in
    record { put = rw (s, t, i.put) refl; taken = rw (s, t, i.taken) refl; outside = (inr (omega (arith, k, far)), i.outside) })
    o.0

-- ---- over a map that another one carried

-- the same, with the position elsewhere
abbrev pub at : Moved → ℕ → Moved
at m p = record { pos = p; deleted = m.deleted; across = m.across; after = m.after; recover = m.recover }

-- A range r, whose place is s, and a position x with put and taken before it.
pub record Placed (r : Span) (s x put taken : ℕ) : Type 0 where
  pub before : x < r.start → (x + put) - taken < s
  pub within : r.start ≤ x → x ≤ r.start + r.old_size → s ≡ (r.start + put) - taken
  pub behind : r.start + r.old_size < x → s + r.old_size < (x + put) - taken
  pub fits : r.start ≤ x → x ≤ r.start + r.old_size → taken ≤ r.start

placed : (r : Span) (g : List Span) (x : ℕ) → AreApart g 0 → IsClear r g → IsOutside g x → Placed r (shift g r.start) x (put_before g x) (taken_before g x)
placed r g x a h o =
    let n = order g r.start x true a o in
    let m = order g (r.start + r.old_size) x true a o in
    let e = ap (λ z. z.pos) (shift-moved g r.start true a (clear-outside r g r.start h (omega arith) (omega arith))) in
    let d = ap (λ z. z.pos) (shift-moved g (r.start + r.old_size) true a (clear-outside r g (r.start + r.old_size) h (omega arith) (omega arith))) in
    let far = shift-rigid r g (r.start + r.old_size) a h (omega arith) (omega arith) in
    record {
      before = λ u. (let k = n.above u in omega (arith, k, e));
      within = λ u v. (let z = rigid r g x h u v in omega (arith, z.put, z.taken));
      behind = λ u. (let k = m.below u in omega (arith, k, d, far));
      fits = λ u v. (let z = rigid r g x h u v in let t = taken-fits g 0 r.start a (omega arith) in omega (arith, z.taken, t));
    }

tests-same : (a b c d : ℕ) → (a ≡ b → c ≡ d) → (c ≡ d → a ≡ b) → (a == b) ≡ (c == d)
tests-same a b c d f g = from (a == b) refl
  where
    from : (t : Bool) → (a == b) ≡ t → t ≡ (c == d)
    from true e = sym (eq-eqb c d (f (eqb-true a b e)))
    from false e = sym (ne_eqb c d (λ h. eqb-false a b e (g h)))

at_range-over : (r : Span) (i g l x s put taken : ℕ) (b : Bool) → r.start ≤ x → x ≤ r.start + r.old_size → s ≡ (r.start + put) - taken → taken ≤ r.start → l ≤ r.start → l ≤ s
    → at_range (record { start = s; old_size = r.old_size; new_size = r.new_size }) i ((s + g) - l) ((x + put) - taken) b
    ≡ at (at_range r i ((r.start + g) - l) x b) (((at_range r i ((r.start + g) - l) x b).pos + put) - taken)
at_range-over r i g l x s put taken b u v e k f h =
    let t₁ = tests-same ((x + put) - taken) s x r.start (λ z. omega (arith, z, e, u, k)) (λ z. omega (arith, z, e, u, k)) in
    let t₂ = tests-same ((x + put) - taken) (s + r.old_size) x (r.start + r.old_size) (λ z. omega (arith, z, e, u, k)) (λ z. omega (arith, z, e, u, k)) in
    let o : ((x + put) - taken) - s ≡ x - r.start = omega (arith, e, u, k) in
    rw (t₁, t₂, o) (ap (at (at_range r i ((r.start + g) - l) x b)) (place (goes_before r x b)))
  where
    place : (t : Bool) → (if t then (s + g) - l else ((s + g) - l) + r.new_size) ≡ ((if t then (r.start + g) - l else ((r.start + g) - l) + r.new_size) + put) - taken
    place true = omega (arith, e, k, f, h)
    place false = omega (arith, e, k, f, h)

-- each range of f stands by x as its place stands by the place of x
abbrev pub AllPlaced : List Span → List Span → ℕ → Type 0
AllPlaced [] g x = Unit {0}
AllPlaced (r ∷ rs) g x = Placed r (shift g r.start) x (put_before g x) (taken_before g x) × AllPlaced rs g x

all-placed : (f g : List Span) (x : ℕ) → AreApart g 0 → AreClear f g → IsOutside g x → AllPlaced f g x
all-placed [] g x a h o = tt
all-placed (r ∷ rs) g x a h o = (placed r g x a h.0 o, all-placed rs g x a h.1 o)

passes-from : (f g : List Span) (i gained lost from far x : ℕ) (b : Bool) → AreApart f from → AreApart (shifted g f) far → AllPlaced f g x
    → lost ≤ from → from ≤ x → lost ≤ far → far ≤ shift g x → taken_before g x ≤ x
    → moved_from (shifted g f) i gained lost (shift g x) b ≡ at (moved_from f i gained lost x b) (((moved_from f i gained lost x b).pos + put_before g x) - taken_before g x)
passes-from [] g i n l from far x b a c p k u q w t = ap kept_at (omega (arith, k, u, q, w, t))
passes-from (r ∷ rs) g i n l from far x b a c p k u q w t =
    let y = shift g x in
    let s : Span = record { start = shift g r.start; old_size = r.old_size; new_size = r.new_size } in
    ⊎_elim
    (λ (v : x < r.start). rw (decided-before r i n l x b v, decided-before s i n l y b (p.0.before v)) (ap kept_at (omega (arith, k, u, q, w, t))))
    (λ (v : r.start ≤ x). ⊎_elim
    (λ (z : r.start + r.old_size < x).
    let m = p.0.behind z in
    rw (decided-past r i n l x b z, decided-past s i n l y b m)
    (passes-from rs g (i + 1) (n + r.new_size) (l + r.old_size) (r.start + r.old_size + 1) (s.start + r.old_size + 1) x b a.1 c.1 p.1
    (omega (arith, a.0, k)) (omega (arith, z)) (omega (arith, c.0, q)) (omega (arith, m)) t))
    (λ (z : x ≤ r.start + r.old_size).
    let e = p.0.within v z in
    let d = p.0.fits v z in
    rw (decided-in r i n l x b v z, decided-in s i n l y b (omega (arith, e, d, v)) (omega (arith, e, d, v, z)))
    (at_range-over r i n l x s.start (put_before g x) (taken_before g x) b v z e d (omega (arith, a.0, k)) (omega (arith, c.0, q))))
    (cases_lt (r.start + r.old_size) x))
    (cases_lt x r.start)

-- ---- ranges that a map carried

apart-behind : (f g : List Span) (y : ℕ) → AreApart g 0 → AreClear f g → IsOutside g y → AreApart f (y + 1) → AreApart (shifted g f) (shift g y + 1)
apart-behind [] g y a h o c = tt
apart-behind (r ∷ rs) g y a h o c =
    let m = order g r.start y true a o in
    let e = ap (λ z. z.pos) (shift-moved g r.start true a (clear-outside r g r.start h.0 (omega arith) (omega arith))) in
    let k = m.above (omega (arith, c.0)) in
    let far = shift-rigid r g (r.start + r.old_size) a h.0 (omega arith) (omega arith) in
    let z : shift g (r.start + r.old_size) ≡ shift g r.start + r.old_size = omega (arith, far) in (
      omega (arith, k, e),
      subst (λ n. AreApart (shifted g rs) (n + 1)) z
          (apart-behind rs g (r.start + r.old_size) a h.1 (clear-outside r g (r.start + r.old_size) h.0 (omega arith) (omega arith)) c.1),
    )

-- ranges that don't touch don't touch where they are carried
pub apart-over : (f g : List Span) → AreApart g 0 → AreClear f g → AreApart f 0 → AreApart (shifted g f) 0
apart-over [] g a h c = tt
apart-over (r ∷ rs) g a h c =
    let far = shift-rigid r g (r.start + r.old_size) a h.0 (omega arith) (omega arith) in
    let z : shift g (r.start + r.old_size) ≡ shift g r.start + r.old_size = omega (arith, far) in (
      omega arith,
      subst (λ n. AreApart (shifted g rs) (n + 1)) z
          (apart-behind rs g (r.start + r.old_size) a h.1 (clear-outside r g (r.start + r.old_size) h.0 (omega arith) (omega arith)) c.1),
    )

-- Over g and then over f where g carries it, or over f and then over g where f carries it: the same place, with the flags and
-- the recover value that f gives.
pub passes : (f g : List Span) (x : ℕ) (b : Bool) → AreApart f 0 → AreApart g 0 → AreClear f g → IsOutside g x
    → moved_from (shifted g f) 0 0 0 (shift g x) b ≡ at (moved_from f 0 0 0 x b) (shift (shifted f g) (moved_from f 0 0 0 x b).pos)
passes f g x b a c h o =
    let s = still-before f g x b a (clear-sym f g h) o in
    passes-from f g 0 0 0 0 0 x b a (apart-over f g c h a) (all-placed f g x c h o) (omega arith) (omega arith) (omega arith) (omega arith)
    (let t = taken-fits g 0 x c (omega arith) in omega (arith, t))
    ∙ ap (at (moved_from f 0 0 0 x b)) (omega (arith, s.put, s.taken))

pub stays-outside : (f g : List Span) (x : ℕ) (b : Bool) → AreApart f 0 → AreClear f g → IsOutside g x → IsOutside (shifted f g) (moved_from f 0 0 0 x b).pos
stays-outside f g x b a h o = (still-before f g x b a (clear-sym f g h) o).outside
