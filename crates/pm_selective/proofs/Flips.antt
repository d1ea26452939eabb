-- The way back over a map that lies apart from another.
use Rattle.std.specs.Prelude.{◌≡◌, ℕ, ◌+◌, ◌-◌, ◌≤◌, ◌<◌, Bool, true, List, [], ◌∷◌, refl}
use Rattle.std.proofs.Common.{arith, ap, sym, subst, ◌∙◌, ⊎_elim, inl, inr}
use Rattle.std.proofs.lemmas.Bool.{cases_lt, lt-ltb}
use Rattle.pm_map.specs.declared.step_map.Span.{Span}
use Rattle.pm_map.specs.Moves.{moved_from, inverted_from, inverted_ranges}
use Rattle.pm_map.specs.Stills.{IsOutside, AreApart}
use Rattle.pm_map.proofs.Backs.{goes-back, decided-before, decided-past, decided-in, at-start-pos}
use Rattle.pm_selective.specs.Shifts.{IsClear, AreClear, shift, shifted}
use Rattle.pm_selective.proofs.Shifts.{none-before, taken-fits, past, past-range}
use Rattle.pm_selective.proofs.Corners.{still-before, clear-sym, clear-outside, shift-moved, past-shift, apart-over}

-- ---- the map back

back-apart-from : (f : List Span) (from g l : ℕ) → AreApart f from → l ≤ from → AreApart (inverted_from f g l) ((from + g) - l)
back-apart-from [] from g l a k = tt
back-apart-from (r ∷ rs) from g l a k =
    let e : (r.start + r.old_size + 1 + (g + r.new_size)) - (l + r.old_size) ≡ ((r.start + g) - l) + r.new_size + 1 = omega (arith, a.0, k) in (
      omega (arith, a.0),
      subst (AreApart (inverted_from rs (g + r.new_size) (l + r.old_size))) e
          (back-apart-from rs (r.start + r.old_size + 1) (g + r.new_size) (l + r.old_size) a.1 (omega (arith, a.0, k))),
    )

-- the ranges of the map back don't touch
pub back-apart : (f : List Span) → AreApart f 0 → AreApart (inverted_ranges f) 0
back-apart f a = let e : (0 + 0) - 0 ≡ 0 = omega arith in subst (AreApart (inverted_ranges f)) e (back-apart-from f 0 0 0 a (omega arith))

twice-from : (f : List Span) (from g l : ℕ) → AreApart f from → l ≤ from → inverted_from (inverted_from f g l) l g ≡ f
twice-from [] from g l a k = refl
twice-from (r ∷ rs) from g l a k =
    let e : ((r.start + g) - l + l) - g ≡ r.start = omega (arith, a.0, k) in
    rw (e, twice-from rs (r.start + r.old_size + 1) (g + r.new_size) (l + r.old_size) a.1 (omega (arith, a.0, k))) refl

pub twice : (f : List Span) → AreApart f 0 → inverted_ranges (inverted_ranges f) ≡ f
twice f a = twice-from f 0 0 0 a (omega arith)

-- ---- a position outside comes back

-- a range q, clear of f, is carried over f to a place that is clear of f's ranges in the result
clear-back-from : (q : Span) (f : List Span) (j from g l : ℕ) → AreApart f from → l ≤ from → from ≤ q.start → IsClear q f
    → IsClear (record { start = past f g l q.start; old_size = q.old_size; new_size = q.new_size }) (inverted_from f g l)
clear-back-from q [] j from g l a k u c = tt
clear-back-from q (r ∷ rs) j from g l a k u c = ⊎_elim
    (λ (v : q.start + q.old_size < r.start).
    let x = none-before (r ∷ rs) r.start q.start (omega arith, a.1) (omega (arith, v)) in
    before q (r ∷ rs) r.start g l (past (r ∷ rs) g l q.start) (omega arith, a.1) (omega (arith, a.0)) (omega (arith, x.put, x.taken, v, u)))
    (λ (v : r.start + r.old_size < q.start).
    let t = lt-ltb (r.start + r.old_size) q.start v in
    let p = past-range r rs j from g l q.start a k u v (clear-outside q rs q.start c.1 (omega arith) (omega arith)) in
    let e : past (r ∷ rs) g l q.start ≡ past rs (g + r.new_size) (l + r.old_size) q.start = rw t (omega arith) in (
      inr p,
      subst (λ n. IsClear (record { start = n; old_size = q.old_size; new_size = q.new_size }) (inverted_from rs (g + r.new_size) (l + r.old_size))) (sym e)
          (clear-back-from q rs (j + 1) (r.start + r.old_size + 1) (g + r.new_size) (l + r.old_size) a.1 (omega (arith, a.0)) (omega (arith, v)) c.1),
    ))
    c.0
  where
    before : (q : Span) (f : List Span) (from g l s : ℕ) → AreApart f from → l ≤ from → s + q.old_size < (from + g) - l
        → IsClear (record { start = s; old_size = q.old_size; new_size = q.new_size }) (inverted_from f g l)
    before q [] from g l s a k v = tt
    before q (r ∷ rs) from g l s a k v =
        (inl (omega (arith, a.0, v)), before q rs (r.start + r.old_size + 1) (g + r.new_size) (l + r.old_size) s a.1 (omega (arith, a.0)) (omega (arith, a.0, v)))

pub clear-back-all : (f h : List Span) → AreApart f 0 → AreClear h f → AreClear (shifted f h) (inverted_ranges f)
clear-back-all f [] a c = tt
clear-back-all f (q ∷ qs) a c = (
  subst (λ n. IsClear (record { start = n; old_size = q.old_size; new_size = q.new_size }) (inverted_ranges f)) (past-shift f q.start) (clear-back-from q f 0 0 0 0 a (omega arith) (omega arith) c.0),
  clear-back-all f qs a c.1,
)

-- the map back lies apart from what the map carries
pub flip-clear : (f g : List Span) → AreApart f 0 → AreClear f g → AreClear (inverted_ranges f) (shifted f g)
flip-clear f g a c = clear-sym (shifted f g) (inverted_ranges f) (clear-back-all f g a (clear-sym f g c))

-- a position outside goes over a map and comes back
pub comes-back : (f : List Span) (x : ℕ) → AreApart f 0 → IsOutside f x → IsOutside (inverted_ranges f) (shift f x) → shift (inverted_ranges f) (shift f x) ≡ x
comes-back f x a o q =
    let m = shift-moved f x true a o in
    let b = goes-back f 0 0 0 0 x true a (omega arith) (omega arith) in
    let i = b.goes (ap (λ z. z.recover) m) in
    let n = shift-moved (inverted_ranges f) (shift f x) true (back-apart f a) q in
    sym (ap (λ z. z.pos) n) ∙ (ap (λ p. (moved_from (inverted_ranges f) 0 0 0 p true).pos) (sym (ap (λ z. z.pos) m)) ∙ i.pos)

pub span-same : (r : Span) (s : ℕ) → s ≡ r.start → record { start = s; old_size = r.old_size; new_size = r.new_size } ≡ r
span-same r s e = rw e refl

flip-ranges : (f g : List Span) → AreApart f 0 → AreClear g f → AreClear (shifted f g) (inverted_ranges f) → shifted (inverted_ranges f) (shifted f g) ≡ g
flip-ranges f [] a c k = refl
flip-ranges f (q ∷ qs) a c k =
    let e = comes-back f q.start a (clear-outside q f q.start c.0 (omega arith) (omega arith))
    (clear-outside (record { start = shift f q.start; old_size = q.old_size; new_size = q.new_size }) (inverted_ranges f) (shift f q.start) k.0 (omega arith) (omega arith)) in
    rw (e, flip-ranges f qs a c.1 k.1) refl

-- what a map carries, the map back carries to where it was
pub flip-other : (f g : List Span) → AreApart f 0 → AreClear f g → shifted (inverted_ranges f) (shifted f g) ≡ g
flip-other f g a c = let d = clear-sym f g c in flip-ranges f g a d (clear-back-all f g a d)

-- ---- the map back of a map that was carried

-- f goes on from here as its ranges from r on do
abbrev Suffix : List Span → List Span → ℕ → ℕ → ℕ → Type 0
Suffix f rs from n l = (i x : ℕ) → from ≤ x → (moved_from f 0 0 0 x true).pos ≡ (moved_from rs i n l x true).pos

index-free : (rs : List Span) (i j n l x : ℕ) (b : Bool) → (moved_from rs i n l x b).pos ≡ (moved_from rs j n l x b).pos
index-free [] i j n l x b = refl
index-free (r ∷ rs) i j n l x b = ⊎_elim
    (λ (v : x < r.start). rw (decided-before r i n l x b v, decided-before r j n l x b v) refl)
    (λ (v : r.start ≤ x). ⊎_elim
    (λ (z : r.start + r.old_size < x). rw (decided-past r i n l x b z, decided-past r j n l x b z) (index-free rs (i + 1) (j + 1) (n + r.new_size) (l + r.old_size) x b))
    (λ (z : x ≤ r.start + r.old_size). rw (decided-in r i n l x b v z, decided-in r j n l x b v z) refl)
    (cases_lt (r.start + r.old_size) x))
    (cases_lt x r.start)

-- where a range of f starts in the result, carried over what f carries
start-over : (f g : List Span) (s x n l : ℕ) → AreApart f 0 → AreApart g 0 → AreClear f g → IsOutside g x → (moved_from f 0 0 0 x true).pos ≡ (x + n) - l → l ≤ x → l ≤ shift g x
    → shift (shifted f g) ((x + n) - l) ≡ (shift g x + n) - l
start-over f g s x n l a c h o e k q =
    let t = still-before f g x true a (clear-sym f g h) o in
    let w = taken-fits g 0 x c (omega arith) in
    subst (λ y. shift (shifted f g) y ≡ (shift g x + n) - l) e (omega (arith, t.put, t.taken, e, w, k, q))

next-suffix : (f rs : List Span) (r : Span) (from n l : ℕ) → Suffix f (r ∷ rs) from n l → from ≤ r.start → Suffix f rs (r.start + r.old_size + 1) (n + r.new_size) (l + r.old_size)
next-suffix f rs r from n l h k i x u =
    h i x (omega (arith, u, k))
    ∙ ap (λ z. z.pos) (decided-past-all r rs i n l x true (omega (arith, u)))
    ∙ index-free rs (i + 1) i (n + r.new_size) (l + r.old_size) x true
  where
    decided-past-all : (r : Span) (rs : List Span) (i n l x : ℕ) (b : Bool) → r.start + r.old_size < x → moved_from (r ∷ rs) i n l x b ≡ moved_from rs (i + 1) (n + r.new_size) (l + r.old_size) x b
    decided-past-all r rs i n l x b z = rw (decided-past r i n l x b z) refl

first-start : (r : Span) (rs : List Span) (i n l : ℕ) → (moved_from (r ∷ rs) i n l r.start true).pos ≡ (r.start + n) - l
first-start r rs i n l = rw (decided-in r i n l r.start true (omega arith) (omega arith)) (at-start-pos r i ((r.start + n) - l))

flip-back-from : (f g rs : List Span) (from far n l : ℕ) → AreApart f 0 → AreApart g 0 → AreClear f g → AreClear rs g → AreApart rs from → AreApart (shifted g rs) far → l ≤ from → l ≤ far
    → Suffix f rs from n l → shifted (shifted f g) (inverted_from rs n l) ≡ inverted_from (shifted g rs) n l
flip-back-from f g [] from far n l a c h k p q u v s = refl
flip-back-from f g (r ∷ rs) from far n l a c h k p q u v s =
    let o = clear-outside r g r.start k.0 (omega arith) (omega arith) in
    let m = s 0 r.start p.0 ∙ first-start r rs 0 n l in
    let e = start-over f g 0 r.start n l a c h o m (omega (arith, p.0, u)) (omega (arith, q.0, v)) in
    let i = flip-back-from f g rs (r.start + r.old_size + 1) (shift g r.start + r.old_size + 1) (n + r.new_size) (l + r.old_size) a c h k.1 p.1 q.1 (omega (arith, p.0, u)) (omega (arith, q.0, v))
    (next-suffix f rs r from n l s p.0) in
    rw (e, i) refl

-- the map back, carried over what the map carries, is the map back of the carried map
pub flip-back : (f g : List Span) → AreApart f 0 → AreApart g 0 → AreClear f g → shifted (shifted f g) (inverted_ranges f) ≡ inverted_ranges (shifted g f)
flip-back f g a c h =
    flip-back-from f g f 0 0 0 0 a c h h a (apart-over f g c h a) (omega arith) (omega arith) (λ i x u. index-free f 0 i 0 0 x true)
