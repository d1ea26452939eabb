-- Maps of small numbers have room.
use Rattle.std.specs.Prelude.{◌≡◌, ℕ, ◌+◌, ◌-◌, ◌≤◌, ◌<◌, ◌^◌, Bool, true, false, if◌then◌else◌, nat_lt, List, [], ◌∷◌, length, Some, None, refl}
use Rattle.std.proofs.Common.{arith}
use Rattle.std.proofs.lemmas.Bool.{ltb-false}
use Rattle.pm_map.specs.declared.step_map.Span.{Span}
use Rattle.pm_map.specs.declared.step_map.Moved.{Moved}
use Rattle.pm_map.specs.Moves.{moved_from, or_moved, at_range, goes_before, kept_at}
use Rattle.pm_map.specs.Fits.{FitsFrom, FitsSizes}
use Rattle.pm_map.proofs.Rooms.{start-fits, zero-sums}
use Rattle.pm_frames.specs.Courses.{AreSmall}

abbrev put : List Span → ℕ
put [] = 0
put (r ∷ rs) = r.new_size + put rs

choice : (b : Bool) (x y k : ℕ) → x ≤ k → y ≤ k → (if b then x else y) ≤ k
choice true x y k f g = f
choice false x y k f g = g

by_tests : (kept at later : Moved) (k : ℕ) (before past : Bool) → kept.pos ≤ k → (before ≡ false → at.pos ≤ k) → later.pos ≤ k
    → (or_moved (if before then Some kept else if past then None else Some at) later).pos ≤ k
by_tests kept at later k true past f g h = f
by_tests kept at later k false true f g h = h
by_tests kept at later k false false f g h = g refl

rises : (rs : List Span) (i g l p : ℕ) (b : Bool) → (moved_from rs i g l p b).pos ≤ (p + g) + put rs
rises [] i g l p b = omega arith
rises (r ∷ rs) i g l p b =
    by_tests (kept_at ((p + g) - l)) (at_range r i ((r.start + g) - l) p b) _ _ (nat_lt p r.start) (nat_lt (r.start + r.old_size) p)
    (omega arith)
    (λ e. let h = ltb-false p r.start e in choice (goes_before r p b) _ _ _ (omega (arith, h)) (omega (arith, h)))
    (omega (arith, rises rs (i + 1) (g + r.new_size) (l + r.old_size) p b))

put-small : (rs : List Span) → AreSmall rs → length rs ≤ 2 → put rs ≤ 2 ^ 33
put-small [] s h = omega arith
put-small (r ∷ []) s h = omega (arith, s.1)
put-small (r ∷ t ∷ []) s h = omega (arith, s.1, s.2.1)
put-small (r ∷ t ∷ u ∷ rs) s h = absurd (omega (arith, h))

pub small-room : (rs : List Span) (p : ℕ) (b : Bool) → AreSmall rs → length rs ≤ 2 → p ≤ 2 ^ 32 → (moved_from rs 0 0 0 p b).pos < 2 ^ 64
small-room rs p b s h l = omega (arith, rises rs 0 0 0 p b, put-small rs s h, l)

-- a map that fits small sizes is small
far-enough : (rs : List Span) (from bound before after : ℕ) → FitsFrom rs from bound before after → from ≤ bound
far-enough [] from bound before after h = h.0
far-enough (r ∷ rs) from bound before after h =
    omega (arith, h.0, far-enough rs (r.start + r.old_size) bound (before + r.new_size) (after + r.old_size) h.1)

small-from : (rs : List Span) (gained lost from n k : ℕ) → FitsFrom rs from n (n + gained) (k + lost) → lost ≤ from → n < 2 ^ 32 → k < 2 ^ 32 → AreSmall rs
small-from [] gained lost from n k h l u v = tt
small-from (r ∷ rs) gained lost from n k h l u v = (
  omega (arith, far-enough rs (r.start + r.old_size) n ((n + gained) + r.new_size) ((k + lost) + r.old_size) h.1, u),
  omega (arith, start-fits (r ∷ rs) 0 gained lost from n k r.new_size h l (omega arith) (omega arith), v),
  small-from rs (gained + r.new_size) (lost + r.old_size) (r.start + r.old_size) n k (rw (sums n gained r.new_size, sums k lost r.old_size) h.1) (omega (arith, l, h.0)) u v,
)
  where
    sums : (x y z : ℕ) → x + (y + z) ≡ (x + y) + z
    sums x y z = omega arith

pub sizes-small : (rs : List Span) (n k : ℕ) → FitsSizes rs n k → n < 2 ^ 32 → k < 2 ^ 32 → AreSmall rs
sizes-small rs n k h u v = small-from rs 0 0 0 n k (zero-sums rs n k h) (omega arith) u v
