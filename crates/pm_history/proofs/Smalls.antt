-- How items are held.
use Rattle.std.specs.Prelude.{◌≡◌, ℕ, ◌+◌, ◌-◌, ◌<◌, nat_lt, if◌then◌else◌, List, [], ◌∷◌, Option, Some, None, refl}
use Rattle.std.proofs.Common.{◌∙◌, ap, arith}
use Rattle.std.proofs.lemmas.Bool.{lt-ltb}
use Rattle.pm_map.specs.declared.step_map.Moved.{Moved}
use Rattle.pm_map.specs.declared.step_map.Span.{Span}
use Rattle.pm_map.specs.declared.side.Side.{Side}
use Rattle.pm_map.specs.Moves.{is_before, kept_at, at_range, or_moved, moved_from, moved}
use Rattle.pm_map.specs.Through.{range_at}
use Rattle.pm_history.specs.declared.item.Item.{Item}
use Rattle.pm_history.specs.Forms.{StartsFrom}
use Rattle.pm_history.specs.Tied.{undoes_of}

-- a map that has no first range
pub no-range-at : (rs : List Span) → range_at rs 0 ≡ None → [] ≡ rs
no-range-at [] e = refl
no-range-at (r ∷ rs) e = absurd (cc)

-- a map that has a first range and no second one
pub one-range-at : (rs : List Span) (r : Span) → range_at rs 0 ≡ Some r → range_at rs 1 ≡ None → r ∷ [] ≡ rs
one-range-at [] r e f = absurd (cc)
one-range-at (s ∷ []) r e f = cc
one-range-at (s ∷ t ∷ ss) r e f = absurd (cc)

-- over no range a position stays
pub over-none : (p : ℕ) (side : Side) → moved [] p side ≡ kept_at p
over-none p side = ap kept_at (same p)
  where
    same : (p : ℕ) → (p + 0) - 0 ≡ p
    same p = omega arith

-- before the first range a position stays
pub before-still : (rs : List Span) (still p : ℕ) (side : Side) → StartsFrom still rs → p < still → moved rs p side ≡ kept_at p
before-still [] still p side h l = over-none p side
before-still (r ∷ rs) still p side h l =
    ap (λ t. or_moved (if◌then◌else◌ {A = Option Moved} t (Some (kept_at ((p + 0) - 0))) (if nat_lt (r.start + r.old_size) p then None else Some (at_range r 0 ((r.start + 0) - 0) p (is_before side))))
    (moved_from rs (0 + 1) (0 + r.new_size) (0 + r.old_size) p (is_before side))) (lt-ltb p r.start (omega (arith, h, l)))
    ∙ ap kept_at (same p)
  where
    same : (p : ℕ) → (p + 0) - 0 ≡ p
    same p = omega arith

-- a step without a name undoes none
pub none-undone : {C : Type 0} (is : List (Item C)) → undoes_of None is ≡ None
none-undone [] = refl
none-undone (i ∷ is) = none-undone is
