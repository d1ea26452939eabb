-- The rule of a step map in words: which range decides, and how far the other positions shift.
use Rattle.std.specs.Prelude.{◌≡◌, ℕ, zero, suc, ◌+◌, ◌-◌, ◌≤◌, if◌then◌else◌, nat_lt, List, [], ◌∷◌}
use Rattle.pm_map.specs.declared.side.Side.{Side}
use Rattle.pm_map.specs.declared.step_map.Span.{Span}
use Rattle.pm_map.specs.Moves.{moved, at_range, kept_at, is_before}
use Rattle.pm_map.specs.Through.{result_start}
use Rattle.pm_map.specs.Stills.{IsOutside}

-- The position stands within the range or at one of its ends.
abbrev pub Holds : Span → ℕ → Type 0
Holds r p = (r.start ≤ p) × (p ≤ r.start + r.old_size)

-- Range number i, counted from 0, is r and holds the position, and no range before it does.
abbrev pub FirstHolds : List Span → ℕ → Span → ℕ → Type 0
FirstHolds [] i r p = ⊥
FirstHolds (s ∷ ss) zero r p = (s ≡ r) × Holds r p
FirstHolds (s ∷ ss) (suc i) r p = (Holds s p → ⊥) × FirstHolds ss i r p

-- how much the ranges before the position put in, and how much they take out
abbrev pub put_before : List Span → ℕ → ℕ
put_before [] p = 0
put_before (r ∷ rs) p = (if nat_lt (r.start + r.old_size) p then r.new_size else 0) + put_before rs p

abbrev pub taken_before : List Span → ℕ → ℕ
taken_before [] p = 0
taken_before (r ∷ rs) p = (if nat_lt (r.start + r.old_size) p then r.old_size else 0) + taken_before rs p

-- The first range that holds the position within or at its ends decides, by its start in the result. A position that none
-- holds shifts by the differences of the ranges before it, without a flag.
abbrev pub FirstDecides : List Span → Type 0
FirstDecides rs = (p : ℕ) (side : Side)
    → ((i : ℕ) (r : Span) → FirstHolds rs i r p → moved rs p side ≡ at_range r i (result_start rs i) p (is_before side))
    × (IsOutside rs p → moved rs p side ≡ kept_at ((p + put_before rs p) - taken_before rs p))
