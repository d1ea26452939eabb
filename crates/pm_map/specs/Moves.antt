-- Step maps: how a position moves over the ranges of one step.
use Rattle.std.specs.Prelude.{ℕ, ◌+◌, ◌-◌, ◌≤◌, ◌<◌, ◌^◌, Bool, true, false, ◌&&◌, ◌||◌, not, ◌==◌, if◌then◌else◌, List, [], ◌∷◌, Option, Some, None, nat_lt}
use Rattle.pm_map.specs.declared.side.Side.{Side}
use Rattle.pm_map.specs.declared.side.Side.TheVariants.{Before, After}
use Rattle.pm_map.specs.declared.step_map.Span.{Span}
use Rattle.pm_map.specs.declared.step_map.Moved.{Moved}

-- The side of a position, ProseMirror's `assoc`: `Before`, -1 there, keeps to what stands before it, and `After`, 1 there,
-- to what stands after it.
abbrev pub is_before : Side → Bool
is_before Before = true
is_before After = false

-- A position that no range holds goes here, and nothing around it is gone.
abbrev pub kept_at : ℕ → Moved
kept_at p = record { pos = p; deleted = false; across = false; after = false; recover = None }

-- Whether a position within or at a range goes to the range's new start; else it goes to its new end. Where the range takes
-- nothing out, its side says so. Else the start goes to the start, the end to the end, and what is inside by its side.
abbrev pub goes_before : Span → ℕ → Bool → Bool
goes_before r p before =
    if r.old_size == 0 then before else
    if p == r.start then true else
    if p == r.start + r.old_size then false else before

-- A position within or at range number i, which starts at `to` in the result. It went across where it was strictly inside.
-- It is deleted by `Before` unless it was the range's start, and by `After` unless it was the end. What stood after it is gone
-- where it was strictly inside, and at the start of a range that takes something out. A deleted one can be recovered by the
-- range's number and the position's offset in it.
abbrev pub at_range : Span → ℕ → ℕ → ℕ → Bool → Moved
at_range r i to p before =
    let at_start = p == r.start in
    let at_end = p == r.start + r.old_size in
    let inside = not at_start && not at_end in
    let gone = if before then not at_start else not at_end in
    record {
      pos = if goes_before r p before then to else to + r.new_size;
      deleted = gone;
      across = inside;
      after = inside || (at_start && not at_end);
      recover = if gone then Some (record { range = i; offset = p - r.start }) else None;
    }

-- Where range number i sends a position, when the ranges before it put in `gained` tokens and took out `lost`: a position
-- before the range shifts by their difference; None for a position after the range.
abbrev pub decided : Span → ℕ → ℕ → ℕ → ℕ → Bool → Option Moved
decided r i gained lost p before =
    if nat_lt p r.start then Some (kept_at ((p + gained) - lost)) else
    if nat_lt (r.start + r.old_size) p then None
    else Some (at_range r i ((r.start + gained) - lost) p before)

abbrev pub or_moved : Option Moved → Moved → Moved
or_moved None m = m
or_moved (Some m) _ = m

-- The first range that the position is not after decides. A position after them all shifts by all their differences.
abbrev pub moved_from : List Span → ℕ → ℕ → ℕ → ℕ → Bool → Moved
moved_from [] i gained lost p before = kept_at ((p + gained) - lost)
moved_from (r ∷ rs) i gained lost p before =
    or_moved (decided r i gained lost p before)
    (moved_from rs (i + 1) (gained + r.new_size) (lost + r.old_size) p before)

-- where a map with these ranges sends a position by its side
abbrev pub moved : List Span → ℕ → Side → Moved
moved rs p side = moved_from rs 0 0 0 p (is_before side)

-- A range of the map back: it stands where the range came to stand, with its old and new size exchanged.
abbrev pub inverted_range : Span → ℕ → ℕ → Span
inverted_range r gained lost = record { start = (r.start + gained) - lost; old_size = r.new_size; new_size = r.old_size }

abbrev pub inverted_from : List Span → ℕ → ℕ → List Span
inverted_from [] gained lost = []
inverted_from (r ∷ rs) gained lost =
    inverted_range r gained lost ∷ inverted_from rs (gained + r.new_size) (lost + r.old_size)

-- the map back
abbrev pub inverted_ranges : List Span → List Span
inverted_ranges rs = inverted_from rs 0 0

-- the list of two ranges, each of which may be absent
abbrev pub ranges_of : Option Span → Option Span → List Span
ranges_of None None = []
ranges_of None (Some s) = s ∷ []
ranges_of (Some r) None = r ∷ []
ranges_of (Some r) (Some s) = r ∷ s ∷ []

-- The ranges are in order from `from` on; they may touch, but not overlap. Each ends below 2^64 before the step, and in its
-- result.
abbrev pub AreInOrder : List Span → ℕ → ℕ → ℕ → Type 0
AreInOrder [] from gained lost = Unit {0}
AreInOrder (r ∷ rs) from gained lost =
    (from ≤ r.start) × (r.start + r.old_size < 2 ^ 64) × (((r.start + gained) - lost) + r.new_size < 2 ^ 64)
    × AreInOrder rs (r.start + r.old_size) (gained + r.new_size) (lost + r.old_size)
