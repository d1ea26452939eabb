-- The maps of steps, and how steps are carried over mappings.
use Rattle.std.specs.Prelude.{ℕ, ◌-◌, ◌≤◌, max, Bool, ◌&&◌, ◌||◌, if◌then◌else◌, nat_lt, nat_le, ◌==◌, List, [], ◌∷◌, Option, Some, None}
use Rattle.pm_map.specs.declared.side.Side.TheVariants.{Before, After}
use Rattle.pm_map.specs.declared.step_map.Span.{Span}
use Rattle.pm_map.specs.declared.step_map.Moved.{Moved}
use Rattle.pm_map.specs.declared.mapping.Mirrored.{Mirrored}
use Rattle.pm_map.specs.Through.{through}
use Rattle.pm_tokens.specs.Slices.{Slice, slice_size}
use Rattle.pm_meaning.specs.Steps.{Step, Replace, ReplaceAround, AddMark, RemoveMark, AddNodeMark, RemoveNodeMark, Attr, DocAttr}

-- a range from a position, with its old and its new size
abbrev pub span : ℕ → ℕ → ℕ → Span
span start old_size new_size = record { start = start; old_size = old_size; new_size = new_size }

-- the ranges that a step replaces: one, or one before the gap and one after it; a step that changes marks or attributes has
-- none
abbrev pub step_map : Step → List Span
step_map (Replace from to sl structure) = span from (to - from) (slice_size sl) ∷ []
step_map (ReplaceAround from to gap_from gap_to sl insert structure) =
    span from (gap_from - from) insert ∷ span gap_to (to - gap_to) (slice_size sl - insert) ∷ []
step_map _ = []

-- a position over a mapping by `After`, and by `Before`
abbrev pub ahead : List Mirrored → ℕ → Moved
ahead ms p = through ms p After

abbrev pub back : List Mirrored → ℕ → Moved
back ms p = through ms p Before

-- lost where both ends lie strictly inside of deleted ranges; `to` is raised to `from`
abbrev pub carry_replace : Moved → Moved → Slice → Bool → Option Step
carry_replace from to sl structure =
    if from.across && to.across then None else Some (Replace from.pos (max from.pos to.pos) sl structure)

-- lost where that is so, or where the gap sticks out at either end
abbrev pub carry_around : Moved → Moved → ℕ → ℕ → Slice → ℕ → Bool → Option Step
carry_around from to gap_from gap_to sl insert structure =
    if (from.across && to.across) || nat_lt gap_from from.pos || nat_lt to.pos gap_to then None
    else Some (ReplaceAround from.pos to.pos gap_from gap_to sl insert structure)

-- lost where both ends are deleted, or nothing is left between them
abbrev pub carry_range : (ℕ → ℕ → Step) → Moved → Moved → Option Step
carry_range make from to =
    if (from.deleted && to.deleted) || nat_le to.pos from.pos then None else Some (make from.pos to.pos)

-- lost where the token after the position is deleted
abbrev pub carry_node : (ℕ → Step) → Moved → Option Step
carry_node make p = if p.after then None else Some (make p.pos)

-- The step over a mapping, None where it is lost. Ends of a gap go with the ends of the step where they are the same
-- positions, and else outwards. The top node is always there.
abbrev pub carry : Step → List Mirrored → Option Step
carry (Replace from to sl structure) ms = carry_replace (ahead ms from) (back ms to) sl structure
carry (ReplaceAround from to gap_from gap_to sl insert structure) ms =
    carry_around (ahead ms from) (back ms to)
    (if gap_from == from then (ahead ms from).pos else (back ms gap_from).pos)
    (if gap_to == to then (back ms to).pos else (ahead ms gap_to).pos)
    sl insert structure
carry (AddMark from to mark) ms = carry_range (λ f t. AddMark f t mark) (ahead ms from) (back ms to)
carry (RemoveMark from to mark) ms = carry_range (λ f t. RemoveMark f t mark) (ahead ms from) (back ms to)
carry (AddNodeMark p mark) ms = carry_node (λ q. AddNodeMark q mark) (ahead ms p)
carry (RemoveNodeMark p mark) ms = carry_node (λ q. RemoveNodeMark q mark) (ahead ms p)
carry (Attr p name value) ms = carry_node (λ q. Attr q name value) (ahead ms p)
carry (DocAttr name value) ms = Some (DocAttr name value)

-- the positions are in order and do not pass the size, and what is inserted before the gap does not pass the slice
abbrev pub is_within : Step → ℕ → Type 0
is_within (Replace from to sl structure) n = (from ≤ to) × (to ≤ n)
is_within (ReplaceAround from to gap_from gap_to sl insert structure) n =
    (from ≤ gap_from) × (gap_from ≤ gap_to) × (gap_to ≤ to) × (to ≤ n) × (insert ≤ slice_size sl)
is_within (AddMark from to mark) n = (from ≤ to) × (to ≤ n)
is_within (RemoveMark from to mark) n = (from ≤ to) × (to ≤ n)
is_within (AddNodeMark p mark) n = p ≤ n
is_within (RemoveNodeMark p mark) n = p ≤ n
is_within (Attr p name value) n = p ≤ n
is_within (DocAttr name value) n = Unit {0}
