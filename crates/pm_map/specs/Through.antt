-- Mappings: how a position moves over several maps, some of which are mirrors of earlier ones.
use Rattle.std.specs.Prelude.{◌≡◌, ℕ, zero, suc, ◌+◌, ◌-◌, ◌≤◌, ◌<◌, ◌^◌, Bool, ◌||◌, List, [], ◌∷◌, length, Option, Some, None}
use Rattle.pm_map.specs.declared.side.Side.{Side}
use Rattle.pm_map.specs.declared.step_map.Span.{Span}
use Rattle.pm_map.specs.declared.step_map.Moved.{Moved}
use Rattle.pm_map.specs.declared.step_map.Recover.{Recover}
use Rattle.pm_map.specs.declared.mapping.Mirrored.{Mirrored}
use Rattle.pm_map.specs.Moves.{moved_from, is_before, kept_at}

-- where range number r starts in the result
abbrev pub start_from : List Span → ℕ → ℕ → ℕ → ℕ
start_from [] r gained lost = 0
start_from (s ∷ ss) zero gained lost = (s.start + gained) - lost
start_from (s ∷ ss) (suc r) gained lost = start_from ss r (gained + s.new_size) (lost + s.old_size)

abbrev pub result_start : List Span → ℕ → ℕ
result_start ss r = start_from ss r 0 0

-- the old and the new size of range number r
abbrev pub old_at : List Span → ℕ → ℕ
old_at [] r = 0
old_at (s ∷ ss) zero = s.old_size
old_at (s ∷ ss) (suc r) = old_at ss r

abbrev pub new_at : List Span → ℕ → ℕ
new_at [] r = 0
new_at (s ∷ ss) zero = s.new_size
new_at (s ∷ ss) (suc r) = new_at ss r

-- range number r
abbrev pub range_at : List Span → ℕ → Option Span
range_at [] r = None
range_at (s ∷ ss) zero = Some s
range_at (s ∷ ss) (suc r) = range_at ss r

-- a place within the old size of one of these ranges
abbrev pub IsIn : List Span → Recover → Type 0
IsIn ranges r = (r.range < length ranges) × (r.offset ≤ old_at ranges r.range)

-- A map in a mapping says how many maps stand between it and its mirror, if it has one. So pairs stay as they are when maps
-- are added or dropped at either end. These are the ranges of the mirror, with `gap` maps before it.
abbrev pub partner : List Mirrored → ℕ → List Span
partner [] gap = []
partner (e ∷ es) zero = e.map
partner (e ∷ es) (suc gap) = partner es gap

-- A map without a jump: the position moves, and what it did is added to what the maps before it did.
abbrev pub joined : Moved → Moved → Moved
joined so m = record {
  pos = m.pos;
  deleted = so.deleted || m.deleted;
  across = so.across || m.across;
  after = so.after || m.after;
  recover = None;
}

-- A jump: the position is another one, and nothing is added.
abbrev pub at_pos : Moved → ℕ → Moved
at_pos so p = record { pos = p; deleted = so.deleted; across = so.across; after = so.after; recover = None }

-- After a jump the mapping goes on after the mirror.
abbrev pub skipped : Option ℕ → Option Recover → ℕ
skipped (Some gap) (Some r) = suc gap
skipped _ _ = 0

-- After a map that moved the position to m, with the maps es after it. Where the position can be recovered and the map has
-- a mirror, it jumps to the same offset in the same range of the mirror's result.
abbrev pub stepped : Moved → Moved → Option ℕ → Option Recover → List Mirrored → Moved
stepped so m (Some gap) (Some r) es = at_pos so (result_start (partner es gap) r.range + r.offset)
stepped so m _ _ es = joined so m

-- Over the maps in order, but not over the first `skip`: a jump passed them.
abbrev pub through_from : List Mirrored → ℕ → Bool → Moved → Moved
through_from [] skip before so = so
through_from (e ∷ es) (suc skip) before so = through_from es skip before so
through_from (e ∷ es) zero before so =
    let m = moved_from e.map 0 0 0 so.pos before in
    through_from es (skipped e.later m.recover) before (stepped so m e.later m.recover es)

-- where a mapping sends a position by its side
abbrev pub through : List Mirrored → ℕ → Side → Moved
through es p side = through_from es 0 (is_before side) (kept_at p)

-- Each map on the way leads to a position below 2^64.
abbrev pub HasRoom : List Mirrored → ℕ → Bool → Moved → Type 0
HasRoom [] skip before so = Unit {0}
HasRoom (e ∷ es) (suc skip) before so = HasRoom es skip before so
HasRoom (e ∷ es) zero before so =
    let m = moved_from e.map 0 0 0 so.pos before in
    (m.pos < 2 ^ 64) × HasRoom es (skipped e.later m.recover) before (stepped so m e.later m.recover es)

-- As many ranges here as there, and the new size of each in the later map is its old size in the earlier one.
abbrev pub SameShape : List Span → List Span → Type 0
SameShape [] [] = Unit {0}
SameShape [] (s ∷ ss) = ⊥
SameShape (r ∷ rs) [] = ⊥
SameShape (r ∷ rs) (s ∷ ss) = (s.new_size ≡ r.old_size) × SameShape rs ss

-- Where a map has a mirror, that stands among the maps after it, both have a range, and their shapes agree.
abbrev pub IsPairedAt : List Span → Option ℕ → List Mirrored → Type 0
IsPairedAt ranges None es = Unit {0}
IsPairedAt ranges (Some gap) es = (gap < length es) × (0 < length ranges) × SameShape ranges (partner es gap)

-- the same of each map of a mapping
abbrev pub ArePaired : List Mirrored → Type 0
ArePaired [] = Unit {0}
ArePaired (e ∷ es) = IsPairedAt e.map e.later es × ArePaired es
