-- Cursors over maps.
use Rattle.std.specs.Prelude.{ℕ, ◌≤◌, List, map}
use Rattle.std.specs.List.{AllByRecursion as Each}
use Rattle.pm_map.specs.declared.side.Side.{Side}
use Rattle.pm_map.specs.declared.mapping.Mirrored.{Mirrored}
use Rattle.pm_map.specs.Through.{through}
use Rattle.pm_client.specs.declared.cursors.Cursor.{Cursor}

-- the cursor at this position, with this side
abbrev pub cursor : ℕ → Side → Cursor
cursor p side = record { pos = p; side = side }

-- the cursor goes through all maps by its side, which it keeps
abbrev pub moved_cursor : List Mirrored → Cursor → Cursor
moved_cursor ms c = cursor (through ms c.pos c.side).pos c.side

abbrev pub moved_over : List Mirrored → List Cursor → List Cursor
moved_over ms cs = map (moved_cursor ms) cs

-- a cursor of a document of this size
abbrev pub IsWithin : ℕ → Cursor → Type 0
IsWithin size c = c.pos ≤ size

abbrev pub AreWithin : ℕ → List Cursor → Type 0
AreWithin size cs = Each (IsWithin size) cs

-- the same with the cursors first
abbrev pub AreIn : List Cursor → ℕ → Type 0
AreIn cs size = AreWithin size cs
