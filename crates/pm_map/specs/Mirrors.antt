-- Mirrors, and mappings that grow.
use Rattle.std.specs.Prelude.{◌==◌, ◌&&◌, ℕ, zero, suc, ◌<◌, Bool, true, false, List, [], ◌∷◌, ◌++◌, length, Option, Some, None}
use Rattle.pm_map.specs.declared.step_map.Span.{Span}
use Rattle.pm_map.specs.declared.mapping.Mirrored.{Mirrored}
use Rattle.pm_map.specs.Through.{SameShape}

-- A later map can be the mirror of an earlier one: that has a range, and their shapes agree.
abbrev pub AreMirrors : List Span → List Span → Type 0
AreMirrors earlier later = (0 < length earlier) × SameShape earlier later

-- the same as a test, first of the shapes alone
abbrev pub has_shape : List Span → List Span → Bool
has_shape [] [] = true
has_shape (r ∷ rs) (s ∷ ss) = (s.new_size == r.old_size) && has_shape rs ss
has_shape _ _ = false

abbrev pub may_mirror : List Span → List Span → Bool
may_mirror [] ss = false
may_mirror (r ∷ rs) ss = has_shape (r ∷ rs) ss

-- A map without ranges stands unpaired.
abbrev pub gap_for : List Span → ℕ → Option ℕ
gap_for [] gap = None
gap_for (r ∷ rs) gap = Some gap

abbrev pub entry : List Span → Option ℕ → Mirrored
entry ranges later = record { map = ranges; later = later }

-- a mapping with one unpaired map more after it
abbrev pub pushed : List Mirrored → List Span → List Mirrored
pushed ms map = ms ++ entry map None ∷ []

-- the mirror of map number i, counted from 0
abbrev pub later_of : List Mirrored → ℕ → Option ℕ
later_of [] i = None
later_of (e ∷ es) zero = e.later
later_of (e ∷ es) (suc i) = later_of es i

-- Map number i has its mirror right after the last map.
abbrev pub awaiting : List Mirrored → ℕ → List Mirrored
awaiting [] i = []
awaiting (e ∷ es) zero = entry e.map (gap_for e.map (length es)) ∷ es
awaiting (e ∷ es) (suc i) = e ∷ awaiting es i

-- a mapping with one map more after it, which is the mirror of map number i
abbrev pub paired_with : List Mirrored → List Span → ℕ → List Mirrored
paired_with ms map i = pushed (awaiting ms i) map

-- a mapping with one unpaired map more at the front
abbrev pub fronted : List Mirrored → List Span → List Mirrored
fronted ms front = entry front None ∷ ms

-- a mapping with a map at the front and its mirror after
abbrev pub enclosed : List Mirrored → List Span → List Span → List Mirrored
enclosed ms front behind = entry front (gap_for front (length ms)) ∷ (ms ++ entry behind None ∷ [])
