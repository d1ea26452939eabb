-- Places of anchors over one map.
use Rattle.std.specs.Prelude.{◌<◌, ◌^◌, List, [], ◌∷◌}
use Rattle.pm_map.specs.declared.step_map.Span.{Span}
use Rattle.pm_map.specs.declared.step_map.Moved.{Moved}
use Rattle.pm_map.specs.Moves.{moved}
use Rattle.pm_map.specs.Through.{joined}
use Rattle.pm_client.specs.declared.cursors.Cursor.{Cursor}

-- the places, one for each anchor, after a map by the anchors' sides
abbrev pub led : List Span → List Cursor → List Moved → List Moved
led ranges [] ps = []
led ranges (a ∷ others) [] = []
led ranges (a ∷ others) (p ∷ ps) = joined p (moved ranges p.pos a.side) ∷ led ranges others ps

-- each of them is below 2^64 then
abbrev pub HaveRoom : List Span → List Cursor → List Moved → Type 0
HaveRoom ranges [] ps = Unit {0}
HaveRoom ranges (a ∷ others) [] = Unit {0}
HaveRoom ranges (a ∷ others) (p ∷ ps) = ((moved ranges p.pos a.side).pos < 2 ^ 64) × HaveRoom ranges others ps
