-- Ranges from 0 on of which no two touch are unpinched, and the other way.
use Rattle.std.specs.Prelude.{◌↔◌}
use Rattle.std.proofs.Common.{ℕ, ◌+◌, ◌<◌, ◌≤◌, List, [], ◌∷◌, arith}
use Rattle.pm_map.specs.declared.step_map.Span.{Span}
use Rattle.pm_map.specs.Stills.{AreApart}
use Rattle.pm_client.specs.TokenNames.{Unpinched}

to : (rs : List Span) (from : ℕ) → AreApart rs from → Unpinched rs
to [] from h = tt
to (r ∷ []) from h = tt
to (r ∷ s ∷ rs) from h = ((let lt : r.start + r.old_size < s.start = omega (arith, h.1.0) in lt), to (s ∷ rs) (r.start + r.old_size + 1) h.1)

back : (r : Span) (rs : List Span) (from : ℕ) → from ≤ r.start → Unpinched (r ∷ rs) → AreApart (r ∷ rs) from
back r [] from h u = (h, tt)
back r (s ∷ rs) from h u = (h, back s rs (r.start + r.old_size + 1) (let le : r.start + r.old_size + 1 ≤ s.start = omega (arith, u.0) in le) u.1)

from-start : (rs : List Span) → Unpinched rs → AreApart rs 0
from-start [] u = tt
from-start (r ∷ rs) u = back r rs 0 (omega arith) u

pub apart-unpinched : (rs : List Span) → AreApart rs 0 ↔ Unpinched rs
apart-unpinched rs = (to rs 0, from-start rs)
