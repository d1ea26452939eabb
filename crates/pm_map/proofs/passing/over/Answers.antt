use Rattle.pm_map.proofs.Recovers.{partner-fits}
use Rattle.pm_map.proofs.passing.over.Goals as goal

pub place_after-requires-clause-range_in : goal.place_after-requires-clause-range_in
place_after-requires-clause-range_in c =
    (partner-fits _ _ _ _ _ _ c.requires.paired c.in-Some-Some.is-0 c.in-Some-Some.is-1 c.map-m.ensures.back).0

pub place_after-requires-clause-offset_in : goal.place_after-requires-clause-offset_in
place_after-requires-clause-offset_in c =
    (partner-fits _ _ _ _ _ _ c.requires.paired c.in-Some-Some.is-0 c.in-Some-Some.is-1 c.map-m.ensures.back).1
