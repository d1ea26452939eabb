use Rattle.pm_frames.proofs.route.RoutePositions.place.Goals as goal

pub place-requires : goal.place-requires
place-requires c = rw c.in-Maps.is at c.requires

pub place-requires-in-Composed : goal.place-requires-in-Composed
place-requires-in-Composed c = rw c.in-Composed.is at c.requires

pub returns-in-Maps : goal.returns-in-Maps
returns-in-Maps c = rw c.in-Maps.is c.place.ensures

pub returns-in-Composed : goal.returns-in-Composed
returns-in-Composed c = rw c.in-Composed.is c.place-in-Composed.ensures
