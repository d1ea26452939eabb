use Rattle.pm_frames.proofs.route.RouteGrowing.enclose.Goals as goal

pub returns-in-Maps : goal.returns-in-Maps
returns-in-Maps c = rw c.in-Maps.is c.enclose.ensures

pub returns-in-Composed : goal.returns-in-Composed
returns-in-Composed c = rw c.in-Composed.is c.enclose-in-Composed.ensures
