use Rattle.pm_frames.proofs.route.RouteGrowing.put_front.Goals as goal

pub returns-in-Maps : goal.returns-in-Maps
returns-in-Maps c = rw c.in-Maps.is c.put_front.ensures

pub returns-in-Composed : goal.returns-in-Composed
returns-in-Composed c = rw c.in-Composed.is c.put_front-in-Composed.ensures
