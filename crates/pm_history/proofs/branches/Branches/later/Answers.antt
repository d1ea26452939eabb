use Rattle.pm_history.proofs.Events.{later-at}
use Rattle.pm_history.proofs.branches.Branches.later.Goals as goal

pub returns-in_ok-mapping_behind-in-Some : goal.returns-in_ok-mapping_behind-in-Some
returns-in_ok-mapping_behind-in-Some g c =
    later-at c.args.name c.args.self.now.items c.items-items.result.now c.place_of.result c.in-Some.k c.in_ok-mapping_behind-in-Some.field-0 c.place_of.ensures.found c.in-Some.is
    c.in-Some.ensures.within c.in_ok-mapping_behind-in-Some.ensures c.items-items.ensures
