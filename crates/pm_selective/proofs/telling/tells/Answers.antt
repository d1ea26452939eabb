use Rattle.pm_selective.proofs.Readings.{part-fits}
use Rattle.pm_selective.proofs.telling.tells.Goals as goal

pub apart_behind-requires : goal.apart_behind-requires
apart_behind-requires g c = part-fits c.args.items.now c.place_of-start.result c.requires
