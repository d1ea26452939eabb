use Rattle.pm_history.proofs.EventProofs.{moves-events}
use Rattle.pm_history.proofs.laws.moves_events.Goals as goal

pub returns : goal.returns
returns g c items = moves-events c.args.history.now items
