use Rattle.pm_history.proofs.EventProofs.{edits-events}
use Rattle.pm_history.proofs.laws.edits_events.Goals as goal

pub returns : goal.returns
returns g c = edits-events c.args.history.now
