use Rattle.pm_history.proofs.EventProofs.{rebased-events}
use Rattle.pm_history.proofs.laws.rebased_events.Goals as goal

pub returns : goal.returns
returns g c = λ front gone kept foreign s. rebased-events c.args.history.now front gone kept foreign s
