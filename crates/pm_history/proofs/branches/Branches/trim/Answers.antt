use Rattle.std.proofs.Common.{sym, subst}
use Rattle.pm_history.specs.Trims.{IsTrimmed}
use Rattle.pm_history.proofs.Settled.{trimmed_settled}
use Rattle.pm_history.proofs.branches.Branches.trim.Goals as goal

pub settle-requires : goal.settle-requires
settle-requires g c = subst IsTrimmed (sym c.trim_items.ensures) (trimmed_settled c.args.self.now)
