use Rattle.pm_client.proofs.Advances.{accepted-may}
use Rattle.pm_client.proofs.client.Client.plan_accepted.Goals as goal

pub plan_confirm-requires : goal.plan_confirm-requires
plan_confirm-requires g c =
    accepted-may g.C.Change.means c.args.rules.now g.met.C.Change.laws c.args.self.now c.args.from c.args.count c.requires c.if-count-self.false
