use Rattle.pm_authority.specs.declared.message.Answer.TheVariants.{Accepted, Entries}
use Rattle.pm_client.proofs.Handed.{reaches-along}
use Rattle.pm_client.proofs.Plannings.{meets-along}
use Rattle.pm_client.proofs.client.Client.plan_for.Goals as goal

pub plan_accepted-requires : goal.plan_accepted-requires
plan_accepted-requires g c =
    meets-along g.C.Change.means c.args.rules.now c.args.self.now c.args.answer.now (Accepted c.in-Accepted.from c.in-Accepted.count) c.in-Accepted.is c.requires.meets

pub plan_entries-requires-clause-meets : goal.plan_entries-requires-clause-meets
plan_entries-requires-clause-meets g c =
    rw c.as_slice.ensures
    (meets-along g.C.Change.means c.args.rules.now c.args.self.now c.args.answer.now (Entries c.in-Entries.since c.in-Entries.entries) c.in-Entries.is c.requires.meets)

pub plan_entries-requires-clause-reaches : goal.plan_entries-requires-clause-reaches
plan_entries-requires-clause-reaches g c =
    rw c.as_slice.ensures
    (reaches-along g.C.Change.means c.args.rules.now c.args.self.now c.args.answer.now (Entries c.in-Entries.since c.in-Entries.entries) c.args.end c.in-Entries.is c.requires.reaches)
