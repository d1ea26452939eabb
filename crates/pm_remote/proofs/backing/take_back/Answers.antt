use Rattle.pm_change.proofs.Folds.{fold-good}
use Rattle.pm_authority.specs.Runs.{changes_of}
use Rattle.pm_remote.proofs.backing.take_back.Goals as goal

pub apply_changes-requires : goal.apply_changes-requires
apply_changes-requires g c =
    fold-good g.C.Change.means c.args.rules.now g.met.C.Change.laws c.args.before.now c.args.doc.now (changes_of c.args.steps.now) c.requires.good c.requires.leads
