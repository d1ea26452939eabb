use Rattle.pm_authority.specs.Runs.{changes_of}
use Rattle.pm_revert.proofs.Aparts.{told-same}
use Rattle.pm_revert.proofs.Leavings.{leaves-later}
use Rattle.pm_revert.proofs.reverting.revert.Goals as goal

pub lie_apart-requires : goal.lie_apart-requires
lie_apart-requires c = record { schema = c.args.schema.now; before = c.args.before.now; doc = c.args.doc.now; ends = c.requires }

pub returns-clause-told : goal.returns-clause-told
returns-clause-told c = told-same c.in_ok-apart.apart (changes_of c.args.entries.now) (changes_of c.args.later.now) c.in_ok-apart.ensures

pub returns-clause-leaves : goal.returns-clause-leaves
returns-clause-leaves c = λ is.
    let h = c.requires in
    leaves-later c.args.schema.now c.args.entries.now c.args.later.now c.args.before.now h.mid c.args.doc.now h.good h.apply h.later_apply (c.in_ok-apart.ensures.0 is) c.in-Ok.taken c.in-Ok.ensures.taken
