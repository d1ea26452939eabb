use Rattle.std.proofs.Common.{◌∙◌, sym, subst}
use Rattle.pm_history.specs.declared.branches.MadeBy.TheVariants.{Edit}
use Rattle.pm_history.specs.Histories.{noted_all}
use Rattle.pm_history.specs.Trims.{IsTrimmed}
use Rattle.pm_history.proofs.Settled.{as_trimmed, edit_settled}
use Rattle.pm_history.proofs.branches.Branches.edit_settled.Goals as goal

pub settle-requires : goal.settle-requires
settle-requires g c =
    subst IsTrimmed (sym c.in_ok-put_all.ensures.ok) (edit_settled c.args.self.now c.args.event c.args.first c.args.items c.requires.trimmed c.requires.redo c.requires.own)

pub returns-clause-ok : goal.returns-clause-ok
returns-clause-ok g c =
    c.settle.ensures ∙ c.in_ok-put_all.ensures.ok
    ∙ as_trimmed (noted_all c.args.self.now c.args.items (Edit c.args.event c.args.first)) (edit_settled c.args.self.now c.args.event c.args.first c.args.items c.requires.trimmed c.requires.redo c.requires.own)
