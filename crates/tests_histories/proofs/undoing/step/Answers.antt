use Rattle.std.proofs.Common.{sym, subst}
use Rattle.pm_history.proofs.Keeps.{shows-more, shows-end}
use Rattle.pm_history.specs.Shows.{ShowsTo}
use Rattle.pm_sheet.specs.Edits.{meaning}
use Rattle.pm_sheet.specs.EditLaws.{laws}
use Rattle.tests_histories.proofs.undoing.step.Goals as goal

pub apply-requires : goal.apply-requires
apply-requires c = shows-end meaning c.args.rules.now laws c.args.played.items c.args.played.doc c.requires

pub item_of-requires-clause-good : goal.item_of-requires-clause-good
item_of-requires-clause-good c = shows-end meaning c.args.rules.now laws c.args.played.items c.args.played.doc c.requires

pub returns : goal.returns
returns c =
    subst (λ is. ShowsTo meaning c.args.rules.now is c.in-Ok.next) (sym c.in_ok-push.ensures.ok)
    (shows-more meaning c.args.rules.now c.args.played.items c.args.played.doc c.in-Ok.next c.args.line.edit c.in_ok-item.item c.requires c.in-Ok.ensures c.in_ok-item.ensures.map c.in_ok-item.ensures.inverse)
