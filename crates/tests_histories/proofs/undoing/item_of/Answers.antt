use Rattle.std.proofs.Common.{length}
use Rattle.pm_sheet.specs.EditLaws.{laws}
use Rattle.tests_histories.proofs.undoing.item_of.Goals as goal

pub step_map-map-requires : goal.step_map-map-requires
step_map-map-requires c =
    (length c.args.doc.now, c.requires.good.1, laws.within c.args.rules.now c.args.line.edit c.args.doc.now c.requires.applies.0 c.requires.good c.requires.applies.1)
