use Rattle.pm_apply.specs.Changes.{meaning}
use Rattle.pm_apply.specs.Laws.{laws}
use Rattle.pm_client.proofs.Keeps.{doc-good}
use Rattle.pm_editor.proofs.Clients.{stands-on}
use Rattle.pm_editor.proofs.editing.edit_client.Goals as goal

pub edit_to-requires-clause-good : goal.edit_to-requires-clause-good
edit_to-requires-clause-good c = let s = c.requires.stands in doc-good meaning c.args.schema.now s.first s.log c.args.client.now s.kin laws

pub edit_to-requires-clause-cursors : goal.edit_to-requires-clause-cursors
edit_to-requires-clause-cursors c = c.requires.stands.kin.cursors

pub edit-requires-clause-good : goal.edit-requires-clause-good
edit-requires-clause-good c = let s = c.requires.stands in doc-good meaning c.args.schema.now s.first s.log c.args.client.now s.kin laws

pub edit-requires-clause-cursors : goal.edit-requires-clause-cursors
edit-requires-clause-cursors c = c.requires.stands.kin.cursors

pub returns-in-Some-clause-stands : goal.returns-in-Some-clause-stands
returns-in-Some-clause-stands c = stands-on c.args.schema.now c.args.client.now c.edit_to.new.self c.requires.stands c.edit_to.ensures.kin

pub returns-in-None-clause-stands : goal.returns-in-None-clause-stands
returns-in-None-clause-stands c = stands-on c.args.schema.now c.args.client.now c.edit.new.self c.requires.stands c.edit.ensures.kin
