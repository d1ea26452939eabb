use Rattle.pm_editor.proofs.Clients.{doc-valid}
use Rattle.pm_editor.proofs.Editings.{gives-some}
use Rattle.pm_editor.proofs.editor.Editor.made.Goals as goal

pub steps-requires : goal.steps-requires
steps-requires c = rw c.doc.ensures (doc-valid c.args.self.now c.requires)

pub returns-clause-some : goal.returns-clause-some
returns-clause-some c = gives-some c.args.self.now.schema c.doc.result.now c.args.op.now c.steps.result c.steps.ensures.steps
