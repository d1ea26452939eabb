use Rattle.pm_editor.proofs.Clients.{doc-valid}
use Rattle.pm_editor.proofs.editor.Editor.tried.Goals as goal

pub apply_all-requires : goal.apply_all-requires
apply_all-requires c = rw c.doc.ensures (doc-valid c.args.self.now c.requires.good)
