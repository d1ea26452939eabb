use Rattle.pm_editor.proofs.Clients.{doc-small}
use Rattle.pm_editor.proofs.editor.Editor.set_cursor.Goals as goal

pub set_cursor-requires : goal.set_cursor-requires
set_cursor-requires c = doc-small c.args.self.now c.requires
