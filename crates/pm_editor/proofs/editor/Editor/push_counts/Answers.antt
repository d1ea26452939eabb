use Rattle.std.proofs.Common.{sym}
use Rattle.pm_editor.proofs.editor.Editor.push_counts.Goals as goal

pub returns : goal.returns
returns c = rw (sym c.pending.ensures, sym c.history.ensures, sym c.redo_events.ensures) c.in_ok-write.ensures.bytes
