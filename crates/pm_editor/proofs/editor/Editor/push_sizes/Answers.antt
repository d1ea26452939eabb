use Rattle.std.specs.Prelude.{codes, decimal, ◌++◌, length}
use Rattle.std.proofs.Common.{sym, string_bytes}
use Rattle.pm_editor.proofs.Joinings.{two-joined}
use Rattle.pm_editor.proofs.editor.Editor.push_sizes.Goals as goal

pub returns : goal.returns
returns c =
    rw (sym c.version-version.ensures, sym c.history.ensures, sym c.undo_events.ensures, sym c.doc.ensures, sym c.size-size.ensures)
    (two-joined (string_bytes c.args.text.now) (string_bytes c.write.new.self) (string_bytes c.write-2.new.self)
    (codes ",\"size\":") (decimal c.size-size.result) (codes ",\"undo\":") (decimal (length c.undo_events.result.now))
    (codes ",\"version\":" ++ (decimal c.version-version.result ++ codes "}\n")) c.in_ok-write.ensures.bytes c.in_ok-write-2.ensures.bytes)
