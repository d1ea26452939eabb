use Rattle.std.proofs.Common.{◌≡◌, ◌+◌, ◌++◌, drop, string_bytes}
use Rattle.pm_archive.specs.Lines.{submit_lines}
use Rattle.pm_archive.proofs.archive.Archive.push_submit_lines.Given as goal

abbrev pub invariant-loop-i : goal.invariant-loop-i
invariant-loop-i l =
    string_bytes l.text ++ submit_lines l.self.schema.spec l.self.name l.self.ids (l.self.from + l.i) (drop l.i l.self.log)
    ≡ string_bytes l.fn.text ++ submit_lines l.self.schema.spec l.self.name l.self.ids l.self.from l.self.log
