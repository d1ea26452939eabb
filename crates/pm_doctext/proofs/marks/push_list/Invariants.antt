use Rattle.std.proofs.Common.{◌≡◌, ◌++◌, drop, string_bytes, false}
use Rattle.pm_doctext.specs.Texts.{mark_text}
use Rattle.pm_doctext.proofs.marks.push_list.Given as goal

abbrev pub invariant-loop-mark : goal.invariant-loop-mark
invariant-loop-mark l = string_bytes l.text ++ mark_text l.schema.spec l.later (drop l.mark-index l.marks) ≡ string_bytes l.fn.text ++ mark_text l.schema.spec false l.marks
