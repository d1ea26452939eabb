use Rattle.std.proofs.Common.{◌≡◌, drop}
use Rattle.pm_tokens.specs.Marks.{are_allowed}
use Rattle.pm_schema.specs.Documents.{documents_of}
use Rattle.pm_node.proofs.rules.marks_are_allowed.Given as goal

abbrev pub invariant-loop-mark : goal.invariant-loop-mark
invariant-loop-mark l = are_allowed (documents_of l.schema.spec) l.parent l.mark-items ≡ are_allowed (documents_of l.schema.spec) l.parent (drop l.mark-index l.mark-items)
