use Rattle.std.proofs.Common.{◌≡◌, drop}
use Rattle.pm_tokens.specs.Marks.{have_attrs}
use Rattle.pm_schema.specs.Documents.{documents_of}
use Rattle.pm_replace.proofs.known.marks_have_attrs.Given as goal

abbrev pub invariant-loop-mark : goal.invariant-loop-mark
invariant-loop-mark l = have_attrs (documents_of l.schema.spec) l.mark-items ≡ have_attrs (documents_of l.schema.spec) (drop l.mark-index l.mark-items)
