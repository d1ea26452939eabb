use Rattle.std.proofs.Common.{◌≡◌, ◌++◌, length, string_bytes, true}
use Rattle.pm_doctext.specs.Texts.{content_text}
use Rattle.pm_doctext.proofs.documents.push_parts.Given as goal

abbrev pub invariant-loop-part : goal.invariant-loop-part
invariant-loop-part l = string_bytes l.text ++ content_text l.schema.spec l.first l.parts ≡ string_bytes l.fn.text ++ content_text l.schema.spec true l.fn.parts

abbrev pub decreases-loop-part : goal.decreases-loop-part
decreases-loop-part l = length l.parts
