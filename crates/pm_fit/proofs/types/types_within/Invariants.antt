use Rattle.pm_schema.specs.Documents.{documents_of}
use Rattle.pm_fit.proofs.TypeLaws.{Seen}
use Rattle.pm_fit.proofs.types.types_within.Given as goal

abbrev pub invariant-loop-i : goal.invariant-loop-i
invariant-loop-i l = Seen (documents_of l.schema.spec).text l.children l.fn.pos l.i l.rest l.types
