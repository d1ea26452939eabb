use Rattle.std.proofs.Common.{subst}
use Rattle.pm_change.specs.Failing.{Answers}
use Rattle.pm_meaning.specs.Outcomes.{checked}
use Rattle.pm_schema.specs.Documents.{documents_of}
use Rattle.pm_replace.proofs.checking.checked_content.Goals as goal

pub returns : goal.returns
returns c = subst (λ d. Answers (checked (documents_of c.args.schema.now.spec) d) c.checked.result) c.in_ok-next.ensures c.checked.ensures
