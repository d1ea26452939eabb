use Rattle.pm_schema.specs.Documents.{documents_of}
use Rattle.pm_apply.proofs.marking.Reach.acts.Goals as goal

pub returns-then-sort : goal.returns-then-sort
unfolding documents_of
returns-then-sort c = rw (c.in-Inline-Add.is-0, c.in-Inline-Add.is-1, c.if-sort.true) c.allows.ensures
