use Rattle.std.proofs.Common.{◌≡◌, IfOk, sym, subst}
use Rattle.pm_attrs.specs.Attrs.{same_attrs}
use Rattle.pm_marks.specs.Sets.{added}
use Rattle.pm_schema.specs.Documents.{documents_of}
use Rattle.pm_apply.specs.Markings.{changed}
use Rattle.pm_apply.proofs.marking.change.Goals as goal

pub returns-in-Add : goal.returns-in-Add
unfolding documents_of
returns-in-Add c =
    subst (λ z. IfOk c.add.result (λ s. s ≡ changed (documents_of c.args.schema.now.spec) z c.args.set.now)) (sym c.in-Add.is)
    (subst (λ z. IfOk c.add.result (λ s. s ≡ added same_attrs z c.args.set.now c.in-Add.mark)) c.rules.ensures c.add.ensures.added)
