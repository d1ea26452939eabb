use Rattle.std.specs.Prelude.{Ok}
use Rattle.std.proofs.Common.{ap, sym, ◌∙◌}
use Rattle.pm_schema.specs.Documents.{documents_of}
use Rattle.pm_replace.proofs.OutcomeAnswers.{stays-checked}
use Rattle.pm_replace.proofs.checking.checked_change.Goals as goal

pub returns : goal.returns
returns c =
    let change = c.args.change in
    stays-checked (documents_of c.args.schema.now.spec) c.args.top.now c.args.before.now c.args.content change.from change.to change.new_to
    c.requires.valid c.requires.changed (c.stays_valid_around-stays.ensures c.if-not-stays.false) c.requires.size
    ∙ ap Ok (sym c.in_ok-next.ensures)
