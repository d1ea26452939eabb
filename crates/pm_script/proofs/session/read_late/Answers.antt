use Rattle.pm_head.specs.declared.form.Form.TheVariants.{Late}
use Rattle.pm_script.proofs.SessionLaws.{reads-hold}
use Rattle.pm_script.proofs.session.read_late.Goals as goal

pub returns-clause-holds : goal.returns-clause-holds
returns-clause-holds c = reads-hold Late c.args.input.now c.read_in.result c.read_in.ensures
