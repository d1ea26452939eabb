use Rattle.pm_head.specs.declared.form.Form.TheVariants.{Plain}
use Rattle.pm_script.proofs.SessionLaws.{reads-hold}
use Rattle.pm_script.proofs.session.read_session.Goals as goal

pub returns-clause-holds : goal.returns-clause-holds
returns-clause-holds c = reads-hold Plain c.args.input.now c.read_in.result c.read_in.ensures
