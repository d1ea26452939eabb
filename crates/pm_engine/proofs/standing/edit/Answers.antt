use Rattle.std.specs.Prelude.{None}
use Rattle.std.proofs.lemmas.Result.{on_ok_weaker}
use Rattle.pm_client.proofs.Keeps.{doc-good}
use Rattle.pm_engine.proofs.Names.{edit-name}
use Rattle.pm_engine.proofs.standing.edit.Goals as goal

pub edit-requires-clause-good : goal.edit-requires-clause-good
edit-requires-clause-good g c =
    let a = c.args.authority.now in
    doc-good g.C.Change.means c.args.rules.now a.first a.log c.args.client.now c.requires.stands g.met.C.Change.laws

pub edit-requires-clause-cursors : goal.edit-requires-clause-cursors
edit-requires-clause-cursors g c = c.requires.stands.cursors

pub returns-clause-name : goal.returns-clause-name
returns-clause-name g c =
    edit-name g.C.Change.means c.args.rules.now c.args.client.now c.edit.new.self c.args.steps.items None c.edit.result c.edit.ensures.made c.edit.ensures.err

pub returns-clause-tokens : goal.returns-clause-tokens
returns-clause-tokens g c = on_ok_weaker c.edit.result (λ all. all c.args.authority.now.first c.args.authority.now.log c.requires.stands) c.edit.ensures.tokens
