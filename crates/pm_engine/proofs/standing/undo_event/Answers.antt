use Rattle.std.proofs.Common.{rules}
use Rattle.std.proofs.lemmas.Result.{on_ok_weaker, IfOk-weaker}
use Rattle.pm_engine.proofs.Names.{undo-event-name}
use Rattle.pm_engine.proofs.standing.undo_event.Goals as goal

pub undo_event-requires : goal.undo_event-requires
undo_event-requires g c =
    let a = c.args.authority.now in
    record { first = a.first; log = a.log; short = search rules; kin = c.requires }

pub returns-clause-name : goal.returns-clause-name
returns-clause-name g c =
    undo-event-name g.C.Change.means c.args.rules.now c.args.client.now c.undo_event.new.self c.args.number c.undo_event.result c.undo_event.ensures.undone c.undo_event.ensures.err

pub returns-clause-restores : goal.returns-clause-restores
returns-clause-restores g c = on_ok_weaker c.undo_event.result (λ all. all c.args.authority.now.first c.args.authority.now.log) c.undo_event.ensures.restores

pub returns-clause-whole : goal.returns-clause-whole
returns-clause-whole g c = IfOk-weaker c.undo_event.result _ _ (λ n all. all c.args.authority.now.first c.args.authority.now.log) c.undo_event.ensures.whole

pub returns-clause-tokens : goal.returns-clause-tokens
returns-clause-tokens g c = on_ok_weaker c.undo_event.result (λ all. all c.args.authority.now.first c.args.authority.now.log c.requires) c.undo_event.ensures.tokens
