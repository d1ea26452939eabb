use Rattle.pm_workers.proofs.Serving.{at-seat, serves-more, same-message}
use Rattle.pm_workers.proofs.host.DeskHostHost.present.Goals as goal

pub returns-in-Ok-clause-told : goal.returns-in-Ok-clause-told
returns-in-Ok-clause-told g c = (
  same-message g.C.Change.means c.args.self.now.desk.now c.args.self.now.seat.now c.args.client c.args.message.now c.in-Ok.answer c.call.new.seat c.in_ok-message.message
      c.in_ok-message.ensures c.in-Ok.ensures.ok,
  c.saturating_add-self.ensures,
)

pub returns-in-Ok-clause-answered : goal.returns-in-Ok-clause-answered
returns-in-Ok-clause-answered g c =
    let told = same-message g.C.Change.means c.args.self.now.desk.now c.args.self.now.seat.now c.args.client c.args.message.now c.in-Ok.answer c.call.new.seat c.in_ok-message.message
    c.in_ok-message.ensures c.in-Ok.ensures.ok in
    at-seat g.C.Change.means c.args.self.now.desk.now c.args.self.now.seat.now c.args.client c.args.message.now c.in-Ok.answer c.call.new.seat c.args.rules.now c.requires.served told

pub returns-in-Ok-clause-served : goal.returns-in-Ok-clause-served
returns-in-Ok-clause-served g c =
    let told = same-message g.C.Change.means c.args.self.now.desk.now c.args.self.now.seat.now c.args.client c.args.message.now c.in-Ok.answer c.call.new.seat c.in_ok-message.message
    c.in_ok-message.ensures c.in-Ok.ensures.ok in
    serves-more g.C.Change.means c.args.self.now.desk.now c.args.self.now.seat.now c.args.client c.args.message.now c.in-Ok.answer c.call.new.seat c.args.rules.now c.requires.served told
