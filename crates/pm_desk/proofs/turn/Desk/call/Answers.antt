use Rattle.std.proofs.Common.{rules}
use Rattle.pm_desk.proofs.Calls.{holds, may_go, leaves}
use Rattle.pm_desk.proofs.turn.Desk.call.Goals as goal

pub answer-told-requires-clause-value : goal.answer-told-requires-clause-value
answer-told-requires-clause-value g c =
    holds g.M.Machine.next g.M.Machine.reply g.M.Machine.good g.M.Machine.own c.args.self.now.table.shared.key.value c.args.seat.now.token.me.0 c.take_turn.new.token.me c.take_turn.ensures.value

pub store-requires : goal.store-requires
store-requires g c =
    let told = c.answer-told.ensures in (
      search rules,
      search rules,
      may_go g.M.Machine.next g.M.Machine.reply g.M.Machine.good g.M.Machine.own c.args.self.now.table.shared.key.value _ _ c.args.seat.now.token.me c.take_turn.new.token.me c.answer-told.new.token.me c.args.seat.now.number
          c.args.request c.answer-told.result (search rules) c.requires.seat.1 c.args.seat.now.numbered.0 c.requires.own c.take_turn.ensures.value told.same.2 told.ok told.err,
    )

pub returns-clause-ok : goal.returns-clause-ok
returns-clause-ok g c =
    let told = c.answer-told.ensures in
    let seat = c.args.seat.now in
    leaves g.M.Machine.next g.M.Machine.reply g.M.Machine.good g.M.Machine.own c.args.self.now.table.shared.key.value seat.token.me c.take_turn.new.token.me c.answer-told.new.token.me c.store.new.seat.me seat.number c.args.request
    c.answer-told.result c.requires.seat.1 seat.numbered.0 c.take_turn.ensures.value told.same.2 told.ok c.store.ensures.2
