use Rattle.std.proofs.Common.{rules, ◌+◌, ◌-◌, ◌∙◌, ap, sym, length}
use Rattle.pm_client.specs.declared.taken.MessageKind.TheVariants.{Ask}
use Rattle.pm_session.specs.Events.{state_of}
use Rattle.pm_session.specs.Sessions.{exchanged, in_turn}
use Rattle.pm_session.proofs.Lefts.{left-err, exchange-at}
use Rattle.pm_session.proofs.Turns.{turn-more, turn-last}
use Rattle.pm_session.proofs.room.Room.pull_all.Goals as goal

pub loop-member-preserved : goal.loop-member-preserved
loop-member-preserved g c =
    let m = g.C.Change.means in
    let k = c.loop-member.member in
    let n = length c.args.self.now.members.items in
    let does = exchanged m c.args.rules.now Ask in
    record {
      members = c.exchange.ensures.members ∙ c.loop-member.invariant.members;
      turns = ap (in_turn does (k + 1) (n - (k + 1))) (ap (λ p. p.1) c.in_ok-_outcome.ensures.exchanges) ∙ sym (turn-more does k n (state_of c.loop-member.self) (search rules)) ∙ c.loop-member.invariant.turns;
      front = (ap (λ p. p.1) c.in_ok-_outcome.ensures.exchanges) ∙ ap (does k) c.loop-member.invariant.front ∙ sym (turn-last does k (state_of c.args.self.now));
      sound = c.exchange.ensures.sound;
    }

pub returns-in_err-_outcome-clause-left : goal.returns-in_err-_outcome-clause-left
returns-in_err-_outcome-clause-left g c =
    let m = g.C.Change.means in
    let rules_now = c.args.rules.now in
    let k = c.loop-member.member in
    left-err c.from_residual.result (record {
      i = k;
      left = exchange-at m rules_now Ask k (state_of c.loop-member.self) (in_turn (exchanged m rules_now Ask) 0 k (state_of c.args.self.now)) (state_of c.exchange.new.self)
          c.loop-member.invariant.front c.in_err-_outcome.ensures.left;
    })
