use Rattle.std.proofs.Common.{rules, inl, inr, ◌+◌, ◌-◌, ◌∙◌, ap, sym, length}
use Rattle.pm_client.specs.declared.taken.MessageKind.TheVariants.{Submit, Ask}
use Rattle.pm_session.specs.Events.{state_of}
use Rattle.pm_session.specs.Sessions.{exchanged, brought_up, in_turn}
use Rattle.pm_session.proofs.Lefts.{left-err, exchange-at}
use Rattle.pm_session.proofs.Turns.{turn-more, turn-last}
use Rattle.pm_session.proofs.room.Room.bring_up_all.Goals as goal

pub loop-member-preserved : goal.loop-member-preserved
loop-member-preserved g c =
    let m = g.C.Change.means in
    let k = c.loop-member.member in
    let n = length c.args.self.now.members.items in
    let does = brought_up m c.args.rules.now in
    let is = (ap (λ p. p.1) c.in_ok-_outcome-2.ensures.exchanges) ∙ ap (exchanged m c.args.rules.now Submit k) (ap (λ p. p.1) c.in_ok-_outcome.ensures.exchanges) in
    record {
      members = c.exchange-in-loop-member.ensures.members ∙ c.exchange.ensures.members ∙ c.loop-member.invariant.members;
      turns = ap (in_turn does (k + 1) (n - (k + 1))) is ∙ sym (turn-more does k n (state_of c.loop-member.self) (search rules)) ∙ c.loop-member.invariant.turns;
      front = is ∙ ap (does k) c.loop-member.invariant.front ∙ sym (turn-last does k (state_of c.args.self.now));
      sound = c.exchange-in-loop-member.ensures.sound;
    }

pub returns-in_err-_outcome-clause-left : goal.returns-in_err-_outcome-clause-left
returns-in_err-_outcome-clause-left g c =
    let m = g.C.Change.means in
    let rules_now = c.args.rules.now in
    let k = c.loop-member.member in
    left-err c.from_residual.result (record {
      i = k;
      left = inl (exchange-at m rules_now Ask k (state_of c.loop-member.self) (in_turn (brought_up m rules_now) 0 k (state_of c.args.self.now)) (state_of c.exchange.new.self)
          c.loop-member.invariant.front c.in_err-_outcome.ensures.left);
    })

pub returns-in_err-_outcome-2-clause-left : goal.returns-in_err-_outcome-2-clause-left
returns-in_err-_outcome-2-clause-left g c =
    let m = g.C.Change.means in
    let rules_now = c.args.rules.now in
    let k = c.loop-member.member in
    left-err c.from_residual-in_err-_outcome-2.result (record {
      i = k;
      left = inr (exchange-at m rules_now Submit k (state_of c.exchange.new.self) (exchanged m rules_now Ask k (in_turn (brought_up m rules_now) 0 k (state_of c.args.self.now)))
          (state_of c.exchange-in-loop-member.new.self) ((ap (λ p. p.1) c.in_ok-_outcome.ensures.exchanges) ∙ ap (exchanged m rules_now Ask k) c.loop-member.invariant.front) c.in_err-_outcome-2.ensures.left);
    })
