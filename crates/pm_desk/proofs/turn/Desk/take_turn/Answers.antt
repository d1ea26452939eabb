use Rattle.std.proofs.Common.{◌∷◌, rules, ap, ◌∙◌, subst}
use Rattle.pm_desk.specs.Turns.{Seized}
use Rattle.pm_desk.proofs.Moves.{tries}
use Rattle.pm_desk.proofs.turn.Desk.take_turn.Goals as goal

pub compare_exchange-requires : goal.compare_exchange-requires
compare_exchange-requires g c =
    (search rules, search rules, tries _ _ _ _ _ _ c.loop.token.me (search rules) (ap (λ m. m.0.desk) c.loop.invariant.2 ∙ c.requires.rest.0))

pub returns-then-compare_exchange-eq0-clause-value : goal.returns-then-compare_exchange-eq0-clause-value
returns-then-compare_exchange-eq0-clause-value g c =
    let n = c.compare_exchange.new.seat.me in
    let seized = subst (λ m. Seized g.M.Machine.next g.M.Machine.good m n) c.loop.invariant.2 (c.compare_exchange.ensures.2.1 c.if-compare_exchange-eq0.true) in
    let t = seized c.args.self.now.table.shared.key.value c.requires.rest.0 in
    (t.0.history.items, t.1, (t.0, t.2 ∙ ap (λ l. (0, t.0) ∷ l) c.requires.rest.1, t.3))
