use Rattle.std.proofs.Common.{rules, sym, ap, ◌∙◌, subst, ◌≡◌, []}
use Rattle.pm_desk.specs.Histories.{calls_of}
use Rattle.pm_desk.specs.Turns.{split_off}
use Rattle.pm_desk.proofs.Looks.{looks, no_call}
use Rattle.pm_desk.proofs.Seats.{splits}
use Rattle.pm_desk.proofs.turn.Desk.split.Goals as goal

pub load-requires : goal.load-requires
load-requires g c =
    let seat = c.requires.seat in
    (seat.0, search rules, looks _ _ _ _ _ _ c.args.seat.now.token.me seat.1.0)

pub split_seat-token-requires : goal.split_seat-token-requires
split_seat-token-requires g c =
    let seat = c.requires.seat in
    let same = c.load.ensures.2.0 in
    (search rules, search rules, splits _ _ _ _ _ c.load.new.seat.me.0 (ap (λ m. m.0.desk) same ∙ seat.1.0) (ap (λ m. m.0.number) same ∙ (sym c.args.seat.now.numbered.0 ∙ c.requires.first)))

pub returns-clause-none : goal.returns-clause-none
returns-clause-none g c =
    let v = c.args.seat.now.token.me.0 in
    let about = c.args.self.now.table.shared.key.value in
    let view = ap (λ m. m.0) c.split_seat-token.ensures.4 ∙ ap (λ m. split_off m.0) c.load.ensures.2.0 in
    subst (λ u. calls_of u.number u.seen ≡ []) (sym view)
    (no_call g.M.Machine.next g.M.Machine.good g.M.Machine.own about v (sym c.args.seat.now.numbered.0 ∙ c.requires.first) c.load.ensures.2.1)
