use Rattle.std.proofs.Common.{rules, sym, ap, ◌∙◌, subst}
use Rattle.pm_desk.specs.Histories.{Gathers}
use Rattle.pm_desk.specs.Turns.{Sees}
use Rattle.pm_desk.proofs.Looks.{looks, gathers}
use Rattle.pm_desk.proofs.Seats.{joins}
use Rattle.pm_desk.proofs.turn.Desk.join.Goals as goal

pub join_seat-requires : goal.join_seat-requires
join_seat-requires g c =
    let seat = c.requires.seat in
    let other = c.requires.other in
    (seat.0, other.0, other.1.1, search rules, joins _ _ _ _ _ c.args.seat.now.token.me.0 _ c.args.other.token.me.0 seat.1.0 (sym c.args.seat.now.numbered.0 ∙ c.requires.first) other.1.0 other.1.2)

pub load-requires : goal.load-requires
load-requires g c =
    let seat = c.requires.seat in
    let is = c.join_seat.ensures.2 in
    (search rules, search rules, looks _ _ _ _ _ _ c.join_seat.new.seat.me (ap (λ m. m.0.desk) is ∙ seat.1.0))

pub returns-clause-gathers : goal.returns-clause-gathers
returns-clause-gathers g c =
    let about = c.args.self.now.table.shared.key.value in
    let v = c.args.seat.now.token.me.0 in
    let w = c.args.other.token.me.0 in
    let is = ap (λ m. m.0) c.join_seat.ensures.2 in
    let sees = subst Sees is c.load.ensures.2.1 in
    let zs = ap (λ m. m.0.seen) c.load.ensures.2.0 ∙ ap (λ u. u.seen) is in
    subst (Gathers v.number v.seen w.number w.seen) (sym zs) (gathers g.M.Machine.next g.M.Machine.good g.M.Machine.own about v w (sym c.args.seat.now.numbered.0 ∙ c.requires.first) sees)
