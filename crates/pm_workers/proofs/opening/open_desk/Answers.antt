use Rattle.std.proofs.Common.{◌≡◌, suc, ◌+◌, ◌-◌, ◌∷◌, length, sym, ap, ap₂, ◌∙◌, subst, arith}
use Rattle.pm_desk.specs.Desks.{first_seat}
use Rattle.pm_workers.specs.Seatings.{seats_for, unused_seats}
use Rattle.pm_workers.proofs.Closing.{in-front}
use Rattle.pm_workers.proofs.Readying.{is-open}
use Rattle.pm_workers.proofs.opening.open_desk.Goals as goal

pub returns-clause-seated : goal.returns-clause-seated
returns-clause-seated g c =
    let d = c.in_ok-desk.desk in
    let n = length c.args.raw.now - 1 in
    let all : c.insert.new.self.items ≡ record (first_seat d) { splits = n } ∷ unused_seats d 1 n =
    c.in_ok-insert.ensures.items ∙ in-front c.in_ok-seats.seats.items c.split_all.new.first ∙ ap₂ (λ a b. a ∷ b) c.in_ok-seats.ensures.first c.in_ok-seats.ensures.seats in
    let some : suc n ≡ length c.args.raw.now = omega (arith, c.requires.some) in
    record {
      opening = is-open g.C.Change.means d c.args.doc c.args.rules c.in_ok-authority.authority c.in_ok-desk.ensures.desk
          c.in_ok-authority.ensures.first c.in_ok-authority.ensures.doc c.in_ok-authority.ensures.log c.requires.good;
      members_are = c.in_ok-members.ensures;
      seats_are = all ∙ ap (seats_for d) some;
    }
