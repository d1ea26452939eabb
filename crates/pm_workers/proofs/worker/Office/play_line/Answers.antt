use Rattle.std.specs.Prelude.{IfOk}
use Rattle.std.proofs.Common.{rules, sym, ap, ◌∙◌, subst}
use Rattle.pm_session.specs.Sounds.{MemberStands}
use Rattle.pm_workers.specs.Seats.{authority_after, Serves}
use Rattle.pm_workers.specs.Worked.{ActedAt}
use Rattle.pm_workers.proofs.Working.{ok-acts}
use Rattle.pm_workers.proofs.worker.Office.play_line.Goals as goal

pub act-outcome-requires-clause-served : goal.act-outcome-requires-clause-served
act-outcome-requires-clause-served g c =
    let m = g.C.Change.means in
    let d = c.args.self.now.desk.now in
    let host = c.new-host in
    let n = c.args.line.now.client in
    subst (λ k. Serves m k host.result.seat.now c.rules.result.now n) (sym host.ensures.desk)
    (subst (λ u. Serves m d u c.rules.result.now n) (sym host.ensures.seat) (subst (λ r. Serves m d c.args.seat.now r n) (sym c.rules.ensures) c.requires.serves))

pub act-outcome-requires-clause-stands : goal.act-outcome-requires-clause-stands
act-outcome-requires-clause-stands g c =
    let m = g.C.Change.means in
    let d = c.args.self.now.desk.now in
    let host = c.new-host in
    let x = c.args.member.now in
    let now = c.rules.result.now in
    subst (λ k. MemberStands m now k.opening.machine.first (authority_after m k host.result.seat.now.seen).log x) (sym host.ensures.desk)
    (subst (λ u. MemberStands m now d.opening.machine.first (authority_after m d u.seen).log x) (sym host.ensures.seat)
    (subst (λ r. MemberStands m r d.opening.machine.first (authority_after m d c.args.seat.now.seen).log x) (sym c.rules.ensures) c.requires.stands))

pub returns-clause-acts : goal.returns-clause-acts
returns-clause-acts g c =
    let m = g.C.Change.means in
    let d = c.args.self.now.desk.now in
    let s = c.args.seat.now in
    let host = c.new-host in
    let own = host.result.desk.now in
    let t = c.act-outcome.new.host.seat.now in
    let r = c.act-outcome.result in
    let act = c.args.line.now.act in
    let x = c.args.member.now in
    let y = c.act-outcome.new.member in
    let makes = g.K.Maker.makes c.args.self.now.crew.now.maker.now in
    let a = ok-acts m makes own host.result.seat.now t r c.rules.result.now (c.rules.ensures ∙ ap (λ k. k.opening.rules) (sym host.ensures.desk)) c.args.line.now.client
    (ap (λ u. u.number) host.ensures.seat ∙ c.requires.serves.number) _ _ (λ e. ap (λ h. h.seat.now) e) act x y c.act-outcome.ensures.acts in
    let b : IfOk r (λ o. ActedAt m (makes d.opening.rules) d act x s o y t) =
    subst (λ k. IfOk r (λ o. ActedAt m (makes k.opening.rules) k act x s o y t)) host.ensures.desk
    (subst (λ u. IfOk r (λ o. ActedAt m (makes own.opening.rules) own act x u o y t)) host.ensures.seat a) in
    search rules
