use Rattle.std.specs.Prelude.{IfOk}
use Rattle.std.proofs.Common.{rules, sym, ap, ◌∙◌, subst}
use Rattle.pm_workers.specs.Worked.{ActedAt}
use Rattle.pm_workers.proofs.Working.{ok-acts}
use Rattle.pm_rooms.proofs.person.play_at.Goals as goal

pub returns-clause-acts : goal.returns-clause-acts
returns-clause-acts g c =
    let m = g.C.Change.means in
    let d = c.args.desk.now in
    let s = c.args.stand.now.seat in
    let host = c.new-host in
    let own = host.result.desk.now in
    let t = c.act-outcome.new.host.seat.now in
    let r = c.act-outcome.result in
    let act = c.args.line.now.act in
    let x = c.args.stand.now.member in
    let y = c.act-outcome.new.member in
    let makes = g.K.Maker.makes c.args.crew.now.maker.now in
    let a = ok-acts m makes own host.result.seat.now t r c.rules.result.now (c.rules.ensures ∙ ap (λ k. k.opening.rules) (sym host.ensures.desk)) c.args.line.now.client
    (ap (λ u. u.number) host.ensures.seat ∙ c.requires.serves.number) _ _ (λ e. ap (λ h. h.seat.now) e) act x y c.act-outcome.ensures.acts in
    let b : IfOk r (λ o. ActedAt m (makes d.opening.rules) d act x s o y t) =
    subst (λ k. IfOk r (λ o. ActedAt m (makes k.opening.rules) k act x s o y t)) host.ensures.desk
    (subst (λ u. IfOk r (λ o. ActedAt m (makes own.opening.rules) own act x u o y t)) host.ensures.seat a) in
    search rules
