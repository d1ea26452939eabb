use Rattle.std.proofs.Common.{◌++◌, ◌∷◌, [], None, ap, ◌∙◌}
use Rattle.pm_frames.proofs.Small.{sizes-small}
use Rattle.pm_history.specs.Undos.{own_item}
use Rattle.pm_client.proofs.Rebasers.{at-held}
use Rattle.pm_client.proofs.rebasing.Rebaser.hold.Goals as goal

pub enclose-requires-clause-behind : goal.enclose-requires-clause-behind
enclose-requires-clause-behind g c =
    let m = g.C.Change.means in
    let laws = g.met.C.Change.laws in
    let rules = c.args.rules.now in
    let before = c.args.self.now.doc in
    let good = laws.good rules c.args.change before c.args.doc c.requires.good c.requires.applies in
    rw c.step_map-behind.ensures
    (sizes-small (m.step_map c.args.change) (m.size before) (m.size c.args.doc) (laws.fits rules c.args.change before c.args.doc c.requires.good c.requires.applies)
    (laws.small rules before c.requires.good) (laws.small rules c.args.doc good))

pub returns : goal.returns
returns g c = λ so n k small fits at.
    let m = g.C.Change.means in
    let laws = g.met.C.Change.laws in
    let rules = c.args.rules.now in
    let r = c.args.self.now in
    let good = laws.good rules c.args.change r.doc c.args.doc c.requires.good c.requires.applies in
    let after = laws.fits rules c.args.change r.doc c.args.doc c.requires.good c.requires.applies in
    let items_are = c.in_ok-push.ensures.ok ∙ ap (λ i. r.items ++ i ∷ []) c.in_ok-item.ensures in
    at-held m r c.enclose.new.self c.push-2.new.self c.push.new.self so c.args.back (m.step_map c.args.change) n k c.args.doc (record { name = c.args.name; change = c.args.change })
    (λ d. own_item m rules c.args.name.client d c.args.change c.args.name.serial None) small (laws.small rules c.args.doc good) fits after c.in_ok-push-2.ensures.ok items_are
    (rw c.step_map-behind.ensures at c.in_ok-enclose.ensures) at
