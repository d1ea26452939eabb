use Rattle.std.proofs.Common.{◌≡◌, Ok}
use Rattle.pm_client.specs.Clients.{edited}
use Rattle.pm_client.specs.Cursors.{AreWithin}
use Rattle.pm_client.specs.Kins.{Kin}
use Rattle.pm_client.proofs.Edits.{edited-ready}
use Rattle.pm_client.proofs.Keeps.{kin-edited}
use Rattle.pm_client.proofs.Plannings.{either-way, on-way}
use Rattle.pm_client.proofs.TokenKeeps.{edited-keeps}
use Rattle.pm_client.proofs.client.Client.edit.Goals as goal

pub returns-clause-kin : goal.returns-clause-kin
returns-clause-kin g c first log kin =
    let m = g.C.Change.means in
    let client = c.args.self.now in
    let next = c.edit_given.new.self in
    either-way (Kin m c.args.rules.now first log) (λ n. edited m c.args.rules.now client c.args.steps.items c.args.event ≡ Ok next) c.edit_given.result client next c.edit_given.ensures.made c.edit_given.ensures.err kin
    (λ n made. kin-edited m c.args.rules.now first log client kin g.met.C.Change.laws c.args.steps.items c.args.event next made)

pub returns-clause-tokens : goal.returns-clause-tokens
returns-clause-tokens g c =
    let m = g.C.Change.means in
    let client = c.args.self.now in
    let next = c.edit_given.new.self in
    on-way (λ n. edited m c.args.rules.now client c.args.steps.items c.args.event ≡ Ok next) c.edit_given.result c.edit_given.ensures.made
    (λ n made first log kin. edited-keeps m c.args.rules.now g.met.C.Change.laws first log client kin c.args.steps.items c.args.event next made)

pub returns-clause-stays_good : goal.returns-clause-stays_good
returns-clause-stays_good g c =
    let m = g.C.Change.means in
    let client = c.args.self.now in
    let next = c.edit_given.new.self in
    either-way (λ d. m.is_good c.args.rules.now d.doc) (λ n. edited m c.args.rules.now client c.args.steps.items c.args.event ≡ Ok next) c.edit_given.result client next c.edit_given.ensures.made c.edit_given.ensures.err c.requires.good
    (λ n made. (edited-ready m c.args.rules.now g.met.C.Change.laws client next c.args.steps.items c.args.event c.requires.good c.requires.cursors made).0)

pub returns-clause-stay_within : goal.returns-clause-stay_within
returns-clause-stay_within g c =
    let m = g.C.Change.means in
    let client = c.args.self.now in
    let next = c.edit_given.new.self in
    either-way (λ d. AreWithin (m.size d.doc) d.cursors) (λ n. edited m c.args.rules.now client c.args.steps.items c.args.event ≡ Ok next) c.edit_given.result client next c.edit_given.ensures.made c.edit_given.ensures.err c.requires.cursors
    (λ n made. (edited-ready m c.args.rules.now g.met.C.Change.laws client next c.args.steps.items c.args.event c.requires.good c.requires.cursors made).1)
