use Rattle.std.proofs.Common.{◌≡◌, ◌∙◌, false, IsTrue, map, sym, subst, rules}
use Rattle.std.proofs.lemmas.Result.{err_from_is_err_and}
use Rattle.pm_journal.specs.Journal.{texts}
use Rattle.pm_kept.specs.Behind.{Behind}
use Rattle.pm_kept.specs.Opens.{OpenFails, ReplayFails}
use Rattle.pm_kept.proofs.Opens.{replay_fails, no_document}
use Rattle.pm_kept.proofs.opening.open.Goals as goal

pub returns-in_err-service-clause-faults : goal.returns-in_err-service-clause-faults
returns-in_err-service-clause-faults g c =
    let m = g.S.Keepable.means in
    let error = c.in_err-service.field-0.0 in
    let found = c.in_ok-found.found in
    let now = c.recover.new.disk in
    let fails : ReplayFails m error (texts found) = subst (λ ls. ReplayFails m error (map (λ line. line.items) ls)) c.deref.ensures.value c.in_err-service.ensures.fails in
    let told : OpenFails m error (g.D.Disk.faults c.args.disk.now) (g.D.Disk.faults now) (IsTrue (g.D.Disk.is_clean now)) (g.D.Disk.seen now) =
    replay_fails m error found (g.D.Disk.faults c.args.disk.now) (g.D.Disk.faults now) (IsTrue (g.D.Disk.is_clean now)) (g.D.Disk.seen now) c.in_ok-found.ensures.faults c.in_ok-found.ensures.lines fails in
    let p = err_from_is_err_and c.from_residual-in_err-service.result c.from_residual-in_err-service.ensures.1 in
    rw (p.1, p.2) told

pub returns-then-not-is_begun-clause-faults : goal.returns-then-not-is_begun-clause-faults
returns-then-not-is_begun-clause-faults g c =
    let m = g.S.Keepable.means in
    let service = c.in_ok-service.service in
    let found = c.in_ok-found.found in
    let now = c.recover.new.disk in
    let behind : Behind m (texts found) m.start service = subst (λ ls. Behind m (map (λ line. line.items) ls) m.start service) c.deref.ensures.value c.in_ok-service.ensures.stands in
    let closed : m.is_begun service ≡ false = sym c.is_begun.ensures ∙ search rules in
    no_document m service found (g.D.Disk.faults c.args.disk.now) (g.D.Disk.faults now) (IsTrue (g.D.Disk.is_clean now)) (g.D.Disk.seen now) c.in_ok-found.ensures.faults c.in_ok-found.ensures.lines behind closed
