use Rattle.std.proofs.Common.{◌≡◌, true, IsTrue, refl, sym, subst, ◌∙◌, ap}
use Rattle.pm_journal.specs.Lines.{recorded}
use Rattle.pm_journal.specs.Journal.{texts}
use Rattle.pm_journal.proofs.Lines.{at_rest_recorded}
use Rattle.pm_kept.specs.Behind.{Stands}
use Rattle.pm_kept.proofs.Files.{resumed}
use Rattle.pm_kept.proofs.Stands.{stands_limited}
use Rattle.pm_kept.proofs.kept.Kept.resume.Goals as goal

pub returns-clause-good : goal.returns-clause-good
returns-clause-good g c =
    let m = g.S.Keepable.means in
    let laws = g.met.S.Keepable.laws in
    let seen = g.D.Disk.seen in
    let opened = c.args.opened in
    let limit = c.args.limit in
    let service = c.set_limit.new.self in
    let journal = c.resume-journal.result in
    let same = c.resume-journal.ensures.disk in
    let is = c.set_limit.ensures.limited in
    let begun : m.is_begun service ≡ true = ap m.is_begun is ∙ laws.still_begun limit opened.service ∙ c.requires.begun in
    let stands : Stands m (texts opened.found) service =
    subst (Stands m (texts opened.found)) (sym is) (stands_limited m laws (texts opened.found) opened.service limit c.requires.stands) in
    let behind : IsTrue (g.D.Disk.is_clean journal.disk) → Stands m (recorded (seen journal.disk)) service =
    λ clean. (
    let found = c.requires.found (subst (λ d. IsTrue (g.D.Disk.is_clean d)) same clean) in
    let lines = ap (λ d. recorded (seen d)) same ∙ at_rest_recorded (texts opened.found) (seen c.args.disk) found.at_rest in
    subst (λ ls. Stands m ls service) (sym lines) stands) in
    record {
      service = c.set_limit.ensures.good;
      up = (resumed m seen g.D.Disk.may_leave g.D.Disk.is_clean g.D.Disk.is_usable service journal begun c.resume-journal.ensures.open behind, λ opens. refl);
    }
