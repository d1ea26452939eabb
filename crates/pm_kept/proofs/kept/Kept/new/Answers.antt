use Rattle.std.proofs.Common.{◌≡◌, ◌∙◌, refl, ap}
use Rattle.pm_kept.specs.Means.{unlimited}
use Rattle.pm_kept.proofs.Files.{fresh}
use Rattle.pm_kept.proofs.kept.Kept.new.Goals as goal

pub returns-clause-good : goal.returns-clause-good
returns-clause-good g c =
    let m = g.S.Keepable.means in
    let laws = g.met.S.Keepable.laws in
    let start = c.start-service.result in
    let service = c.set_limit.new.self in
    let is : unlimited m service ≡ m.start =
    ap (unlimited m) c.set_limit.ensures.limited ∙ laws.relimits c.args.limit start ∙ ap (unlimited m) c.start-service.ensures.start ∙ laws.starts in
    record {
      service = c.set_limit.ensures.good;
      up = (fresh m g.D.Disk.seen g.D.Disk.may_leave g.D.Disk.is_clean g.D.Disk.is_usable service c.blank.result is c.blank.ensures.blank, λ begun. refl);
    }
