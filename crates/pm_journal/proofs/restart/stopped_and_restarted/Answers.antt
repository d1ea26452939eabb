use Rattle.std.proofs.Common.{◌≡◌, map, sym, subst, ap, ◌∙◌}
use Rattle.sqlite_disk.specs.Fuse.{inner_of}
use Rattle.pm_journal.specs.Lines.{recorded, HasFirst}
use Rattle.pm_journal.specs.Journal.{texts}
use Rattle.pm_journal.proofs.Lines.{at_rest_recorded}
use Rattle.pm_journal.proofs.restart.stopped_and_restarted.Goals as goal

pub returns : goal.returns
returns g c clean =
    let seen = g.D.Disk.seen in
    let new = map (λ line. line.items) c.args.lines.now in
    let told = c.append_each-told.result in
    let was = c.recover.ensures.clean clean in
    let first = c.append_each-told.ensures.crash (c.crash.ensures.clean was) (seen (inner_of c.crash.new.self)) c.crash.ensures.left in
    let found : recorded (seen (inner_of c.crash.new.self)) ≡ texts c.in_ok-found.found =
    ap recorded (sym c.recover.ensures.seen) ∙ at_rest_recorded (texts c.in_ok-found.found) (seen (inner_of c.recover.new.disk)) (c.in_ok-found.ensures.lines clean).at_rest in
    let begun = subst (λ d. HasFirst (recorded (seen d)) new told (recorded (seen (inner_of c.crash.new.self)))) c.new.ensures.inner first in
    subst (HasFirst (recorded (seen c.args.journal.disk)) new told) found begun
