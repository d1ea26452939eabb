use Rattle.std.proofs.Common.{rules, ◌≡◌, drop, length}
use Rattle.std.proofs.lemmas.List.{take_rest}
use Rattle.pm_versions.specs.Late.{HasFront}
use Rattle.pm_versions.proofs.Lates.{missing-applies, versions-late}
use Rattle.pm_versions.proofs.late.LateRoom.reach.Goals as goal

pub follow-requires-clause-applies : goal.follow-requires-clause-applies
follow-requires-clause-applies g c =
    let m = g.C.Change.means in
    let l = c.args.self.now in
    let h = missing-applies m c.args.rules.now l c.requires in
    let log : c.log.result.now ≡ l.room.authority.log = search rules in
    let pushed : c.log-2.result.now ≡ l.versions.log = search rules in
    (h.0, rw (log, pushed, take_rest l.room.authority.log (length l.versions.log)) h.1)

pub returns-clause-kept : goal.returns-clause-kept
returns-clause-kept g c =
    let m = g.C.Change.means in
    let l = c.args.self.now in
    let log : c.log.result.now ≡ l.room.authority.log = search rules in
    let pushed : c.log-2.result.now ≡ l.versions.log = search rules in
    let all = take_rest l.room.authority.log (length l.versions.log) in
    let front : HasFront l.versions.log (drop (length l.versions.log) l.room.authority.log) c.follow.new.versions.log = rw (log, pushed, all) at c.follow.ensures.front in
    versions-late m c.args.rules.now l c.follow.new.versions c.requires c.follow.ensures.kept c.follow.ensures.first front
