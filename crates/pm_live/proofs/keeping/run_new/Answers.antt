use Rattle.std.proofs.Common.{[], inr, refl, rules, sym, ◌∙◌}
use Rattle.pm_live.proofs.Files.{durable, begun_at, lines_before}
use Rattle.pm_live.proofs.keeping.run_new.Goals as goal

pub new-kept-requires-clause-durable : goal.new-kept-requires-clause-durable
new-kept-requires-clause-durable g c =
    durable g.S.Keepable.means g.D.Disk.seen g.D.Disk.may_leave g.D.Disk.is_clean g.D.Disk.is_usable g.D.Disk.faults c.args.disk c.is_blank.new.disk c.is_blank.ensures.seen c.is_blank.ensures.crash c.is_blank.ensures.clean c.requires.durable

pub returns-clause-output : goal.returns-clause-output
returns-clause-output g c =
    let seen = g.D.Disk.seen in
    let may_leave = g.D.Disk.may_leave in
    let is_clean = g.D.Disk.is_clean in
    let is_usable = g.D.Disk.is_usable in
    let faults = g.D.Disk.faults in
    let kept = c.new-kept.result in
    inr record {
      opened = c.is_blank.new.disk;
      untouched = record { same = c.is_blank.ensures.seen; crash = c.is_blank.ensures.crash };
      empty = λ clean. sym c.is_blank.ensures.seen ∙ search rules;
      talked = begun_at g.S.Keepable.means seen may_leave is_clean is_usable faults c.keep.result.status kept.service _ _ _ kept.journal.disk c.is_blank.new.disk c.keep.result.disk _ _ _ _ _ _ _ _ _
          c.new-kept.ensures.service (λ clean. lines_before seen kept c.is_blank.new.disk [] c.new-kept.ensures.held c.new-kept.ensures.disk (search rules)) c.new-kept.ensures.disk refl c.keep.ensures.talked;
    }

pub returns-clause-again : goal.returns-clause-again
returns-clause-again g c = inr c.keep.ensures.again
