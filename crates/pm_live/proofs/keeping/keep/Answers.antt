use Rattle.std.proofs.Common.{◌∙◌, ℕ, Bool, List, refl, ap, subst}
use Rattle.pm_kept.specs.Runs.{KeptRun}
use Rattle.pm_kept.proofs.Files.{up_leaves}
use Rattle.pm_live.specs.Keeping.{file_status_of}
use Rattle.pm_live.proofs.keeping.keep.Goals as goal

pub returns-clause-talked : goal.returns-clause-talked
returns-clause-talked g c =
    let seen = g.D.Disk.seen in
    let may_leave = g.D.Disk.may_leave in
    let is_clean = g.D.Disk.is_clean in
    let is_usable = g.D.Disk.is_usable in
    let faults = g.D.Disk.faults in
    let end = c.serve_kept-served.new.kept in
    let served = c.serve_kept-served.result in
    record {
      served = served;
      begin = c.args.kept;
      end = end;
      unread = c.serve_kept-served.new.lines.unread;
      begins = refl;
      over = refl;
      before = λ clean. refl;
      up = c.requires.up;
      was_good = c.requires.good;
      run = subst (λ (before : List ℕ). KeptRun g.S.Keepable.means seen may_leave is_clean faults served c.args.kept end (g.R.Source.left c.args.source.now)
          (g.R.Source.left c.serve_kept-served.new.source) before c.serve_kept-served.new.lines.unread (g.W.Sink.written c.args.sink.now) (g.W.Sink.written c.serve_kept-served.new.sink)) c.requires.unread c.serve_kept-served.ensures.run;
      ends = c.serve_kept-served.ensures.faults;
      good = c.serve_kept-served.ensures.good;
      gives = refl;
      says = c.status_of_kept-status.ensures ∙ ap (λ (b : Bool). file_status_of served b end.failed) c.is_begun.ensures;
    }

pub returns-clause-again : goal.returns-clause-again
returns-clause-again g c =
    let end = c.serve_kept-served.new.kept in
    up_leaves g.S.Keepable.means g.D.Disk.seen g.D.Disk.may_leave g.D.Disk.is_clean g.D.Disk.is_usable end.failed end.service end.held end.journal c.serve_kept-served.ensures.good.up
