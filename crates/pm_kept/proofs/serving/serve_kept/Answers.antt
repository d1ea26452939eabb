use Rattle.std.proofs.Common.{◌∙◌, refl, arith}
use Rattle.pm_kept.proofs.Files.{good_leaves}
use Rattle.pm_kept.proofs.Runs.{at_first, joined, joined_count, over_behind, stopped}
use Rattle.pm_kept.proofs.serving.serve_kept.Goals as goal

pub loop-count-init : goal.loop-count-init
loop-count-init g c =
    let k = c.args.kept.now in
    record {
      so_far = (
        at_first g.S.Keepable.means g.D.Disk.seen g.D.Disk.may_leave g.D.Disk.is_clean g.D.Disk.faults k (g.R.Source.left c.args.source.now) c.args.lines.now.unread (g.W.Sink.written c.args.sink.now)
            (good_leaves g.S.Keepable.means g.D.Disk.seen g.D.Disk.may_leave g.D.Disk.is_clean g.D.Disk.is_usable k c.requires.up c.requires.good),
        omega arith,
      );
      good = c.requires.good;
      up = c.requires.up;
      same_reads = refl;
      same_writes = refl;
    }

pub loop-count-preserved : goal.loop-count-preserved
loop-count-preserved g c =
    let f = c.loop-count.invariant.so_far in
    let step = c.in-More.ensures.served in
    let count = joined_count g.S.Keepable.means g.D.Disk.seen g.D.Disk.may_leave g.D.Disk.is_clean g.D.Disk.faults c.args.kept.now c.loop-count.kept c.serve_group.new.kept
    (g.R.Source.left c.args.source.now) (g.R.Source.left c.loop-count.source) (g.R.Source.left c.serve_group.new.source)
    c.args.lines.now.unread c.loop-count.lines.unread c.serve_group.new.lines.unread
    (g.W.Sink.written c.args.sink.now) (g.W.Sink.written c.loop-count.sink) (g.W.Sink.written c.serve_group.new.sink)
    f.0 step.0 step.1 in
    record {
      so_far = (
        joined g.S.Keepable.means g.D.Disk.seen g.D.Disk.may_leave g.D.Disk.is_clean g.D.Disk.faults c.args.kept.now c.loop-count.kept c.serve_group.new.kept
            (g.R.Source.left c.args.source.now) (g.R.Source.left c.loop-count.source) (g.R.Source.left c.serve_group.new.source)
            c.args.lines.now.unread c.loop-count.lines.unread c.serve_group.new.lines.unread
            (g.W.Sink.written c.args.sink.now) (g.W.Sink.written c.loop-count.sink) (g.W.Sink.written c.serve_group.new.sink)
            f.0 step.0,
        let h = f.1 in omega (arith, count),
      );
      good = c.in-More.ensures.good;
      up = step.0.went.up ∙ c.loop-count.invariant.up;
      same_reads = c.in-More.ensures.faults.0 ∙ c.loop-count.invariant.same_reads;
      same_writes = c.in-More.ensures.faults.1 ∙ c.loop-count.invariant.same_writes;
    }

pub returns-in-Over-clause-run : goal.returns-in-Over-clause-run
returns-in-Over-clause-run g c =
    over_behind g.S.Keepable.means g.D.Disk.seen g.D.Disk.may_leave g.D.Disk.is_clean g.D.Disk.faults c.in-Over.served c.args.kept.now c.loop-count.kept c.serve_group.new.kept
    (g.R.Source.left c.args.source.now) (g.R.Source.left c.loop-count.source) (g.R.Source.left c.serve_group.new.source)
    c.args.lines.now.unread c.loop-count.lines.unread c.serve_group.new.lines.unread
    (g.W.Sink.written c.args.sink.now) (g.W.Sink.written c.loop-count.sink) (g.W.Sink.written c.serve_group.new.sink)
    c.loop-count.invariant.so_far.0 c.in-Over.ensures.served

pub returns-clause-run : goal.returns-clause-run
returns-clause-run g c =
    let h = c.loop-count.invariant.so_far.1 in
    stopped g.S.Keepable.means g.D.Disk.seen g.D.Disk.may_leave g.D.Disk.is_clean g.D.Disk.faults c.args.kept.now c.loop-count.kept
    (g.R.Source.left c.args.source.now) (g.R.Source.left c.loop-count.source) c.args.lines.now.unread c.loop-count.lines.unread
    (g.W.Sink.written c.args.sink.now) (g.W.Sink.written c.loop-count.sink) c.loop-count.invariant.so_far.0 (omega arith)
