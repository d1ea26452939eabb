use Rattle.std.proofs.Common.{◌∙◌, refl, arith}
use Rattle.pm_serve.proofs.Steps.{at-first, one-more, one-more-count}
use Rattle.pm_serve.proofs.Joins.{over-behind, stopped}
use Rattle.pm_serve.proofs.serving.serve.Goals as goal

pub loop-count-init : goal.loop-count-init
loop-count-init g c = record {
  so_far = (
    at-first g.S.Service.replies g.S.Service.last g.S.Service.no_memory c.args.service.now (g.R.Source.left c.args.source.now) c.args.lines.now.unread (g.W.Sink.written c.args.sink.now),
    omega arith,
  );
  good = c.requires;
  same_reads = refl;
  same_writes = refl;
}

pub loop-count-preserved : goal.loop-count-preserved
loop-count-preserved g c =
    let f = c.loop-count.invariant.so_far in
    let step = c.in-More.ensures.steps in
    let count = one-more-count g.S.Service.replies g.S.Service.last g.S.Service.no_memory c.args.service.now c.loop-count.service c.serve_next.new.service
    (g.R.Source.left c.args.source.now) (g.R.Source.left c.loop-count.source) (g.R.Source.left c.serve_next.new.source)
    c.args.lines.now.unread c.loop-count.lines.unread c.serve_next.new.lines.unread
    (g.W.Sink.written c.args.sink.now) (g.W.Sink.written c.loop-count.sink) (g.W.Sink.written c.serve_next.new.sink)
    f.0 step in
    record {
      so_far = (
        one-more g.S.Service.replies g.S.Service.last g.S.Service.no_memory c.args.service.now c.loop-count.service c.serve_next.new.service
            (g.R.Source.left c.args.source.now) (g.R.Source.left c.loop-count.source) (g.R.Source.left c.serve_next.new.source)
            c.args.lines.now.unread c.loop-count.lines.unread c.serve_next.new.lines.unread
            (g.W.Sink.written c.args.sink.now) (g.W.Sink.written c.loop-count.sink) (g.W.Sink.written c.serve_next.new.sink)
            f.0 step,
        let h = f.1 in omega (arith, count),
      );
      good = c.in-More.ensures.good;
      same_reads = c.in-More.ensures.faults.0 ∙ c.loop-count.invariant.same_reads;
      same_writes = c.in-More.ensures.faults.1 ∙ c.loop-count.invariant.same_writes;
    }

pub returns-in-Over-clause-serves : goal.returns-in-Over-clause-serves
returns-in-Over-clause-serves g c =
    over-behind g.S.Service.replies g.S.Service.last g.S.Service.no_memory c.in-Over.served c.args.service.now c.loop-count.service c.serve_next.new.service
    (g.R.Source.left c.args.source.now) (g.R.Source.left c.loop-count.source) (g.R.Source.left c.serve_next.new.source)
    c.args.lines.now.unread c.loop-count.lines.unread c.serve_next.new.lines.unread
    (g.W.Sink.written c.args.sink.now) (g.W.Sink.written c.loop-count.sink) (g.W.Sink.written c.serve_next.new.sink)
    c.loop-count.invariant.so_far.0 c.in-Over.ensures.steps

pub returns-clause-serves : goal.returns-clause-serves
returns-clause-serves g c =
    let h = c.loop-count.invariant.so_far.1 in
    stopped g.S.Service.replies g.S.Service.last g.S.Service.no_memory c.args.service.now c.loop-count.service
    (g.R.Source.left c.args.source.now) (g.R.Source.left c.loop-count.source) c.args.lines.now.unread c.loop-count.lines.unread
    (g.W.Sink.written c.args.sink.now) (g.W.Sink.written c.loop-count.sink) c.loop-count.invariant.so_far.0 (omega arith)
