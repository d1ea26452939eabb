use Rattle.std.proofs.Common.{◌∙◌, refl, arith}
use Rattle.pm_serve.proofs.Gathers.{start, whole-line, further, filled, ended, at-end, asked-now, asked-then, long-came}
use Rattle.pm_serve.proofs.reader.next_line.Goals as goal

pub loop-count-init : goal.loop-count-init
loop-count-init g c = record {
  gathered = start (g.R.Source.left c.args.source.now) (g.R.Piecewise.pieces c.args.source.now) c.args.unread.now c.clear.new.self c.clear.ensures;
  same = refl;
}

pub returns-in-Line-clause-reads : goal.returns-in-Line-clause-reads
returns-in-Line-clause-reads g c =
    whole-line c.loop-count._count (g.R.Source.left c.args.source.now) (g.R.Source.left c.loop-count.source) (g.R.Piecewise.pieces c.args.source.now) (g.R.Piecewise.pieces c.loop-count.source)
    c.args.unread.now c.loop-count.unread c.pass_on.new.self c.loop-count.line c.pass_on.new.line c.loop-count.invariant.gathered c.in-Line.ensures

pub returns-in-Line-clause-in_time : goal.returns-in-Line-clause-in_time
returns-in-Line-clause-in_time g c =
    asked-now c.loop-count._count (g.R.Source.left c.args.source.now) (g.R.Source.left c.loop-count.source) (g.R.Piecewise.pieces c.args.source.now) (g.R.Piecewise.pieces c.loop-count.source)
    c.args.unread.now c.loop-count.unread c.loop-count.line c.loop-count.invariant.gathered

pub returns-in-End-clause-reads : goal.returns-in-End-clause-reads
returns-in-End-clause-reads g c =
    let left = g.R.Source.left c.args.source.now in
    let rest = g.R.Source.left c.loop-count.source in
    let then = g.R.Source.left c.fill.new.source in
    let old = g.R.Piecewise.pieces c.args.source.now in
    let new = g.R.Piecewise.pieces c.loop-count.source in
    let before = c.args.unread.now in
    let line = c.pass_on.new.line in
    let came = c.in-End.ensures.came in
    at-end c.last_of.result left then before c.fill.new.self line c.last_of.ensures
    (ended c.loop-count._count left rest then old new before c.fill.new.self line
    (further c.loop-count._count left rest old new before c.loop-count.unread c.pass_on.new.self c.loop-count.line line c.loop-count.invariant.gathered c.in-All.ensures) came.0 came.1 came.2)

pub returns-in-End-clause-in_time : goal.returns-in-End-clause-in_time
returns-in-End-clause-in_time g c =
    let left = g.R.Source.left c.args.source.now in
    let rest = g.R.Source.left c.loop-count.source in
    let old = g.R.Piecewise.pieces c.args.source.now in
    let new = g.R.Piecewise.pieces c.loop-count.source in
    let newer = g.R.Piecewise.pieces c.fill.new.source in
    let before = c.args.unread.now in
    let line = c.pass_on.new.line in
    asked-then c.loop-count._count left rest old new newer before line c.fill.new.self
    (further c.loop-count._count left rest old new before c.loop-count.unread c.pass_on.new.self c.loop-count.line line c.loop-count.invariant.gathered c.in-All.ensures) c.in-End.ensures.gave

pub returns-in-Failed-clause-in_time : goal.returns-in-Failed-clause-in_time
returns-in-Failed-clause-in_time g c =
    let left = g.R.Source.left c.args.source.now in
    let rest = g.R.Source.left c.loop-count.source in
    let old = g.R.Piecewise.pieces c.args.source.now in
    let new = g.R.Piecewise.pieces c.loop-count.source in
    let newer = g.R.Piecewise.pieces c.fill.new.source in
    let before = c.args.unread.now in
    let line = c.pass_on.new.line in
    asked-then c.loop-count._count left rest old new newer before line c.fill.new.self
    (further c.loop-count._count left rest old new before c.loop-count.unread c.pass_on.new.self c.loop-count.line line c.loop-count.invariant.gathered c.in-All.ensures) c.in-Failed.ensures.gave

pub returns-clause-reads : goal.returns-clause-reads
returns-clause-reads g c =
    long-came c.loop-count._count (g.R.Source.left c.args.source.now) (g.R.Source.left c.loop-count.source) (g.R.Piecewise.pieces c.args.source.now) (g.R.Piecewise.pieces c.loop-count.source)
    c.args.unread.now c.loop-count.unread c.loop-count.line c.loop-count.invariant.gathered (omega arith)

pub returns-clause-in_time : goal.returns-clause-in_time
returns-clause-in_time g c =
    asked-now c.loop-count._count (g.R.Source.left c.args.source.now) (g.R.Source.left c.loop-count.source) (g.R.Piecewise.pieces c.args.source.now) (g.R.Piecewise.pieces c.loop-count.source)
    c.args.unread.now c.loop-count.unread c.loop-count.line c.loop-count.invariant.gathered

pub loop-count-preserved : goal.loop-count-preserved
loop-count-preserved g c =
    let left = g.R.Source.left c.args.source.now in
    let rest = g.R.Source.left c.loop-count.source in
    let then = g.R.Source.left c.fill.new.source in
    let old = g.R.Piecewise.pieces c.args.source.now in
    let new = g.R.Piecewise.pieces c.loop-count.source in
    let newer = g.R.Piecewise.pieces c.fill.new.source in
    let before = c.args.unread.now in
    let line = c.pass_on.new.line in
    record {
      gathered = filled c.loop-count._count left rest then old new newer before line c.fill.new.self
          (further c.loop-count._count left rest old new before c.loop-count.unread c.pass_on.new.self c.loop-count.line line c.loop-count.invariant.gathered c.in-All.ensures) c.in-Some.ensures.came.0 c.in-Some.ensures.gave c.in-Some.ensures.came.1;
      same = c.in-Some.ensures.faults ∙ c.loop-count.invariant.same;
    }
