use Rattle.std.proofs.Common.{arith}
use Rattle.pm_sized.proofs.PartLaws.{run-grown, run-room}
use Rattle.pm_sized.proofs.runs.Chunk+Arc+T+Global.append_run.Goals as goal

pub push-requires-clause-room : goal.push-requires-clause-room
push-requires-clause-room g c =
    let l = c.loop-i in
    let x = c.index.result.now in
    run-room c.args.self.now l.self c.args.source.now c.args.from l.i c.measure.result c.in_ok-item.item x l.invariant.values c.requires.source l.auto.i
    (omega (arith, c.loop-i-test.true, c.requires.within)) c.index.ensures c.in_ok-item.ensures (c.measure.ensures.is x) l.invariant.counted c.requires.counted c.requires.room

pub loop-i-preserved : goal.loop-i-preserved
loop-i-preserved g c =
    let l = c.loop-i in
    let x = c.index.result.now in
    record {
      counted = c.in_ok-push.ensures.ok.counted;
      values = run-grown c.args.self.now l.self c.args.source.now c.args.from l.i c.measure.result c.in_ok-item.item x l.invariant.values c.requires.source l.auto.i
          (omega (arith, c.loop-i-test.true, c.requires.within)) c.index.ensures c.in_ok-item.ensures (c.measure.ensures.is x) c.push.new.self c.in_ok-push.ensures.ok;
      count = omega (arith, c.in_ok-push.ensures.ok.more, l.invariant.count, l.auto.i);
    }
