use Rattle.std.proofs.Common.{arith, rules}
use Rattle.std.proofs.lemmas.Grind.{common_steps}
use Rattle.pm_io.proofs.Chains.{Adds-front}
use Rattle.pm_io.proofs.whole.write_all.Goals as goal

pub loop-at-preserved : goal.loop-at-preserved
loop-at-preserved g c = record {
  within = search rules;
  added = Adds-front _ (g.W.Sink.written c.loop-at.sink) _ c.args.bytes.now c.loop-at.at c.in-Took.n
      c.loop-at.invariant.added (grind (arith, common_steps));
  same = search rules;
}
