use Rattle.std.proofs.Common.{rules}
use Rattle.pm_workers.proofs.Handing.{none-filed, filed-next}
use Rattle.pm_workers.proofs.hands.file_lines.Goals as goal

pub loop-at-init : goal.loop-at-init
loop-at-init g c = record {
  count = search rules;
  filed = none-filed _ _ (λ v. v.items) 0 c.args.count c.in_ok-files.files.items (search rules) c.in_ok-files.ensures.empty;
}

pub loop-at-preserved : goal.loop-at-preserved
loop-at-preserved g c = record {
  count = search rules;
  filed = filed-next (λ v. v.items) c.args.count c.loop-at.at c.args.lines.now c.index-lines-at.result c.loop-at.files.items c.index_mut.result.now c.push.new.self
      (search rules) (search rules) (search rules) (search rules) (search rules) (search rules) c.loop-at.invariant.filed;
}
