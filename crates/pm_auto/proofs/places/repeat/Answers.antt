use Rattle.pm_auto.proofs.AlikeLaws.{repeat-laid}
use Rattle.pm_auto.proofs.places.repeat.Goals as goal

pub returns : goal.returns
returns c = repeat-laid c.args.a c.in_ok-start.start c.as_slice.result.now c.in_ok-rows.rows c.in_ok-start.ensures c.as_slice.ensures c.in_ok-rows.ensures
