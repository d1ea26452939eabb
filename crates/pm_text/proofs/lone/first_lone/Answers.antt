use Rattle.std.proofs.Common.{◌≡◌, false, rules}
use borrow.Author.Count.{below_more}
use Rattle.pm_text.specs.Lone.{is_lone_at}
use Rattle.pm_text.proofs.lone.first_lone.Goals as goal

pub loop-i-preserved : goal.loop-i-preserved
loop-i-preserved c = below_more (λ j. is_lone_at c.args.units.now j ≡ false) c.loop-i.i c.loop-i.invariant (search rules)
