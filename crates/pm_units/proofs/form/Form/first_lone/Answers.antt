use Rattle.std.proofs.Common.{◌≡◌}
use Rattle.pm_units.specs.Pieces.{form_units}
use Rattle.pm_text.specs.Lone.{is_lone_at}
use borrow.Author.Count.{below_more}
use Rattle.std.proofs.Common.{false, rules}
use Rattle.pm_units.proofs.form.Form.first_lone.Goals as goal

pub loop-i-preserved : goal.loop-i-preserved
loop-i-preserved c = below_more (λ j. is_lone_at (form_units c.args.self.now) j ≡ false) c.loop-i.i c.loop-i.invariant (search rules)
