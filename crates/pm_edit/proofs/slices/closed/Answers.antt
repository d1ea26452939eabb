use Rattle.std.proofs.Common.{◌∙◌}
use Rattle.pm_edit.proofs.SliceLaws.{closed-is, closed-one}
use Rattle.pm_edit.proofs.slices.closed.Goals as goal

pub open_slice-requires : goal.open_slice-requires
open_slice-requires c = closed-is c.args.content c.size.ensures.whole

pub returns : goal.returns
returns c = c.open_slice.ensures ∙ closed-one c.args.content
