use Rattle.pm_archive.proofs.Mapped.{within-is}
use Rattle.pm_archive.proofs.mapping.all_within.Goals as goal

pub returns : goal.returns
returns c = within-is c.are_within.result c.args.size c.args.anchors.now c.are_within.ensures
