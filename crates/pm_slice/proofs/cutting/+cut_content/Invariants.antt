use Rattle.std.proofs.Common.{length}
use Rattle.pm_slice.proofs.cutting.+cut_content.Given as goal

abbrev pub decreases-cut_content : goal.decreases-cut_content
decreases-cut_content l = length l.content.now
