use Rattle.std.proofs.Common.{length}
use Rattle.pm_view.proofs.tokens.Tokens.+enter.Given as goal

abbrev pub decreases-enter : goal.decreases-enter
decreases-enter l = length l.content.now
