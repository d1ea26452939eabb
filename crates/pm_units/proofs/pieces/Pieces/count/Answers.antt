use Rattle.std.proofs.Common.{sym, ◌∙◌}
use Rattle.pm_sized.specs.Pairs.{pairs_of}
use Rattle.pm_units.proofs.TextLaws.{values-length}
use Rattle.pm_units.proofs.pieces.Pieces.count.Goals as goal

pub returns : goal.returns
returns c = c.len.ensures ∙ sym (values-length (pairs_of c.args.self.now.chunks))
