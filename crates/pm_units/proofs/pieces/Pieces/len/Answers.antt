use Rattle.std.proofs.Common.{sym, ◌∙◌}
use Rattle.pm_sized.specs.Pairs.{pairs_of}
use Rattle.pm_units.specs.Pieces.{pieces_in}
use Rattle.pm_units.proofs.TextLaws.{measured-total, values-total}
use Rattle.pm_units.proofs.pieces.Pieces.len.Goals as goal

pub returns : goal.returns
returns c = c.total.ensures ∙ (sym (values-total (pairs_of c.args.self.now.chunks)) ∙ measured-total (pieces_in c.args.self.now) c.requires.measured)
