use Rattle.std.proofs.Common.{sym, ◌∙◌}
use Rattle.pm_units.specs.Pieces.{pieces_in}
use Rattle.pm_units.proofs.TextLaws.{unit-is}
use Rattle.pm_units.proofs.pieces.Pieces.unit.Goals as goal

pub unit-requires : goal.unit-requires
unit-requires c = c.place-place.ensures.inside c.piece.result.now c.piece.ensures

pub returns : goal.returns
returns c = c.unit.ensures ∙ sym (unit-is (pieces_in c.args.self.now) c.args.at c.place-place.result.index c.place-place.result.rest c.piece.result.now c.place-place.ensures c.piece.ensures)
