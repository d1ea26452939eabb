use Rattle.std.proofs.Common.{◌<◌, arith}
use Rattle.pm_sized.specs.Pairs.{pairs_of, total_of}
use Rattle.pm_units.specs.Pieces.{pieces_in}
use Rattle.pm_units.proofs.TextLaws.{measured-total, values-total, stands-at}
use Rattle.pm_units.proofs.pieces.Pieces.place.Goals as goal

pub locate-found-requires-clause-within : goal.locate-found-requires-clause-within
locate-found-requires-clause-within c = omega (arith, c.requires.within, values-total (pairs_of c.args.self.now.chunks), measured-total (pieces_in c.args.self.now) c.requires.pieces.measured)

pub returns : goal.returns
returns c =
    let ps = pairs_of c.args.self.now.chunks in
    let h : c.args.at < total_of ps = omega (arith, c.requires.within, values-total ps, measured-total (pieces_in c.args.self.now) c.requires.pieces.measured) in
    stands-at ps c.args.at c.locate-found.result.index c.locate-found.result.start c.requires.pieces.measured h c.locate-found.ensures
